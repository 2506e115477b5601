-- What the body of each tag tells, where it fits its type (Multiboot2 3.6 "Boot information
-- format").
use Rattle.std.specs.Prelude.{◌+◌, ◌-◌, ◌/◌, ◌%◌, ℕ, zero, suc, not, if◌then◌else◌, ◌==◌, nat_lt}
use Rattle.std.specs.Prelude.{List, [], ◌∷◌, length, take, drop, slice_index, Option, Some, None}
use Rattle.std.specs.Prelude.{option_map, option_and_then}
use Rattle.std.specs.List.{list_any}
use Rattle.bl_map.specs.declared.region.Region.{Region}
use Rattle.bl_map.specs.Kinds.{kind_of}
use Rattle.bl_map.specs.Limits.{max_region_end, max_low_kib}
use Rattle.bl_mbi.specs.InfoToWriteFacts.{ModuleInfo}
use Rattle.bl_mbi.specs.ReadingSteps.{first_u32, first_u64}
use Rattle.bl_mbi.specs.Size.{map_entry_size}

-- 3.6.5 "Boot command line", 3.6.9 "Boot loader name": a text with its one zero after it
unfoldable pub text_of_body : List ℕ → Option (List ℕ)
text_of_body body =
    if length body == 0 then None else
    let len = length body - 1 in
    if not (slice_index body len == 0) then None else
    if list_any (λ c. c == 0) (take len body) then None else
    Some (take len body)

-- 3.6.6 "Modules": mod_start, mod_end, string
unfoldable pub module_of : List ℕ → Option ModuleInfo
module_of body =
    if nat_lt (length body) 8 then None else
    if nat_lt (first_u32 (drop 4 body)) (first_u32 body) then None else
    option_map (λ line. record {
      mod_start = first_u32 body;
      mod_end = first_u32
          (drop 4 body);
      line = line;
    })
    (text_of_body (drop 8 body))

-- 3.6.3 "Basic memory information": mem_lower, mem_upper
unfoldable pub memory_of : List ℕ → Option (ℕ × ℕ)
memory_of body =
    if not (length body == 8) then None else
    if nat_lt max_low_kib (first_u32 body) then None else
    Some (first_u32 body, first_u32 (drop 4 body))

-- an entry of the memory map, 3.6.8: base_addr, length, type, reserved
unfoldable pub run_of : List ℕ → Option Region
run_of bytes =
    if nat_lt max_region_end (first_u64 bytes + first_u64 (drop 8 bytes)) then None else
    if not (first_u32 (drop 20 bytes) == 0) then None else
    option_map (λ kind. record {
      base = first_u64 bytes;
      length = first_u64
          (drop 8 bytes);
      kind = kind;
    })
    (kind_of (first_u32 (drop 16 bytes)))

-- so many entries, one after the other
abbrev pub runs_of : ℕ → List ℕ → Option (List Region)
runs_of zero bytes = Some []
runs_of (suc n) bytes =
    option_and_then (λ run. option_map (λ runs. run ∷ runs) (runs_of n (drop map_entry_size bytes)))
    (run_of bytes)

-- 3.6.8 "Memory map": entry_size, entry_version, entries
unfoldable pub map_of : List ℕ → Option (List Region)
map_of body =
    if nat_lt (length body) 8 then None else
    if not (first_u32 body == map_entry_size) then None else
    if not (first_u32 (drop 4 body) == 0) then None else
    if not ((length body - 8) % map_entry_size == 0) then None else
    runs_of ((length body - 8) / map_entry_size) (drop 8 body)

-- 3.6, section "Image load base physical address": load_base_addr
unfoldable pub load_base_of : List ℕ → Option ℕ
load_base_of body = if not (length body == 4) then None else Some (first_u32 body)
