-- How long the information is.
use Rattle.std.proofs.Common.{◌≡◌, ◌≤◌, ◌<◌, ◌+◌, ◌*◌, ◌^◌, ℕ, suc, List, [], ◌∷◌, length, All}
use Rattle.std.proofs.Common.{Bool, true, false, Option, Some, None, arith, refl, ap, ◌∙◌}
use Rattle.std.specs.Prelude.{IfSome, codes, is_some, option_map, map, sum_by}
use Rattle.std.proofs.lemmas.List.Sums.{sum_by-cons}
use Rattle.std.proofs.lemmas.List.Elements.{All-head, All-tail}
use Rattle.bl_map.specs.MachineFacts.{MachineFacts}
use Rattle.bl_mb2head.specs.declared.relocation.Relocation.{Relocation}
use Rattle.bl_map.specs.Firmware.{EfiFacts}
use Rattle.bl_mbi.specs.InfoToWriteFacts.{ModuleInfo, EfiTables, efi_tables, info_size}
use Rattle.bl_mbi.specs.Size.{size_by_lengths, tag_size, tag_size_if, body_if, behind_8}
use Rattle.bl_mbi.specs.Spelling.{info_spelling}
use Rattle.bl_mbi.proofs.Sizes.{length-spelling}
use Rattle.bl_plan.specs.declared.part.Place.{Place}
use Rattle.bl_plan.specs.declared.part.Role.TheVariants.{Kernel}
use Rattle.bl_load.specs.Addresses.{address_of}
use Rattle.bl_load.specs.EntryValue.{EntryValue, IsRsdpCopy}
use Rattle.bl_map.specs.PoolFrames.{round_up_to_frames}
use Rattle.bl_load.specs.Rows.{told_modules, information_of}
use Rattle.bl_load.specs.internal.Placing.{module_tags_size}

most_load_base : (b : Bool) → tag_size_if (body_if b 4) ≤ 16
most_load_base true = omega arith
most_load_base false = omega arith

most_screen : (b : Bool) → tag_size_if (body_if b 30) ≤ 40
most_screen true = omega arith
most_screen false = omega arith

most_pointer : (b : Bool) → tag_size_if (body_if b 8) ≤ 16
most_pointer true = omega arith
most_pointer false = omega arith

-- tables of at most 64 KiB
most_tables : (tables : Option ℕ) → IfSome tables (λ n. n ≤ 65536)
    → tag_size_if (behind_8 tables) ≤ 65552
most_tables None few = omega arith
most_tables (Some n) few = omega (arith, few)

-- how long the memory map of UEFI is
pub same_map_size : (efi : Option EfiFacts)
    → option_map (λ (told : EfiTables). length told.map) (option_map efi_tables efi)
    ≡ option_map (λ (told : EfiFacts). length told.map) efi
same_map_size None = refl
same_map_size (Some efi) = refl

same_given : (relocation : Option Relocation) (base : ℕ)
    → is_some (option_map (λ r. base) relocation) ≡ is_some relocation
same_given (Some r) base = refl
same_given None base = refl

-- the tags of modules take what their lines ask for, wherever the modules stand
pub tags_size_is : (files : List (List ℕ)) (places : List Place) (k : ℕ) (lines : List (List ℕ))
    → sum_by (λ n. tag_size (n + 9)) (map (λ m. length m.line) (told_modules files places k lines))
    ≡ module_tags_size lines
tags_size_is files places k [] = refl
tags_size_is files places k (line ∷ lines) =
    let more = told_modules files places (suc k) lines in
    sum_by-cons (λ (n : ℕ). tag_size (n + 9)) (length line)
    (map (λ (m : ModuleInfo). length m.line) more)
    ∙ ap (λ (n : ℕ). tag_size (length line + 9) + n)
    (tags_size_is files places (suc k) lines)

-- at most 4120 bytes for each
pub tags_small : (lines : List (List ℕ)) → All (λ line. length line ≤ 4095) lines
    → module_tags_size lines ≤ 4120 * length lines
tags_small [] short = omega arith
tags_small (line ∷ lines) short =
    let first = All-head (λ (l : List ℕ). length l ≤ 4095) line lines short in
    let rest = tags_small lines (All-tail (λ (l : List ℕ). length l ≤ 4095) line lines short) in
    omega arith

-- a copy's tag takes at most 264 bytes
copy_size_small : (copy : Option (List ℕ)) → IfSome copy IsRsdpCopy
    → tag_size_if (option_map length copy) ≤ 264
copy_size_small None is = omega arith
copy_size_small (Some copy) is = let short = is.short in omega (arith, short)

-- beside the modules' tags it takes at most 142024 bytes, with a line of at most 4095 bytes, 256
-- runs, tables of 64 KiB each
module _ (line runs : ℕ) (screen : Bool) (efi smbios : Option ℕ) (old new : Option (List ℕ))
    (given : Bool) (l : line ≤ 4095) (r : runs ≤ 256) (e : IfSome efi (λ n. n ≤ 65536))
    (s : IfSome smbios (λ n. n ≤ 65536)) (o : IfSome old IsRsdpCopy) (n : IfSome new IsRsdpCopy)
  where
    pub told_small : (tags : ℕ)
        → size_by_lengths line [] runs (option_map length old) (option_map length new) given screen
        efi smbios + tags ≤ 142024 + tags
    told_small tags =
        omega (
          arith,
          l,
          r,
          most_load_base given,
          most_screen screen,
          most_pointer (is_some efi),
          most_tables efi e,
          most_tables smbios s,
          copy_size_small old o,
          copy_size_small new n,
        )

    -- with few modules it is short
    pub told_below : (tags : ℕ) → tags < 2 ^ 20
        → size_by_lengths line [] runs (option_map length old) (option_map length new) given screen
        efi smbios + tags < 2 ^ 32
    told_below tags t = let small = told_small tags in omega (arith, small)

-- the length of a copy is below 2^32
pub copy_short : (copy : Option (List ℕ)) → IfSome copy IsRsdpCopy
    → IfSome (option_map length copy) (λ n. n < 2 ^ 32)
copy_short None is = tt
copy_short (Some copy) is = let short = is.short in omega (arith, short)

-- and so is that of tables
pub tables_short : (tables : Option ℕ) → IfSome tables (λ n. n ≤ 65536)
    → IfSome tables (λ n. n < 2 ^ 32)
tables_short None few = few
tables_short (Some n) few = omega (arith, few)

-- its size does not depend on any place
pub info_size_is : (facts : MachineFacts) (value : EntryValue) (relocation : Option Relocation)
    (places : List Place)
    → info_size (information_of facts value relocation places)
    ≡ size_by_lengths (length value.line) [] (length facts.runs) (option_map length value.rsdp_old)
    (option_map length value.rsdp_new) (is_some relocation) (is_some facts.firmware.screen)
    (option_map (λ told. length told.map) facts.firmware.efi)
    (option_map (λ told. length told.tables) facts.firmware.smbios)
    + module_tags_size value.module_lines
info_size_is facts value relocation places =
    let tags = tags_size_is value.files places 0 value.module_lines in
    let given = same_given relocation (address_of Kernel 0 places) in
    let map_size = same_map_size facts.firmware.efi in
    rw (given, map_size) (omega (arith, tags))

-- it is no longer than its place
pub information_short : (facts : MachineFacts) (value : EntryValue) (relocation : Option Relocation)
    (places : List Place) (count : ℕ)
    → count ≡ round_up_to_frames (info_size (information_of facts value relocation []))
    → length (info_spelling (codes "bootcore") (information_of facts value relocation places))
    ≤ count
information_short facts value relocation places count is =
    let e = length-spelling (information_of facts value relocation places) in
    let f = info_size_is facts value relocation places in
    let g = info_size_is facts value relocation [] in
    omega (arith, e, f, g, is)
