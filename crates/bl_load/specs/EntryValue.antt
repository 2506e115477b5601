-- An entry's value: what is booted, wherever its files lie and whatever they are called. Own.
use Rattle.std.specs.Prelude.{ℕ, ◌+◌, ◌≤◌, if◌then◌else◌, ◌==◌, nat_lt, List, [], ◌∷◌, length, map}
use Rattle.std.specs.Prelude.{slice_index_or, Option, Some, None, IfSome, option_to_list}
use Rattle.std.specs.List.{list_any}
use Rattle.std.specs.Option.{option_or}
use Rattle.bl_plan.specs.MenuLimits.{max_rsdp_length, max_line, max_modules}
use Rattle.bl_plan.specs.Protocols.{of_linux}
use Rattle.bl_plan.specs.declared.protocol.Protocol.{Protocol}
use Rattle.bl_plan.specs.declared.protocol.Protocol.TheVariants as protocols
use Rattle.bl_load.specs.declared.entry.Entry.{Entry}
use Rattle.bl_load.specs.declared.entry.Entry.TheVariants.{Multiboot2, Linux}
use Rattle.bl_load.specs.declared.refusal.Refusal.{Refusal}
use Rattle.bl_load.specs.declared.refusal.Refusal.TheVariants.{LineHasNul, LineTooLong}

-- an entry's value: its protocol, its line, its files' bytes in order (the kernel first), its
-- modules' lines, and the copies of the old and of the new RSDP that it hands over
pub record EntryValue : Type 0 where
  pub protocol : Protocol
  pub line : List ℕ
  pub files : List (List ℕ)
  pub module_lines : List (List ℕ)
  pub rsdp_old : Option (List ℕ)
  pub rsdp_new : Option (List ℕ)

-- the value of a Multiboot2 entry with this line, these lines of its modules and these copies,
-- whose files hold these texts
abbrev pub multiboot2_value : List (List ℕ) → List ℕ → List (List ℕ) → Option (List ℕ)
    → Option (List ℕ) → EntryValue
multiboot2_value texts line lines old new = record {
  protocol = protocols.Multiboot2;
  line = line;
  files = texts;
  module_lines = lines;
  rsdp_old = old;
  rsdp_new = new;
}

-- that of a Linux entry, by the protocol that its kernel is entered with: it has no modules and
-- hands over no copy
abbrev pub linux_value : Protocol → List (List ℕ) → List ℕ → EntryValue
linux_value protocol texts line = record {
  protocol = protocol;
  line = line;
  files = texts;
  module_lines = [];
  rsdp_old = None;
  rsdp_new = None;
}

-- the value of an entry whose files hold these texts
abbrev pub value_of : {A : Type 0} → List (List ℕ) → Entry A → EntryValue
value_of texts (Multiboot2 kernel line modules rsdp_old rsdp_new) =
    multiboot2_value texts line (map (λ m. m.line) modules.items) rsdp_old rsdp_new
value_of texts (Linux kernel line initrd wide) = linux_value (of_linux wide) texts line

-- the bytes of the kernel's file
abbrev pub kernel_file : EntryValue → List ℕ
kernel_file value = slice_index_or value.files 0 []

-- the bytes of the file of module k, which comes after the kernel's
abbrev pub module_file : List (List ℕ) → ℕ → List ℕ
module_file files k = slice_index_or files (k + 1) []

-- the bytes of the initial ramdisk of a Linux entry, which comes after the kernel's; none if there
-- is no such file
abbrev pub initrd_file : List (List ℕ) → List ℕ
initrd_file files = slice_index_or files 1 []

-- how many files an entry has: the kernel, and the modules or the initial ramdisk
abbrev pub file_count : {A : Type 0} → Entry A → ℕ
file_count (Multiboot2 kernel line modules rsdp_old rsdp_new) = 1 + length modules.items
file_count (Linux kernel line initrd wide) = 1 + length (option_to_list initrd)

-- what may be a copy of an RSDP: 1 to 256 bytes
pub record IsRsdpCopy (copy : List ℕ) : Type 0 where
  pub filled : 1 ≤ length copy
  pub short : length copy ≤ max_rsdp_length

-- what an entry may hold: not too many modules, and copies that are neither empty nor too long
pub record HasLimits (value : EntryValue) : Type 0 where
  pub few : length value.module_lines ≤ max_modules
  pub rsdp_old : IfSome value.rsdp_old IsRsdpCopy
  pub rsdp_new : IfSome value.rsdp_new IsRsdpCopy

-- an entry does so, whatever its files hold
unfoldable pub IsWithinLimits : {A : Type 0} → Entry A → Type 0
IsWithinLimits entry = HasLimits (value_of [] entry)

-- the first fault of a line: a zero byte, then too many bytes
unfoldable pub line_fault : List ℕ → Option Refusal
line_fault line =
    if list_any (λ b. b == 0) line then Some LineHasNul else
    if nat_lt max_line (length line) then Some LineTooLong else
    None

-- the first fault of lines, one after the other
abbrev pub lines_fault : List (List ℕ) → Option Refusal
lines_fault [] = None
lines_fault (line ∷ lines) = option_or (line_fault line) (lines_fault lines)

-- the lines of an entry: the kernel's, and then those of its modules
abbrev pub lines_of : EntryValue → List (List ℕ)
lines_of value = value.line ∷ value.module_lines
