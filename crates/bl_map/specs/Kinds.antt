-- Kinds of addresses. Own; the numbers are those of the memory map of Multiboot2 (3.6.8 "Memory
-- map") and of an e820 entry.
use Rattle.std.specs.Prelude.{ℕ, if◌then◌else◌, ◌==◌, List, [], ◌∷◌, Option, Some, None, codes}
use Rattle.std.specs.List.{find}
use Rattle.std.specs.Str.{bytes_eq}
use Rattle.bl_map.specs.declared.kind.Kind.{Kind}
use Rattle.bl_map.specs.declared.kind.Kind.TheVariants.{Usable, Reserved, Acpi, Nvs, Bad}

abbrev pub kind_number : Kind → ℕ
kind_number Usable = 1
kind_number Reserved = 2
kind_number Acpi = 3
kind_number Nvs = 4
kind_number Bad = 5

-- the kind of a number
unfoldable pub kind_of : ℕ → Option Kind
kind_of n =
    if n == 1 then Some Usable else
    if n == 2 then Some Reserved else
    if n == 3 then Some Acpi else
    if n == 4 then Some Nvs else
    if n == 5 then Some Bad else None

-- own: the names of kinds
abbrev pub kind_name : Kind → List ℕ
kind_name Usable = codes "usable"
kind_name Reserved = codes "reserved"
kind_name Acpi = codes "acpi"
kind_name Nvs = codes "nvs"
kind_name Bad = codes "bad"

-- the kind of a name
abbrev pub kind_named : List ℕ → Option Kind
kind_named name =
    find (λ kind. bytes_eq name (kind_name kind)) (Usable ∷ Reserved ∷ Acpi ∷ Nvs ∷ Bad ∷ [])

-- the number of a kind, 0 for none
abbrev pub number_or_zero : Option Kind → ℕ
number_or_zero None = 0
number_or_zero (Some kind) = kind_number kind
