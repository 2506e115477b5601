-- A menu as contracts see it. Own.
use Rattle.std.specs.Prelude.{ℕ, List, [], ◌∷◌, map, slice_index_or, None, option_to_list}
use Rattle.bl_load.specs.declared.entry.Entry.{Entry}
use Rattle.bl_load.specs.declared.entry.Entry.TheVariants.{Multiboot2, Linux}
use Rattle.bl_load.specs.EntryValue.{EntryValue, value_of, multiboot2_value}

-- an entry: the indices of its files, the kernel's first, and its value with no files yet
pub record EntryFacts : Type 0 where
  pub files : List ℕ
  pub blank : EntryValue

-- its value once its files hold these texts
abbrev pub value_with : EntryFacts → List (List ℕ) → EntryValue
value_with entry texts = record entry.blank { files = texts }

abbrev pub files_of : {A : Type 0} → Entry A → List ℕ
files_of (Multiboot2 kernel line modules rsdp_old rsdp_new) =
    kernel ∷ map (λ m. m.file) modules.items
files_of (Linux kernel line initrd wide) = kernel ∷ option_to_list initrd

abbrev pub facts_of : {A : Type 0} → Entry A → EntryFacts
facts_of entry = record { files = files_of entry; blank = value_of [] entry }

-- a menu: its entries, and the indices of those that are attempted, in order
pub record MenuFacts : Type 0 where
  pub entries : List EntryFacts
  pub attempts : List ℕ

-- what is read after the last entry
abbrev pub no_entry : EntryFacts
no_entry = record { files = []; blank = multiboot2_value [] [] [] None None }

abbrev pub entry_at : MenuFacts → ℕ → EntryFacts
entry_at menu entry = slice_index_or menu.entries entry no_entry
