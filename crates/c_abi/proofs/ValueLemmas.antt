-- The value of an entry, whatever its files hold.
use Rattle.std.proofs.Common.{◌≡◌, ℕ, List, [], refl, ap, ◌∙◌}
use Rattle.bl_load.specs.declared.entry.Entry.{Entry}
use Rattle.bl_load.specs.declared.entry.Entry.TheVariants.{Multiboot2, Linux}
use Rattle.bl_load.specs.EntryValue.{EntryValue, value_of}

value_filled : {A : Type 0} (entry : Entry A) (texts : List (List ℕ))
    → value_of texts entry ≡ record (value_of [] entry) { files = texts }
value_filled (Multiboot2 kernel line modules rsdp_old rsdp_new) texts = refl
value_filled (Linux kernel line initrd wide) texts = refl

-- one whose value with no files is given has the value given with these files
pub value_is : {A : Type 0} (entry : Entry A) (blank : EntryValue) (texts files : List (List ℕ))
    → value_of [] entry ≡ blank → texts ≡ files
    → value_of texts entry ≡ record blank { files = files }
value_is entry blank texts files is same =
    value_filled entry texts
    ∙ ap (λ (v : EntryValue). record v { files = texts }) is
    ∙ ap (λ (ts : List (List ℕ)). record blank { files = ts }) same
