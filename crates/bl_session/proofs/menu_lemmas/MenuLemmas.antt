-- Each entry of a menu is within its limits and has texts of bytes, and so has its value.
use Rattle.std.proofs.Common.{◌≤◌, ◌<◌, ℕ, List, [], ◌∷◌, All, length, map, get_or, arith}
use Rattle.std.proofs.Common.{◌≡◌, ◌-◌, Bool, Some, None, zero, suc, take, drop, sym, subst}
use Rattle.std.specs.Bool.{IsTrue}
use Rattle.std.proofs.lemmas.List.{take_all, length-map}
use Rattle.std.proofs.lemmas.List.Elements.{All-map, All-cons, All-tail}
use Rattle.bl_load.specs.declared.entry.Entry.{Entry}
use Rattle.bl_load.specs.WellFormedEntry.{IsWellFormedEntry, IsWellFormedValue}
use Rattle.bl_load.specs.declared.entry.Entry.TheVariants.{Multiboot2, Linux}
use Rattle.bl_load.specs.declared.entry.Module.{Module}
use Rattle.bl_load.specs.EntryValue.{IsWithinLimits, file_count, lines_of}
use Rattle.bl_stage.specs.Files.{File}
use Rattle.bl_session.specs.menu.Menu.{EntryFacts, value_with, files_of, facts_of, entry_at}
use Rattle.bl_session.specs.menu.Menu.{no_entry}
use Rattle.bl_session.specs.session.BootSteps.{BootFacts}
use Rattle.bl_session.specs.menu.EntryContents.{entry_value_in}

-- ---- entries as contracts see them

pub offered_entries : {A : Type 0} (entries : List (Entry A))
    → All IsWellFormedEntry entries
    → All (λ (e : EntryFacts). IsWellFormedValue e.blank) (map facts_of entries)
unfolding IsWellFormedEntry
offered_entries entries all = All-map (λ (e : EntryFacts). IsWellFormedValue e.blank) facts_of entries all

-- an entry has few files
pub few_files : {A : Type 0} (entry : Entry A) → IsWithinLimits entry
    → length (files_of entry) ≤ 65
unfolding IsWithinLimits
few_files {A} (Multiboot2 kernel line modules rsdp_old rsdp_new) limits =
    let lines = length-map modules.items (λ (m : Module A). m.line) in
    let files = length-map modules.items (λ (m : Module A). m.file) in
    let few = limits.few in omega (arith, lines, files, few)
few_files (Linux kernel line None wide) limits = omega arith
few_files (Linux kernel line (Some file) wide) limits = omega arith

pub few_counted : {A : Type 0} (entry : Entry A) → IsWithinLimits entry → file_count entry ≤ 65
unfolding IsWithinLimits
few_counted {A} (Multiboot2 kernel line modules rsdp_old rsdp_new) limits =
    let lines = length-map modules.items (λ (m : Module A). m.line) in
    let few = limits.few in omega (arith, lines, few)
few_counted (Linux kernel line None wide) limits = omega arith
few_counted (Linux kernel line (Some file) wide) limits = omega arith

-- ---- the values of a menu's entries

-- what holds of each element and of the default holds of what is read
at_each : {X : Type 0} (P : X → Type 0) (xs : List X) (i : ℕ) (d : X) → All P xs → P d
    → P (get_or xs i d)
at_each P [] i d all of_default = of_default
at_each P (x ∷ xs) zero d all of_default = all 0 d (omega arith)
at_each P (x ∷ xs) (suc i) d all of_default =
    at_each P xs i d (λ k e below. all (suc k) e (omega (arith, below))) of_default

no_lines : All (λ line. All (λ (b : ℕ). b < 256) line) (lines_of no_entry.blank)
no_lines zero d below = λ k e none. absurd (omega arith)
no_lines (suc i) d below = absurd (omega arith)

nothing : IsWellFormedValue no_entry.blank
nothing = record {
  limits = record { few = omega arith; rsdp_old = tt; rsdp_new = tt };
  lines = no_lines;
  rsdp_old = tt;
  rsdp_new = tt;
}

-- whether it is offered does not depend on what its files hold
with_files : (entry : EntryFacts) (texts : List (List ℕ)) → IsWellFormedValue entry.blank
    → IsWellFormedValue (value_with entry texts)
with_files entry texts offered = record {
  limits = record {
    few = offered.limits.few;
    rsdp_old = offered.limits.rsdp_old;
    rsdp_new = offered.limits.rsdp_new;
  };
  lines = offered.lines;
  rsdp_old = offered.rsdp_old;
  rsdp_new = offered.rsdp_new;
}

pub offered_values : (facts : BootFacts) (files : List File) (entry : ℕ)
    → All (λ (e : EntryFacts). IsWellFormedValue e.blank) facts.menu.entries
    → IsWellFormedValue (entry_value_in facts files entry)
offered_values facts files entry all =
    with_files (entry_at facts.menu entry) _
    (at_each (λ (e : EntryFacts). IsWellFormedValue e.blank) facts.menu.entries entry no_entry all nothing)

-- ---- a property of each entry, by the first and the others

pub all_by_first : {X : Type 0} (P : X → Type 0) (xs : List X) (x : X) (r : Bool) → 1 ≤ length xs
    → x ≡ get_or xs 0 x → P x
    → (IsTrue r → All P (take (length xs - 1) (drop 1 xs)))
    × (All P (take (length xs - 1) (drop 1 xs)) → IsTrue r)
    → (IsTrue r → All P xs) × (All P xs → IsTrue r)
all_by_first P [] x r some is has iff = absurd (omega (arith, some))
all_by_first P (y ∷ ys) x r some is has iff =
    let all : take (length (y ∷ ys) - 1) (drop 1 (y ∷ ys)) ≡ ys =
    take_all (length (y ∷ ys) - 1) ys (omega arith) in (
      λ true. All-cons P y ys (subst P is has) (subst (All P) all (iff.0 true)),
      λ each. iff.1 (subst (All P) (sym all) (All-tail P y ys each)),
    )
