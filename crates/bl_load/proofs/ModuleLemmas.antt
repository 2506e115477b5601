-- Where modules stand, and what is told of one module more.
use Rattle.std.proofs.Common.{◌≡◌, ◌<◌, ◌≤◌, ◌+◌, ℕ, suc, List, [], ◌∷◌, ◌++◌, length, get_or, Bool}
use Rattle.std.proofs.Common.{arith, refl, sym, ap, subst, ◌∙◌, ◌⊎◌, All, inl, inr, nat_eq}
use Rattle.std.specs.Prelude.{max, ◌&&◌, map}
use Rattle.std.proofs.lemmas.List.{append_assoc, get_or-map}
use Rattle.std.proofs.lemmas.List.Elements.{All-head, All-tail}
use Rattle.bl_mbi.specs.InfoToWriteFacts.{ModuleInfo}
use Rattle.std.proofs.lemmas.Bool.{cond_both, cases_lt, and_parts, and_from, eqb-true, eq-eqb}
use Rattle.std.proofs.lemmas.Bool.{false≢true}
use Rattle.std.specs.declared.ops.Range.{Range}
use Rattle.bl_map.specs.MachineFacts.{MachineFacts}
use Rattle.bl_map.specs.PoolFrames.{round_up_to_frames}
use Rattle.bl_plan.specs.Placed.{ArePlaced, place_range}
use Rattle.bl_plan.specs.PlannerFacts.{put_in}
use Rattle.bl_plan.specs.RoleNumbers.{role_number}
use Rattle.bl_plan.specs.declared.part.Place.{Place}
use Rattle.bl_plan.specs.declared.part.Role.{Role}
use Rattle.bl_plan.specs.declared.part.Role.TheVariants.{Kernel, Module, Information, BootParams}
use Rattle.bl_plan.specs.declared.part.Role.TheVariants.{CommandLine, Gdt, Initrd, PageTables}
use Rattle.bl_plan.specs.declared.part.Row.{Row}
use Rattle.bl_load.specs.Addresses.{address_of}
use Rattle.bl_load.specs.EntryValue.{EntryValue, module_file}
use Rattle.bl_load.specs.Multiboot2Kernel.{Multiboot2KernelFacts}
use Rattle.bl_load.specs.KernelReading.{multiboot2}
use Rattle.bl_load.specs.Rows.{module_rows, kernel_rows, information_row, rows_of, told_modules}
use Rattle.bl_load.specs.internal.Placing.{EndsLow, HasRowLength, ModulesEndLow, HasLength}

-- ---- each module has a place, which is as long as its file

-- a row, and so a place, of this role and index is there
abbrev HasRow : Role → ℕ → List Row → Type 0
HasRow role i [] = ⊥
HasRow role i (row ∷ rows) = ((row.role ≡ role) × (row.index ≡ i)) ⊎ HasRow role i rows

abbrev HasPlace : Role → ℕ → List Place → Type 0
HasPlace role i [] = ⊥
HasPlace role i (p ∷ places) = ((p.role ≡ role) × (p.index ≡ i)) ⊎ HasPlace role i places

has_place : (facts : MachineFacts) (role : Role) (i : ℕ) (taken : List (Range ℕ)) (rows : List Row)
    (places : List Place) → ArePlaced facts taken rows places → HasRow role i rows
    → HasPlace role i places
has_place facts role i taken [] places placed has = absurd has
has_place facts role i taken (row ∷ rows) [] placed has = absurd placed
has_place facts role i taken (row ∷ rows) (p ∷ places) placed (inl here) =
    inl (
      ap (λ (q : Place). q.role) placed.1 ∙ here.0,
      ap (λ (q : Place). q.index) placed.1 ∙ here.1,
    )
has_place facts role i taken (row ∷ rows) (p ∷ places) placed (inr later) =
    inr (has_place facts role i (put_in (place_range p) taken) rows places placed.2 later)

has_row_behind : (role : Role) (i : ℕ) (first rows : List Row) → HasRow role i rows
    → HasRow role i (first ++ rows)
has_row_behind role i [] rows has = has
has_row_behind role i (row ∷ first) rows has = inr (has_row_behind role i first rows has)

has_module_row : (files : List (List ℕ)) (rest : List Row) (k i : ℕ) (lines : List (List ℕ)) → k ≤ i
    → i < k + length lines → HasRow Module i (module_rows files k lines ++ rest)
has_module_row files rest k i [] low high = absurd (omega arith)
has_module_row files rest k i (line ∷ lines) low high =
    elim (cases_lt k i) [
      | inl later ↦ inr (has_module_row files rest (suc k) i lines later (omega arith))
      | inr here ↦ inl (refl, omega arith)
    ]

-- what holds of each place of a role and an index holds of the one that is found
abbrev EndsBy : Role → ℕ → ℕ → ℕ → Place → Type 0
EndsBy role i count n p =
    role_number p.role ≡ role_number role → p.index ≡ i → p.address + count ≤ n

found : (role : Role) (i count n : ℕ) (places : List Place) → All (EndsBy role i count n) places
    → HasPlace role i places → address_of role i places + count ≤ n
found role i count n [] each has = absurd has
found role i count n (p ∷ places) each has =
    let same : Bool = nat_eq (role_number p.role) (role_number role) in
    let there : Bool = nat_eq p.index i in
    let first = All-head (EndsBy role i count n) p places each in
    cond_both (same && there) p.address (address_of role i places) (λ a. a + count ≤ n)
    (λ is. let both = and_parts same there is in
    first (eqb-true (role_number p.role) (role_number role) both.0) (eqb-true p.index i both.1))
    (λ not. elim has [
      | inl here ↦
          absurd
          (false≢true
          (sym not
          ∙ and_from same there
          (eq-eqb (role_number p.role) (role_number role) (ap role_number here.0))
          (eq-eqb p.index i here.1)))
      | inr later ↦
          found role i count n places (All-tail (EndsBy role i count n) p places each) later
    ])

is_module : (role : Role) → role_number role ≡ 2 → role ≡ Module
is_module Kernel h = absurd cc
is_module Module h = refl
is_module Information h = absurd cc
is_module BootParams h = absurd cc
is_module CommandLine h = absurd cc
is_module Gdt h = absurd cc
is_module Initrd h = absurd cc
is_module PageTables h = absurd cc

module_ends : (facts : MachineFacts) (value : EntryValue) (kernel : Multiboot2KernelFacts) (i : ℕ)
    (p : Place)
    → HasRowLength facts value (multiboot2 kernel) p → EndsLow p
    → EndsBy Module i (length (module_file value.files i)) 0xFFFFF000 p
module_ends facts value kernel i p rowed low role index =
    let has =
    subst (λ (r : Role). HasLength facts value (multiboot2 kernel) r p.index p.length)
    (is_module p.role role) rowed in
    let file = length (module_file value.files p.index) in
    let size : p.length ≡ round_up_to_frames (max file 1) = has.1 in
    let same : length (module_file value.files p.index) ≡ length (module_file value.files i) =
    ap (λ (j : ℕ). length (module_file value.files j)) index in
    omega arith

pub modules_end_low : (facts : MachineFacts) (value : EntryValue) (kernel : Multiboot2KernelFacts)
    (places : List Place) → ArePlaced facts [] (rows_of facts value (multiboot2 kernel)) places
    → All (HasRowLength facts value (multiboot2 kernel)) places → All EndsLow places
    → ModulesEndLow value.files places (length value.module_lines)
modules_end_low facts value kernel places placed rowed low i within =
    let rest = information_row facts value kernel.relocation ∷ [] in
    found Module i (length (module_file value.files i)) 0xFFFFF000 places
    (λ k d is. module_ends facts value kernel i (get_or places k d) (rowed k d is) (low k d is))
    (has_place facts Module i [] (rows_of facts value (multiboot2 kernel)) places placed
    (has_row_behind Module i (kernel_rows kernel.segments kernel.relocation)
    (module_rows value.files 0 value.module_lines ++ rest)
    (has_module_row value.files rest 0 i value.module_lines (omega arith) (omega arith))))

-- ---- what is told of one module more

abbrev pub told_by : ℕ → ℕ → List ℕ → ModuleInfo
told_by at size line = record { mod_start = at; mod_end = at + size; line = line }

abbrev pub told_module : List (List ℕ) → List Place → ℕ → List ℕ → ModuleInfo
told_module files places k line =
    told_by (address_of Module k places) (length (module_file files k)) line

pub told_more : (files : List (List ℕ)) (places : List Place) (k : ℕ) (told : List ModuleInfo)
    (new : ModuleInfo) (line : List ℕ) (rest : List (List ℕ)) (all : List ModuleInfo)
    → new ≡ told_module files places k line → told ++ told_modules files places k (line ∷ rest)
    ≡ all
    → (told ++ new ∷ []) ++ told_modules files places (k + 1) rest ≡ all
told_more files places k told new line rest all is so_far =
    let next : k + 1 ≡ suc k = omega arith in
    append_assoc told (new ∷ []) (told_modules files places (k + 1) rest)
    ∙ ap (λ (n : ℕ). told ++ (new ∷ told_modules files places n rest)) next
    ∙ ap (λ (m : ModuleInfo). told ++ (m ∷ told_modules files places (suc k) rest)) is
    ∙ so_far

pub view_length_at : {V : Type 0} (bytes : V → List ℕ) (files : List V) (k : ℕ) (view : V)
    → view ≡ get_or files k view → k < length files
    → length (bytes view) ≡ length (get_or (map bytes files) k [])
view_length_at bytes files k view is within =
    ap (λ (text : List ℕ). length text)
    (ap bytes is ∙ sym (get_or-map bytes files k view [] within))
