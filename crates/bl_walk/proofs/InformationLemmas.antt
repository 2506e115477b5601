-- What a Multiboot2 kernel sees in the image of its entry's handover.
use Rattle.std.proofs.Common.{◌≡◌, ◌+◌, ◌-◌, ◌<◌, ◌≤◌, ◌^◌, ◌&&◌, ◌||◌, ℕ, zero, suc, Bool, true}
use Rattle.std.proofs.Common.{false, List, [], ◌∷◌, ◌++◌, map, length, take, get_or, Some, None}
use Rattle.std.proofs.Common.{nat_eq, refl, sym, ap, ◌∙◌, inl, inr, arith, All, length-append}
use Rattle.std.specs.List.{list_any}
use Rattle.std.proofs.lemmas.Bool.{eq-eqb, cases_lt}
use Rattle.std.proofs.Math.Bool.{or-true}
use Rattle.std.proofs.lemmas.List.{append-nil, take_at}
use Rattle.std.proofs.lemmas.List.Elements.{All-head, All-tail, All-cons, All-nil}
use Rattle.std.proofs.lemmas.List.Folds.{list_any-append}
use Rattle.std.specs.declared.ops.Range.{Range}
use Rattle.bl_map.specs.MachineFacts.{MachineFacts}
use Rattle.bl_mem.specs.LittleEndian.{u32_at, u32_bytes}
use Rattle.bl_mem.proofs.LittleEndianLaws.{length-u32_bytes, u32_again}
use Rattle.bl_mbi.specs.InfoToWriteFacts.{InfoToWriteFacts, AreBytes, IsModule}
use Rattle.bl_mbi.specs.Spelling.{info_spelling, tags}
use Rattle.bl_plan.specs.Placed.{ArePlaced, place_range}
use Rattle.bl_plan.specs.PlannerFacts.{put_in}
use Rattle.bl_plan.specs.RoleNumbers.{role_number}
use Rattle.bl_plan.specs.declared.part.Place.{Place}
use Rattle.bl_plan.specs.declared.part.Role.{Role}
use Rattle.bl_plan.specs.declared.part.Role.TheVariants.{Module}
use Rattle.bl_plan.specs.declared.part.Row.{Row}
use Rattle.bl_load.specs.Addresses.{address_of}
use Rattle.bl_load.specs.Handover.{Part}
use Rattle.bl_load.specs.Rows.{module_rows, told_modules}
use Rattle.bl_load.specs.EntryValue.{module_file, line_fault, lines_fault}
use Rattle.bl_load.proofs.LineLemmas.{sound_text, first_sound}
use Rattle.bl_walk.specs.PartBytes.{bytes_in}
use Rattle.bl_walk.specs.Seen.{AreSeenModules}
use Rattle.bl_walk.specs.SeenFacts.{SeenModuleFacts}
use Rattle.bl_walk.proofs.PartLemmas.{is_of}

-- ---- each row has its place

abbrev pub is_row : Role → ℕ → Row → Bool
is_row role index row = nat_eq (role_number row.role) (role_number role) && nat_eq row.index index

pub row_held : (facts : MachineFacts) (role : Role) (index : ℕ) (taken : List (Range ℕ))
    (rows : List Row) (places : List Place) → ArePlaced facts taken rows places
    → list_any (is_row role index) rows ≡ true → list_any (is_of role index) places ≡ true
row_held facts role index taken [] [] placed held = held
row_held facts role index taken [] (p ∷ places) placed held = absurd placed
row_held facts role index taken (row ∷ rows) [] placed held = absurd placed
row_held facts role index taken (row ∷ rows) (p ∷ places) placed held =
    let same : is_of role index p ≡ is_row role index row = ap (is_of role index) placed.1 in
    elim (is_row role index row) as (λ b. is_row role index row ≡ b
    → (b || list_any (is_row role index) rows) ≡ true
    → (is_of role index p || list_any (is_of role index) places) ≡ true) [
      | true ↦ λ e h. (let here = same ∙ e in rw here)
      | false ↦
          λ e h.
          (let here = same ∙ e in
          let later =
          row_held facts role index (put_in (place_range p) taken) rows places placed.2
          h in rw here later)
    ] refl held

-- a row after others
pub behind : (role : Role) (index : ℕ) (first rows : List Row)
    → list_any (is_row role index) rows ≡ true → list_any (is_row role index) (first ++ rows) ≡ true
behind role index first rows held =
    list_any-append (is_row role index) first rows
    ∙ ap (λ b. list_any (is_row role index) first || b) held
    ∙ or-true (list_any (is_row role index) first)

pub before : (role : Role) (index : ℕ) (first rows : List Row)
    → list_any (is_row role index) first ≡ true
    → list_any (is_row role index) (first ++ rows) ≡ true
before role index first rows held =
    list_any-append (is_row role index) first rows
    ∙ ap (λ b. b || list_any (is_row role index) rows) held

pub module_row : (files : List (List ℕ)) (k index : ℕ) (lines : List (List ℕ)) → k ≤ index
    → index < k + length lines → list_any (is_row Module index) (module_rows files k lines) ≡ true
module_row files k index [] low high = absurd (omega arith)
module_row files k index (line ∷ lines) low high =
    elim (cases_lt k index) [
      | inl later ↦
          (let held = module_row files (suc k) index lines later (omega arith) in
          rw held (or-true (nat_eq k index)))
      | inr here ↦ (let same = eq-eqb k index (omega arith) in rw same)
    ]

-- ---- the information

-- the first word of a spelling is its length
pub first_word : (name : List ℕ) (facts : InfoToWriteFacts) → length (info_spelling name facts)
    < 2 ^ 32
    → length (info_spelling name facts) ≡ u32_at (take 4 (info_spelling name facts)) 0
unfolding info_spelling
first_word name facts small =
    let size = 8 + length (tags name facts) in
    let first = u32_bytes size in
    let behind = u32_bytes 0 ++ tags name facts in
    let one : length first ≡ 4 = length-u32_bytes size in
    let two = length-u32_bytes 0 in
    let both = length-append first behind in
    let rest = length-append (u32_bytes 0) (tags name facts) in
    let long : length (first ++ behind) ≡ size = omega arith in
    let word : take 4 (first ++ behind) ≡ first ++ [] =
    take_at first behind 4 one ∙ sym (append-nil first) in
    long ∙ sym (u32_again size [] (omega arith)) ∙ ap (λ bytes. u32_at bytes 0) (sym word)

-- each module that is told of fits its tag
pub modules_fit : (files : List (List ℕ)) (places : List Place) (k : ℕ) (lines : List (List ℕ))
    → ((i : ℕ) → k ≤ i → i < k + length lines
    → address_of Module i places + length (module_file files i) ≤ 0xFFFFF000)
    → lines_fault lines ≡ None → All AreBytes lines
    → All IsModule (told_modules files places k lines)
modules_fit files places k [] ends sound bytes = All-nil IsModule
modules_fit files places k (line ∷ lines) ends sound bytes =
    let split = first_sound (line_fault line) (lines_fault lines) sound in
    let here = ends k (omega arith) (omega arith) in
    let first : IsModule
    record {
      mod_start = address_of Module k places;
      mod_end = address_of Module k places + length (module_file files k);
      line = line;
    } =
    record {
      forward = omega arith;
      small = omega arith;
      line = sound_text line split.0 (All-head AreBytes line lines bytes);
    } in
    All-cons IsModule
    record {
      mod_start = address_of Module k places;
      mod_end = address_of Module k places + length (module_file files k);
      line = line;
    }
    (told_modules files places (suc k) lines) first
    (modules_fit files places (suc k) lines (λ i low high. ends i (omega arith) (omega arith))
    split.1 (All-tail AreBytes line lines bytes))

-- ---- the modules

abbrev pub shown_modules : List (List ℕ) → List Place → ℕ → List (List ℕ) → List SeenModuleFacts
shown_modules files places k [] = []
shown_modules files places k (line ∷ lines) =
    record { mod_start = address_of Module k places; bytes = module_file files k; line = line }
    ∷ shown_modules files places (suc k) lines

pub modules_seen : (parts : List Part) (files : List (List ℕ)) (places : List Place) (k : ℕ)
    (lines : List (List ℕ))
    → ((i : ℕ) → k ≤ i → i < k + length lines
    → bytes_in parts (address_of Module i places) (length (module_file files i))
    ≡ Some (module_file files i))
    → AreSeenModules parts (told_modules files places k lines) (shown_modules files places k lines)
modules_seen parts files places k [] held = tt
modules_seen parts files places k (line ∷ lines) held =
    let start = address_of Module k places in
    let file = module_file files k in
    let size : start + length file - start ≡ length file = omega arith in
    let here = held k (omega arith) (omega arith) in (
      record { start = refl; bytes = rw size here; line = refl },
      modules_seen parts files places (suc k) lines
          (λ i low high. held i (omega arith) (omega arith)),
    )

pub lines_shown : (files : List (List ℕ)) (places : List Place) (k : ℕ) (lines : List (List ℕ))
    → map (λ (m : SeenModuleFacts). m.line) (shown_modules files places k lines) ≡ lines
lines_shown files places k [] = refl
lines_shown files places k (line ∷ lines) =
    ap (λ (ls : List (List ℕ)). line ∷ ls) (lines_shown files places (suc k) lines)

pub files_shown : (files : List (List ℕ)) (places : List Place) (k : ℕ) (lines : List (List ℕ))
    (i : ℕ) → i < length lines
    → get_or (map (λ (m : SeenModuleFacts). m.bytes) (shown_modules files places k lines)) i []
    ≡ module_file files (k + i)
files_shown files places k [] i within = absurd (omega arith)
files_shown files places k (line ∷ lines) zero within =
    let e : k + 0 ≡ k = omega arith in ap (module_file files) (sym e)
files_shown files places k (line ∷ lines) (suc i) within =
    let e : suc k + i ≡ k + suc i = omega arith in
    files_shown files places (suc k) lines i (omega arith) ∙ ap (module_file files) e
