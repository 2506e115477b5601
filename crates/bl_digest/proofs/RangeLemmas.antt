-- The bytes of ranges, whole and as far as they came.
use Rattle.std.proofs.Common.{◌≡◌, ℕ, ◌+◌, ◌-◌, ◌<◌, ◌≤◌, ◌%◌, ◌^◌, List, [], ◌∷◌, ◌++◌, length}
use Rattle.std.proofs.Common.{suc, get_or, take, map, All, arith, refl, sym, ap, ◌∙◌}
use Rattle.std.proofs.Common.{append_assoc, length-append, subst, slice_range, rules}
use Rattle.std.proofs.Common.{Some, None, inl, inr}
use Rattle.std.proofs.lemmas.List.{places, same_lists, take_at, drop_at, take-append-le, length-map}
use Rattle.std.proofs.lemmas.List.{take_all, get_or_default}
use Rattle.std.proofs.Math.ListN.{get_or-map}
use Rattle.std.proofs.lemmas.List.Elements.{All-nil, All-cons, All-append}
use Rattle.std.proofs.Math.Nat.{mod-eq_of_lt}
use Rattle.std.proofs.Math.Seq.{take-append-add}
use Rattle.std.proofs.lemmas.Bool.{cases_lt}
use Rattle.bl_mem.specs.FileSet.{nth_file}
use Rattle.bl_load.specs.declared.step.Step.{Step}
use Rattle.bl_load.specs.declared.step.StepSource.{StepSource}
use Rattle.bl_load.specs.declared.step.StepSource.TheVariants.{File, Own, Zeros}
use Rattle.bl_load.specs.declared.plan.Plan.{Plan}
use Rattle.bl_load.specs.Loadable.{lengths_of}
use Rattle.bl_load.specs.PlanSteps.{steps_from, own_bytes}
use Rattle.bl_load.specs.Steps.{source_bytes, IsThere, IsStep}
use Rattle.bl_load.proofs.HeldLemmas.{length_at}
use Rattle.bl_load.proofs.StepSourceLemmas.{plan_sound}
use Rattle.bl_digest.specs.declared.file_range.FileRange.{FileRange}
use Rattle.bl_digest.specs.PlanInSteps.{bytes_of_steps, CanBeLoadedFrom}
use Rattle.bl_digest.specs.Ranges.{ranges_of, source_ranges, bytes_of_ranges, range_behind}
use Rattle.bl_digest.specs.Ranges.{wanted_after}
use Rattle.bl_digest.specs.internal.Coming.{length_of_ranges, LiesInFiles, AreFirstOf}
use Rattle.bl_digest.specs.PlanInSteps.{filled, source_fill, fed_behind}
use Rattle.bl_digest.proofs.FillingLemmas.{wanted_here, wanted_later}

abbrev range_bytes : List (List ℕ) → FileRange → List ℕ
range_bytes texts range =
    slice_range (nth_file texts range.file) range.offset (range.offset + range.length)

range_short : (texts : List (List ℕ)) (range : FileRange)
    → length (range_bytes texts range) ≤ range.length
range_short texts range = grind (arith, places)

pub ranges_short : (texts : List (List ℕ)) (ranges : List FileRange)
    → length (bytes_of_ranges texts ranges) ≤ length_of_ranges ranges
ranges_short texts [] = omega arith
ranges_short texts (range ∷ ranges) =
    let first = range_short texts range in
    let rest = ranges_short texts ranges in
    omega (arith, length-append (range_bytes texts range) (bytes_of_ranges texts ranges))

-- nothing is wanted once all came
pub none_wanted : (ranges : List FileRange) (count : ℕ) → wanted_after ranges count ≡ None
    → length_of_ranges ranges ≤ count
none_wanted [] count none = omega arith
none_wanted (range ∷ ranges) count none =
    elim (cases_lt count range.length) [
      | inl here ↦ let some = wanted_here range ranges count here in cc
      | inr later ↦
          let rest =
          none_wanted ranges (count - range.length) (sym (wanted_later range ranges count later) ∙ none)
          in omega (arith, rest)
    ]

-- ---- steps that are filled out of files

module _ (own : List ℕ) (texts : List (List ℕ)) where
  filled_step : (source : StepSource) (count : ℕ) (steps : List Step)
      → length_of_ranges (source_ranges source count ++ ranges_of steps)
      ≤ length (bytes_of_ranges texts (source_ranges source count ++ ranges_of steps))
      → (length_of_ranges (ranges_of steps) ≤ length (bytes_of_ranges texts (ranges_of steps)))
      × (source_fill own source count (bytes_of_ranges texts (source_ranges source count ++ ranges_of steps))
      ≡ source_bytes own texts source count)
      × (fed_behind source count (bytes_of_ranges texts (source_ranges source count ++ ranges_of steps))
      ≡ bytes_of_ranges texts (ranges_of steps))
  filled_step (File file offset) count steps whole =
      let mine : List ℕ = slice_range (nth_file texts file) offset (offset + count) in
      let rest : List ℕ = bytes_of_ranges texts (ranges_of steps) in
      let range : FileRange = record { file = file; offset = offset; length = count } in
      let short = range_short texts range in
      let rest_short = ranges_short texts (ranges_of steps) in
      let all = length-append mine rest in
      let full : length mine ≡ count = omega (arith, short, rest_short, all, whole) in
      (omega (arith, short, rest_short, all, whole), take_at mine rest count full, drop_at mine rest count full)
  filled_step (Own offset) count steps whole = (whole, refl, refl)
  filled_step Zeros count steps whole = (whole, refl, refl)

  -- the bytes of the files fill what the steps write
  pub filled_by_files : (steps : List Step)
      → length_of_ranges (ranges_of steps) ≤ length (bytes_of_ranges texts (ranges_of steps))
      → filled own steps (bytes_of_ranges texts (ranges_of steps)) ≡ bytes_of_steps own texts steps
  filled_by_files [] whole = refl
  filled_by_files (step ∷ steps) whole =
      let this = filled_step step.source step.length steps whole in
      ap
      (λ (l : List ℕ).
      l
      ++ filled own steps
      (fed_behind step.source step.length (bytes_of_ranges texts (ranges_of (step ∷ steps)))))
      this.1
      ∙ ap (λ (l : List ℕ). source_bytes own texts step.source step.length ++ filled own steps l)
      this.2
      ∙ ap (λ (l : List ℕ). source_bytes own texts step.source step.length ++ l)
      (filled_by_files steps this.0)

-- ---- what is wanted of files

-- what is wanted lies in its file, and is what comes next
pub record IsNextOf (texts : List (List ℕ)) (ranges : List FileRange) (count : ℕ)
    (range : FileRange) : Type 0 where
  pub some : 1 ≤ range.length
  pub file : range.file < length texts
  pub inside : length (nth_file texts range.file) < 2 ^ 64
      → range.offset + range.length ≤ length (nth_file texts range.file)
  pub next : length (nth_file texts range.file) < 2 ^ 64
      → (n : ℕ) → n ≤ range.length → take (count + n) (bytes_of_ranges texts ranges)
      ≡ take count (bytes_of_ranges texts ranges)
      ++ slice_range (nth_file texts range.file) range.offset (range.offset + n)
  pub left : count + range.length ≤ length_of_ranges ranges

-- the first bytes of a range, in two pieces
range_in_two : (text : List ℕ) (offset count n m : ℕ) → count + n ≤ m → offset + m ≤ length text
    → take (count + n) (slice_range text offset (offset + m))
    ≡ take count (slice_range text offset (offset + m))
    ++ slice_range text (offset + count) (offset + count + n)
range_in_two text offset count n m within inside =
    same_lists _ _ (search (rules, places)) (λ k d h. grind (arith, places))

range_whole : (texts : List (List ℕ)) (range : FileRange) → LiesInFiles texts range
    → length (range_bytes texts range) ≡ range.length
range_whole texts range lies =
    let inside : range.offset + range.length ≤ length (nth_file texts range.file) = lies.inside in
    search (rules, places)

module _ (texts : List (List ℕ)) where
  next_here : (r : FileRange) (ranges : List FileRange) (count : ℕ) → count < r.length
      → LiesInFiles texts r → IsNextOf texts (r ∷ ranges) count (range_behind r count)
  next_here r ranges count here lies =
      let text : List ℕ = nth_file texts r.file in
      let mine : List ℕ = range_bytes texts r in
      let rest : List ℕ = bytes_of_ranges texts ranges in
      let inside : r.offset + r.length ≤ length text = lies.inside in
      let size : length mine ≡ r.length = range_whole texts r lies in
      let offset : length text < 2 ^ 64 → (r.offset + count) % 2 ^ 64 ≡ r.offset + count =
      λ small. mod-eq_of_lt (omega arith) in
      record {
        some = omega arith;
        file = lies.file;
        inside = λ small. rw (offset small) (omega arith);
        next = λ small n within.
            rw (offset small)
            (take-append-le (count + n) mine rest (omega arith)
            ∙ range_in_two text r.offset count n r.length (omega arith) inside
            ∙ ap (λ (l : List ℕ). l ++ slice_range text (r.offset + count) (r.offset + count + n))
            (sym (take-append-le count mine rest (omega arith))));
        left = omega arith;
      }

  next_later : (r : FileRange) (ranges : List FileRange) (count : ℕ) (range : FileRange)
      → r.length ≤ count → LiesInFiles texts r
      → IsNextOf texts ranges (count - r.length) range → IsNextOf texts (r ∷ ranges) count range
  next_later r ranges count range later lies is =
      let text : List ℕ = nth_file texts range.file in
      let mine : List ℕ = range_bytes texts r in
      let rest : List ℕ = bytes_of_ranges texts ranges in
      let size : length mine ≡ r.length = range_whole texts r lies in
      let behind : ℕ = count - r.length in
      let at : count ≡ length mine + behind = omega arith in
      record {
        some = is.some;
        file = is.file;
        inside = is.inside;
        next = λ small n within.
            let more : count + n ≡ length mine + (behind + n) = omega arith in
            ap (λ (k : ℕ). take k (mine ++ rest)) more
            ∙ take-append-add mine rest (behind + n)
            ∙ ap (λ (l : List ℕ). mine ++ l) (is.next small n within)
            ∙ sym
            (append_assoc mine (take behind rest) (slice_range text range.offset (range.offset + n)))
            ∙ ap (λ (l : List ℕ). l ++ slice_range text range.offset (range.offset + n))
            (sym (take-append-add mine rest behind))
            ∙ ap
            (λ (k : ℕ). take k (mine ++ rest) ++ slice_range text range.offset (range.offset + n))
            (sym at);
        left = omega (arith, is.left);
      }

  -- what is wanted of ranges of these files
  pub wanted_is_next : (ranges : List FileRange) (count : ℕ) (range : FileRange)
      → All (LiesInFiles texts) ranges → wanted_after ranges count ≡ Some range
      → IsNextOf texts ranges count range
  wanted_is_next [] count range lie is = cc
  wanted_is_next (r ∷ ranges) count range lie is =
      elim (cases_lt count r.length) [
        | inl here ↦
            let same : range_behind r count ≡ range =
            let found = wanted_here r ranges count here in cc in
            subst (IsNextOf texts (r ∷ ranges) count) same
            (next_here r ranges count here (lie 0 r (omega arith)))
        | inr later ↦
            next_later r ranges count range later (lie 0 r (omega arith))
            (wanted_is_next ranges (count - r.length) range (λ k d h. lie (suc k) d (omega arith))
            (sym (wanted_later r ranges count later) ∙ is))
      ]

-- ---- of a plan that can be loaded

source_lies : (texts : List (List ℕ)) (own : ℕ) (source : StepSource) (count : ℕ)
    → IsThere (lengths_of texts) own source count
    → All (LiesInFiles texts) (source_ranges source count)
source_lies texts own (File file offset) count there =
    let e = length-map texts (λ (text : List ℕ). length text) in
    let size = length_at texts file in
    All-cons (LiesInFiles texts) (record { file = file; offset = offset; length = count }) []
    (record { file = omega (arith, there.0, e); inside = omega (arith, there.1, size) })
    (All-nil (LiesInFiles texts))
source_lies texts own (Own offset) count there = All-nil (LiesInFiles texts)
source_lies texts own Zeros count there = All-nil (LiesInFiles texts)

steps_lie : (texts : List (List ℕ)) (own size : ℕ) (steps : List Step)
    → All (IsStep (lengths_of texts) own size) steps → All (LiesInFiles texts) (ranges_of steps)
steps_lie texts own size [] sound = All-nil (LiesInFiles texts)
steps_lie texts own size (step ∷ steps) sound =
    let this = sound 0 step (omega arith) in
    All-append (LiesInFiles texts) (source_ranges step.source step.length) (ranges_of steps)
    (source_lies texts own step.source step.length this.there)
    (steps_lie texts own size steps (λ k d h. sound (suc k) d (omega arith)))

-- the ranges of its steps lie in its files
pub plan_lies : {A : Type 0} (texts : List (List ℕ)) (plan : Plan A)
    → CanBeLoadedFrom (lengths_of texts) plan
    → All (LiesInFiles texts) (ranges_of (steps_from 0 plan.parts.items))
plan_lies texts plan can =
    steps_lie texts (length (own_bytes plan.parts.items)) can.0 (steps_from 0 plan.parts.items)
    (plan_sound (lengths_of texts) can.0 plan can.1)

-- a view that is one of the files
pub view_is : {V : Type 0} (bytes : V → List ℕ) (files : List V) (file : ℕ) (view : V)
    → file < length files → view ≡ get_or files file view
    → nth_file (map bytes files) file ≡ bytes view
view_is bytes files file view inside is =
    get_or_default (map bytes files) file [] (bytes view) (rw length-map inside)
    ∙ get_or-map bytes files file view
    ∙ ap bytes (sym is)

-- all ranges came
pub all_came : (texts : List (List ℕ)) (ranges : List FileRange) (fed : List ℕ)
    → wanted_after ranges (length fed) ≡ None
    → AreFirstOf texts ranges fed → fed ≡ bytes_of_ranges texts ranges
all_came texts ranges fed none so_far =
    so_far
    ∙ take_all (length fed) (bytes_of_ranges texts ranges)
    (omega (arith, none_wanted ranges (length fed) none, ranges_short texts ranges))

-- a range that is wanted lies in the view of its file
pub next_inside : (texts : List (List ℕ)) (ranges : List FileRange) (count : ℕ)
    (range : FileRange) (text : List ℕ) → IsNextOf texts ranges count range
    → nth_file texts range.file ≡ text → length text < 2 ^ 64
    → range.offset + range.length ≤ length text
next_inside texts ranges count range text is text_is small =
    rw text_is at (is.inside (rw text_is small))

-- the first bytes of a range that is wanted came, too
module _ (texts : List (List ℕ)) (ranges : List FileRange) (fed fed' text piece : List ℕ)
    (range : FileRange) (n : ℕ) (is : IsNextOf texts ranges (length fed) range)
    (text_is : nth_file texts range.file ≡ text) (small : length text < 2 ^ 64)
    (some : 1 ≤ n) (within : n ≤ range.length)
    (piece_is : piece ≡ slice_range text range.offset (range.offset + n))
    (are : fed' ≡ fed ++ piece) where
  little : length (nth_file texts range.file) < 2 ^ 64
  little = rw text_is small

  count : length fed' ≡ length fed + n
  count =
      let inside : range.offset + range.length ≤ length text =
      next_inside texts ranges (length fed) range text is text_is small in
      let long : length (slice_range text range.offset (range.offset + n)) ≡ n =
      search (rules, places) in
      ap length are ∙ length-append fed piece
      ∙ ap (λ (l : List ℕ). length fed + length l) piece_is
      ∙ ap (λ (k : ℕ). length fed + k) long

  pub comes_more : length fed < length fed'
  comes_more = omega (arith, count)

  pub comes_within : length fed' ≤ length_of_ranges ranges
  comes_within = omega (arith, count, is.left)

  pub comes_first : AreFirstOf texts ranges fed → AreFirstOf texts ranges fed'
  comes_first so_far =
      let all : List ℕ = bytes_of_ranges texts ranges in
      are
      ∙ ap (λ (l : List ℕ). l ++ piece) so_far
      ∙ ap (λ (l : List ℕ). take (length fed) all ++ l) piece_is
      ∙ ap
      (λ (l : List ℕ). take (length fed) all ++ slice_range l range.offset (range.offset + n))
      (sym text_is)
      ∙ sym (is.next little n within)
      ∙ ap (λ (k : ℕ). take k all) (sym count)
