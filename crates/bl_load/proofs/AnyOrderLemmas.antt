-- Steps that lie apart write the same in whatever order they are carried out.
use Rattle.std.proofs.Common.{◌≡◌, ℕ, ◌+◌, ◌-◌, ◌<◌, ◌≤◌, ◌⊎◌, List, [], ◌∷◌, length, get_or}
use Rattle.std.proofs.Common.{zero, suc, arith, rules, refl, sym, ap, ◌∙◌, subst, inl, inr}
use Rattle.std.proofs.Common.{All, AllPairs, Contains, IsPermutation}
use Rattle.std.proofs.Common.{slice_index_or, subst₂}
use Rattle.std.proofs.lemmas.Bool.{cases_lt}
use Rattle.std.proofs.lemmas.List.{same_lists, places, length-replicate, get_or_default}
use Rattle.std.proofs.lemmas.List.Elements.{All-head, All-tail}
use Rattle.std.proofs.lemmas.List.Sorted.{Contains-permutation, IsPermutation-sym, All-permutation}
use Rattle.bl_mem.specs.FileSet.{nth_file}
use Rattle.bl_mem.specs.Memory.{overwrite}
use Rattle.bl_mem.proofs.Overwrites.{length-overwrite, get_or-overwrite_in, get_or-overwrite_below}
use Rattle.bl_mem.proofs.Overwrites.{get_or-overwrite_above}
use Rattle.bl_load.specs.declared.step.Step.{Step}
use Rattle.bl_load.specs.declared.step.StepSource.{StepSource}
use Rattle.bl_load.specs.declared.step.StepSource.TheVariants.{File, Own, Zeros}
use Rattle.bl_load.specs.Loadable.{lengths_of}
use Rattle.bl_load.specs.Steps.{source_bytes, carry_out, IsStep, IsThere, StepsAscend}
use Rattle.bl_load.proofs.HeldLemmas.{length_at}

-- the address is one that the step writes
abbrev Writes : ℕ → Step → Type 0
Writes a step = (step.address ≤ a) × (a < step.address + step.length)

-- the step writes it, or does not
writes_or_not : (a : ℕ) (step : Step) → Writes a step ⊎ (Writes a step → ⊥)
writes_or_not a step =
    elim (cases_lt a step.address) [
      | inl below ↦ inr (λ w. let low : step.address ≤ a = w.0 in absurd (omega arith))
      | inr low ↦ elim (cases_lt a (step.address + step.length)) [
        | inl high ↦ inl (low, high)
        | inr past ↦ inr (λ w. let high : a < step.address + step.length = w.1 in absurd (omega arith))
      ]
    ]

-- a list's first element, and those after it
contains_first : (x : Step) (xs : List Step) → Contains (x ∷ xs) x
contains_first x xs = (0, omega arith, refl)

contains_later : (x y : Step) (xs : List Step) → Contains xs y → Contains (x ∷ xs) y
contains_later x y xs has =
    let in_range : has.0 < length xs = has.1 in (suc has.0, omega arith, has.2)

-- if neither the first writes the address nor a later one, none does
not_first : (a : ℕ) (step : Step) (steps : List Step) → (Writes a step → ⊥)
    → ((t : Step) → Contains steps t → Writes a t → ⊥)
    → (t : Step) → Contains (step ∷ steps) t → Writes a t → ⊥
not_first a step steps misses none t (zero, in_range, is) w = misses (subst (Writes a) (sym is) w)
not_first a step steps misses none t (suc k, in_range, is) w = none t (k, omega arith, is) w

-- some step writes the byte, or none
hits : (a : ℕ) (steps : List Step)
    → ((s : Step) × Contains steps s × Writes a s)
    ⊎ ((t : Step) → Contains steps t → Writes a t → ⊥)
hits a [] = inr (λ t has w. let in_range : has.0 < 0 = has.1 in absurd (omega arith))
hits a (step ∷ steps) =
    elim (writes_or_not a step) [
      | inl w ↦ inl (step, contains_first step steps, w)
      | inr misses ↦ elim (hits a steps) [
        | inl later ↦ inl (later.0, contains_later step later.0 steps later.1, later.2)
        | inr none ↦ inr (not_first a step steps misses none)
      ]
    ]

-- an address that an element of steps at one place writes is below those of each at a later place
too_late : (a : ℕ) (steps : List Step) → AllPairs StepsAscend steps → (s t : Step)
    → (has : Contains steps s) → (other : Contains steps t) → has.0 < other.0
    → Writes a s → Writes a t → ⊥
too_late a steps ascend s t (i, i_in, is) (j, j_in, js) before v w =
    let up : StepsAscend (slice_index_or steps i s) (slice_index_or steps j s) =
    ascend i j s before j_in in
    let same : slice_index_or steps j s ≡ t = get_or_default steps j s t j_in ∙ js in
    let apart : StepsAscend s t =
    subst₂ StepsAscend is same up in
    let end : s.address + s.length ≤ t.address = apart in
    let high : a < s.address + s.length = v.1 in
    let low : t.address ≤ a = w.0 in
    omega arith

-- of steps that ascend only one writes an address
one_writer : (a : ℕ) (steps : List Step) → AllPairs StepsAscend steps → (s t : Step)
    → Contains steps s → Contains steps t → Writes a s → Writes a t → t ≡ s
one_writer a steps ascend s t has other v w =
    elim (cases_lt has.0 other.0) [
      | inl before ↦ absurd (too_late a steps ascend s t has other before v w)
      | inr not_before ↦ elim (cases_lt other.0 has.0) [
        | inl after ↦ absurd (too_late a steps ascend t s other has after w v)
        | inr not_after ↦
            let place : other.0 ≡ has.0 = omega arith in
            sym other.2 ∙ get_or_default steps other.0 t s other.1
            ∙ ap (λ (k : ℕ). slice_index_or steps k s) place ∙ has.2
      ]
    ]

module _ (own : List ℕ) (texts : List (List ℕ)) (size : ℕ) where
  abbrev CanBe : Step → Type 0
  CanBe step = IsStep (lengths_of texts) (length own) size step

  abbrev bytes_of : Step → List ℕ
  bytes_of step = source_bytes own texts step.source step.length

  -- a source has as many bytes as its step is long
  source_length : (from : StepSource) (n : ℕ) → IsThere (lengths_of texts) (length own) from n
      → length (source_bytes own texts from n) ≡ n
  source_length (File file offset) n there =
      let inside : offset + n ≤ length (nth_file texts file) =
      subst (λ (l : ℕ). offset + n ≤ l) (length_at texts file) there.1 in
      search (rules, places)
  source_length (Own offset) n there = search (rules, places)
  source_length Zeros n there = length-replicate n 0

  step_length : (step : Step) → CanBe step → length (bytes_of step) ≡ step.length
  step_length step can = source_length step.source step.length can.there

  -- one step leaves memory as long as it was
  after_one : (step : Step) (m : List ℕ) → CanBe step → size ≤ length m
      → length (overwrite m step.address (bytes_of step)) ≡ length m
  after_one step m can wide =
      let filled : length (bytes_of step) ≡ step.length = step_length step can in
      let inside : step.address + step.length ≤ size = can.inside in
      length-overwrite m step.address (bytes_of step) (omega arith)

  -- so do all
  length_carried : (steps : List Step) (m : List ℕ) → All CanBe steps → size ≤ length m
      → length (carry_out steps own texts m) ≡ length m
  length_carried [] m can wide = refl
  length_carried (step ∷ steps) m can wide =
      let first : CanBe step = All-head CanBe step steps can in
      let same = after_one step m first wide in
      length_carried steps (overwrite m step.address (bytes_of step)) (All-tail CanBe step steps can)
      (omega arith)
      ∙ same

  -- a byte that a step writes
  one_in : (a d : ℕ) (step : Step) (m : List ℕ) → CanBe step → size ≤ length m → Writes a step
      → get_or (overwrite m step.address (bytes_of step)) a d
      ≡ get_or (bytes_of step) (a - step.address) d
  one_in a d step m can wide w =
      let filled : length (bytes_of step) ≡ step.length = step_length step can in
      let inside : step.address + step.length ≤ size = can.inside in
      let low : step.address ≤ a = w.0 in
      let high : a < step.address + step.length = w.1 in
      get_or-overwrite_in m step.address (bytes_of step) a d low (omega arith) (omega arith)

  -- a byte that it does not write
  one_beside : (a d : ℕ) (step : Step) (m : List ℕ) → CanBe step → size ≤ length m
      → (Writes a step → ⊥)
      → get_or (overwrite m step.address (bytes_of step)) a d ≡ get_or m a d
  one_beside a d step m can wide misses =
      let filled : length (bytes_of step) ≡ step.length = step_length step can in
      let inside : step.address + step.length ≤ size = can.inside in
      elim (cases_lt a step.address) [
        | inl below ↦
            get_or-overwrite_below m step.address (bytes_of step) a d below (omega arith)
        | inr low ↦ elim (cases_lt a (step.address + step.length)) [
          | inl high ↦ absurd (misses (low, high))
          | inr past ↦
              get_or-overwrite_above m step.address (bytes_of step) a d (omega arith) (omega arith)
        ]
      ]

  -- a byte that no step writes is as before
  beside_all : (a d : ℕ) (steps : List Step) (m : List ℕ) → All CanBe steps → size ≤ length m
      → ((t : Step) → Contains steps t → Writes a t → ⊥)
      → get_or (carry_out steps own texts m) a d ≡ get_or m a d
  beside_all a d [] m can wide none = refl
  beside_all a d (step ∷ steps) m can wide none =
      let first : CanBe step = All-head CanBe step steps can in
      let same = after_one step m first wide in
      beside_all a d steps (overwrite m step.address (bytes_of step))
      (All-tail CanBe step steps can) (omega arith)
      (λ t has. none t (contains_later step t steps has))
      ∙ one_beside a d step m first wide (none step (contains_first step steps))

  -- the first of steps of which no later one writes the byte
  the_first : (a d : ℕ) (step : Step) (steps : List Step) (m : List ℕ) (s : Step) → CanBe step
      → size ≤ length m → Contains (step ∷ steps) s → Writes a s
      → ((t : Step) → Contains steps t → Writes a t → ⊥)
      → get_or (overwrite m step.address (bytes_of step)) a d
      ≡ get_or (bytes_of s) (a - s.address) d
  the_first a d step steps m s can wide (zero, in_range, is) w none =
      one_in a d step m can wide (subst (Writes a) (sym is) w)
      ∙ ap (λ (t : Step). get_or (bytes_of t) (a - t.address) d) is
  the_first a d step steps m s can wide (suc k, in_range, is) w none =
      absurd (none s (k, omega arith, is) w)

  -- a byte that one step alone writes is its
  carried_in : (a d : ℕ) (steps : List Step) (m : List ℕ) (s : Step) → All CanBe steps
      → size ≤ length m → Contains steps s → Writes a s
      → ((t : Step) → Contains steps t → Writes a t → t ≡ s)
      → get_or (carry_out steps own texts m) a d ≡ get_or (bytes_of s) (a - s.address) d
  carried_in a d [] m s can wide has w alone =
      let in_range : has.0 < 0 = has.1 in absurd (omega arith)
  carried_in a d (step ∷ steps) m s can wide has w alone =
      let first : CanBe step = All-head CanBe step steps can in
      let same = after_one step m first wide in
      let rest : All CanBe steps = All-tail CanBe step steps can in
      let next : List ℕ = overwrite m step.address (bytes_of step) in
      elim (hits a steps) [
        | inl later ↦
            let is : later.0 ≡ s = alone later.0 (contains_later step later.0 steps later.1) later.2 in
            carried_in a d steps next s rest (omega arith) (subst (Contains steps) is later.1)
            w (λ t there writes. alone t (contains_later step t steps there) writes)
        | inr none ↦
            beside_all a d steps next rest (omega arith) none
            ∙ the_first a d step steps m s first wide has w none
      ]

  -- in whatever order steps that lie apart are carried out
  pub in_any_order : (steps others : List Step) (m : List ℕ) → All CanBe steps
      → AllPairs StepsAscend steps → IsPermutation steps others → size ≤ length m
      → carry_out others own texts m ≡ carry_out steps own texts m
  in_any_order steps others m can ascend moved wide =
      let back : IsPermutation others steps = IsPermutation-sym steps others moved in
      let can_others : All CanBe others = All-permutation CanBe steps others moved can in
      same_lists _ _
      (length_carried others m can_others wide ∙ sym (length_carried steps m can wide))
      (λ a d h. elim (hits a steps) [
        | inl hit ↦
            let s : Step = hit.0 in
            let alone : (t : Step) → Contains steps t → Writes a t → t ≡ s =
            λ t there writes. one_writer a steps ascend s t hit.1 there hit.2 writes in
            carried_in a d others m s can_others wide (Contains-permutation steps others s moved hit.1)
            hit.2 (λ t there writes. alone t (Contains-permutation others steps t back there) writes)
            ∙ sym (carried_in a d steps m s can wide hit.1 hit.2 alone)
        | inr none ↦
            beside_all a d others m can_others wide
            (λ t there writes. none t (Contains-permutation others steps t back there) writes)
            ∙ sym (beside_all a d steps m can wide none)
      ])
