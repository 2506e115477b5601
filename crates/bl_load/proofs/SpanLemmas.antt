-- Segments in address order have the same least and greatest address.
use Rattle.std.proofs.Common.{◌≡◌, ◌≤◌, ◌+◌, ◌-◌, ℕ, Bool, true, false, List, [], ◌∷◌, length}
use Rattle.std.proofs.Common.{arith, refl, ap₂, subst, ◌∙◌, All, nat_eq, inl, inr}
use Rattle.std.specs.Prelude.{◌||◌}
use Rattle.std.specs.List.{list_any}
use Rattle.std.proofs.lemmas.List.Elements.{All-nil, All-cons, All-head, All-tail}
use Rattle.std.proofs.lemmas.Bool.{cases_lt, or_left, or_right}
use Rattle.std.proofs.lemmas.Bool.Decides.{nat_tests}
use Rattle.bl_mem.specs.declared.segment.Segment.{Segment}
use Rattle.bl_load.specs.KernelBlock.{low_of, high_of, span_of}
use Rattle.bl_plan.specs.AddressOrder.{segment_key, segments_in_order}
use Rattle.bl_plan.proofs.OrderLemmas.{in_order_all}
use Rattle.bl_plan.proofs.OrderCountLemmas.{list_any-in_order, length-in_order}

pub or_rest : (a b : Bool) → (a || b) ≡ true → a ≡ false → b ≡ true
or_rest true b h e = absurd cc
or_rest false b h e = h

-- ---- the least address

begins_at : ℕ → Segment → Bool
begins_at n s = nat_eq s.address n

ends_at : ℕ → Segment → Bool
ends_at n s = nat_eq (s.address + s.memsz) n

abbrev IsFrom : ℕ → Segment → Type 0
IsFrom n s = n ≤ s.address

abbrev IsUpTo : ℕ → Segment → Type 0
IsUpTo n s = s.address + s.memsz ≤ n

pub low_all : (segments : List Segment) → All (IsFrom (low_of segments)) segments
low_all [] = All-nil (IsFrom 0)
low_all (s ∷ []) = All-cons (IsFrom s.address) s [] (omega arith) (All-nil (IsFrom s.address))
low_all (s ∷ t ∷ segments) =
    let rest = low_all (t ∷ segments) in
    All-cons (IsFrom (low_of (s ∷ t ∷ segments))) s (t ∷ segments) (omega arith)
    (λ k d within. let e = rest k d within in omega arith)

low_found : (segments : List Segment) → 1 ≤ length segments
    → list_any (begins_at (low_of segments)) segments ≡ true
unfolding begins_at
low_found [] h = absurd (omega arith)
low_found (s ∷ []) h =
    let e : nat_eq s.address s.address ≡ true =
    grind (arith, nat_tests) in or_left (nat_eq s.address s.address) false e
low_found (s ∷ t ∷ segments) h =
    let rest = low_found (t ∷ segments) (omega arith) in
    elim (cases_lt s.address (low_of (t ∷ segments))) [
      | inl less ↦
          let e : low_of (s ∷ t ∷ segments) ≡ s.address = omega arith in
          let f : nat_eq s.address (low_of (s ∷ t ∷ segments)) ≡ true = grind (arith, nat_tests) in
          or_left (nat_eq s.address (low_of (s ∷ t ∷ segments)))
          (list_any (begins_at (low_of (s ∷ t ∷ segments))) (t ∷ segments)) f
      | inr more ↦
          let e : low_of (t ∷ segments) ≡ low_of (s ∷ t ∷ segments) = omega arith in
          or_right (nat_eq s.address (low_of (s ∷ t ∷ segments)))
          (list_any (begins_at (low_of (s ∷ t ∷ segments))) (t ∷ segments))
          (subst (λ (n : ℕ). list_any (begins_at n) (t ∷ segments) ≡ true) e rest)
    ]

not_below : (segments : List Segment) (n m : ℕ) → All (IsFrom n) segments
    → list_any (begins_at m) segments ≡ true → n ≤ m
unfolding begins_at
not_below [] n m h found = absurd cc
not_below (s ∷ segments) n m h found =
    elim (nat_eq s.address m) as (λ b. nat_eq s.address m ≡ b → n ≤ m) [
      | true ↦ λ e. let first = All-head (IsFrom n) s segments h in
          let same : s.address ≡ m = grind (arith, nat_tests) in omega arith
      | false ↦
          λ e.
          not_below segments n m (All-tail (IsFrom n) s segments h)
          (or_rest (nat_eq s.address m) (list_any (begins_at m) segments) found e)
    ] refl

pub same_low : (segments : List Segment) → 1 ≤ length segments
    → low_of (segments_in_order segments) ≡ low_of segments
same_low segments some =
    let sorted = segments_in_order segments in
    let many = length-in_order segment_key segments in
    let up : low_of segments ≤ low_of sorted =
    not_below sorted (low_of segments) (low_of sorted)
    (in_order_all segment_key (IsFrom (low_of segments)) segments (low_all segments))
    (low_found sorted (omega arith)) in
    let down : low_of sorted ≤ low_of segments =
    not_below sorted (low_of sorted) (low_of segments) (low_all sorted)
    (list_any-in_order segment_key (begins_at (low_of segments)) segments
    ∙ low_found segments some) in
    omega arith

-- ---- the greatest address

pub high_all : (segments : List Segment) → All (IsUpTo (high_of segments)) segments
high_all [] = All-nil (IsUpTo 0)
high_all (s ∷ segments) =
    let rest = high_all segments in
    All-cons (IsUpTo (high_of (s ∷ segments))) s segments (omega arith)
    (λ k d within. let e = rest k d within in omega arith)

high_found : (segments : List Segment) → 1 ≤ length segments
    → list_any (ends_at (high_of segments)) segments ≡ true
unfolding ends_at
high_found [] h = absurd (omega arith)
high_found (s ∷ []) h =
    let e : nat_eq (s.address + s.memsz) (high_of (s ∷ [])) ≡ true =
    grind (arith, nat_tests) in
    or_left (nat_eq (s.address + s.memsz) (high_of (s ∷ []))) false e
high_found (s ∷ t ∷ segments) h =
    let rest = high_found (t ∷ segments) (omega arith) in
    elim (cases_lt (s.address + s.memsz) (high_of (t ∷ segments))) [
      | inl less ↦
          let e : high_of (t ∷ segments) ≡ high_of (s ∷ t ∷ segments) = omega arith in
          or_right (nat_eq (s.address + s.memsz) (high_of (s ∷ t ∷ segments)))
          (list_any (ends_at (high_of (s ∷ t ∷ segments))) (t ∷ segments))
          (subst (λ (n : ℕ). list_any (ends_at n) (t ∷ segments) ≡ true) e rest)
      | inr more ↦
          let e : high_of (s ∷ t ∷ segments) ≡ s.address + s.memsz = omega arith in
          let f : nat_eq (s.address + s.memsz) (high_of (s ∷ t ∷ segments)) ≡ true =
          grind (arith, nat_tests) in
          or_left (nat_eq (s.address + s.memsz) (high_of (s ∷ t ∷ segments)))
          (list_any (ends_at (high_of (s ∷ t ∷ segments))) (t ∷ segments)) f
    ]

not_above : (segments : List Segment) (n m : ℕ) → All (IsUpTo n) segments
    → list_any (ends_at m) segments ≡ true → m ≤ n
unfolding ends_at
not_above [] n m h found = absurd cc
not_above (s ∷ segments) n m h found =
    elim (nat_eq (s.address + s.memsz) m) as (λ b. nat_eq (s.address + s.memsz) m ≡ b → m ≤ n) [
      | true ↦ λ e. let first = All-head (IsUpTo n) s segments h in
          let same : s.address + s.memsz ≡ m = grind (arith, nat_tests) in omega arith
      | false ↦
          λ e.
          not_above segments n m (All-tail (IsUpTo n) s segments h)
          (or_rest (nat_eq (s.address + s.memsz) m) (list_any (ends_at m) segments) found e)
    ] refl

pub same_high : (segments : List Segment) → 1 ≤ length segments
    → high_of (segments_in_order segments) ≡ high_of segments
same_high segments some =
    let sorted = segments_in_order segments in
    let many = length-in_order segment_key segments in
    let down : high_of sorted ≤ high_of segments =
    not_above sorted (high_of segments) (high_of sorted)
    (in_order_all segment_key (IsUpTo (high_of segments)) segments (high_all segments))
    (high_found sorted (omega arith)) in
    let up : high_of segments ≤ high_of sorted =
    not_above sorted (high_of sorted) (high_of segments) (high_all sorted)
    (list_any-in_order segment_key (ends_at (high_of segments)) segments
    ∙ high_found segments some) in
    omega arith

-- so they span as much
pub same_span : (segments : List Segment) → 1 ≤ length segments
    → span_of (segments_in_order segments) ≡ span_of segments
same_span segments some =
    ap₂ (λ (h l : ℕ). h - l) (same_high segments some) (same_low segments some)
