-- The byte at an offset where a field stands over other bytes.
use Rattle.std.proofs.Common.{◌≡◌, ◌≤◌, ◌<◌, ◌+◌, ◌-◌, ◌&&◌, ℕ, nat_lt, nat_le, List, [], ◌++◌}
use Rattle.std.proofs.Common.{length, slice_index, arith, rules, ap, ◌∙◌, sym, ⊎_elim}
use Rattle.std.specs.Prelude.{if◌then◌else◌}
use Rattle.std.proofs.lemmas.Bool.{cases_lt}
use Rattle.std.proofs.lemmas.Bool.Decides.{nat_tests}
use Rattle.std.proofs.lemmas.List.{places, length-append}
use Rattle.bl_params.specs.FieldBytes.{byte_over}

pub over_in : (at : ℕ) (field : List ℕ) (rest : ℕ → ℕ) (k : ℕ) → at ≤ k → k < at + length field
    → byte_over at field rest k ≡ slice_index field (k - at)
unfolding byte_over
over_in at field rest k from before = grind (arith, nat_tests)

pub over_below : (at : ℕ) (field : List ℕ) (rest : ℕ → ℕ) (k : ℕ) → k < at
    → byte_over at field rest k ≡ rest k
unfolding byte_over
over_below at field rest k below = grind (arith, nat_tests)

pub over_above : (at : ℕ) (field : List ℕ) (rest : ℕ → ℕ) (k : ℕ) → at + length field ≤ k
    → byte_over at field rest k ≡ rest k
unfolding byte_over
over_above at field rest k above = grind (arith, nat_tests)

-- over bytes that are the same
pub over_same : (at : ℕ) (field : List ℕ) (r s : ℕ → ℕ) → ((k : ℕ) → r k ≡ s k) → (k : ℕ)
    → byte_over at field r k ≡ byte_over at field s k
unfolding byte_over
over_same at field r s same k =
    ap (λ (b : ℕ).
    if nat_le at k && nat_lt k (at + length field) then slice_index field (k - at) else b)
    (same k)

-- a field of no byte
pub over_none : (at : ℕ) (rest : ℕ → ℕ) (k : ℕ) → byte_over at [] rest k ≡ rest k
over_none at rest k =
    ⊎_elim (λ below. over_below at [] rest k below) (λ above. over_above at [] rest k (omega arith))
    (cases_lt k at)

-- a byte of the first of two fields
pub earlier : (first second : List ℕ) (i : ℕ) → i < length first
    → slice_index (first ++ second) i ≡ slice_index first i
earlier first second i within = search (rules, places)

-- a byte of the second of two fields
pub later : (first second : List ℕ) (at mid k : ℕ) → mid ≡ at + length first → mid ≤ k
    → slice_index (first ++ second) (k - at) ≡ slice_index second (k - mid)
later first second at mid k e behind = search (rules, places)

-- two fields that adjoin are one
pub over_more : (at mid : ℕ) (first second : List ℕ) (rest : ℕ → ℕ) (k : ℕ)
    → mid ≡ at + length first
    → byte_over mid second (byte_over at first rest) k ≡ byte_over at (first ++ second) rest k
over_more at mid first second rest k e =
    let len = length-append first second in
    ⊎_elim
    (λ below.
    over_below mid second (byte_over at first rest) k (omega (arith, below, e))
    ∙ over_below at first rest k below ∙ sym (over_below at (first ++ second) rest k below))
    (λ from. ⊎_elim
    (λ in_first.
    over_below mid second (byte_over at first rest) k (omega (arith, in_first, e))
    ∙ over_in at first rest k from (omega (arith, in_first, e))
    ∙ sym
    (over_in at (first ++ second) rest k from (omega (arith, in_first, e, len))
    ∙ earlier first second (k - at) (omega (arith, in_first, e))))
    (λ behind. ⊎_elim
    (λ in_second. over_in mid second (byte_over at first rest) k behind in_second
    ∙ sym
    (over_in at (first ++ second) rest k from (omega (arith, in_second, e, len))
    ∙ later first second at mid k e behind))
    (λ above.
    over_above mid second (byte_over at first rest) k above
    ∙ over_above at first rest k (omega (arith, above, e))
    ∙ sym (over_above at (first ++ second) rest k (omega (arith, above, e, len))))
    (cases_lt k (mid + length second)))
    (cases_lt k mid))
    (cases_lt k at)

-- three fields that adjoin are one
pub over_three : (at mid last : ℕ) (first second third : List ℕ) (rest : ℕ → ℕ) (k : ℕ)
    → mid ≡ at + length first → last ≡ mid + length second
    → byte_over last third (byte_over mid second (byte_over at first rest)) k
    ≡ byte_over at (first ++ (second ++ third)) rest k
over_three at mid last first second third rest k e f =
    over_more mid last second third (byte_over at first rest) k f
    ∙ over_more at mid first (second ++ third) rest k e
