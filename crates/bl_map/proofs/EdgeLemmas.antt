-- Kinds change at most twice for each region.
use Rattle.std.proofs.Common.{◌≡◌, ◌≢◌, ◌+◌, ◌*◌, ◌≤◌, ℕ, List, [], ◌∷◌, length, Bool, true, false}
use Rattle.std.proofs.Common.{if◌then◌else◌, nat_lt, max, arith, refl, ap₂, inl, inr}
use Rattle.std.proofs.lemmas.Bool.{cases_lt}
use Rattle.std.proofs.lemmas.Bool.Decides.{nat_tests}
use Rattle.bl_map.specs.declared.region.Region.{Region}
use Rattle.bl_map.specs.Kinds.{kind_number}
use Rattle.bl_map.specs.NormalMap.{region_end, region_holds, kind_at}

-- how many ends of a region lie above an address
above : ℕ → ℕ → ℕ
above at edge = if nat_lt at edge then 1 else 0

above_falls : (at later edge : ℕ) → at ≤ later → above later edge ≤ above at edge
unfolding above
above_falls at later edge h = grind (arith, nat_tests)

above_stays : (at later edge : ℕ) → at ≤ later → above later edge ≡ above at edge
    → nat_lt at edge ≡ nat_lt later edge
unfolding above
above_stays at later edge h e = elim (cases_lt later edge) [
  | inl less ↦ grind (arith, nat_tests)
  | inr more ↦ elim (cases_lt at edge) [
    | inl under ↦
        absurd
        (let a : nat_lt at edge ≡ true = grind (arith, nat_tests) in
        let b : nat_lt later edge ≡ false = grind (arith, nat_tests) in
        let bad : 0 ≡ 1 = rw (a, b) at e in omega arith)
    | inr over ↦ grind (arith, nat_tests)
  ]
]

pub edges_above : List Region → ℕ → ℕ
edges_above [] at = 0
edges_above (r ∷ regions) at = above at r.base + above at (region_end r) + edges_above regions at

above_most : (at edge : ℕ) → above at edge ≤ 1
unfolding above
above_most at edge = grind (arith, nat_tests)

pub edges_most : (regions : List Region) (at : ℕ) → edges_above regions at ≤ 2 * length regions
unfolding edges_above
edges_most [] at = omega arith
edges_most (r ∷ regions) at =
    let a = above_most at r.base in
    let b = above_most at (region_end r) in let c = edges_most regions at in omega arith

pub edges_fall : (regions : List Region) (at later : ℕ) → at ≤ later
    → edges_above regions later ≤ edges_above regions at
unfolding edges_above
edges_fall [] at later h = omega arith
edges_fall (r ∷ regions) at later h =
    let a = above_falls at later r.base h in
    let b = above_falls at later (region_end r) h in
    let c = edges_fall regions at later h in omega arith

same_holds : (r : Region) (at later : ℕ) → nat_lt at r.base ≡ nat_lt later r.base
    → nat_lt at (region_end r) ≡ nat_lt later (region_end r) → region_holds r at
    ≡ region_holds r later
same_holds r at later a b = grind (arith, nat_tests)

-- where no region begins or ends after an address and up to a later one, both have one kind
pub same_kind : (regions : List Region) (at later : ℕ) → at ≤ later
    → edges_above regions later ≡ edges_above regions at
    → kind_at regions at ≡ kind_at regions later
unfolding edges_above
same_kind [] at later h e = refl
same_kind (r ∷ regions) at later h e =
    let a = above_falls at later r.base h in
    let b = above_falls at later (region_end r) h in let c = edges_fall regions at later h in
    let base = above_stays at later r.base h (omega arith) in
    let end = above_stays at later (region_end r) h (omega arith) in
    ap₂ (λ (t : Bool) (k : ℕ). max (if t then kind_number r.kind else 0) k)
    (same_holds r at later base end) (same_kind regions at later h (omega arith))

-- a change of kind passes an edge
pub edges_fall_once : (regions : List Region) (at later : ℕ) → at ≤ later
    → kind_at regions later ≢ kind_at regions at
    → edges_above regions later + 1 ≤ edges_above regions at
edges_fall_once regions at later h changes =
    let falls = edges_fall regions at later h in
    elim (cases_lt (edges_above regions later) (edges_above regions at)) [
      | inl less ↦ omega arith
      | inr not_less ↦
          absurd (let same = same_kind regions at later h (omega arith) in changes (cc))
    ]
