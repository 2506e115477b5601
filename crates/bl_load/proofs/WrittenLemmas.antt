-- What memory holds at each address once parts are written.
use Rattle.std.proofs.Common.{◌≡◌, ℕ, ◌+◌, ◌-◌, ◌<◌, ◌≤◌, List, [], ◌∷◌, ◌++◌, length, get_or}
use Rattle.std.proofs.Common.{replicate, suc, zero, All, AllPairs, arith, refl, ◌∙◌, inl, inr}
use Rattle.std.proofs.lemmas.List.{length-replicate}
use Rattle.std.proofs.lemmas.Bool.{cases_lt}
use Rattle.bl_mem.specs.Memory.{overwrite}
use Rattle.bl_mem.proofs.Overwrites.{length-overwrite, get_or-overwrite_in, get_or-overwrite_below}
use Rattle.bl_mem.proofs.Overwrites.{get_or-overwrite_above, overwrite_more}
use Rattle.bl_load.specs.Handover.{Part, overwrite_parts}

-- zeros right after what was written
pub zeros_behind : (m content : List ℕ) (at count wide : ℕ) → length content ≡ count → count ≤ wide
    → at + wide ≤ length m
    → overwrite (overwrite m at content) (at + count) (replicate (at + wide - (at + count)) 0)
    ≡ overwrite m at (content ++ replicate (wide - count) 0)
zeros_behind m content at count wide is short inside =
    let left : at + wide - (at + count) ≡ wide - count = omega arith in
    rw left
    (overwrite_more m at content (replicate (wide - count) 0) (at + count) (omega arith)
    (rw length-replicate (omega arith)))

-- the part ends within memory of this size
abbrev pub EndsWithin : ℕ → Part → Type 0
EndsWithin size part = part.address + length part.bytes ≤ size

-- the second part begins after the first
abbrev pub IsBefore : Part → Part → Type 0
IsBefore p q = p.address + length p.bytes ≤ q.address

-- a is an address of the part
abbrev pub Has : Part → ℕ → Type 0
Has part a = (part.address ≤ a) × (a < part.address + length part.bytes)

size_kept : (size : ℕ) (m : List ℕ) (p : Part) → length m ≡ size → EndsWithin size p
    → length (overwrite m p.address p.bytes) ≡ size
size_kept size m p is ends = length-overwrite m p.address p.bytes (omega arith) ∙ is

other_kept : (size : ℕ) (m : List ℕ) (p : Part) (a : ℕ) → length m ≡ size → EndsWithin size p
    → (Has p a → ⊥) → get_or (overwrite m p.address p.bytes) a 0 ≡ get_or m a 0
other_kept size m p a is ends out =
    elim (cases_lt a p.address) [
      | inl below ↦ get_or-overwrite_below m p.address p.bytes a 0 below (omega arith)
      | inr at_least ↦
          get_or-overwrite_above m p.address p.bytes a 0
          (elim (cases_lt a (p.address + length p.bytes))
          [ inl within ↦ absurd (out (at_least, within)) | inr past ↦ past ]) (omega arith)
    ]

-- writing parts leaves the length
pub length-written : (size : ℕ) (parts : List Part) (m : List ℕ) → length m ≡ size
    → All (EndsWithin size) parts → length (overwrite_parts parts m) ≡ size
length-written size [] m is ends = is
length-written size (p ∷ ps) m is ends =
    length-written size ps _ (size_kept size m p is (ends 0 p (omega arith)))
    (λ k d h. ends (suc k) d (omega arith))

-- an address in no part keeps its byte
pub written_elsewhere : (size : ℕ) (parts : List Part) (m : List ℕ) (a : ℕ) → length m ≡ size
    → All (EndsWithin size) parts → All (λ p. Has p a → ⊥) parts
    → get_or (overwrite_parts parts m) a 0 ≡ get_or m a 0
written_elsewhere size [] m a is ends out = refl
written_elsewhere size (p ∷ ps) m a is ends out =
    let first = ends 0 p (omega arith) in
    written_elsewhere size ps _ a (size_kept size m p is first)
    (λ k d h. ends (suc k) d (omega arith)) (λ k d h. out (suc k) d (omega arith))
    ∙ other_kept size m p a is first (out 0 p (omega arith))

-- an address in a part has that part's byte
pub written_in : (size : ℕ) (parts : List Part) (m : List ℕ) (k a : ℕ) (d : Part) → length m ≡ size
    → All (EndsWithin size) parts → AllPairs IsBefore parts → k < length parts
    → Has (get_or parts k d) a
    → get_or (overwrite_parts parts m) a 0
    ≡ get_or (get_or parts k d).bytes (a - (get_or parts k d).address) 0
written_in size [] m k a d is ends before within has = absurd (omega arith)
written_in size (p ∷ ps) m zero a d is ends before within has =
    let first = ends 0 p (omega arith) in
    written_elsewhere size ps _ a (size_kept size m p is first)
    (λ k e h. ends (suc k) e (omega arith))
    (λ k e h. λ other. let b = before 0 (suc k) e (omega arith) (omega arith) in omega arith)
    ∙ get_or-overwrite_in m p.address p.bytes a 0 has.0 has.1 (omega arith)
written_in size (p ∷ ps) m (suc k) a d is ends before within has =
    written_in size ps _ k a d (size_kept size m p is (ends 0 p (omega arith)))
    (λ j e h. ends (suc j) e (omega arith))
    (λ i j e ij h. before (suc i) (suc j) e (omega arith) (omega arith)) (omega arith) has
