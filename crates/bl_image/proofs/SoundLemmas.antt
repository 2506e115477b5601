-- What is judged of a record, after those that came before it.
use Rattle.std.proofs.Common.{◌≡◌, ◌+◌, ◌-◌, ◌≤◌, ◌<◌, ◌^◌, ℕ, suc, List, [], ◌∷◌, ◌++◌, length}
use Rattle.std.proofs.Common.{All, sym, ap, ◌∙◌, arith, append_assoc}
use Rattle.std.specs.Prelude.{Bool}
use Rattle.std.proofs.lemmas.List.{append-nil}
use Rattle.std.proofs.lemmas.List.Elements.{All-append, All-cons, All-nil}
use Rattle.std.proofs.lemmas.List.Concat.{flat_map-cons}
use Rattle.std.proofs.lemmas.Grind.{flat_map-append}
use Rattle.std.specs.List.{flat_map}
use Rattle.bl_plan.specs.declared.part.Place.{Place}
use Rattle.bl_plan.proofs.OrderLemmas.{AreRelated, pairs_related, related_pairs}
use Rattle.bl_plan.specs.declared.protocol.Protocol.{Protocol}
use Rattle.bl_load.specs.declared.registers.Registers.{Registers}
use Rattle.bl_load.specs.HandoffFacts.{Ascends, IsWellFormedHandoff, IsRoleAllowed}
use Rattle.bl_load.specs.Protocols.{is_wide}
use Rattle.bl_load.specs.Registers.{are_wide}
use Rattle.bl_image.specs.Layouts.{max_role}
use Rattle.bl_image.specs.internal.PlaceRecords.{place_record, IsNext, AreSound, total_length}
use Rattle.bl_image.specs.internal.PlaceRecords.{PlaceFits}
use Rattle.bl_image.specs.ImageFaults.{FaultBehind, RecordsBefore, records_fault, no_records}
use Rattle.bl_image.proofs.RecordLemmas.{parts_step}

pub bytes_at-more : (ps : List Place) (p : Place) → total_length (ps ++ p ∷ []) ≡ total_length ps + p.length
bytes_at-more [] p = omega arith
bytes_at-more (q ∷ ps) p = omega (arith, bytes_at-more ps p)

pub came_more : (ps : List Place) (p : Place)
    → flat_map place_record (ps ++ p ∷ []) ≡ flat_map place_record ps ++ place_record p
came_more ps p =
    flat_map-append place_record ps (p ∷ [])
    ∙ ap (λ (l : List ℕ). flat_map place_record ps ++ l)
    (flat_map-cons place_record p [] ∙ append-nil (place_record p))

-- what the records so far say
abbrev pub so_far : ℕ → ℕ → List Place → RecordsBefore
so_far count end ps = record { count = count; end = end; bytes = total_length ps }

-- one more record came, and leaves the others to be judged
pub judged_more : (behind : FaultBehind) (wide : Bool) (count part : ℕ) (ps : List Place) (end : ℕ)
    (p : Place) → part < count → IsRoleAllowed wide p.role → IsNext end p
    → ((bytes : List ℕ)
    → records_fault behind (max_role wide) count no_records (flat_map place_record ps ++ bytes)
    ≡ records_fault behind (max_role wide) (count - part) (so_far part end ps) bytes)
    → (bytes : List ℕ)
    → records_fault behind (max_role wide) count no_records
    (flat_map place_record (ps ++ p ∷ []) ++ bytes)
    ≡ records_fault behind (max_role wide) (count - (part + 1))
    (so_far (part + 1) (p.address + p.length) (ps ++ p ∷ [])) bytes
judged_more behind wide count part ps end p inside may next judged bytes =
    let most = max_role wide in
    let left : count - part ≡ suc (count - (part + 1)) = omega arith in
    ap (λ (l : List ℕ). records_fault behind most count no_records (l ++ bytes)) (came_more ps p)
    ∙ ap (records_fault behind most count no_records)
    (append_assoc (flat_map place_record ps) (place_record p) bytes)
    ∙ judged (place_record p ++ bytes)
    ∙ ap (λ (n : ℕ). records_fault behind most n (so_far part end ps) (place_record p ++ bytes))
    left
    ∙ parts_step behind wide (count - (part + 1)) (so_far part end ps) p bytes may next
    ∙ ap
    (λ (n : ℕ).
    records_fault behind most (count - (part + 1))
    (record { count = part + 1; end = p.address + p.length; bytes = n }) bytes)
    (sym (bytes_at-more ps p))

related_more : {X : Type 0} (R : X → X → Type 0) (xs : List X) (y : X) → AreRelated R xs
    → All (λ x. R x y) xs → AreRelated R (xs ++ y ∷ [])
related_more R [] y h a = (All-nil (R y), tt)
related_more R (x ∷ xs) y h a = (
  All-append (R x) xs (y ∷ []) h.0 (All-cons (R x) y [] (a 0 y (omega arith)) (All-nil (R x))),
  related_more R xs y h.1 (λ k d within. a (suc k) d (omega arith)),
)

-- what holds of each place, and of one more
pub one_more : (P : Place → Type 0) (ps : List Place) (p : Place) → All P ps → P p
    → All P (ps ++ p ∷ [])
one_more P ps p all h = All-append P ps (p ∷ []) all (All-cons P p [] h (All-nil P))

pub none_sound : AreSound [] 0
none_sound = record {
  filled = All-nil _;
  below = All-nil _;
  upto = All-nil _;
  ascending = λ i j d ij within. absurd (omega arith);
  fit = All-nil _;
}

pub sound_more : (ps : List Place) (end : ℕ) (p : Place) → AreSound ps end → IsNext end p
    → AreSound (ps ++ p ∷ []) (p.address + p.length)
sound_more ps end p sound next =
    let above : end ≤ p.address = next.above in
    let below : p.address + p.length ≤ 2 ^ 32 = next.below in
    let behind : All (λ (q : Place). Ascends q p) ps =
    λ k d within. let upto = sound.upto k d within in omega arith in
    let old : All (λ (q : Place). q.address + q.length ≤ p.address + p.length) ps =
    λ k d within. let upto = sound.upto k d within in omega arith in
    record {
      filled = one_more (λ (q : Place). 1 ≤ q.length) ps p sound.filled next.filled;
      below = one_more (λ (q : Place). q.address + q.length ≤ 2 ^ 32) ps p sound.below next.below;
      upto =
          one_more (λ (q : Place). q.address + q.length ≤ p.address + p.length) ps p old
          (omega arith);
      ascending =
          related_pairs Ascends (ps ++ p ∷ [])
          (related_more Ascends ps p (pairs_related Ascends ps sound.ascending) behind);
      fit =
          one_more PlaceFits ps p sound.fit
          (record { index = next.index; address = omega arith; count = omega arith });
    }

-- up to 4 GiB
pub sound_low : (ps : List Place) (end : ℕ) → AreSound ps end → AreSound ps (2 ^ 32)
sound_low ps end sound = record {
  filled = sound.filled;
  below = sound.below;
  upto = sound.below;
  ascending = sound.ascending;
  fit = sound.fit;
}

-- at most 256 of them, of roles that may stand there, are what a handoff keeps
pub sound_kept : (protocol : Protocol) (registers : Registers) (ps : List Place) (end : ℕ)
    → are_wide registers ≡ is_wide protocol
    → All (λ (p : Place). IsRoleAllowed (is_wide protocol) p.role) ps
    → length ps ≤ 256 → AreSound ps end
    → IsWellFormedHandoff (record { protocol = protocol; registers = registers; places = ps })
sound_kept protocol registers ps end width roles few sound = record {
  width = width;
  roles = roles;
  few = few;
  filled = sound.filled;
  below = sound.below;
  ascending = sound.ascending;
}
