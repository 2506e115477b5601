-- What stands before the parts' bytes is read again: an image that begins so has these places.
use Rattle.std.proofs.Common.{◌≡◌, ◌∙◌, ◌<◌, ◌^◌, ℕ, zero, suc, List, [], ◌∷◌, ◌++◌, length, map}
use Rattle.std.proofs.Common.{All, Bool, Option, Some, None, refl, sym, ap, arith, append_assoc, ◌≤◌}
use Rattle.std.proofs.Common.{◌+◌, drop}
use Rattle.std.specs.Prelude.{replicate}
use Rattle.std.specs.List.{flat_map}
use Rattle.std.proofs.lemmas.List.{length-map}
use Rattle.std.proofs.lemmas.List.Elements.{All-tail}
use Rattle.std.proofs.lemmas.List.Concat.{flat_map-cons}
use Rattle.bl_plan.specs.declared.part.Place.{Place}
use Rattle.bl_plan.specs.declared.part.Role.{Role}
use Rattle.bl_plan.specs.declared.protocol.Protocol.{Protocol}
use Rattle.bl_plan.proofs.OrderLemmas.{AreRelated, pairs_related}
use Rattle.bl_load.specs.HandoffFacts.{Ascends, HandoffFacts, IsRoleAllowed}
use Rattle.bl_load.specs.Protocols.{is_wide}
use Rattle.bl_load.specs.Handover.{Part, Handover}
use Rattle.bl_load.specs.declared.registers.Registers.{Registers}
use Rattle.bl_image.specs.declared.version.Version.{Version}
use Rattle.bl_image.specs.Front.{FrontFacts, IsKeptFront, front_spelling}
use Rattle.bl_image.specs.Image.{head, part_record, record_of, spelling}
use Rattle.bl_image.specs.ImageFaults.{FaultBehind, RecordsBefore, fault_or, front_fault, head_fault}
use Rattle.bl_image.specs.ImageFaults.{image_fault, no_records, parts_behind, record_fault}
use Rattle.bl_image.specs.ImageFaults.{records_fault, with_record}
use Rattle.bl_image.specs.Layouts.{layout_of, max_role}
use Rattle.bl_image.specs.declared.fault.ImageFault.{ImageFault}
use Rattle.bl_mem.specs.LittleEndian.{u32_at, u64_at}
use Rattle.bl_image.specs.ImageHandover.{IsImage, handoff_of, part_place}
use Rattle.bl_image.specs.Spellable.{FitsRecord, IsSpellable}
use Rattle.bl_image.specs.internal.PlaceRecords.{place_record, IsNext}
use Rattle.bl_image.proofs.FrontLemmas.{head_leaves}
use Rattle.bl_image.proofs.ReadAgain.{AreAlike, IsAlike, heads_same, records_same}
use Rattle.bl_image.proofs.RecordLemmas.{parts_step}

abbrev zeros : ℕ → List ℕ
zeros n = replicate n 0

length-zeros : (n : ℕ) → length (zeros n) ≡ n
length-zeros zero = refl
length-zeros (suc n) = ap suc (length-zeros n)

-- a part at a place, whose bytes are zeros
abbrev part_at : Place → Part
part_at place = record {
  role = place.role;
  index = place.index;
  address = place.address;
  bytes = zeros place.length;
}

record_at : (place : Place) → part_record (part_at place) ≡ place_record place
record_at place =
    ap (λ (n : ℕ). record_of place.role place.index place.address n) (length-zeros place.length)

records_at : (places : List Place)
    → flat_map part_record (map part_at places) ≡ flat_map place_record places
records_at [] = refl
records_at (place ∷ places) =
    flat_map-cons part_record (part_at place) (map part_at places)
    ∙ ap (λ (l : List ℕ). l ++ flat_map part_record (map part_at places)) (record_at place)
    ∙ ap (λ (l : List ℕ). place_record place ++ l) (records_at places)
    ∙ sym (flat_map-cons place_record place places)

places_at : (places : List Place) → map part_place (map part_at places) ≡ places
places_at [] = refl
places_at (place ∷ places) =
    let made : ℕ → Place =
    λ n.
    record { role = place.role; index = place.index; address = place.address; length = n } in
    ap (λ (p : Place). p ∷ map part_place (map part_at places))
    (ap made (length-zeros place.length))
    ∙ ap (λ (l : List Place). place ∷ l) (places_at places)

place_same : (p q : Part) → IsAlike p q → part_place p ≡ part_place q
place_same p q a =
    let made : Role → ℕ → ℕ → ℕ → Place =
    λ role index address count.
    record { role = role; index = index; address = address; length = count } in
    ap (λ (role : Role). made role p.index p.address (length p.bytes)) a.role
    ∙ ap (λ (index : ℕ). made q.role index p.address (length p.bytes)) a.index
    ∙ ap (λ (address : ℕ). made q.role q.index address (length p.bytes)) a.address
    ∙ ap (λ (count : ℕ). made q.role q.index q.address count) a.count

places_same : (ps qs : List Part) → AreAlike ps qs → map part_place ps ≡ map part_place qs
places_same [] [] alike = refl
places_same [] (q ∷ qs) alike = absurd alike
places_same (p ∷ ps) [] alike = absurd alike
places_same (p ∷ ps) (q ∷ qs) alike =
    ap (λ (x : Place). x ∷ map part_place ps) (place_same p q alike.0)
    ∙ ap (λ (l : List Place). part_place q ∷ l) (places_same ps qs alike.1)

parts_fit : (places : List Place) → All (λ place. place.index < 2 ^ 32) places
    → All (λ place. place.address < 2 ^ 64) places → All (λ place. place.length < 2 ^ 64) places
    → All FitsRecord (map part_at places)
parts_fit [] hi ha hl k d within = absurd (omega arith)
parts_fit (place ∷ places) hi ha hl zero d within =
    let size = length-zeros place.length in
    let count = hl 0 place (omega arith) in
    record {
      index = hi 0 place (omega arith);
      address = ha 0 place (omega arith);
      count = omega (arith, size, count);
    }
parts_fit (place ∷ places) hi ha hl (suc k) d within =
    parts_fit places (λ j e inside. hi (suc j) e (omega arith))
    (λ j e inside. ha (suc j) e (omega arith)) (λ j e inside. hl (suc j) e (omega arith)) k d
    (omega arith)

-- a handover that begins so
abbrev handover_at : FrontFacts → Handover
handover_at front = record {
  protocol = front.handoff.protocol;
  registers = front.handoff.registers;
  parts = map part_at front.handoff.places;
}

fits : (front : FrontFacts) → IsKeptFront front → IsSpellable (handover_at front)
fits front kept =
    let places = front.handoff.places in
    let few = kept.handoff.few in
    let size = length-map places part_at in
    record {
      registers = (kept.handoff.width, kept.registers);
      count = omega (arith, few, size);
      parts =
          parts_fit places kept.indices
          (λ k d within. let below = kept.handoff.below k d within in omega (arith, below))
          (λ k d within. let below = kept.handoff.below k d within in omega (arith, below));
    }

-- it has this spelling
spelled_at : (front : FrontFacts) (rest : List ℕ)
    → front_spelling front ++ rest
    ≡ head front.version front.handoff.protocol front.handoff.registers
    (length (map part_at front.handoff.places))
    ++ (flat_map part_record (map part_at front.handoff.places) ++ rest)
spelled_at front rest =
    let places = front.handoff.places in
    let top : ℕ → List ℕ = head front.version front.handoff.protocol front.handoff.registers in
    append_assoc (top (length places)) (flat_map place_record places) rest
    ∙ ap (λ (l : List ℕ). top (length places) ++ (l ++ rest)) (sym (records_at places))
    ∙ ap (λ (n : ℕ). top n ++ (flat_map part_record (map part_at places) ++ rest))
    (sym (length-map places part_at))

handoff_same : (h k : HandoffFacts) → h.protocol ≡ k.protocol → h.registers ≡ k.registers
    → h.places ≡ k.places → h ≡ k
handoff_same h k protocol registers places =
    let made : Protocol → Registers → List Place → HandoffFacts =
    λ p r ps. record { protocol = p; registers = r; places = ps } in
    ap (λ (p : Protocol). made p h.registers h.places) protocol
    ∙ ap (λ (r : Registers). made k.protocol r h.places) registers
    ∙ ap (λ (ps : List Place). made k.protocol k.registers ps) places

pub front_is_read_again : (front : FrontFacts) (rest : List ℕ) (version : Version)
    (handover : Handover) → IsKeptFront front
    → IsImage version (front_spelling front ++ rest) handover
    → (version ≡ front.version) × (handoff_of handover ≡ front.handoff)
front_is_read_again front rest version handover kept is =
    let h = handover_at front in
    let sound = fits front kept in
    let one = is.kept.spellable in
    let top =
    heads_same front.version version h handover sound one _ _
    (sym (spelled_at front rest) ∙ is.is) in
    let below =
    records_same h.parts handover.parts sound.parts one.parts top.count _ _ top.rest in
    let places : map part_place handover.parts ≡ front.handoff.places =
    sym (places_same h.parts handover.parts below.0) ∙ places_at front.handoff.places in (
      sym top.version,
      handoff_same (handoff_of handover) front.handoff (sym top.protocol) (sym top.registers)
          places,
    )

-- ---- faults

later_too : (first later other : Option ImageFault) (fault : ImageFault)
    → (later ≡ Some fault → other ≡ Some fault) → fault_or first later ≡ Some fault
    → fault_or first other ≡ Some fault
later_too None later other fault same e = same e
later_too (Some one) later other fault same e = e

records_too : (behind : FaultBehind) (most n : ℕ) (before : RecordsBefore) (bytes : List ℕ)
    (fault : ImageFault) → records_fault (λ records rest. None) most n before bytes ≡ Some fault
    → records_fault behind most n before bytes ≡ Some fault
records_too behind most zero before bytes fault e = let none : None ≡ Some fault = e in absurd cc
records_too behind most (suc n) before bytes fault e =
    later_too (record_fault most before.count before.end bytes) _ _ fault
    (records_too behind most n (with_record before (u64_at bytes 8) (u64_at bytes 16))
    (drop 24 bytes) fault) e

-- the fault of what stands before the parts' bytes is the image's
pub front_fault_is : (bytes : List ℕ) (fault : ImageFault) → front_fault bytes ≡ Some fault
    → image_fault bytes ≡ Some fault
unfolding front_fault image_fault
front_fault_is bytes fault e =
    later_too (head_fault bytes) _ _ fault
    (records_too parts_behind (layout_of bytes).max_role
    (u32_at bytes (layout_of bytes).count_at) no_records (drop (layout_of bytes).records_at bytes)
    fault) e

-- what a place of a handoff is by itself
record IsSoundPlace (wide : Bool) (place : Place) : Type 0 where
  may : IsRoleAllowed wide place.role
  index : place.index < 2 ^ 32
  filled : 1 ≤ place.length
  below : place.address + place.length ≤ 2 ^ 32

places_pass : (wide : Bool) (places : List Place) (before : RecordsBefore) (x : List ℕ)
    → All (λ (p : Place). before.end ≤ p.address) places → AreRelated Ascends places
    → All (IsSoundPlace wide) places
    → records_fault (λ records rest. None) (max_role wide) (length places) before
    (flat_map place_record places ++ x)
    ≡ None
places_pass wide [] before x above related sound = refl
places_pass wide (place ∷ places) before x above related sound =
    let behind : FaultBehind = λ records rest. None in
    let here = sound 0 place (omega arith) in
    let next : IsNext before.end place =
    record {
      index = here.index;
      above = above 0 place (omega arith);
      filled = here.filled;
      below = here.below;
    } in
    let after : RecordsBefore = with_record before place.address place.length in
    let most = max_role wide in
    ap (λ (l : List ℕ). records_fault behind most (suc (length places)) before (l ++ x))
    (flat_map-cons place_record place places)
    ∙ ap (records_fault behind most (suc (length places)) before)
    (append_assoc (place_record place) (flat_map place_record places) x)
    ∙ parts_step behind wide (length places) before place (flat_map place_record places ++ x)
    here.may next
    ∙ places_pass wide places after x related.0 related.1
    (All-tail (IsSoundPlace wide) place places sound)

-- bytes that begin with what an image may have there have no fault there
pub front_sound : (front : FrontFacts) (rest : List ℕ) → IsKeptFront front
    → front_fault (front_spelling front ++ rest) ≡ None
unfolding front_fault
front_sound front rest kept =
    let h = front.handoff in
    let few = kept.handoff.few in
    ap front_fault
    (append_assoc (head front.version h.protocol h.registers (length h.places))
    (flat_map place_record h.places) rest)
    ∙ head_leaves (λ records more. None) front.version h.protocol h.registers (length h.places)
    (flat_map place_record h.places ++ rest) kept.has (kept.handoff.width, kept.registers)
    (omega (arith, few))
    ∙ places_pass (is_wide h.protocol) h.places no_records rest (λ k d within. omega arith)
    (pairs_related Ascends h.places kept.handoff.ascending)
    (λ k d within. record {
      may = kept.handoff.roles k d within;
      index = kept.indices k d within;
      filled = kept.handoff.filled k d within;
      below = kept.handoff.below k d within;
    })
