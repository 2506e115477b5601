-- The parts of an image and their places.
use Rattle.std.proofs.Common.{◌≡◌, ◌+◌, ◌≤◌, ◌<◌, ℕ, zero, suc, List, [], ◌∷◌, ◌++◌, length}
use Rattle.std.proofs.Common.{get_or, take, map, All, Some, refl, sym, ap, ◌∙◌, subst, arith}
use Rattle.std.proofs.Common.{append_assoc, length-append}
use Rattle.std.specs.Prelude.{◌==◌, false}
use Rattle.std.proofs.lemmas.List.{append-nil, length-map, map-append, take_more}
use Rattle.std.proofs.lemmas.List.Concat.{flat_map-cons}
use Rattle.std.proofs.lemmas.Grind.{flat_map-append}
use Rattle.std.proofs.lemmas.Bool.Decides.{nat_tests}
use Rattle.std.specs.List.{flat_map}
use Rattle.bl_plan.specs.declared.part.Place.{Place}
use Rattle.bl_plan.specs.declared.protocol.Protocol.{Protocol}
use Rattle.bl_plan.proofs.OrderLemmas.{AreRelated}
use Rattle.bl_load.specs.declared.registers.Registers.{Registers}
use Rattle.bl_load.specs.Handover.{Part, Handover}
use Rattle.bl_load.specs.HandoffFacts.{Ascends, IsWellFormedHandoff}
use Rattle.bl_load.specs.PlanContents.{part_in, handover_in}
use Rattle.bl_image.specs.declared.fault.ImageFault.{ImageFault}
use Rattle.bl_image.specs.declared.fault.ImageFault.TheVariants.{WrongLength}
use Rattle.bl_image.specs.declared.version.Version.{Version}
use Rattle.bl_image.specs.Front.{front_of}
use Rattle.bl_image.specs.Image.{head, part_record, spelling}
use Rattle.bl_image.specs.internal.PlaceRecords.{place_record, total_length, PlaceFits, image_front}
use Rattle.bl_image.specs.internal.PlaceRecords.{AreSpellable}
use Rattle.bl_image.specs.ImageFaults.{end_fault}
use Rattle.bl_image.specs.ImageHandover.{part_place, handoff_of, PartAscends, IsKeptByImages}
use Rattle.bl_image.specs.SourceFacts.{SourceFacts, Comes}
use Rattle.bl_image.specs.internal.SourceReading.{IsCut}
use Rattle.bl_image.specs.Spellable.{FitsRecord, AreFit}
use Rattle.bl_image.specs.Versions.{written_version}
use Rattle.bl_image.proofs.FieldLemmas.{cut_behind}
use Rattle.bl_image.proofs.Spelled.{EndsIn, length-place_bytes}

abbrev pub all_bytes : List Part → List ℕ
all_bytes parts = flat_map (λ (part : Part). part.bytes) parts

bytes_at-take : (ps : List Place) (i : ℕ) (d : Place) → i < length ps
    → total_length (take i ps) + (get_or ps i d).length ≤ total_length ps
bytes_at-take [] i d h = absurd (omega arith)
bytes_at-take (p ∷ ps) zero d h = omega arith
bytes_at-take (p ∷ ps) (suc i) d h = omega (arith, bytes_at-take ps i d (omega arith))

pub parts_size : (parts : List Part) → length (all_bytes parts) ≡ total_length (map part_place parts)
parts_size [] = refl
parts_size (part ∷ parts) =
    omega (arith, length-append part.bytes (all_bytes parts), parts_size parts)

-- the input ended inside a part
pub part_cut : (ps : List Place) (parts : List Part) (i : ℕ) (d : Place) {old mid : SourceFacts}
    → map part_place parts ≡ take i ps → i < length ps → Comes old mid (all_bytes parts)
    → (new : SourceFacts) (fault : ImageFault) → IsCut mid new (get_or ps i d).length fault
    → IsCut old new (total_length ps) fault
part_cut ps parts i d are inside comes new fault cut =
    let size : length (all_bytes parts) ≡ total_length (take i ps) =
    parts_size parts ∙ ap total_length are in
    let within = bytes_at-take ps i d inside in
    cut_behind (get_or ps i d).length (total_length ps) comes (omega arith) new fault cut

pub places_more : (ps : List Place) (parts : List Part) (i : ℕ) (d : Place) (part : Part)
    → map part_place parts ≡ take i ps → i < length ps → part_place part ≡ get_or ps i d
    → map part_place (parts ++ part ∷ []) ≡ take (i + 1) ps
places_more ps parts i d part are inside is =
    map-append part_place parts (part ∷ [])
    ∙ ap (λ (l : List Place). l ++ part_place part ∷ []) are
    ∙ ap (λ (p : Place). take i ps ++ p ∷ []) is
    ∙ sym (take_more ps i d inside)

pub bytes_more : (parts : List Part) (part : Part)
    → all_bytes (parts ++ part ∷ []) ≡ all_bytes parts ++ part.bytes
bytes_more parts part =
    flat_map-append (λ (p : Part). p.bytes) parts (part ∷ [])
    ∙ ap (λ (l : List ℕ). all_bytes parts ++ l)
    (flat_map-cons (λ (p : Part). p.bytes) part [] ∙ append-nil part.bytes)

records_at : (parts : List Part)
    → flat_map place_record (map part_place parts) ≡ flat_map part_record parts
records_at [] = refl
records_at (part ∷ parts) =
    flat_map-cons place_record (part_place part) (map part_place parts)
    ∙ ap (λ (l : List ℕ). part_record part ++ l) (records_at parts)
    ∙ sym (flat_map-cons part_record part parts)

-- what stands before the parts' bytes depends on their places alone
pub front_by_places : (h : Handover) → front_of written_version h
    ≡ image_front h.protocol h.registers (map part_place h.parts)
front_by_places h =
    ap
    (λ (n : ℕ).
    head written_version h.protocol h.registers n ++ flat_map part_record h.parts)
    (sym (length-map h.parts part_place))
    ∙ ap
    (λ (l : List ℕ).
    head written_version h.protocol h.registers (length (map part_place h.parts)) ++ l)
    (sym (records_at h.parts))

-- head, records, parts, and nothing: an image
pub spelled_by : (version : Version) (protocol : Protocol) (registers : Registers) (count : ℕ)
    (ps : List Place) (parts : List Part) → map part_place parts ≡ ps → length ps ≡ count
    → ((head version protocol registers count ++ flat_map place_record ps) ++ all_bytes parts) ++ []
    ≡ spelling version (record { protocol = protocol; registers = registers; parts = parts })
spelled_by version protocol registers count ps parts are size =
    append-nil
    ((head version protocol registers count ++ flat_map place_record ps) ++ all_bytes parts)
    ∙ append_assoc (head version protocol registers count) (flat_map place_record ps)
    (all_bytes parts)
    ∙ ap (λ (l : List ℕ). head version protocol registers count ++ (l ++ all_bytes parts))
    (ap (flat_map place_record) (sym are) ∙ records_at parts)
    ∙ ap
    (λ (n : ℕ).
    head version protocol registers n ++ (flat_map part_record parts ++ all_bytes parts))
    (sym size ∙ ap length (sym are) ∙ length-map parts part_place)

pub all_under : (P : Place → Type 0) (parts : List Part) → All P (map part_place parts)
    → All (λ (part : Part). P (part_place part)) parts
all_under P [] h k d within = absurd (omega arith)
all_under P (part ∷ parts) h zero d within = h 0 (part_place part) (omega arith)
all_under P (part ∷ parts) h (suc k) d within =
    all_under P parts (λ j e inside. h (suc j) e (omega arith)) k d (omega arith)

pub related_under : (parts : List Part) → AreRelated Ascends (map part_place parts)
    → AreRelated PartAscends parts
related_under [] h = tt
related_under (part ∷ parts) h =
    (all_under (Ascends (part_place part)) parts h.0, related_under parts h.1)

parts_fit : (parts : List Part) → All PlaceFits (map part_place parts) → All FitsRecord parts
parts_fit parts h k d within =
    let fits =
    all_under PlaceFits parts h k d within in
    record { index = fits.index; address = fits.address; count = fits.count }

-- parts at the places of a handoff are what a handoff keeps
pub parts_kept : (protocol : Protocol) (registers : Registers) (ps : List Place)
    (parts : List Part) → map part_place parts ≡ ps
    → IsWellFormedHandoff (record { protocol = protocol; registers = registers; places = ps })
    → IsWellFormedHandoff
    (handoff_of (record { protocol = protocol; registers = registers; parts = parts }))
parts_kept protocol registers ps parts are kept =
    subst
    (λ (l : List Place).
    IsWellFormedHandoff (record { protocol = protocol; registers = registers; places = l })) (sym are)
    kept

pub image_kept : (protocol : Protocol) (registers : Registers) (ps : List Place)
    (parts : List Part) → map part_place parts ≡ ps
    → IsWellFormedHandoff (record { protocol = protocol; registers = registers; places = ps })
    → All PlaceFits ps
    → AreFit registers
    → IsKeptByImages (record { protocol = protocol; registers = registers; parts = parts })
image_kept protocol registers ps parts are kept fit registers_fit =
    let few : length ps ≤ 256 = kept.few in
    let same = length-map parts part_place in
    let size = ap length are in
    record {
      handoff = parts_kept protocol registers ps parts are kept;
      spellable =
          record {
            registers = (kept.width, registers_fit);
            count = omega arith;
            parts = parts_fit parts (subst (All PlaceFits) (sym are) fit);
          };
    }

-- the parts that memory has at places are there
places_in : (bytes : List ℕ) (ps : List Place) → All (EndsIn bytes) ps
    → map part_place (map (part_in bytes) ps) ≡ ps
places_in bytes [] h = refl
places_in bytes (p ∷ ps) h =
    let size = length-place_bytes bytes p (h 0 p (omega arith)) in
    let made : ℕ → Place =
    λ n. record { role = p.role; index = p.index; address = p.address; length = n } in
    ap (λ (q : Place). q ∷ map part_place (map (part_in bytes) ps)) (ap made size)
    ∙ ap (λ (l : List Place). p ∷ l) (places_in bytes ps (λ k d within. h (suc k) d (omega arith)))

pub memory_kept : (bytes : List ℕ) (protocol : Protocol) (r : Registers) (ps : List Place)
    → All (EndsIn bytes) ps
    → IsWellFormedHandoff (record { protocol = protocol; registers = r; places = ps })
    → IsWellFormedHandoff (handoff_of (handover_in bytes protocol r ps))
memory_kept bytes protocol r ps inside kept =
    parts_kept protocol r ps (map (part_in bytes) ps) (places_in bytes ps inside) kept

pub parts_in-more : (bytes : List ℕ) (ps : List Place) (i : ℕ) (p : Place) → p ≡ get_or ps i p
    → i < length ps
    → map (part_in bytes) (take i ps) ++ part_in bytes p ∷ []
    ≡ map (part_in bytes) (take (i + 1) ps)
parts_in-more bytes ps i p is inside =
    ap (λ (q : Place). map (part_in bytes) (take i ps) ++ part_in bytes q ∷ []) is
    ∙ sym (map-append (part_in bytes) (take i ps) (get_or ps i p ∷ []))
    ∙ ap (map (part_in bytes)) (sym (take_more ps i p inside))

-- too few bytes
pub end_short : (count : ℕ) (bytes : List ℕ) → length bytes < count
    → end_fault count bytes ≡ Some WrongLength
end_short count bytes short =
    let e : (length bytes == count) ≡ false = grind (arith, nat_tests) in rw e refl

same_test : (a b c d : ℕ) → (a ≡ b → c ≡ d) → (c ≡ d → a ≡ b) → (a == b) ≡ (c == d)
same_test a b c d to from = grind (arith, nat_tests)

-- the parts' bytes, and what follows
pub end_more : (count : ℕ) (a x : List ℕ) → length a ≡ count
    → end_fault count (a ++ x) ≡ end_fault 0 x
end_more count a x size =
    let longer = length-append a x in
    let e : (length (a ++ x) == count) ≡ (length x == 0) =
    same_test (length (a ++ x)) count (length x) 0 (λ h. omega arith) (λ h. omega arith) in
    rw e refl

-- the image of what an image says, with what stands before the bytes as one piece
pub value_in : (version : Version) (h : Handover)
    → spelling version h
    ≡ (head version h.protocol h.registers (length (map part_place h.parts))
    ++ flat_map place_record (map part_place h.parts)) ++ all_bytes h.parts
value_in version h =
    let ps = map part_place h.parts in
    sym (spelled_by version h.protocol h.registers (length ps) ps h.parts refl refl)
    ∙ append-nil
    ((head version h.protocol h.registers (length ps) ++ flat_map place_record ps)
    ++ all_bytes h.parts)

-- what an image says is what images keep, where its places fit
pub value_kept : (h : Handover) → AreSpellable h.registers (map part_place h.parts)
    → IsWellFormedHandoff (handoff_of h) → IsKeptByImages h
value_kept h fit kept =
    image_kept h.protocol h.registers (map part_place h.parts) h.parts refl kept fit.places
    fit.registers
