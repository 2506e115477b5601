-- The digests along an image are those of the handover.
use Rattle.std.proofs.Common.{◌≡◌, ℕ, ◌+◌, ◌<◌, ◌≤◌, List, [], ◌∷◌, ◌++◌, length}
use Rattle.std.proofs.Common.{get_or, take, drop, map, arith, refl, sym, ap, ◌∙◌}
use Rattle.std.proofs.Common.{append_assoc, length-append, length-take, length-drop, subst}
use Rattle.std.proofs.lemmas.List.{take_at, drop_at, take-append-drop, nil_from_length}
use Rattle.std.proofs.lemmas.List.Concat.{flat_map-cons}
use Rattle.std.proofs.lemmas.List.Folds.{length-flat_map-take}
use Rattle.std.specs.List.{flat_map}
use Rattle.sha2.specs.Sha256.{sha256}
use Rattle.bl_plan.specs.declared.part.Place.{Place}
use Rattle.bl_plan.specs.declared.protocol.Protocol.{Protocol}
use Rattle.bl_load.specs.declared.registers.Registers.{Registers}
use Rattle.bl_load.specs.Handover.{Part, Handover, placed_part}
use Rattle.bl_image.specs.Front.{front_of}
use Rattle.bl_image.specs.Image.{head, part_record, spelling}
use Rattle.bl_image.specs.ImageHandover.{part_place, handoff_of}
use Rattle.bl_image.specs.Versions.{written_version}
use Rattle.bl_image.specs.declared.version.Version.{Version}
use Rattle.bl_digest.specs.declared.part_digest.PartDigest.{PartDigest}
use Rattle.bl_digest.specs.Digests.{digests_of, part_digest}
use Rattle.bl_digest.specs.DigestsFacts.{DigestsFacts}
use Rattle.bl_digest.specs.PlanInSteps.{parts_along}
use Rattle.bl_digest.specs.Tables.{AreDigestsOf, IsTableOf}
use Rattle.bl_digest.specs.internal.Hashing.{total_of, part_digests, digests_along}

abbrev pub bytes_of_parts : List Part → List ℕ
bytes_of_parts parts = flat_map (λ (part : Part). part.bytes) parts

-- an image is its front and the parts' bytes
pub split : (version : Version) (h : Handover)
    → spelling version h ≡ front_of version h ++ bytes_of_parts h.parts
split version h =
    sym
    (append_assoc (head version h.protocol h.registers (length h.parts)) (flat_map part_record h.parts)
    (bytes_of_parts h.parts))

-- the digests of an image and of its front, with these rows
abbrev digests_with : List ℕ → List ℕ → List PartDigest → DigestsFacts
digests_with image front rows = record {
  image = record {
    length = length image;
    sha256 = sha256 image;
    front_length = length front;
    front_sha256 = sha256 front;
  };
  parts = rows;
}

-- the digests of parts, taken from all parts' bytes
pub digests_taken : (parts : List Part)
    → part_digests (map part_place parts) (bytes_of_parts parts) ≡ map part_digest parts
digests_taken [] = refl
digests_taken (part ∷ parts) =
    let rest : List ℕ = bytes_of_parts parts in
    let places : List Place = map part_place (part ∷ parts) in
    let size : ℕ = length part.bytes in
    ap (part_digests places) (flat_map-cons (λ (p : Part). p.bytes) part parts)
    ∙ ap
    (λ (l : List ℕ).
    record { place = part_place part; sha256 = sha256 l }
    ∷ part_digests (map part_place parts) (drop size (part.bytes ++ rest)))
    (take_at part.bytes rest size refl)
    ∙ ap (λ (l : List ℕ). part_digest part ∷ part_digests (map part_place parts) l)
    (drop_at part.bytes rest size refl)
    ∙ ap (λ (l : List PartDigest). part_digest part ∷ l) (digests_taken parts)

pub total_taken : (parts : List Part)
    → length (bytes_of_parts parts) ≡ total_of (map part_place parts)
total_taken [] = refl
total_taken (part ∷ parts) =
    omega (arith, length-append part.bytes (bytes_of_parts parts), total_taken parts)

same_digests : (image image' front front' : List ℕ) (rows rows' : List PartDigest)
    → image ≡ image' → front ≡ front' → rows ≡ rows'
    → digests_with image front rows ≡ digests_with image' front' rows'
same_digests image image' front front' rows rows' image_is front_is rows_are =
    ap (λ (l : List ℕ). digests_with l front rows) image_is
    ∙ ap (λ (l : List ℕ). digests_with image' l rows) front_is
    ∙ ap (λ (l : List PartDigest). digests_with image' front' l) rows_are

-- the digests along a handover's front and its parts' bytes are the handover's
pub digests_are : (h : Handover) (front : List ℕ) (places : List Place) (taken : List ℕ)
    → front ≡ front_of written_version h → places ≡ map part_place h.parts
    → taken ≡ bytes_of_parts h.parts
    → digests_along (record { front = front; places = places; taken = taken }) ≡ digests_of h
digests_are h front places taken front_is places_are taken_is =
    let whole : front ++ taken ≡ spelling written_version h =
    ap (λ (l : List ℕ). l ++ taken) front_is
    ∙ ap (λ (l : List ℕ). front_of written_version h ++ l) taken_is
    ∙ sym (split written_version h) in
    let rows : part_digests places taken ≡ map part_digest h.parts =
    ap (λ (l : List Place). part_digests l taken) places_are
    ∙ ap (part_digests (map part_place h.parts)) taken_is
    ∙ digests_taken h.parts in
    same_digests (front ++ taken) (spelling written_version h) front (front_of written_version h)
    (part_digests places taken) (map part_digest h.parts) whole front_is rows

-- a part's bytes are among all parts' bytes
pub parts_within : (parts : List Part) (i : ℕ) (d : Part) → i < length parts
    → length (bytes_of_parts (take i parts)) + length (get_or parts i d).bytes
    ≤ total_of (map part_place parts)
parts_within parts i d inside =
    let within = length-flat_map-take (λ (part : Part). part.bytes) parts i d inside in
    omega (arith, within, total_taken parts)

-- what a handoff of a handover says, by its protocol and registers
pub handed : (h : Handover) (protocol : Protocol) (registers : Registers) → protocol ≡ h.protocol
    → registers ≡ h.registers
    → handoff_of h
    ≡ record { protocol = protocol; registers = registers; places = map part_place h.parts }
handed h protocol registers protocol_is registers_are =
    ap
    (λ (p : Protocol).
    record { protocol = p; registers = h.registers; places = map part_place h.parts })
    (sym protocol_is)
    ∙ ap
    (λ (r : Registers).
    record { protocol = protocol; registers = r; places = map part_place h.parts })
    (sym registers_are)

-- ---- parts along their places

-- bytes that are as many as the places want
pub along_places : (places : List Place) (bytes : List ℕ) → length bytes ≡ total_of places
    → map part_place (parts_along places bytes) ≡ places
along_places [] bytes all = refl
along_places (place ∷ places) bytes all =
    let size : length (take place.length bytes) ≡ place.length =
    length-take place.length bytes ∙ omega arith in
    let rest : length (drop place.length bytes) ≡ total_of places =
    length-drop place.length bytes ∙ omega arith in
    ap
    (λ (n : ℕ).
    record { role = place.role; index = place.index; address = place.address; length = n }
    ∷ map part_place (parts_along places (drop place.length bytes)))
    size
    ∙ ap (λ (l : List Place). place ∷ l) (along_places places (drop place.length bytes) rest)

pub along_bytes : (places : List Place) (bytes : List ℕ) → length bytes ≡ total_of places
    → bytes_of_parts (parts_along places bytes) ≡ bytes
along_bytes [] bytes all = sym (nil_from_length bytes all)
along_bytes (place ∷ places) bytes all =
    let this : List ℕ = take place.length bytes in
    let rest : length (drop place.length bytes) ≡ total_of places =
    length-drop place.length bytes ∙ omega arith in
    flat_map-cons (λ (p : Part). p.bytes) (placed_part place this)
    (parts_along places (drop place.length bytes))
    ∙ ap (λ (l : List ℕ). this ++ l) (along_bytes places (drop place.length bytes) rest)
    ∙ take-append-drop place.length bytes

-- ---- what a table tells

table_parts : (parts : List Part) → AreDigestsOf (bytes_of_parts parts) (map part_digest parts)
table_parts [] = refl
table_parts (part ∷ parts) =
    let rest : List ℕ = bytes_of_parts parts in
    let size : ℕ = length part.bytes in
    let behind : drop size (part.bytes ++ rest) ≡ rest = drop_at part.bytes rest size refl in (
      omega (arith, length-append part.bytes rest),
      ap sha256 (sym (take_at part.bytes rest size refl)),
      subst (λ (l : List ℕ). AreDigestsOf l (map part_digest parts)) (sym behind)
          (table_parts parts),
    )

pub table_of : (h : Handover) → IsTableOf (spelling written_version h) (digests_of h)
table_of h =
    let front : List ℕ = front_of written_version h in
    let bytes : List ℕ = bytes_of_parts h.parts in
    let whole : spelling written_version h ≡ front ++ bytes = split written_version h in
    let count : length (spelling written_version h) ≡ length front + length bytes =
    ap length whole ∙ length-append front bytes in
    record {
      image_length = refl;
      image = refl;
      front_length = omega (arith, count);
      front =
          ap sha256
          (sym (ap (take (length front)) whole ∙ take_at front bytes (length front) refl));
      parts =
          subst (λ (l : List ℕ). AreDigestsOf l (map part_digest h.parts))
          (sym (ap (drop (length front)) whole ∙ drop_at front bytes (length front) refl))
          (table_parts h.parts);
    }
