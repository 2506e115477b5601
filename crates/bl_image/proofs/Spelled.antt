-- The image of what memory hands over, place by place.
use Rattle.std.proofs.Common.{◌≡◌, ◌<◌, ◌≤◌, ◌+◌, ◌*◌, ℕ, List, [], ◌∷◌, ◌++◌, length, get_or, take}
use Rattle.std.proofs.Common.{drop, map, slice_range, All, arith, rules, refl, sym, ap, ◌∙◌}
use Rattle.std.proofs.Common.{append_assoc}
use Rattle.std.proofs.lemmas.List.{places, length-map, at_drop_more, take_more, append-nil}
use Rattle.std.proofs.lemmas.List.Elements.{All-tail}
use Rattle.std.proofs.lemmas.List.Concat.{flat_map-cons}
use Rattle.std.proofs.lemmas.Grind.{flat_map-append}
use Rattle.std.proofs.Math.Seq.{take-length}
use Rattle.std.specs.List.{flat_map}
use Rattle.bl_mem.proofs.Overwrites.{range_more}
use Rattle.bl_plan.specs.declared.part.Place.{Place}
use Rattle.bl_plan.specs.declared.protocol.Protocol.{Protocol}
use Rattle.bl_load.specs.declared.registers.Registers.{Registers}
use Rattle.bl_load.specs.Handover.{Part}
use Rattle.bl_load.specs.PlanContents.{part_in, handover_in}
use Rattle.bl_image.specs.declared.version.Version.{Version}
use Rattle.bl_image.specs.Image.{head, record_of, part_record, spelling}
use Rattle.bl_image.specs.internal.PlaceRecords.{place_record, place_bytes}

-- the place ends inside memory
abbrev pub EndsIn : List ℕ → Place → Type 0
EndsIn bytes place = place.address + place.length ≤ length bytes

-- memory has as many bytes at a place as the place has
pub length-place_bytes : (bytes : List ℕ) (place : Place) → EndsIn bytes place
    → length (place_bytes bytes place) ≡ place.length
length-place_bytes bytes place h = search (rules, places)

records_in : (bytes : List ℕ) (ps : List Place) → All (EndsIn bytes) ps
    → flat_map place_record ps ≡ flat_map part_record (map (part_in bytes) ps)
records_in bytes [] h = refl
records_in bytes (p ∷ ps) h =
    flat_map-cons place_record p ps
    ∙ ap (λ (n : ℕ). record_of p.role p.index p.address n ++ flat_map place_record ps)
    (sym (length-place_bytes bytes p (h 0 p (omega arith))))
    ∙ ap (λ (l : List ℕ). part_record (part_in bytes p) ++ l)
    (records_in bytes ps (All-tail (EndsIn bytes) p ps h))
    ∙ sym (flat_map-cons part_record (part_in bytes p) (map (part_in bytes) ps))

bytes_in : (bytes : List ℕ) (ps : List Place)
    → flat_map (place_bytes bytes) ps
    ≡ flat_map (λ (part : Part). part.bytes) (map (part_in bytes) ps)
bytes_in bytes [] = refl
bytes_in bytes (p ∷ ps) =
    flat_map-cons (place_bytes bytes) p ps
    ∙ ap (λ (l : List ℕ). place_bytes bytes p ++ l) (bytes_in bytes ps)
    ∙ sym (flat_map-cons (λ (part : Part). part.bytes) (part_in bytes p) (map (part_in bytes) ps))

-- head, records and bytes of these places are the image
spelling_in : (version : Version) (bytes : List ℕ) (protocol : Protocol) (r : Registers) (ps : List Place)
    → All (EndsIn bytes) ps
    → spelling version (handover_in bytes protocol r ps)
    ≡ head version protocol r (length ps)
    ++ (flat_map place_record ps ++ flat_map (place_bytes bytes) ps)
spelling_in version bytes protocol r ps h =
    ap (λ (n : ℕ).
    head version protocol r n
    ++ (flat_map part_record (map (part_in bytes) ps)
    ++ flat_map (λ (part : Part). part.bytes) (map (part_in bytes) ps)))
    (length-map ps (part_in bytes))
    ∙ ap
    (λ (l : List ℕ).
    head version protocol r (length ps)
    ++ (l ++ flat_map (λ (part : Part). part.bytes) (map (part_in bytes) ps)))
    (sym (records_in bytes ps h))
    ∙ ap (λ (l : List ℕ). head version protocol r (length ps) ++ (flat_map place_record ps ++ l))
    (sym (bytes_in bytes ps))

-- with what stands before the bytes as one piece
pub image_in : (version : Version) (bytes : List ℕ) (protocol : Protocol) (r : Registers) (ps : List Place)
    → All (EndsIn bytes) ps
    → spelling version (handover_in bytes protocol r ps)
    ≡ (head version protocol r (length ps) ++ flat_map place_record ps)
    ++ flat_map (place_bytes bytes) ps
image_in version bytes protocol r ps h =
    spelling_in version bytes protocol r ps h
    ∙ sym
    (append_assoc (head version protocol r (length ps)) (flat_map place_record ps)
    (flat_map (place_bytes bytes) ps))

-- the first of what is left
pub flat_map-drop : {X : Type 0} (f : X → List ℕ) (xs : List X) (k : ℕ) (x : X) → x ≡ get_or xs k x
    → k < length xs
    → flat_map f (drop k xs) ≡ f x ++ flat_map f (drop (k + 1) xs)
flat_map-drop {X = X} f xs k x e h =
    at_drop_more (flat_map f) xs k x h
    ∙ flat_map-cons f (get_or xs k x) (drop (k + 1) xs)
    ∙ ap (λ (y : X). f y ++ flat_map f (drop (k + 1) xs)) (sym e)

pub flat_map-take : {X : Type 0} (f : X → List ℕ) (xs : List X) (k : ℕ) (x : X) → x ≡ get_or xs k x
    → k < length xs
    → flat_map f (take (k + 1) xs) ≡ flat_map f (take k xs) ++ f x
flat_map-take {X = X} f xs k x e h =
    ap (flat_map f) (take_more xs k x h)
    ∙ flat_map-append f (take k xs) (get_or xs k x ∷ [])
    ∙ ap (λ (l : List ℕ). flat_map f (take k xs) ++ l)
    (flat_map-cons f (get_or xs k x) [] ∙ append-nil (f (get_or xs k x)) ∙ ap f (sym e))

-- a buffer that begins with a front and the records of the first places, and one more record after
-- them
pub records_more : (front old new : List ℕ) (ps : List Place) (i : ℕ) (p : Place)
    → p ≡ get_or ps i p → i < length ps
    → take (272 + 24 * i) old ≡ front ++ flat_map place_record (take i ps)
    → take (272 + 24 * i + 24) new ≡ take (272 + 24 * i) old ++ place_record p
    → take (272 + 24 * (i + 1)) new ≡ front ++ flat_map place_record (take (i + 1) ps)
records_more front old new ps i p e h before step =
    ap (λ (n : ℕ). take n new) (omega arith)
    ∙ step
    ∙ ap (λ (l : List ℕ). l ++ place_record p) before
    ∙ append_assoc front (flat_map place_record (take i ps)) (place_record p)
    ∙ ap (λ (l : List ℕ). front ++ l) (sym (flat_map-take place_record ps i p e h))

-- and with all records
pub records_all : (front buffer : List ℕ) (ps : List Place) (i n : ℕ) → i ≡ n → n ≡ length ps
    → take (272 + 24 * i) buffer ≡ front ++ flat_map place_record (take i ps)
    → take (272 + 24 * n) buffer ≡ front ++ flat_map place_record ps
records_all front buffer ps i n at all before =
    ap (λ (k : ℕ). take (272 + 24 * k) buffer) (sym at)
    ∙ before
    ∙ ap (λ (k : ℕ). front ++ flat_map place_record (take k ps)) (at ∙ all)
    ∙ ap (λ (l : List Place). front ++ flat_map place_record l) (take-length ps)

-- the bytes at a place, from done on
pub range-more : (bytes : List ℕ) (at done next count : ℕ) → done + next ≤ count
    → at + count ≤ length bytes
    → slice_range bytes (at + done) (at + count)
    ≡ slice_range bytes (at + done) (at + done + next)
    ++ slice_range bytes (at + (done + next)) (at + count)
range-more bytes at done next count h inside =
    sym
    (range_more bytes (at + done) (at + done + next) (at + count) (omega arith) (omega arith)
    inside)
    ∙ ap
    (λ (n : ℕ).
    slice_range bytes (at + done) (at + done + next) ++ slice_range bytes n (at + count))
    (omega arith)
