-- How many bytes an image has.
use Rattle.std.proofs.Common.{◌≡◌, ◌<◌, ◌≤◌, ◌+◌, ◌^◌, ℕ, List, [], ◌∷◌, ◌++◌, length, get_or}
use Rattle.std.proofs.Common.{take, All, subst, arith, refl, sym, ap, ◌∙◌, length-append}
use Rattle.std.specs.List.{flat_map}
use Rattle.std.proofs.lemmas.List.{take_more}
use Rattle.std.proofs.lemmas.List.Elements.{All-tail}
use Rattle.std.proofs.lemmas.List.Concat.{flat_map-cons}
use Rattle.bl_mem.specs.LittleEndian.{u32_bytes, u64_bytes}
use Rattle.bl_plan.specs.declared.part.Place.{Place}
use Rattle.bl_plan.specs.declared.protocol.Protocol.{Protocol}
use Rattle.bl_load.specs.declared.registers.Registers.{Registers}
use Rattle.bl_load.specs.declared.registers.Registers.TheVariants.{Bits32, Bits64}
use Rattle.bl_load.specs.PlanContents.{handover_in}
use Rattle.bl_image.specs.Image.{head, spelling}
use Rattle.bl_image.specs.ImageLength.{image_length}
use Rattle.bl_image.specs.internal.PlaceRecords.{place_record, place_bytes}
use Rattle.bl_image.specs.Versions.{written_version}
use Rattle.bl_image.proofs.Spelled.{EndsIn, length-place_bytes, image_in}

-- one place more
image_length-more : (ps : List Place) (p : Place)
    → image_length (ps ++ p ∷ []) ≡ image_length ps + (24 + p.length)
image_length-more [] p = omega arith
image_length-more (q ∷ ps) p = omega (arith, image_length-more ps p)

pub one_more : (ps : List Place) (i : ℕ) (p : Place) → p ≡ get_or ps i p → i < length ps
    → image_length (take (i + 1) ps) ≡ image_length (take i ps) + (24 + p.length)
one_more ps i p e h =
    ap image_length (take_more ps i p h)
    ∙ ap (λ (q : Place). image_length (take i ps ++ q ∷ [])) (sym e)
    ∙ image_length-more (take i ps) p

-- a handoff's place has at most 4 GiB
pub short_at : (ps : List Place) → All (λ p. p.address + p.length ≤ 2 ^ 32) ps
    → (i : ℕ) (p : Place) → p ≡ get_or ps i p → i < length ps → p.length ≤ 2 ^ 32
short_at ps below i p e h =
    let at : (get_or ps i p).address + (get_or ps i p).length ≤ 2 ^ 32 = below i p h in
    subst (λ (q : Place). q.length ≤ 2 ^ 32) (sym e) (omega arith)

-- the head has 272 bytes, and a record 24
head_size : (p : Protocol) (r : Registers) (n : ℕ) → length (head written_version p r n) ≡ 272
unfolding u32_bytes u64_bytes
head_size p (Bits32 r) n = refl
head_size p (Bits64 r) n = refl

record_size : (p : Place) → length (place_record p) ≡ 24
unfolding u32_bytes u64_bytes
record_size p = refl

records_longer : (p : Place) (ps : List Place)
    → length (flat_map place_record (p ∷ ps)) ≡ 24 + length (flat_map place_record ps)
records_longer p ps =
    ap length (flat_map-cons place_record p ps)
    ∙ length-append (place_record p) (flat_map place_record ps)
    ∙ ap (λ (n : ℕ). n + length (flat_map place_record ps)) (record_size p)

bytes_longer : (bytes : List ℕ) (p : Place) (ps : List Place) → EndsIn bytes p
    → length (flat_map (place_bytes bytes) (p ∷ ps))
    ≡ p.length + length (flat_map (place_bytes bytes) ps)
bytes_longer bytes p ps h =
    ap length (flat_map-cons (place_bytes bytes) p ps)
    ∙ length-append (place_bytes bytes p) (flat_map (place_bytes bytes) ps)
    ∙ ap (λ (n : ℕ). n + length (flat_map (place_bytes bytes) ps))
    (length-place_bytes bytes p h)

parts_size : (bytes : List ℕ) (ps : List Place) → All (EndsIn bytes) ps
    → 272 + length (flat_map place_record ps) + length (flat_map (place_bytes bytes) ps)
    ≡ image_length ps
parts_size bytes [] h = refl
parts_size bytes (p ∷ ps) h =
    let records = records_longer p ps in
    let parts = bytes_longer bytes p ps (h 0 p (omega arith)) in
    let rest = parts_size bytes ps (All-tail (EndsIn bytes) p ps h) in
    omega (arith, records, parts, rest)

-- the image of what memory hands over has as many bytes as its places tell
pub image_size : (bytes : List ℕ) (p : Protocol) (r : Registers) (ps : List Place)
    → All (EndsIn bytes) ps
    → image_length ps ≡ length (spelling written_version (handover_in bytes p r ps))
image_size bytes p r ps h =
    let top : List ℕ = head written_version p r (length ps) in
    let front = length-append top (flat_map place_record ps) in
    let all =
    length-append (top ++ flat_map place_record ps) (flat_map (place_bytes bytes) ps) in
    let parts = parts_size bytes ps h in
    let wide = head_size p r (length ps) in
    sym (ap length (image_in written_version bytes p r ps h) ∙ omega (arith, front, all, parts, wide))
