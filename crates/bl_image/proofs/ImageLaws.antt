-- An image has no fault, and is read.
use Rattle.std.proofs.Common.{◌≡◌, ◌+◌, ◌≤◌, ◌<◌, ◌^◌, ℕ, suc, List, [], ◌∷◌, ◌++◌, length, All}
use Rattle.std.proofs.Common.{Some, None, Result, Ok, Err, refl, sym, ap, ◌∙◌, arith, append_assoc}
use Rattle.std.proofs.Common.{length-append, map}
use Rattle.std.proofs.lemmas.List.{length-map}
use Rattle.std.specs.Prelude.{MatchResult, ◌==◌, Bool, true}
use Rattle.std.proofs.lemmas.Bool.Decides.{nat_tests}
use Rattle.std.proofs.lemmas.List.Elements.{All-tail}
use Rattle.std.proofs.lemmas.List.Concat.{flat_map-cons}
use Rattle.std.specs.List.{flat_map}
use Rattle.bl_plan.proofs.OrderLemmas.{AreRelated, pairs_related}
use Rattle.bl_load.specs.HandoffFacts.{Ascends, IsRoleAllowed}
use Rattle.bl_load.specs.Protocols.{is_wide}
use Rattle.bl_image.specs.Layouts.{max_role}
use Rattle.bl_image.specs.Versions.{HasProtocol}
use Rattle.bl_load.specs.Handover.{Part, Handover, end_of}
use Rattle.bl_image.specs.declared.fault.ImageFault.{ImageFault}
use Rattle.bl_image.specs.declared.fault.ImageFault.TheVariants.{BadMagic, BadVersion, BadHeader}
use Rattle.bl_image.specs.declared.fault.ImageFault.TheVariants.{BadPart, WrongLength, DeviceFault}
use Rattle.bl_image.specs.declared.fault.ImageFault.TheVariants.{NoMemory}
use Rattle.bl_image.specs.declared.version.Version.{Version}
use Rattle.bl_image.specs.Image.{part_record, spelling}
use Rattle.bl_image.specs.ImageFaults.{RecordsBefore, with_record, records_fault, parts_behind}
use Rattle.bl_image.specs.ImageFaults.{end_fault}
use Rattle.bl_image.specs.ImageFaults.{no_records}
use Rattle.bl_image.specs.ImageFaults.{image_fault}
use Rattle.bl_image.specs.ImageHandover.{part_place, PartAscends, IsKeptByImages, IsImage}
use Rattle.bl_image.specs.internal.PlaceRecords.{IsNext}
use Rattle.bl_image.specs.SourceFacts.{IsBytesFault, SourceFacts, IsTransient, IsInputFault}
use Rattle.bl_image.proofs.FrontLemmas.{head_front}
use Rattle.bl_image.proofs.KnownLemmas.{fails_known}
use Rattle.bl_image.proofs.PartLemmas.{all_bytes, all_under, related_under}
use Rattle.bl_image.proofs.ReadAgain.{image_is_read_again}
use Rattle.bl_image.proofs.RecordLemmas.{parts_step}

-- what each part of an image is by itself
record IsSoundPart (wide : Bool) (part : Part) : Type 0 where
  may : IsRoleAllowed wide part.role
  index : part.index < 2 ^ 32
  filled : 1 ≤ length part.bytes
  below : end_of part ≤ 2 ^ 32

parts_sound : (wide : Bool) (parts : List Part) (before : RecordsBefore) (x : List ℕ)
    → All (λ (part : Part). before.end ≤ part.address) parts → AreRelated PartAscends parts
    → All (IsSoundPart wide) parts
    → records_fault parts_behind (max_role wide) (length parts) before (flat_map part_record parts ++ x)
    ≡ end_fault (before.bytes + length (all_bytes parts)) x
parts_sound wide [] before x above related sound = ap (λ (n : ℕ). end_fault n x) (omega arith)
parts_sound wide (part ∷ parts) before x above related sound =
    let here = sound 0 part (omega arith) in
    let next : IsNext before.end (part_place part) =
    record {
      index = here.index;
      above = above 0 part (omega arith);
      filled = here.filled;
      below = here.below;
    } in
    let after : RecordsBefore = with_record before part.address (length part.bytes) in
    let size = length-append part.bytes (all_bytes parts) in
    let most = max_role wide in
    ap (λ (l : List ℕ). records_fault parts_behind most (suc (length parts)) before (l ++ x))
    (flat_map-cons part_record part parts)
    ∙ ap (records_fault parts_behind most (suc (length parts)) before)
    (append_assoc (part_record part) (flat_map part_record parts) x)
    ∙ parts_step parts_behind wide (length parts) before (part_place part) (flat_map part_record parts ++ x)
    here.may next
    ∙ parts_sound wide parts after x related.0 related.1
    (All-tail (IsSoundPart wide) part parts sound)
    ∙ ap (λ (n : ℕ). end_fault n x) (omega arith)

whole_ends : (bytes : List ℕ) → end_fault (0 + length bytes) bytes ≡ None
whole_ends bytes =
    let e : (length bytes == 0 + length bytes) ≡ true = grind (arith, nat_tests) in rw e refl

sound_parts : (h : Handover) → IsKeptByImages h → All (IsSoundPart (is_wide h.protocol)) h.parts
sound_parts h kept k d within =
    let fits = kept.spellable.parts k d within in
    record {
      may =
          all_under (λ p. IsRoleAllowed (is_wide h.protocol) p.role) h.parts kept.handoff.roles
          k d within;
      index = fits.index;
      filled = all_under (λ p. 1 ≤ p.length) h.parts kept.handoff.filled k d within;
      below =
          all_under (λ p. p.address + p.length ≤ 2 ^ 32) h.parts kept.handoff.below k d within;
    }

-- the image of what an image keeps, in a version that has its protocol, has no fault
pub image_sound : (version : Version) (h : Handover) → HasProtocol version h.protocol
    → IsKeptByImages h
    → image_fault (spelling version h) ≡ None
image_sound version h has kept =
    let records : List ℕ = flat_map part_record h.parts in
    let bytes : List ℕ = all_bytes h.parts in
    let few : length (map part_place h.parts) ≤ 256 = kept.handoff.few in
    let same = length-map h.parts part_place in
    head_front version h.protocol h.registers (length h.parts) (records ++ bytes) has
    kept.spellable.registers (omega arith)
    ∙ parts_sound (is_wide h.protocol) h.parts no_records bytes (λ k d within. omega arith)
    (related_under h.parts (pairs_related Ascends (map part_place h.parts) kept.handoff.ascending))
    (sound_parts h kept)
    ∙ whole_ends bytes

no_fault : (bytes : List ℕ) (fault : ImageFault) → image_fault bytes ≡ None
    → image_fault bytes ≡ Some fault → ⊥
no_fault bytes fault e f = let both : None ≡ Some fault = sym e ∙ f in cc

refused_for_now : (bytes : List ℕ) (fault : ImageFault) → image_fault bytes ≡ None
    → IsBytesFault image_fault bytes fault → IsTransient fault
refused_for_now bytes BadMagic e f = no_fault bytes BadMagic e f
refused_for_now bytes BadVersion e f = no_fault bytes BadVersion e f
refused_for_now bytes BadHeader e f = no_fault bytes BadHeader e f
refused_for_now bytes (BadPart index) e f = no_fault bytes (BadPart index) e f
refused_for_now bytes WrongLength e f = no_fault bytes WrongLength e f
refused_for_now bytes DeviceFault e f = tt
refused_for_now bytes NoMemory e f = tt

-- an image is read as what it spells
pub accepted_by : (r : Result Handover ImageFault) (bytes : List ℕ)
    → MatchResult r (λ image. (version : Version) × IsImage version bytes image)
    (IsBytesFault image_fault bytes)
    → (version : Version) (handover : Handover) → IsImage version bytes handover
    → MatchResult r (λ image. image ≡ handover) IsTransient
accepted_by (Ok image) bytes read version handover is =
    (image_is_read_again read.0 version image handover read.1.kept.spellable is.kept.spellable
    (sym read.1.is ∙ is.is)).1
accepted_by (Err fault) bytes fails version handover is =
    refused_for_now bytes fault
    (ap image_fault is.is ∙ image_sound version handover is.has is.kept) fails

-- and is refused for nothing that its bytes say
pub image_not_refused : (old new : SourceFacts) (fault : ImageFault) (bytes : List ℕ)
    (version : Version)
    (handover : Handover) → IsImage version bytes handover → old.rest ≡ Some bytes
    → IsInputFault image_fault old new fault → IsTransient fault
image_not_refused old new fault bytes version handover is e refuses =
    refused_for_now bytes fault
    (ap image_fault is.is ∙ image_sound version handover is.has is.kept)
    (fails_known image_fault old new fault bytes e refuses)
