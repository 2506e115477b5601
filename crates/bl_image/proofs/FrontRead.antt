-- What an image has before its parts' bytes is read.
use Rattle.std.proofs.Common.{◌≡◌, ◌≤◌, ℕ, Bool, List, Option, Some, Result, Ok, Err, IfErr, sym, ap}
use Rattle.std.proofs.Common.{None, ◌∙◌, subst}
use Rattle.std.specs.Prelude.{MatchResult, IsErrAnd}
use Rattle.std.specs.Io.KnownBytes.{Consumes}
use Rattle.bl_plan.specs.declared.protocol.Protocol.{Protocol}
use Rattle.bl_load.specs.Protocols.{is_wide}
use Rattle.bl_load.specs.declared.registers.Registers.{Registers}
use Rattle.bl_image.specs.declared.fault.ImageFault.{ImageFault}
use Rattle.bl_image.specs.declared.version.Version.{Version}
use Rattle.bl_image.specs.Front.{BeginWithFront, FrontFacts, front_spelling}
use Rattle.bl_image.specs.Image.{head}
use Rattle.bl_image.specs.ImageFaults.{FaultBehind, fault_with, front_fault, image_fault}
use Rattle.bl_image.specs.ImageFaults.{head_fault, records_fault, parts_behind, no_records}
use Rattle.bl_image.specs.Layouts.{max_role}
use Rattle.bl_image.specs.SourceFacts.{SourceFacts, Comes, IsBytesFault, IsInputFault}
use Rattle.bl_image.specs.Spellable.{AreRegistersOf}
use Rattle.bl_image.specs.Versions.{HasProtocol}
use Rattle.bl_image.proofs.FieldLemmas.{Passed, passed_refuses}
use Rattle.bl_image.proofs.FrontLemmas.{head_leaves, head_shows}
use Rattle.bl_image.proofs.KnownLemmas.{fails_known, what_follows}

-- a head came, and leaves the records to be judged
pub fronted : {old new : SourceFacts} (behind : FaultBehind) (v : Version) (p : Protocol)
    (r : Registers) (count : ℕ) (wide : Bool)
    → Comes old new (head v p r count) → HasProtocol v p → AreRegistersOf p r → count ≤ 256
    → wide ≡ is_wide p
    → Passed (fault_with behind) old new (records_fault behind (max_role wide) count no_records)
fronted behind v p r count wide comes has fit few same = record {
  done = _;
  comes = comes;
  on =
      λ bytes.
      head_leaves behind v p r count bytes has fit few
      ∙ ap (λ (b : Bool). records_fault behind (max_role b) count no_records bytes) (sym same);
}

-- the same of an image
pub fronted_image : {old new : SourceFacts} (v : Version) (p : Protocol) (r : Registers) (count : ℕ)
    (wide : Bool)
    → Comes old new (head v p r count) → HasProtocol v p → AreRegistersOf p r → count ≤ 256
    → wide ≡ is_wide p
    → Passed image_fault old new
    (records_fault parts_behind (max_role wide) count no_records)
unfolding image_fault
fronted_image v p r count wide comes has fit few same =
    fronted parts_behind v p r count wide comes has fit few same

-- a fault of the head, or of the records behind it
pub head_faults : (old new : SourceFacts) (fault : ImageFault) → IsInputFault head_fault old new fault
    → IsInputFault front_fault old new fault
unfolding front_fault
head_faults old new fault s = head_shows (λ records rest. None) old new fault s

pub records_faults : {old mid : SourceFacts} (v : Version) (p : Protocol) (r : Registers) (count : ℕ)
    (wide : Bool)
    → Comes old mid (head v p r count) → HasProtocol v p → AreRegistersOf p r → count ≤ 256
    → wide ≡ is_wide p → (new : SourceFacts) (fault : ImageFault)
    → IsInputFault (records_fault (λ records rest. None) (max_role wide) count no_records) mid new
    fault
    → IsInputFault front_fault old new fault
unfolding front_fault
records_faults v p r count wide comes has fit few same new fault s =
    passed_refuses (fronted (λ records rest. None) v p r count wide comes has fit few same) new
    fault s

-- what came of bytes that were known is their beginning
pub front_known : (front : FrontFacts) (old new : SourceFacts)
    → Comes old new (front_spelling front) → (bytes : List ℕ) → old.rest ≡ Some bytes
    → BeginWithFront bytes front
front_known front old new comes bytes e =
    let P : Option (List ℕ) → Type 0 = λ o. Consumes o new.rest (front_spelling front) in
    let f = what_follows new.rest (front_spelling front) bytes (subst P e comes.rest_is) in
    (f.0, f.2)

-- an error is their first fault
pub front_fails : (r : Result FrontFacts ImageFault) (old new : SourceFacts)
    (P : ImageFault → Type 0) → IsErrAnd r P → IfErr r (IsInputFault front_fault old new)
    → (bytes : List ℕ) → old.rest ≡ Some bytes
    → MatchResult r (BeginWithFront bytes) (IsBytesFault front_fault bytes)
front_fails (Ok front) old new P is refused bytes e = absurd is
front_fails (Err fault) old new P is refused bytes e =
    fails_known front_fault old new fault bytes e refused
