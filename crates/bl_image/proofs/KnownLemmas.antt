-- What is known of an input decides what is read.
use Rattle.std.proofs.Common.{◌≡◌, ℕ, List, [], ◌++◌, Option, Some, None, Result, Ok, Err}
use Rattle.std.proofs.Common.{IfErr, refl, ap, ◌∙◌, subst}
use Rattle.std.specs.Prelude.{MatchResult, IsErrAnd}
use Rattle.std.proofs.lemmas.List.{append-nil}
use Rattle.std.specs.Io.KnownBytes.{Consumes}
use Rattle.bl_load.specs.Handover.{Handover}
use Rattle.bl_image.specs.declared.fault.ImageFault.{ImageFault}
use Rattle.bl_image.specs.declared.fault.ImageFault.TheVariants.{BadMagic, BadVersion, BadHeader}
use Rattle.bl_image.specs.declared.fault.ImageFault.TheVariants.{BadPart, WrongLength, DeviceFault}
use Rattle.bl_image.specs.declared.fault.ImageFault.TheVariants.{NoMemory}
use Rattle.bl_image.specs.declared.version.Version.{Version}
use Rattle.bl_image.specs.Image.{spelling}
use Rattle.bl_image.specs.ImageFaults.{image_fault}
use Rattle.bl_image.specs.ImageHandover.{IsKeptByImages, IsImage}
use Rattle.bl_image.specs.Versions.{HasProtocol}
use Rattle.bl_image.specs.SourceFacts.{SourceFacts, Comes, IsEnded, IsPossibleRest, ShowsFault}
use Rattle.bl_image.specs.SourceFacts.{IsInputFault, IsBytesFault}

all_came : (old new : Option (List ℕ)) (came bytes : List ℕ) → old ≡ Some bytes → new ≡ Some []
    → Consumes old new came → bytes ≡ came
all_came old new came bytes e f h =
    let P : Option (List ℕ) → Type 0 = λ o. Consumes o new came in
    let Q : Option (List ℕ) → Type 0 = λ o. Consumes (Some bytes) o came in
    let at_end : bytes ≡ came ++ [] = subst Q f (subst P e h) in
    at_end ∙ append-nil came

pub what_follows : (rest : Option (List ℕ)) (came bytes : List ℕ) → Consumes (Some bytes) rest came
    → (more : List ℕ) × IsPossibleRest rest more × (bytes ≡ came ++ more)
what_follows None came bytes h = absurd h
what_follows (Some more) came bytes h = (more, refl, h)

shows_known : (fault_in : List ℕ → Option ImageFault) (old new : SourceFacts) (fault : ImageFault)
    (bytes : List ℕ) → old.rest ≡ Some bytes → ShowsFault fault_in old new fault
    → fault_in bytes ≡ Some fault
shows_known fault_in old new fault bytes e s =
    let P : Option (List ℕ) → Type 0 = λ o. Consumes o new.rest s.came in
    let f = what_follows new.rest s.came bytes (subst P e s.comes.rest_is) in
    ap fault_in f.2 ∙ s.shown f.0 f.1

pub fails_known : (fault_in : List ℕ → Option ImageFault) (old new : SourceFacts)
    (fault : ImageFault) (bytes : List ℕ) → old.rest ≡ Some bytes
    → IsInputFault fault_in old new fault → IsBytesFault fault_in bytes fault
fails_known fault_in old new BadMagic bytes e s = shows_known fault_in old new BadMagic bytes e s
fails_known fault_in old new BadVersion bytes e s =
    shows_known fault_in old new BadVersion bytes e s
fails_known fault_in old new BadHeader bytes e s = shows_known fault_in old new BadHeader bytes e s
fails_known fault_in old new (BadPart index) bytes e s =
    shows_known fault_in old new (BadPart index) bytes e s
fails_known fault_in old new WrongLength bytes e s =
    shows_known fault_in old new WrongLength bytes e s
fails_known fault_in old new DeviceFault bytes e s = tt
fails_known fault_in old new NoMemory bytes e s = tt

-- what was read is an image of the bytes that were known
pub known_ok : (image : Handover) (old new : SourceFacts)
    → ((version : Version) × HasProtocol version image.protocol
    × Comes old new (spelling version image))
    → IsEnded new → IsKeptByImages image → (bytes : List ℕ) → old.rest ≡ Some bytes
    → (version : Version) × IsImage version bytes image
known_ok image old new comes ended kept bytes e = (
  comes.0,
  record {
    is =
        all_came old.rest new.rest (spelling comes.0 image) bytes e ended comes.2.rest_is;
    has = comes.1;
    kept = kept;
  },
)

-- an error is their first fault
pub known_err : (r : Result Handover ImageFault) (old new : SourceFacts) (P : ImageFault → Type 0)
    → IsErrAnd r P → IfErr r (IsInputFault image_fault old new)
    → (bytes : List ℕ) → old.rest ≡ Some bytes
    → MatchResult r (λ image. (version : Version) × IsImage version bytes image)
    (IsBytesFault image_fault bytes)
known_err (Ok image) old new P is refused bytes e = absurd is
known_err (Err fault) old new P is refused bytes e = fails_known image_fault old new fault bytes e refused
