-- What the reader's answer says of the bytes.
use Rattle.std.proofs.Common.{◌≡◌, ◌<◌, ℕ, List, get_or, Result, Ok, Err, refl, sym}
use Rattle.std.proofs.Common.{◌∙◌}
use Rattle.std.specs.Prelude.{IfOk, MatchResult}
use Rattle.std.proofs.lemmas.List.Elements.{All-from_get_or}
use Rattle.bl_mbi.specs.declared.fault.InfoFault.{InfoFault}
use Rattle.bl_mbi.specs.declared.fault.InfoFault.TheVariants.{WrongLength, BadReserved, BadTag}
use Rattle.bl_mbi.specs.declared.fault.InfoFault.TheVariants.{BadOrder, NoMemory}
use Rattle.bl_mbi.specs.InfoToWriteFacts.{AreBytes}
use Rattle.bl_mbi.specs.InfoFacts.{InfoFacts, IsSpelling}
use Rattle.bl_mbi.specs.ReadingSteps.{MatchesReading}
use Rattle.bl_mbi.specs.Reading.{info_of}
use Rattle.bl_mbi.proofs.Inverse.{same_ok}
use Rattle.bl_mbi.proofs.ReadAgain.{spelled_is_read}
use Rattle.bl_mbi.proofs.InfoIs.{read_is_spelled}

pub are_bytes : (bytes : List ℕ) → ((i : ℕ) → get_or bytes i 0 < 256) → AreBytes bytes
are_bytes bytes small = All-from_get_or (λ b. b < 256) bytes 0 (λ i inside. small i)

pub spelling_by : (result : Result InfoFacts InfoFault) (bytes : List ℕ) → AreBytes bytes
    → MatchesReading (λ info. info) result (info_of bytes) → IfOk result (IsSpelling bytes)
spelling_by (Ok info) bytes small gives = read_is_spelled bytes info small gives
spelling_by (Err fault) bytes small gives = tt

spelling_read : (bytes : List ℕ) (info : InfoFacts) → IsSpelling bytes info → info_of bytes ≡ Ok info
spelling_read bytes info is =
    let e = is.exact in
    rw e (spelled_is_read info.name info.facts is.name is.facts (rw (← e) is.short))

pub accepted_by : (result : Result InfoFacts InfoFault) (bytes : List ℕ) (info : InfoFacts)
    → MatchesReading (λ read. read) result (info_of bytes) → IsSpelling bytes info
    → MatchResult result (λ read. read ≡ info) (λ fault. fault ≡ NoMemory)
accepted_by (Ok read) bytes info gives is =
    same_ok read info (sym gives ∙ spelling_read bytes info is)
accepted_by (Err NoMemory) bytes info gives is = refl
accepted_by (Err WrongLength) bytes info gives is =
    let read = spelling_read bytes info is in absurd (cc)
accepted_by (Err BadReserved) bytes info gives is =
    let read = spelling_read bytes info is in absurd (cc)
accepted_by (Err (BadTag at)) bytes info gives is =
    let read = spelling_read bytes info is in absurd (cc)
accepted_by (Err (BadOrder at)) bytes info gives is =
    let read = spelling_read bytes info is in absurd (cc)
