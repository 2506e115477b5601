-- The command line: the job that its matches tell. Own.
use Rattle.std.specs.Prelude.{◌≡◌, ◌⊎◌, Bool, true, false, if◌then◌else◌, List, []}
use Rattle.std.specs.Prelude.{Some, codes, unwrap_or}
use Rattle.std.specs.Str.{bytes_eq}
use Rattle.clap.specs.Words.{IsAmong, Kinds, Row, Text, fault_of, first_of, subcommand_of, takes}
use Rattle.clap.specs.declared.builder.value_parser.ValueParser.{ValueParser}
use Rattle.clap.specs.declared.error.kind.ErrorKind.{ErrorKind}
use Rattle.clap.specs.declared.error.kind.ErrorKind.TheVariants.{OutOfMemory, DisplayHelp}
use Rattle.program_arguments.specs.CommandLine.{HasOrderParser, IsOrderParser, line_app}
use Rattle.program_line.specs.declared.fault.LineFault.{LineFault}
use Rattle.program_line.specs.declared.fault.LineFault.TheVariants.{Help, Refused, NoMemory}
use Rattle.program_line.specs.declared.job.Order.{Order}
use Rattle.program_line.specs.declared.job.Order.TheVariants.{Forward, Reverse}
use Rattle.program_line.specs.declared.job.Job.{Job}
use Rattle.program_line.specs.declared.job.Job.TheVariants.{Boot, Map, Walk, Convert, Explain}
use Rattle.program_line.specs.declared.job.Job.TheVariants.{Digest, DigestImage}

-- ---- the job

-- the text of an argument, empty where it has none
abbrev pub argument_text : Text → List Row → Text
argument_text id rows = unwrap_or (first_of id rows) []

abbrev pub order_named : Text → Order
order_named text = if bytes_eq text (codes "reverse") then Reverse else Forward

-- the flag is given: clap then has the text `true` for it, and else `false`
abbrev pub has_flag : Text → List Row → Bool
has_flag id rows = bytes_eq (argument_text id rows) (codes "true")

-- the job is that of the subcommand with this name and these matches
abbrev pub IsJobOf : Text × List Row → Job → Type 0
IsJobOf chosen (Boot description image order) = (bytes_eq chosen.0 (codes "boot") ≡ true)
    × (description.now ≡ argument_text (codes "desc") chosen.1)
    × (image.now ≡ argument_text (codes "out") chosen.1)
    × (order ≡ order_named (argument_text (codes "order") chosen.1))
IsJobOf chosen (Map description) = (bytes_eq chosen.0 (codes "map") ≡ true)
    × (description.now ≡ argument_text (codes "desc") chosen.1)
IsJobOf chosen (Walk image) = (bytes_eq chosen.0 (codes "walk") ≡ true)
    × (image.now ≡ argument_text (codes "image") chosen.1)
IsJobOf chosen (Convert image new) = (bytes_eq chosen.0 (codes "convert") ≡ true)
    × (image.now ≡ argument_text (codes "image") chosen.1)
    × (new.now ≡ argument_text (codes "out") chosen.1)
IsJobOf chosen (Explain description order) = (bytes_eq chosen.0 (codes "explain") ≡ true)
    × (description.now ≡ argument_text (codes "desc") chosen.1)
    × (order ≡ order_named (argument_text (codes "order") chosen.1))
IsJobOf chosen (Digest description) = (bytes_eq chosen.0 (codes "digest") ≡ true)
    × (has_flag (codes "image") chosen.1 ≡ false)
    × (description.now ≡ argument_text (codes "file") chosen.1)
IsJobOf chosen (DigestImage image) = (bytes_eq chosen.0 (codes "digest") ≡ true)
    × (has_flag (codes "image") chosen.1 ≡ true)
    × (image.now ≡ argument_text (codes "file") chosen.1)

-- clap's own definition has no fault for the words, and its matches tell the job
abbrev pub IsJobOfWords : List Text → Job → Type 0
IsJobOfWords words job = HasOrderParser (λ parser. (fault_of (line_app parser) words ≡ [])
    × ((chosen : Text × List Row)
    × (subcommand_of (line_app parser) words ≡ Some chosen) × IsJobOf chosen job))

-- ---- the faults

-- the fault that a kind of error of clap's is
abbrev pub fault_of_kind : ErrorKind → LineFault
fault_of_kind OutOfMemory = NoMemory
fault_of_kind DisplayHelp = Help
fault_of_kind _ = Refused

-- the fault is that of one of these kinds
abbrev pub IsFaultAmong : Kinds → LineFault → Type 0
IsFaultAmong kinds fault = (kind : ErrorKind) × IsAmong kind kinds × (fault ≡ fault_of_kind kind)

-- memory ran out, or the fault is one that clap's own definition has for the words
abbrev pub RefusesLine : List Text → LineFault → Type 0
RefusesLine words fault =
    (fault ≡ NoMemory)
    ⊎ HasOrderParser (λ parser. IsFaultAmong (fault_of (line_app parser) words) fault)

-- clap's own definition takes the words
abbrev pub AreTakenByClap : List Text → Type 0
AreTakenByClap words =
    (parser : ValueParser) → IsOrderParser parser → takes (line_app parser) words ≡ true
