-- What the program finds of the subcommand that the words name. Own.
use Rattle.std.specs.Prelude.{◌≡◌, false, List, Option, Some, None, codes}
use Rattle.std.specs.Str.{bytes_eq}
use Rattle.clap.specs.Words.{Row, Text, subcommand_rows_of}
use Rattle.clap.specs.declared.parser.matches.ArgMatches.{ArgMatches}
use Rattle.program_line.specs.CommandLineJobs.{IsJobOf}
use Rattle.program_line.specs.declared.job.Job.{Job}

-- the program has no subcommand of this name
abbrev pub IsOfNone : Text → Type 0
IsOfNone name = (bytes_eq name (codes "boot") ≡ false) × (bytes_eq name (codes "map") ≡ false)
    × (bytes_eq name (codes "walk") ≡ false)
    × (bytes_eq name (codes "convert") ≡ false)
    × (bytes_eq name (codes "explain") ≡ false)
    × (bytes_eq name (codes "digest") ≡ false)

-- the job of the subcommand that was met, or the program has none of its name
abbrev pub HasJob : ArgMatches → Option Job → Type 0
HasJob m None =
    (chosen : Text × List Row) → subcommand_rows_of m ≡ Some chosen → IsOfNone chosen.0
HasJob m (Some job) =
    (chosen : Text × List Row) × (subcommand_rows_of m ≡ Some chosen) × IsJobOf chosen job
