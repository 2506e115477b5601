use Rattle.clap.specs.Words.{found_of, rows_of}
use Rattle.clap.specs.declared.parser.matches.ArgMatches.TheViews.{out-ArgMatches}
use Rattle.program_line.proofs.LineLemmas.{has_job, has_no_job}
use Rattle.program_line.proofs.matches.job_in.Goals as goal

pub returns-in-Some : goal.returns-in-Some
returns-in-Some c =
    has_job c.args.matches.now c.in-Some.name.now (rows_of (found_of c.in-Some.inner.now))
    c.job_of.result c.in-Some.ensures.name c.in-Some.ensures.rows c.job_of.ensures

pub returns-in-None : goal.returns-in-None
returns-in-None c = λ chosen is.
    absurd
    (has_no_job (out-ArgMatches c.args.matches.now).subcommand chosen c.in-None.ensures.variant is)
