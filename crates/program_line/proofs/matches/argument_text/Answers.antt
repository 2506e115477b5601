use Rattle.std.proofs.Common.{sym}
use Rattle.clap.specs.Words.{found_of}
use Rattle.program_line.proofs.LineLemmas.{text_given, no_text}
use Rattle.program_line.proofs.matches.argument_text.Goals as goal

pub returns-in-Some : goal.returns-in-Some
returns-in-Some c =
    text_given (found_of c.args.matches.now) c.args.id.now c.get_str.result c.in-Some.text
    c.get_str.ensures c.in-Some.is

pub returns-in-None : goal.returns-in-None
returns-in-None c =
    sym
    (no_text (found_of c.args.matches.now) c.args.id.now c.get_str.result c.get_str.ensures
    c.in-None.is)
