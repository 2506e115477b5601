use Rattle.std.proofs.Common.{refl}
use Rattle.std.proofs.lemmas.Str.{is_utf8-from_IsUtf8}
use Rattle.program_desc.proofs.DescribedLemmas.{described-no_text}
use Rattle.program_say.specs.declared.subjects.blame.Blame.TheVariants as blames
use Rattle.program_commands.proofs.EndLemmas.{blamed_for, tells_nothing}
use Rattle.program_boots.proofs.explaining_lemmas.ExplainLemmas.{no_text}
use Rattle.program_commands.proofs.explaining.read_or_blame.read_or_blame.Goals as goal

pub read_text_or_blame-requires : goal.read_text_or_blame-requires
read_text_or_blame-requires g c =
    rw c.in-Ok.ensures.cases.0 (is_utf8-from_IsUtf8 c.args.desc.now c.in-Ok.ensures.cases.1)

pub blamed-requires : goal.blamed-requires
blamed-requires g c =
    tells_nothing _ c.args.desc.now blames.NotUtf8 refl
    (described-no_text c.args.desc.now c.in-Err.ensures.cases.0)
    (no_text c.args.desc.now c.in-Err.ensures.cases.0)

pub returns-in-Err : goal.returns-in-Err
returns-in-Err g c =
    blamed_for c.args.desc.now blames.NotUtf8 _ _ c.blamed.result
    (described-no_text c.args.desc.now c.in-Err.ensures.cases.0)
    (no_text c.args.desc.now c.in-Err.ensures.cases.0) c.blamed.ensures
