use Rattle.std.proofs.Common.{refl, sym}
use Rattle.program_desc.proofs.keys.required_at.Goals as goal

pub returns-in-None : goal.returns-in-None
returns-in-None c =
    (sym c.in-None.ensures, (refl, (refl, refl, c.requires, sym c.in-None.ensures)))
