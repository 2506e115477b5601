use Rattle.std.proofs.Common.{◌∙◌}
use Rattle.bl_walk.proofs.StateLemmas.{entered_part, entered_nowhere}
use Rattle.bl_walk.proofs.state.is_in_kernel.Goals as goal

pub returns-in-Some : goal.returns-in-Some
returns-in-Some g c =
    c.is_kernel.ensures
    ∙ entered_part c.args.image.now.parts c.args.address c.in-Some.part.now
    c.in-Some.ensures.exact

pub returns-in-None : goal.returns-in-None
returns-in-None g c = entered_nowhere c.args.image.now.parts c.args.address c.in-None.ensures.exact
