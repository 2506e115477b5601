use Rattle.std.proofs.Common.{sym, ◌∙◌}
use Rattle.program_desc.proofs.FirmwareLemmas.{color_of_two, no_color}
use Rattle.program_desc.proofs.firmware.screen.color_in.Goals as goal

pub returns-then-items-ne2 : goal.returns-then-items-ne2
returns-then-items-ne2 c = sym (no_color c.args.items.now c.if-items-ne2.true)

pub returns : goal.returns
returns c =
    c.color_of.ensures
    ∙ sym (color_of_two c.args.items.now c.index-items-0.result c.index-items-1.result
    c.if-items-ne2.false c.index-items-0.is c.index-items-1.is)
