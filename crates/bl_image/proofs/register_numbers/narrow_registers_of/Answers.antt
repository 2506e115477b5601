use Rattle.bl_image.proofs.Listed.{listed_parts}
use Rattle.bl_image.proofs.register_numbers.narrow_registers_of.Goals as goal

pub returns : goal.returns
returns c =
    listed_parts c.args.first.now c.args.flags.now c.args.last.now c.requires.first
    c.requires.flags c.requires.last
