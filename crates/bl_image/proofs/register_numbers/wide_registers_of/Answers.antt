use Rattle.bl_image.proofs.Listed.{elements_are}
use Rattle.bl_image.proofs.register_numbers.wide_registers_of.Goals as goal

pub returns : goal.returns
returns c = elements_are 31 0 c.args.numbers.now c.requires
