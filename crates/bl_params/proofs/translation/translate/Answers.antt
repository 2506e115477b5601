use Rattle.std.proofs.Common.{◌<◌, ◌^◌, arith, rules}
use Rattle.bl_params.specs.Translation.{translation}
use Rattle.bl_params.proofs.translation.translate.Goals as goal

pub returns : goal.returns
unfolding translation
returns c = let low : c.args.a < 2 ^ 48 = omega arith in search rules
