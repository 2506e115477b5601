use Rattle.std.proofs.Common.{arith, sym}
use Rattle.std.proofs.lemmas.List.{length-map}
use Rattle.program_desc.specs.Views.{entry_view}
use Rattle.program_desc.proofs.entries.count_of.Goals as goal

pub overflow_cast-result : goal.overflow_cast-result
overflow_cast-result g c = omega (arith, c.requires)

pub returns : goal.returns
returns g c = sym (length-map c.args.entries.now entry_view)
