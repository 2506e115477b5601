use Rattle.std.proofs.Common.{refl}
use Rattle.std.proofs.lemmas.List.{take_at}
use Rattle.bl_params.specs.Gdt.{gdt, zeros}
use Rattle.bl_params.proofs.Lengths.{length-gdt_part}
use Rattle.bl_params.proofs.laws.gdt_part_begins_with_gdt.Goals as goal

pub returns-clause-front : goal.returns-clause-front
returns-clause-front c = take_at gdt (zeros 4064) 32 refl

pub returns-clause-long : goal.returns-clause-long
returns-clause-long c = length-gdt_part
