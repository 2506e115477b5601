use Rattle.std.proofs.Common.{arith}
use Rattle.std.proofs.lemmas.Grind.{common_steps}
use Rattle.bl_mb2head.proofs.header.checked_place.Goals as goal

pub returns-in_default-clause-begins : goal.returns-in_default-clause-begins
returns-in_default-clause-begins g c = grind (arith, common_steps)

pub returns-in_default-clause-first_fault : goal.returns-in_default-clause-first_fault
returns-in_default-clause-first_fault g c = λ screen. grind (arith, common_steps)

pub returns-then-is_cut-clause-begins : goal.returns-then-is_cut-clause-begins
returns-then-is_cut-clause-begins g c = grind (arith, common_steps)

pub returns-then-is_cut-clause-first_fault : goal.returns-then-is_cut-clause-first_fault
returns-then-is_cut-clause-first_fault g c = λ screen. grind (arith, common_steps)

pub returns-then-u32_at-ne-I386-clause-begins : goal.returns-then-u32_at-ne-I386-clause-begins
returns-then-u32_at-ne-I386-clause-begins g c = grind (arith, common_steps)

pub returns-then-u32_at-ne-I386-clause-first_fault : goal.returns-then-u32_at-ne-I386-clause-first_fault
returns-then-u32_at-ne-I386-clause-first_fault g c = λ screen. grind (arith, common_steps)

pub returns-clause-first_fault : goal.returns-clause-first_fault
returns-clause-first_fault g c = grind (arith, common_steps)
