use Rattle.std.proofs.Common.{arith}
use Rattle.std.proofs.lemmas.Grind.{common_steps}
use Rattle.bl_load.proofs.steps.push_content_steps.Goals as goal

pub returns-in_ok-push_step-in-Own-clause-steps : goal.returns-in_ok-push_step-in-Own-clause-steps
returns-in_ok-push_step-in-Own-clause-steps g c = grind (arith, common_steps)

pub returns-in_ok-push_step-in-Own-clause-own : goal.returns-in_ok-push_step-in-Own-clause-own
returns-in_ok-push_step-in-Own-clause-own g c = grind (arith, common_steps)

pub returns-in_ok-push_step-in-File-clause-steps : goal.returns-in_ok-push_step-in-File-clause-steps
returns-in_ok-push_step-in-File-clause-steps g c = grind (arith, common_steps)

pub returns-in_ok-push_step-in-File-clause-own : goal.returns-in_ok-push_step-in-File-clause-own
returns-in_ok-push_step-in-File-clause-own g c = grind (arith, common_steps)

pub push_block_steps-requires-clause-inside : goal.push_block_steps-requires-clause-inside
push_block_steps-requires-clause-inside g c = grind (arith, common_steps)
