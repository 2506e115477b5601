use Rattle.std.proofs.Common.{◌≡◌, ◌<◌, ◌≤◌, ℕ, length, drop, Err, arith}
use Rattle.std.proofs.lemmas.Grind.{common_steps}
use Rattle.bl_mbi.specs.declared.fault.InfoFault.TheVariants.{BadTag}
use Rattle.bl_mbi.specs.internal.BytesLeft.{rest_facts}
use Rattle.bl_mbi.specs.ReadingSteps.{RestFacts, first_u32, next_info_tag}
use Rattle.bl_mbi.proofs.tag_reader.tag_at.Goals as goal

-- a tag of the type that is asked for, whose size leaves no room for type and size
small_tag : (kind : ℕ) (left : RestFacts) → 8 ≤ length left.bytes → first_u32 left.bytes ≡ kind
    → first_u32 (drop 4 left.bytes) < 8 → next_info_tag kind left ≡ Err (BadTag left.at)
unfolding next_info_tag
small_tag kind left long is small = grind (arith, common_steps)

pub returns-then-is_empty-clause-read : goal.returns-then-is_empty-clause-read
unfolding next_info_tag
returns-then-is_empty-clause-read c = grind (arith, common_steps)

pub returns-then-rest-lt8-clause-read : goal.returns-then-rest-lt8-clause-read
unfolding next_info_tag
returns-then-rest-lt8-clause-read c = grind (arith, common_steps)

pub returns-then-word-kind-clause-read : goal.returns-then-word-kind-clause-read
unfolding next_info_tag
returns-then-word-kind-clause-read c = grind (arith, common_steps)

pub returns-then-size-lt8-clause-read : goal.returns-then-size-lt8-clause-read
returns-then-size-lt8-clause-read c =
    small_tag c.args.kind (rest_facts c.args.rest) (omega arith) (omega (arith, c.word.ensures))
    (grind (arith, common_steps))

pub returns-then-rest-size-clause-read : goal.returns-then-rest-size-clause-read
unfolding next_info_tag
returns-then-rest-size-clause-read c = grind (arith, common_steps)

pub returns-then-not-are_zeros-clause-read : goal.returns-then-not-are_zeros-clause-read
unfolding next_info_tag
returns-then-not-are_zeros-clause-read c = grind (arith, common_steps)

pub returns-clause-read : goal.returns-clause-read
unfolding next_info_tag
returns-clause-read c = grind (arith, common_steps)

pub invariant_of-after : goal.invariant_of-after
invariant_of-after c = grind (arith, common_steps)

pub returns-clause-shorter : goal.returns-clause-shorter
returns-clause-shorter c = grind (arith, common_steps)
