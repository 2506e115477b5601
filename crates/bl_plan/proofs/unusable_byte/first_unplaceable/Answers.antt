use Rattle.bl_plan.proofs.UnusableLemmas.{first_of_both, none_of_both}
use Rattle.bl_plan.proofs.unusable_byte.first_unplaceable.Goals as goal

pub returns-then-first-range : goal.returns-then-first-range
returns-then-first-range g c =
    let usable = c.usable_before-usable.ensures in
    let avoided = c.first_avoided-first.ensures in (
      c.if-first-range.true,
      first_of_both _ _ _ _ _ avoided.from avoided.within c.if-first-range.true usable.before
          usable.behind avoided.before avoided.behind,
    )

pub returns-else-first-range : goal.returns-else-first-range
returns-else-first-range g c =
    let usable = c.usable_before-usable.ensures in
    let avoided = c.first_avoided-first.ensures in
    none_of_both c.args.machine.now _ _ _ _ avoided.within usable.within c.if-first-range.false usable.before
    avoided.before
