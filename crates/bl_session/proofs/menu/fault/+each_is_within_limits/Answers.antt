use Rattle.std.proofs.Common.{refl}
use Rattle.bl_load.specs.EntryValue.{IsWithinLimits}
use Rattle.bl_session.proofs.menu_lemmas.MenuLemmas.{all_by_first}
use Rattle.bl_session.proofs.menu.fault.+each_is_within_limits.Goals as goal

pub returns-then-is_within_limits : goal.returns-then-is_within_limits
returns-then-is_within_limits g t c =
    all_by_first IsWithinLimits c.args.entries.now c.entry-item.result c.each_is_within_limits.result
    c.in-len1-up.len_at_least c.entry-item.is (c.if-is_within_limits.ensures.0 refl)
    c.each_is_within_limits.ensures
