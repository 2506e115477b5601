use Rattle.std.proofs.Common.{[], sym, ◌∙◌, arith}
use Rattle.std.proofs.lemmas.Grind.{common_steps}
use Rattle.bl_stage.specs.PieceStates.{piece_states}
use Rattle.bl_session.proofs.menu_lemmas.MenuLemmas.{few_files}
use Rattle.bl_session.proofs.attempt_lemmas.WholeLemmas.{whole_came}
use Rattle.bl_session.proofs.attempt_lemmas.MissingLemmas.{none_missing}
use Rattle.bl_session.proofs.session_lemmas.AwaitingLemmas.{waits_somewhere}
use Rattle.bl_session.proofs.session.SessionOver.first_missing_ticket.Goals as goal

pub first_missing-requires : goal.first_missing-requires
first_missing-requires g c =
    let few = few_files c.entry.result.now c.entry.ensures.limits in
    let stands = rw c.in-Waits.is at c.self.invariant in
    record {
      countable = record { few = grind (arith, common_steps, few); small = stands.0.small };
      below = stands.0.below;
    }

pub unreachable-requires-in-None : goal.unreachable-requires-in-None
unreachable-requires-in-None g c =
    let stage = c.in-Waits.waiting.stage in
    let stands = rw c.in-Waits.is at c.self.invariant in
    let none = sym (c.first_missing.ensures.first []) ∙ c.in-None.is in
    stands.1.lacks
    (whole_came [] stage c.are_staged.ensures
    (none_missing c.len-attempt.result 0 (piece_states [] stage) none))

pub unreachable-requires : goal.unreachable-requires
unreachable-requires g c =
    waits_somewhere _ c.self.inside.phase (rw (← c.self.view_is) at c.requires)
    c.in_default.not-Waits
