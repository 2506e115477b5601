use Rattle.std.proofs.Common.{arith}
use Rattle.bl_session.proofs.session.phase.progress_of.Goals as goal

pub overflow_cast-result : goal.overflow_cast-result
overflow_cast-result g c =
    let kept = rw c.in-Waits.is at c.requires in
    omega (
      arith,
      kept.0.number,
      kept.0.next,
      c.attempts.ensures.count,
      c.attempts.ensures.few,
      c.len-running.ensures,
    )
