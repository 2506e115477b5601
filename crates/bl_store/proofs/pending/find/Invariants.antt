use Rattle.std.proofs.Common.{◌≡◌, ◌+◌, length, take}
use Rattle.bl_store.specs.internal.SubmissionRanges.{runs_listed}
use Rattle.bl_store.proofs.pending.find.Given as goal

abbrev pub invariant-loop-index : goal.invariant-loop-index
invariant-loop-index l = l.place ≡ length (runs_listed (take l.index l.runs)) + l.left
