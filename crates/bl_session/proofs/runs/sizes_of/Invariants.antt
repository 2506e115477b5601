use Rattle.std.proofs.Common.{◌≡◌}
use Rattle.bl_session.specs.internal.runs.RunParts.{asked_sizes}
use Rattle.bl_session.proofs.runs.sizes_of.Given as goal

-- the sizes of the files so far
abbrev pub invariant-loop-file : goal.invariant-loop-file
invariant-loop-file g l = l.sizes.items ≡ asked_sizes (g.S.Store.files l.store) l.file
