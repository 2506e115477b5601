use Rattle.std.proofs.Common.{◌≡◌, map}
use Rattle.std.specs.List.{range_with_len}
use Rattle.bl_stage.specs.Staged.{staged, staged_file}
use Rattle.bl_session.proofs.attempt.handing_over.views_of.Given as goal

-- a view of each file so far
abbrev pub invariant-loop-file : goal.invariant-loop-file
invariant-loop-file g l =
    let bytes = g.M.PhysMem.bytes in
    map (λ view. staged (bytes view.memory.now) view.frames.now view.size) l.views.items
    ≡ map (λ file. staged_file (bytes l.memory) l.stage file) (range_with_len 0 l.file)
