use Rattle.std.proofs.Common.{ℕ, refl, arith}
use Rattle.std.proofs.lemmas.List.{map-append}
use Rattle.std.proofs.lemmas.List.FromFn.{map-range_with_len_more}
use Rattle.bl_stage.specs.Staged.{staged_file}
use Rattle.bl_session.proofs.attempt.handing_over.views_of.Goals as goal

pub loop-file-preserved : goal.loop-file-preserved
loop-file-preserved g c =
    let file = λ (k : ℕ). staged_file (g.M.PhysMem.bytes c.args.memory.now) c.args.stage.now k in
    let more = map-range_with_len_more file 0 c.loop-file.file c.loop-file.file (omega arith) in
    rw (c.in_ok-push.ensures.items, map-append, c.loop-file.invariant, c.view.ensures, more) refl
