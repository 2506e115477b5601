use Rattle.std.proofs.Common.{ℕ, slice_index_or, arith, refl}
use Rattle.std.proofs.lemmas.List.FromFn.{map-range_with_len_more}
use Rattle.bl_stage.specs.Files.{missing, size_of}
use Rattle.bl_session.proofs.runs.sizes_of.Goals as goal

pub loop-file-preserved : goal.loop-file-preserved
loop-file-preserved g c =
    let size = λ (k : ℕ). size_of (slice_index_or (g.S.Store.files c.args.store.now) k missing) in
    let more = map-range_with_len_more size 0 c.loop-file.file c.loop-file.file (omega arith) in
    rw (c.in_ok-push.ensures.items, c.loop-file.invariant, c.in_ok-size.ensures, more) refl
