use Rattle.std.proofs.Common.{ℕ, List, length, map, arith, ap}
use Rattle.std.proofs.lemmas.List.{length-map}
use Rattle.std.proofs.lemmas.Result.{IfOk-weaker, IfErr-weaker, err_from_is_err_and}
use Rattle.bl_load.specs.internal.KnownFiles.{blank_file, known_bytes}
use Rattle.bl_load.proofs.LengthLaws.{known_by, same_unplaced, same_early_fault}
use Rattle.bl_load.proofs.unplaced_row_by_lengths.unplaced_by_lengths.Goals as goal

pub unplaced-requires-clause-files : goal.unplaced-requires-clause-files
unplaced-requires-clause-files g c =
    let known = known_bytes g.V.ByteView.bytes in
    let count = ap (λ (texts : List (List ℕ)). length texts) c.in_ok-files.ensures in
    let files = length-map c.in_ok-files.files.items known in
    let others = length-map c.args.lengths.now blank_file in
    rw c.as_slice.ensures.value (omega (arith, count, files, others, c.requires.files))

pub unplaced-requires-clause-limits : goal.unplaced-requires-clause-limits
unplaced-requires-clause-limits g c = c.requires.limits

pub returns-in_err-files-clause-fault : goal.returns-in_err-files-clause-fault
returns-in_err-files-clause-fault g c =
    let p = err_from_is_err_and c.from_residual.result c.from_residual.ensures.1 in
    rw (p.1, p.2) (λ texts have. tt)

pub returns-clause-which : goal.returns-clause-which
returns-clause-which g c =
    let known = map (known_bytes g.V.ByteView.bytes) c.as_slice.result.now in
    let lengths = c.args.lengths.now in
    let have =
    known_by g.V.ByteView.bytes lengths c.as_slice.ensures.value c.in_ok-files.ensures in
    IfOk-weaker c.unplaced.result _ _ (λ which h texts these.
    same_unplaced c.args.machine.now c.args.entry.now (g.V.ByteView.bytes c.args.kernel.now)
    lengths known texts which have these h) c.unplaced.ensures.which

pub returns-clause-fault : goal.returns-clause-fault
returns-clause-fault g c =
    let known = map (known_bytes g.V.ByteView.bytes) c.as_slice.result.now in
    let lengths = c.args.lengths.now in
    let have =
    known_by g.V.ByteView.bytes lengths c.as_slice.ensures.value c.in_ok-files.ensures in
    IfErr-weaker c.unplaced.result _ _ (λ fault h texts these.
    same_early_fault c.args.machine.now c.args.entry.now (g.V.ByteView.bytes c.args.kernel.now)
    lengths known texts fault have these h) c.unplaced.ensures.fault
