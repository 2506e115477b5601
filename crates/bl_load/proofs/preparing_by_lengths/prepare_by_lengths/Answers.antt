use Rattle.std.proofs.Common.{ℕ, List, length, map, arith, ap}
use Rattle.std.proofs.lemmas.List.{length-map}
use Rattle.std.proofs.lemmas.Result.{IfOk-weaker, IfErr-weaker, err_from_is_err_and}
use Rattle.bl_load.specs.Origins.{planned_origin}
use Rattle.bl_load.specs.internal.KnownFiles.{blank_file, known_bytes}
use Rattle.bl_load.proofs.LengthLaws.{known_by, ok_both, same_handover, same_origins}
use Rattle.bl_load.proofs.LengthLaws.{same_fault, same_loadable}
use Rattle.bl_load.proofs.preparing_by_lengths.prepare_by_lengths.Goals as goal

pub prepare-requires-clause-files : goal.prepare-requires-clause-files
prepare-requires-clause-files g c =
    let known = known_bytes g.V.ByteView.bytes in
    let count = ap (λ (texts : List (List ℕ)). length texts) c.in_ok-files.ensures in
    let files = length-map c.in_ok-files.files.items known in
    let others = length-map c.args.lengths.now blank_file in
    rw c.as_slice.ensures.value (omega (arith, count, files, others, c.requires.files))

pub prepare-requires-clause-limits : goal.prepare-requires-clause-limits
prepare-requires-clause-limits g c = c.requires.limits

pub returns-in_err-files-clause-fault : goal.returns-in_err-files-clause-fault
returns-in_err-files-clause-fault g c =
    let p = err_from_is_err_and c.from_residual.result c.from_residual.ensures.1 in
    rw (p.1, p.2) (λ texts have. tt)

pub returns-clause-handover : goal.returns-clause-handover
returns-clause-handover g c =
    let known = map (known_bytes g.V.ByteView.bytes) c.as_slice.result.now in
    let lengths = c.args.lengths.now in
    let have =
    known_by g.V.ByteView.bytes lengths c.as_slice.ensures.value c.in_ok-files.ensures in
    IfOk-weaker c.prepare.result _ _ (λ plan h texts these.
    same_handover c.args.machine.now c.args.entry.now (g.V.ByteView.bytes c.args.kernel.now)
    lengths known texts plan have these h.0 h.1)
    (ok_both c.prepare.result _ _ c.prepare.ensures.handover c.prepare.ensures.origins)

pub returns-clause-loadable : goal.returns-clause-loadable
returns-clause-loadable g c =
    let known = map (known_bytes g.V.ByteView.bytes) c.as_slice.result.now in
    let lengths = c.args.lengths.now in
    let have =
    known_by g.V.ByteView.bytes lengths c.as_slice.ensures.value c.in_ok-files.ensures in
    IfOk-weaker c.prepare.result _ _ (λ plan h texts these.
    same_loadable c.args.machine.now.size (g.V.ByteView.bytes c.args.kernel.now) lengths known
    texts plan have these h) c.prepare.ensures.loadable

pub returns-clause-origins : goal.returns-clause-origins
returns-clause-origins g c =
    let known = map (known_bytes g.V.ByteView.bytes) c.as_slice.result.now in
    let lengths = c.args.lengths.now in
    let have =
    known_by g.V.ByteView.bytes lengths c.as_slice.ensures.value c.in_ok-files.ensures in
    IfOk-weaker c.prepare.result _ _ (λ plan h texts these.
    same_origins c.args.machine.now c.args.entry.now (g.V.ByteView.bytes c.args.kernel.now)
    lengths known texts (map planned_origin plan.parts.items) have these h)
    c.prepare.ensures.origins

pub returns-clause-fault : goal.returns-clause-fault
returns-clause-fault g c =
    let known = map (known_bytes g.V.ByteView.bytes) c.as_slice.result.now in
    let lengths = c.args.lengths.now in
    let have =
    known_by g.V.ByteView.bytes lengths c.as_slice.ensures.value c.in_ok-files.ensures in
    IfErr-weaker c.prepare.result _ _ (λ fault h texts these.
    same_fault c.args.machine.now c.args.entry.now (g.V.ByteView.bytes c.args.kernel.now)
    lengths known texts fault have these h) c.prepare.ensures.fault
