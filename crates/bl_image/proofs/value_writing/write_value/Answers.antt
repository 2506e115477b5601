use Rattle.std.proofs.Common.{sym}
use Rattle.std.proofs.lemmas.List.{append-nil}
use Rattle.bl_image.specs.Versions.{written_version}
use Rattle.bl_image.proofs.PartLemmas.{all_bytes, value_in, value_kept}
use Rattle.bl_image.proofs.Ways.{way_begins, way_goes_on, way_stops, way_ends, way_as, on_err}
use Rattle.bl_image.proofs.value_writing.write_value.Goals as goal

pub returns-in_err-write_front-clause-begun : goal.returns-in_err-write_front-clause-begun
returns-in_err-write_front-clause-begun g c =
    let whole = value_in written_version c.args.image.now in
    on_err
    _ (way_stops _ (way_as whole (way_begins _ _))
    (rw (c.protocol.ensures, c.registers.ensures) at c.in_err-write_front.ensures.written.begun))

pub returns-in_err-write_front-clause-kept : goal.returns-in_err-write_front-clause-kept
returns-in_err-write_front-clause-kept g c =
    value_kept c.args.image.now (rw c.registers.ensures at c.in_err-write_front.ensures.fit)
    c.parts-parts.ensures.kept

pub returns-in_err-write_bytes-clause-begun : goal.returns-in_err-write_bytes-clause-begun
returns-in_err-write_bytes-clause-begun g c =
    let whole = value_in written_version c.args.image.now in
    let way = way_goes_on _ (way_as whole (way_begins _ _))
    (rw (c.protocol.ensures, c.registers.ensures) at c.in_ok-write_front.ensures.written.ok) in
    on_err
    _ (way_stops _ (way_as (sym (append-nil (all_bytes c.args.image.now.parts))) way)
    (rw c.parts-parts.ensures.parts at c.in_err-write_bytes.ensures.begun))

pub returns-in_err-write_bytes-clause-kept : goal.returns-in_err-write_bytes-clause-kept
returns-in_err-write_bytes-clause-kept g c =
    value_kept c.args.image.now (rw c.registers.ensures at c.in_ok-write_front.ensures.fit)
    c.parts-parts.ensures.kept

pub returns-clause-ok : goal.returns-clause-ok
returns-clause-ok g c =
    let whole = value_in written_version c.args.image.now in
    let way = way_goes_on _ (way_as whole (way_begins _ _))
    (rw (c.protocol.ensures, c.registers.ensures) at c.in_ok-write_front.ensures.written.ok) in
    way_ends
    (way_goes_on _ (way_as (sym (append-nil (all_bytes c.args.image.now.parts))) way)
    (rw c.parts-parts.ensures.parts at c.in_ok-write_bytes.ensures.ok))

pub returns-clause-kept : goal.returns-clause-kept
returns-clause-kept g c =
    value_kept c.args.image.now (rw c.registers.ensures at c.in_ok-write_front.ensures.fit)
    c.parts-parts.ensures.kept
