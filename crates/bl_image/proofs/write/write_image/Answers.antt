use Rattle.std.proofs.Common.{rules, sym}
use Rattle.std.proofs.lemmas.List.{append-nil}
use Rattle.std.specs.List.{flat_map}
use Rattle.bl_image.specs.internal.PlaceRecords.{place_bytes}
use Rattle.bl_image.specs.Versions.{written_version}
use Rattle.bl_image.proofs.Ways.{way_begins, way_goes_on, way_stops, way_ends, way_as, on_err}
use Rattle.bl_image.proofs.Spelled.{image_in}
use Rattle.bl_image.proofs.FitLemmas.{handover_kept}
use Rattle.bl_image.proofs.write.write_image.Goals as goal

pub returns-in_err-write_front-clause-begun : goal.returns-in_err-write_front-clause-begun
returns-in_err-write_front-clause-begun g c =
    let bytes = g.M.PhysMem.bytes c.args.memory.now in
    let h = c.args.handoff.now in
    let whole = image_in written_version bytes h.protocol h.registers h.places c.requires.inside in
    on_err _ (way_stops _ (way_as whole (way_begins _ _)) (rw (c.protocol.ensures, c.registers.ensures) at c.in_err-write_front.ensures.written.begun))

pub returns-in_err-write_front-clause-kept : goal.returns-in_err-write_front-clause-kept
returns-in_err-write_front-clause-kept g c =
    let h = c.args.handoff.now in
    handover_kept (g.M.PhysMem.bytes c.args.memory.now) h.protocol h.registers h.places
    c.requires.inside (rw c.registers.ensures at c.in_err-write_front.ensures.fit)
    c.len-len.ensures.kept

pub returns-in_err-write_parts-clause-begun : goal.returns-in_err-write_parts-clause-begun
returns-in_err-write_parts-clause-begun g c =
    let bytes = g.M.PhysMem.bytes c.args.memory.now in
    let h = c.args.handoff.now in
    let whole = image_in written_version bytes h.protocol h.registers h.places c.requires.inside in
    let way = way_goes_on _ (way_as whole (way_begins _ _))
    (rw (c.protocol.ensures, c.registers.ensures) at c.in_ok-write_front.ensures.written.ok) in
    on_err
    _ (way_stops _ (way_as (sym (append-nil (flat_map (place_bytes bytes) h.places))) way)
    c.in_err-write_parts.ensures.begun)

pub returns-in_err-write_parts-clause-kept : goal.returns-in_err-write_parts-clause-kept
returns-in_err-write_parts-clause-kept g c =
    let h = c.args.handoff.now in
    handover_kept (g.M.PhysMem.bytes c.args.memory.now) h.protocol h.registers h.places
    c.requires.inside (rw c.registers.ensures at c.in_ok-write_front.ensures.fit)
    c.len-len.ensures.kept

pub returns-clause-ok : goal.returns-clause-ok
returns-clause-ok g c =
    let bytes = g.M.PhysMem.bytes c.args.memory.now in
    let h = c.args.handoff.now in
    let whole = image_in written_version bytes h.protocol h.registers h.places c.requires.inside in
    let way = way_goes_on _ (way_as whole (way_begins _ _))
    (rw (c.protocol.ensures, c.registers.ensures) at c.in_ok-write_front.ensures.written.ok) in
    way_ends
    (way_goes_on _ (way_as (sym (append-nil (flat_map (place_bytes bytes) h.places))) way)
    c.in_ok-write_parts.ensures.ok)

pub returns-clause-kept : goal.returns-clause-kept
returns-clause-kept g c =
    let h = c.args.handoff.now in
    handover_kept (g.M.PhysMem.bytes c.args.memory.now) h.protocol h.registers h.places
    c.requires.inside (rw c.registers.ensures at c.in_ok-write_front.ensures.fit)
    c.len-len.ensures.kept

pub returns-clause-begun : goal.returns-clause-begun
returns-clause-begun g c = tt

pub returns-clause-fault : goal.returns-clause-fault
returns-clause-fault g c = tt

pub returns-clause-sound : goal.returns-clause-sound
returns-clause-sound g c = search rules
