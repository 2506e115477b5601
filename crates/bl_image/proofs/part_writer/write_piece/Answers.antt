use Rattle.std.proofs.Common.{◌≡◌, ◌+◌, ◌≤◌, arith, rules, length, take, sym}
use Rattle.std.proofs.lemmas.List.{places}
use Rattle.bl_mem.proofs.Overwrites.{range_more}
use Rattle.bl_image.proofs.Ways.{way_begins, way_as, way_stops, on_err}
use Rattle.bl_image.proofs.part_writer.write_piece.Goals as goal

pub returns-in_err-write_copy-in-None-clause-begun : goal.returns-in_err-write_copy-in-None-clause-begun
returns-in_err-write_copy-in-None-clause-begun g c =
    let bytes = g.M.PhysMem.bytes c.args.memory.now in
    let at = c.args.at in
    let count = c.min-count.result in
    let size : length (take count c.args.buffer.now) ≡ count = search (rules, places) in
    let within : count ≤ c.args.most = omega (arith, c.min-count.ensures) in
    let more =
    sym (range_more bytes at (at + count) (at + c.args.most) (omega arith) (omega arith)
    c.requires.inside) in
    on_err
    _ (way_stops _ (way_as more (way_begins _ _)) (rw size at c.in_err-write_copy-in-None.ensures.begun))
