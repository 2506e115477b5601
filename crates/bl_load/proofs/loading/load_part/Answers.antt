use Rattle.std.proofs.Common.{◌≡◌, ◌≤◌, ◌+◌, length, refl, sym, ◌∙◌, arith}
use Rattle.bl_mem.proofs.Overwrites.{beside_zeros}
use Rattle.bl_load.specs.PlanContents.{content_by}
use Rattle.bl_load.proofs.HeldLemmas.{length-content_by}
use Rattle.bl_load.proofs.MemoryLemmas.{keeps_on}
use Rattle.bl_load.proofs.WrittenLemmas.{zeros_behind}
use Rattle.bl_load.proofs.loading.load_part.Goals as goal

pub returns : goal.returns
returns g c =
    let part = c.args.part.now in
    let can = c.requires.can in
    let old = g.M.PhysMem.bytes c.args.memory.now in
    let held = g.M.PhysMem.bytes c.load_content-count.new.memory in
    let content = content_by (g.F.FileSet.texts c.args.files.now old) part.content in
    let own =
    length-content_by (g.F.FileSet.texts c.args.files.now old) part.content can.there in
    let short : length content ≤ part.place.length = omega (arith, own, can.short) in
    let count = c.load_content-count.result in
    let put = c.load_content-count.ensures.put in
    let size : length held ≡ length old = put.kept.size in
    record {
      after =
          rw (c.zero.ensures.after, put.after, c.load_content-count.ensures.count ∙ sym own)
          (zeros_behind _ content part.place.address (length content) part.place.length refl short
          can.inside);
      texts =
          rw c.zero.ensures.after
          (g.met.F.FileSet.same c.args.files.now held
          _ (beside_zeros (g.F.FileSet.holds c.args.files.now) held (part.place.address + count)
          (part.place.address + part.place.length) (omega arith) (omega arith)
          (λ a low high. can.beside a (omega arith) high))
          ∙ put.texts);
      kept = keeps_on put.kept c.zero.ensures.kept;
    }
