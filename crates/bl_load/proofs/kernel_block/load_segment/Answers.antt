use Rattle.std.proofs.Common.{◌≡◌, ◌+◌, length, arith, slice_range, ◌∙◌}
use Rattle.bl_mem.specs.FileSet.{nth_file}
use Rattle.bl_mem.proofs.Overwrites.{beside_zeros}
use Rattle.bl_load.proofs.BlockLemmas.{length-filed}
use Rattle.bl_load.proofs.MemoryLemmas.{keeps_on}
use Rattle.bl_load.proofs.WrittenLemmas.{zeros_behind}
use Rattle.bl_load.proofs.kernel_block.load_segment.Goals as goal

pub returns : goal.returns
returns g c =
    let segment = c.args.segment.now in
    let old = g.M.PhysMem.bytes c.args.memory.now in
    let copied = g.M.PhysMem.bytes c.copy.new.memory in
    let text = nth_file (g.F.FileSet.texts c.args.files.now old) c.args.file in
    let count = length-filed text segment c.requires.copied in
    let size : length copied ≡ length old = c.copy.ensures.kept.size in
    record {
      after =
          rw (c.zero.ensures.after, c.copy.ensures.after)
          (zeros_behind _ (slice_range text segment.offset (segment.offset + segment.filesz))
          c.args.at segment.filesz segment.memsz count (omega arith) (omega arith));
      texts =
          rw c.zero.ensures.after
          (g.met.F.FileSet.same c.args.files.now copied
          _ (beside_zeros (g.F.FileSet.holds c.args.files.now) copied (c.args.at + segment.filesz)
          (c.args.at + segment.memsz) (omega arith) (omega arith)
          (λ a low high. c.requires.free.beside a (omega arith) high))
          ∙ c.copy.ensures.texts);
      kept = keeps_on c.copy.ensures.kept c.zero.ensures.kept;
    }
