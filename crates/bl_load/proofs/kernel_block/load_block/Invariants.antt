use Rattle.std.proofs.Common.{◌≡◌, ◌+◌, ◌≤◌, ◌<◌, ℕ, length, drop, get_or}
use Rattle.bl_mem.specs.declared.segment.Segment.{Segment}
use Rattle.bl_mem.specs.FileSet.{nth_file}
use Rattle.bl_mem.specs.Memory.{overwrite, KeepsSizeAndRoom}
use Rattle.bl_load.specs.KernelBlock.{span_of, block_of}
use Rattle.bl_load.proofs.BlockLemmas.{block_from}
use Rattle.bl_load.proofs.kernel_block.load_block.Given as goal

-- what is left to write leads to the whole block; the files are as they were
abbrev pub invariant-loop-segment : goal.invariant-loop-segment
invariant-loop-segment g l =
    let bytes = g.M.PhysMem.bytes in
    let texts = g.F.FileSet.texts l.files in
    let text = nth_file (texts (bytes l.fn.memory)) l.file in
    let left = block_from text (l.low + l.done) (drop l.segment-index l.segments) in
    record {
      same : texts (bytes l.memory) ≡ texts (bytes l.fn.memory);
      above : (k : ℕ) (d : Segment) → l.segment-index ≤ k → k < length l.segments
          → l.low + l.done ≤ (get_or l.segments k d).address;
      count : l.done + length left ≡ span_of l.segments;
      rest : overwrite (bytes l.memory) (l.at + l.done) left
          ≡ overwrite (bytes l.fn.memory) l.at (block_of text l.segments);
      kept : KeepsSizeAndRoom g.M.PhysMem.lender bytes g.M.PhysMem.room l.fn.memory l.memory;
    }
