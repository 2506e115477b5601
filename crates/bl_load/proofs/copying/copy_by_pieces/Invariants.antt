use Rattle.std.proofs.Common.{◌≡◌, ◌-◌, ◌+◌, ◌≤◌, slice_range}
use Rattle.bl_mem.specs.FileSet.{nth_file}
use Rattle.bl_mem.specs.Memory.{overwrite, KeepsSizeAndRoom}
use Rattle.bl_load.proofs.copying.copy_by_pieces.Given as goal

-- what was copied so far; the files are as they were
abbrev pub invariant-loop-done : goal.invariant-loop-done
invariant-loop-done g l =
    let bytes = g.M.PhysMem.bytes in
    let texts = g.F.FileSet.texts l.files in
    record {
      within : l.done ≤ l.count;
      same : texts (bytes l.memory) ≡ texts (bytes l.fn.memory);
      after : bytes l.memory
          ≡ overwrite (bytes l.fn.memory) l.at
          (slice_range (nth_file (texts (bytes l.fn.memory)) l.file) l.offset
          (l.offset + l.done));
      kept : KeepsSizeAndRoom g.M.PhysMem.lender bytes g.M.PhysMem.room l.fn.memory l.memory;
    }

abbrev pub decreases-loop-done : goal.decreases-loop-done
decreases-loop-done g l = l.count - l.done
