use Rattle.std.proofs.Common.{◌≡◌, drop, map}
use Rattle.bl_mem.specs.Memory.{KeepsSizeAndRoom}
use Rattle.bl_load.specs.Handover.{overwrite_parts}
use Rattle.bl_load.specs.PlanContents.{part_by}
use Rattle.bl_load.proofs.loading.load_parts.Given as goal

-- what is left to write leads to what all of it leads to; the files are as they were
abbrev pub invariant-loop-part : goal.invariant-loop-part
invariant-loop-part g l =
    let bytes = g.M.PhysMem.bytes in
    let texts = g.F.FileSet.texts l.files in
    let part = part_by (texts (bytes l.fn.memory)) in
    record {
      same : texts (bytes l.memory) ≡ texts (bytes l.fn.memory);
      rest : overwrite_parts (map part (drop l.part-index l.parts)) (bytes l.memory)
          ≡ overwrite_parts (map part l.parts) (bytes l.fn.memory);
      kept : KeepsSizeAndRoom g.M.PhysMem.lender bytes g.M.PhysMem.room l.fn.memory l.memory;
    }
