use Rattle.std.proofs.Common.{◌≡◌, ◌≤◌, ◌+◌, ◌*◌, ◌++◌, take, vec_len, vec_capacity}
use Rattle.std.specs.List.{flat_map}
use Rattle.bl_mbi.specs.Tags.{run_bytes}
use Rattle.bl_mbi.proofs.tag_writer.put_runs.Given as goal

-- the runs so far are appended
abbrev pub invariant-loop-run : goal.invariant-loop-run
invariant-loop-run g l = record {
  items : l.out.items ≡ l.fn.out.items ++ flat_map run_bytes (take l.run-index l.runs);
  len : vec_len l.out ≡ vec_len l.fn.out + 24 * l.run-index;
  capacity : vec_capacity l.fn.out ≤ vec_capacity l.out;
}
