use Rattle.std.proofs.Common.{◌≡◌, ◌+◌, ◌*◌, ℕ, take, slice_index}
use Rattle.std.specs.List.{flat_map}
use Rattle.bl_params.specs.FieldBytes.{byte_over}
use Rattle.bl_params.specs.BootParams.{e820_entry_bytes}
use Rattle.bl_params.proofs.write.put_entries.Given as goal

-- the entries so far are written
abbrev pub invariant-loop-run : goal.invariant-loop-run
invariant-loop-run l = record {
  at : l.at ≡ 0x2D0 + 20 * l.run-index;
  told : (k : ℕ)
      → slice_index l.out k
      ≡ byte_over 0x2D0 (flat_map e820_entry_bytes (take l.run-index l.runs))
      (λ j. slice_index l.fn.out j) k;
}
