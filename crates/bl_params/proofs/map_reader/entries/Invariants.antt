use Rattle.std.proofs.Common.{◌≡◌, length}
use Rattle.bl_params.specs.BootParamsForm.{e820_entry_offset}
use Rattle.bl_params.specs.Reading.{AreE820Entries}
use Rattle.bl_params.specs.internal.CheckedForm.{HasFormBelow}
use Rattle.bl_params.proofs.map_reader.entries.Given as goal

-- the entries so far are read
abbrev pub invariant-loop-i : goal.invariant-loop-i
invariant-loop-i g l = record {
  sound : HasFormBelow l.bytes (e820_entry_offset l.i);
  count : length l.runs.items ≡ l.i;
  are : AreE820Entries l.bytes 0x2D0 l.runs.items;
}
