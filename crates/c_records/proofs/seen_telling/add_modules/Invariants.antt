use Rattle.std.proofs.Common.{◌≡◌, ◌++◌, take, length}
use Rattle.std.specs.List.{flat_map}
use Rattle.c_records.specs.SeenTold.{modules_told}
use Rattle.c_records.proofs.seen_telling.add_modules.Given as goal

-- the records and the lines of the modules so far
abbrev pub invariant-loop-module : goal.invariant-loop-module
invariant-loop-module g l = record {
  records : l.records.items
      ≡ l.fn.records.items ++ modules_told (length l.fn.text.items) (take l.module-index l.modules);
  text : l.text.items
      ≡ l.fn.text.items ++ flat_map (λ m. m.line) (take l.module-index l.modules);
}
