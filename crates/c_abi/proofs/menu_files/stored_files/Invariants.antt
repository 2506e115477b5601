use Rattle.std.proofs.Common.{◌≡◌, map, take}
use Rattle.std.specs.Prelude.{option_copied}
use Rattle.bl_store.specs.Ledger.{sliced_file}
use Rattle.c_abi.specs.Boot.{stored_given}
use Rattle.c_abi.proofs.menu_files.stored_files.Given as goal

-- the files so far
abbrev pub invariant-loop-file : goal.invariant-loop-file
invariant-loop-file g l =
    map (λ file. sliced_file (option_copied file)) l.stored.items
    ≡ map stored_given (take l.file-index l.file-items)
