use Rattle.std.proofs.Common.{◌∙◌, ap, map}
use Rattle.std.proofs.lemmas.List.{take_all}
use Rattle.std.specs.Prelude.{option_copied}
use Rattle.bl_store.specs.Ledger.{sliced_file}
use Rattle.c_abi.specs.Boot.{stored_given}
use Rattle.c_records.proofs.ListLemmas.{one_more_mapped}
use Rattle.c_abi.proofs.menu_files.stored_files.Goals as goal

pub loop-file-preserved : goal.loop-file-preserved
loop-file-preserved g c =
    one_more_mapped c.loop-file.stored.items c.push.new.self.items c.stored_of.result
    c.deref-file-items.result.now c.loop-file.file-index _
    (λ file. sliced_file (option_copied file)) stored_given c.loop-file-test.true
    c.in_ok-push.ensures.items c.stored_of.ensures c.loop-file.invariant

pub returns : goal.returns
returns g c =
    rw (take_all c.loop-file.file-index c.deref-file-items.result.now c.loop-file-test.false)
    at c.loop-file.invariant
    ∙ ap (map stored_given) (c.deref-file-items.ensures.value ∙ c.in_ok-files.ensures)
