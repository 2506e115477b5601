use Rattle.std.proofs.lemmas.List.{take_all}
use Rattle.c_records.proofs.SeenLemmas.{one_more_told, one_more_line}
use Rattle.c_records.proofs.seen_telling.add_modules.Goals as goal

pub loop-module-preserved : goal.loop-module-preserved
loop-module-preserved g c = record {
  records =
      one_more_told c.args.modules.now c.loop-module.module-index c.module-item.result
      c.args.records.now.items c.loop-module.records.items c.add_module.new.records.items
      c.args.text.now.items c.loop-module.text.items c.loop-module-test.true c.module-item.is
      c.loop-module.invariant.text c.loop-module.invariant.records
      c.in_ok-add_module.ensures.records;
  text =
      one_more_line c.args.modules.now c.loop-module.module-index c.module-item.result
      c.args.text.now.items c.loop-module.text.items c.add_module.new.text.items
      c.loop-module-test.true c.module-item.is c.loop-module.invariant.text
      c.in_ok-add_module.ensures.text;
}

pub returns : goal.returns
returns g c =
    let all = take_all c.loop-module.module-index c.args.modules.now c.loop-module-test.false in
    record {
      records = rw all at c.loop-module.invariant.records;
      text = rw all at c.loop-module.invariant.text;
    }
