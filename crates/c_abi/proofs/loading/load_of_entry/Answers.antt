use Rattle.std.proofs.Common.{ap, ◌∙◌, map, refl, sym}
use Rattle.bl_mem.specs.Memory.{memory_from}
use Rattle.bl_mem.specs.declared.byte_view.SliceView.{SliceView}
use Rattle.c_records.specs.Given.{texts_given}
use Rattle.c_abi.proofs.LoadLemmas.{given_count, given_value}
use Rattle.c_abi.proofs.LoadLemmas.{loads_entry, loads_not}
use Rattle.c_abi.proofs.loading.load_of_entry.Goals as goal

pub returns-in_default-clause-handed : goal.returns-in_default-clause-handed
returns-in_default-clause-handed g c = tt

pub returns-in_default-clause-fault : goal.returns-in_default-clause-fault
returns-in_default-clause-fault g c = tt

pub returns-in_default-clause-unchanged : goal.returns-in_default-clause-unchanged
returns-in_default-clause-unchanged g c = refl

pub load_typed-requires-clause-size : goal.load_typed-requires-clause-size
load_typed-requires-clause-size g c = c.requires.size

pub load_typed-requires-clause-files : goal.load_typed-requires-clause-files
load_typed-requires-clause-files g c =
    let files =
    ap (map (λ (v : SliceView). v.bytes.now)) c.deref.ensures.value ∙ c.in-Ok.ensures in
    given_count (λ (v : SliceView). v.bytes.now) c.args.row.now c.deref.result.now files
    ∙ sym c.requires.taken.count

pub load_typed-requires-clause-limits : goal.load_typed-requires-clause-limits
load_typed-requires-clause-limits g c = c.requires.taken.limits

pub returns-clause-handed : goal.returns-clause-handed
returns-clause-handed g c =
    let row = c.args.row.now in
    let texts = map (λ (v : SliceView). v.bytes.now) c.deref.result.now in
    let files =
    ap (map (λ (v : SliceView). v.bytes.now)) c.deref.ensures.value ∙ c.in-Ok.ensures in
    loads_entry c.args.machine.now row _ c.args.base
    (memory_from c.args.base c.args.memory.now)
    (memory_from c.args.base c.load_typed.new.memory) c.load_typed.result
    (given_value row c.args.entry.now texts (texts_given row) c.requires.taken.value files)
    c.load_typed.ensures

pub returns-clause-fault : goal.returns-clause-fault
returns-clause-fault g c =
    let row = c.args.row.now in
    let texts = map (λ (v : SliceView). v.bytes.now) c.deref.result.now in
    let files =
    ap (map (λ (v : SliceView). v.bytes.now)) c.deref.ensures.value ∙ c.in-Ok.ensures in
    loads_not c.args.machine.now row _ c.args.base
    (memory_from c.args.base c.args.memory.now)
    (memory_from c.args.base c.load_typed.new.memory) c.load_typed.result
    c.requires.taken.sound
    (given_value row c.args.entry.now texts (texts_given row) c.requires.taken.value files)
    c.load_typed.ensures

pub returns-clause-unchanged : goal.returns-clause-unchanged
returns-clause-unchanged g c = c.load_typed.ensures.unchanged
