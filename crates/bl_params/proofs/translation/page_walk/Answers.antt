use Rattle.std.proofs.Common.{None, Some, sym}
use Rattle.bl_params.proofs.TranslationLemmas.{next_is, walked_none_4, walked_none_3, walked_page}
use Rattle.bl_params.proofs.translation.page_walk.Goals as goal

pub returns-in-None : goal.returns-in-None
returns-in-None c =
    sym
    (walked_none_4 c.args.tables.now c.args.base c.args.a
    (next_is c.args.tables.now c.args.base c.args.a 39 0 c.entry_at-upper.result None
    c.entry_at-upper.ensures c.in-None.ensures.value))

pub returns-in-None-frame_of : goal.returns-in-None-frame_of
returns-in-None-frame_of c =
    sym
    (walked_none_3 c.args.tables.now c.args.base c.args.a c.in-Some.pointers
    (next_is c.args.tables.now c.args.base c.args.a 39 0 c.entry_at-upper.result
    (Some c.in-Some.pointers) c.entry_at-upper.ensures c.in-Some.ensures.value)
    (next_is c.args.tables.now c.args.base c.args.a 30 c.in-Some.pointers
    c.entry_at-pointer.result None c.entry_at-pointer.ensures c.in-None-frame_of.ensures.value))

pub returns-in-Some-frame_of : goal.returns-in-Some-frame_of
returns-in-Some-frame_of c =
    sym
    (walked_page c.args.tables.now c.args.base c.args.a c.in-Some.pointers
    c.in-Some-frame_of.directory c.entry_at.result c.in_page.result
    (next_is c.args.tables.now c.args.base c.args.a 39 0 c.entry_at-upper.result
    (Some c.in-Some.pointers) c.entry_at-upper.ensures c.in-Some.ensures.value)
    (next_is c.args.tables.now c.args.base c.args.a 30 c.in-Some.pointers
    c.entry_at-pointer.result (Some c.in-Some-frame_of.directory) c.entry_at-pointer.ensures
    c.in-Some-frame_of.ensures.value)
    c.entry_at.ensures c.in_page.ensures)
