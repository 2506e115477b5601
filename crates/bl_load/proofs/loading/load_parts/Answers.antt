use Rattle.std.proofs.Common.{◌∙◌, refl}
use Rattle.std.proofs.lemmas.List.{drop_all, drop_more}
use Rattle.bl_load.proofs.MemoryLemmas.{keeps_all, keeps_on}
use Rattle.bl_load.proofs.loading.load_parts.Goals as goal

pub loop-part-init : goal.loop-part-init
loop-part-init g c = record { same = refl; rest = refl; kept = keeps_all }

pub load_part-requires-clause-held : goal.load_part-requires-clause-held
load_part-requires-clause-held g c = rw c.loop-part.invariant.kept.size c.requires.held

pub load_part-requires-clause-can : goal.load_part-requires-clause-can
load_part-requires-clause-can g c =
    let before = c.loop-part.invariant in
    let part = c.part-item.result in
    let can =
    rw (← c.part-item.is) at
    (c.requires.can c.loop-part.part-index part c.loop-part-test.true) in
    rw (before.same, before.kept.size)
    record {
      there = can.there;
      short = can.short;
      inside = can.inside;
      writable = λ a from to. before.kept.room a (can.writable a from to);
      beside = can.beside;
    }

pub loop-part-preserved : goal.loop-part-preserved
loop-part-preserved g c =
    let before = c.loop-part.invariant in
    let part = c.part-item.result in
    let i = c.loop-part.part-index in
    let here = c.loop-part-test.true in
    let whole = rw (drop_more c.args.parts.now i part here, ← c.part-item.is) at before.rest in
    record {
      same = c.load_part.ensures.texts ∙ before.same;
      rest = rw (c.load_part.ensures.after, before.same) whole;
      kept = keeps_on before.kept c.load_part.ensures.kept;
    }

pub returns : goal.returns
returns g c =
    let before = c.loop-part.invariant in
    record {
      after = rw (drop_all c.loop-part.part-index c.args.parts.now c.loop-part-test.false) at before.rest;
      texts = before.same;
      kept = before.kept;
    }
