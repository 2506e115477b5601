use Rattle.std.proofs.Common.{◌≡◌, ◌+◌, ◌∷◌, get_or, drop, arith}
use Rattle.std.proofs.lemmas.List.{drop_more}
use Rattle.bl_map.specs.declared.kind.Kind.TheVariants.{Usable}
use Rattle.bl_map.specs.declared.region.Region.{Region}
use Rattle.bl_map.proofs.KindLemmas.{kind_at-same}
use Rattle.bl_map.proofs.normalization.change_after.Goals as goal

pub loop-region-preserved : goal.loop-region-preserved
loop-region-preserved c =
    let all = c.args.regions.now in
    let k = c.loop-region.region-index in
    let none : Region = record { base = 0; length = 0; kind = Usable } in
    let cons : drop k all ≡ get_or all k none ∷ drop (k + 1) all =
    drop_more all k none c.loop-region-test.true in
    let step = c.change_in-next.ensures in
    record {
      ahead = step.ahead;
      within = omega (arith, step.within, c.loop-region.invariant.within);
      same = λ a from below rest. c.loop-region.invariant.same a from (omega (arith, step.within))
          (rw cons
          (kind_at-same (get_or all k none) (drop (k + 1) all) a c.args.at
          (step.same a from below) rest));
    }
