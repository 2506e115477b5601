use Rattle.std.proofs.Common.{sym, take}
use Rattle.std.proofs.lemmas.List.{take_all}
use Rattle.std.proofs.lemmas.List.Elements.{All-more, All-same}
use Rattle.bl_map.specs.declared.kind.Kind.TheVariants.{Usable}
use Rattle.bl_map.specs.declared.region.Region.{Region}
use Rattle.bl_map.specs.Faults.{HasAllowedEnd}
use Rattle.bl_map.proofs.rules.first_high.Goals as goal

pub loop-i-preserved : goal.loop-i-preserved
loop-i-preserved c =
    let none : Region = record { base = 0; length = 0; kind = Usable } in
    All-more HasAllowedEnd c.args.regions.now c.loop-i.i none c.loop-i-test.true c.loop-i.invariant
    c.if-not-has_allowed_end.ensures

pub returns : goal.returns
returns c =
    let all = take_all c.loop-i.i c.args.regions.now c.loop-i-test.false in
    All-same HasAllowedEnd c.args.regions.now (take c.loop-i.i c.args.regions.now) (sym all)
    c.loop-i.invariant
