use Rattle.std.proofs.Common.{◌≡◌, drop, max}
use Rattle.bl_map.specs.Kinds.{number_or_zero}
use Rattle.bl_map.specs.NormalMap.{kind_at}
use Rattle.bl_map.proofs.normalization.greatest_kind.Given as goal

-- the greatest so far, or a greater one of the rest, is that of all
abbrev pub invariant-loop-region : goal.invariant-loop-region
invariant-loop-region l =
    max (number_or_zero l.greatest) (kind_at (drop l.region-index l.regions) l.a)
    ≡ kind_at l.regions l.a
