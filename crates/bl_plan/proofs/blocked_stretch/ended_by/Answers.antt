use Rattle.std.proofs.Common.{leb, leb-true, leb-false, rules}
use Rattle.std.proofs.lemmas.List.Sorted.{IsPartitionPoint-from_clause, IsPartitionedBy-leb}
use Rattle.bl_plan.proofs.ApartLemmas.{ends_ascend}
use Rattle.bl_plan.proofs.blocked_stretch.ended_by.Goals as goal

pub returns-clause-before : goal.returns-clause-before
returns-clause-before c =
    let parted =
    IsPartitionedBy-leb (λ range. range.end) _ c.args.start (ends_ascend _ c.requires) in
    let point =
    IsPartitionPoint-from_clause (λ range. leb range.end c.args.start)
    _ _ c.partition_point.ensures.partitioned parted (λ a r q k. search rules) in
    λ k d from below. leb-true _ _ (point.0 k d from below)

pub returns-clause-behind : goal.returns-clause-behind
returns-clause-behind c =
    let parted =
    IsPartitionedBy-leb (λ range. range.end) _ c.args.start (ends_ascend _ c.requires) in
    let point =
    IsPartitionPoint-from_clause (λ range. leb range.end c.args.start)
    _ _ c.partition_point.ensures.partitioned parted (λ a r q k. search rules) in
    λ k d from below. leb-false _ _ (point.1 k d from below)
