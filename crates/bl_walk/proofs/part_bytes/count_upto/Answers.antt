use Rattle.std.proofs.Common.{rules}
use Rattle.std.proofs.lemmas.List.Sorted.{IsPartitionPoint-from_clause}
use Rattle.bl_walk.specs.internal.Walking.{begins_upto}
use Rattle.bl_walk.proofs.InsideLemmas.{partitioned}
use Rattle.bl_walk.proofs.part_bytes.count_upto.Goals as goal

pub returns-clause-split : goal.returns-clause-split
returns-clause-split g c =
    IsPartitionPoint-from_clause (begins_upto c.args.address) c.args.parts.now
    c.partition_point.result
    c.partition_point.ensures.partitioned (partitioned c.args.parts.now c.args.address c.requires)
    (λ a r q called. search rules)
