use Rattle.std.proofs.Common.{◌≡◌}
use Rattle.std.specs.List.{flat_map, range_with_len}
use Rattle.bl_params.specs.Paging.{paging_frame}
use Rattle.bl_load.proofs.linux.contents.page_tables_at.Given as goal

abbrev pub invariant-loop-index : goal.invariant-loop-index
invariant-loop-index g l =
    l.bytes.items ≡ flat_map (paging_frame l.base) (range_with_len 0 l.index)
