use Rattle.std.proofs.Common.{◌≡◌, ◌∙◌, ℕ, ap, arith}
use Rattle.std.specs.List.{flat_map, range_with_len}
use Rattle.bl_params.specs.Paging.{paging, paging_frame}
use Rattle.bl_load.proofs.FrameLemmas.{frames_more}
use Rattle.bl_load.proofs.linux.contents.page_tables_at.Goals as goal

pub loop-index-preserved : goal.loop-index-preserved
loop-index-preserved g c =
    let more = frames_more (paging_frame c.address_of-base.result) c.loop-index.index in
    let written = c.in_ok-extend_from_slice.ensures.items in
    let frame = c.page_tables.ensures in
    let before = c.loop-index.invariant in
    cc

pub returns : goal.returns
unfolding paging
returns g c =
    let six : c.loop-index.index ≡ 6 = omega arith in
    c.from.ensures ∙ c.loop-index.invariant
    ∙ ap
    (λ (n : ℕ). flat_map (paging_frame c.address_of-base.result) (range_with_len 0 n)) six
    ∙ ap (λ (b : ℕ). flat_map (paging_frame b) (range_with_len 0 6)) c.address_of-base.ensures
