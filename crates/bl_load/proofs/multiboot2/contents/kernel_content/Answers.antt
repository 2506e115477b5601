use Rattle.std.proofs.Common.{ℕ, List, length, map, arith, ap, ◌∙◌}
use Rattle.std.proofs.lemmas.Grind.{common_steps}
use Rattle.std.proofs.lemmas.List.{length-map}
use Rattle.bl_plan.specs.AddressOrder.{segments_in_order}
use Rattle.bl_load.specs.Origins.{file_block}
use Rattle.bl_load.specs.internal.ReadMultiboot2Kernels.{executable_facts}
use Rattle.bl_load.proofs.ContentLemmas.{block_content, block_copied, block_ascends, block_some}
use Rattle.bl_load.proofs.ContentLemmas.{block_short}
use Rattle.bl_load.proofs.HeldLemmas.{length_at}
use Rattle.bl_load.proofs.multiboot2.contents.kernel_content.Goals as goal

pub returns-in_ok-in_order-in-Some : goal.returns-in_ok-in_order-in-Some
returns-in_ok-in_order-in-Some g c =
    let segments = (executable_facts c.args.kernel.now.executable).segments in
    let loadable = c.requires.loadable in
    let is = c.in_ok-in_order-in-Some.ensures ∙ ap segments_in_order c.segments-segments.ensures in
    let texts = map g.V.ByteView.bytes c.args.files.now in
    let some = c.requires.file in
    record {
      is = block_content _ segments _ c.in-Some.field-0 _ _ loadable is c.in-Some.is;
      comes = rw c.in-Some.is (ap (file_block 0) is);
      there = (
        omega (
          arith,
          length-map c.args.files.now g.V.ByteView.bytes,
          length-map texts (λ (text : List ℕ). length text),
        ),
        block_some _ segments _ loadable is,
        rw (length_at texts 0)
            (block_copied _ segments _ _ c.in-Some.field-0 _ _ loadable is c.in-Some.is
            c.requires.long c.requires.small),
        block_ascends _ segments _ loadable is,
      );
      short =
          block_short _ segments _ _ c.in-Some.field-0 _ _ loadable is c.in-Some.is
          c.requires.long;
      lean = tt;
    }

pub offset_bounds-segments-place : goal.offset_bounds-segments-place
offset_bounds-segments-place g c = grind (arith, common_steps)

pub bounds-segments-place : goal.bounds-segments-place
bounds-segments-place g c = grind (arith, common_steps)

pub returns-in-None : goal.returns-in-None
returns-in-None g c = grind (arith, common_steps)
