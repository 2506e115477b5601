use Rattle.std.proofs.Common.{◌≡◌, ◌+◌, ◌<◌, ◌≤◌, length, arith, refl, sym, ◌∙◌, get_or, drop, ◌∷◌}
use Rattle.std.proofs.lemmas.Grind.{common_steps}
use Rattle.std.proofs.Common.{add-zero, zero-add}
use Rattle.std.proofs.lemmas.List.{drop_all, drop_more, get_or_default}
use Rattle.bl_mem.specs.FileSet.{nth_file}
use Rattle.bl_load.specs.KernelBlock.{span_of}
use Rattle.bl_load.specs.Parts.{no_segment}
use Rattle.bl_load.proofs.BlockLemmas.{block_from}
use Rattle.bl_load.proofs.BlockStepLemmas.{block_from_first, first_below, left_behind, gap_beside}
use Rattle.bl_load.proofs.BlockStepLemmas.{segment_beside, block_step, none_left}
use Rattle.bl_load.proofs.MemoryLemmas.{keeps_all, keeps_on}
use Rattle.bl_load.proofs.kernel_block.load_block.Goals as goal

pub loop-segment-init : goal.loop-segment-init
loop-segment-init g c =
    let segments = c.args.segments.now in
    let first =
    block_from_first
    (nth_file (g.F.FileSet.texts c.args.files.now (g.M.PhysMem.bytes c.args.memory.now))
    c.args.file) segments no_segment c.requires.block.some c.requires.block.copied
    c.requires.block.ascending in
    record {
      same = refl;
      above =
          λ k d from within. let low =
          first_below segments no_segment c.requires.block.ascending k d within in omega arith;
      count = simp (add-zero, zero-add) (sym first.0);
      rest = simp (add-zero, first.1);
      kept = keeps_all;
    }

-- the files are as they were once zeros fill the gap
files_kept : (g : _) (c : goal.After-load_segment-arg-1 g)
    → g.F.FileSet.texts c.args.files.now (g.M.PhysMem.bytes c.zero.new.self)
    ≡ g.F.FileSet.texts c.args.files.now (g.M.PhysMem.bytes c.args.memory.now)
files_kept g c =
    let segments = c.args.segments.now in
    let i = c.loop-segment.segment-index in
    let s = get_or segments i no_segment in
    let low = (get_or segments 0 no_segment).address in
    let done = c.loop-segment.done in
    let old = g.M.PhysMem.bytes c.loop-segment.memory in
    let text =
    nth_file (g.F.FileSet.texts c.args.files.now (g.M.PhysMem.bytes c.args.memory.now))
    c.args.file in
    let here = c.loop-segment-test.true in
    let rest = drop (i + 1) segments in
    let copied = c.requires.block.copied i no_segment here in
    let up = c.loop-segment.invariant.above i no_segment (omega arith) here in
    let left = rw (drop_more segments i no_segment here) at c.loop-segment.invariant.count in
    let inside : c.args.at + (done + length (block_from text (low + done) (s ∷ rest)))
    ≤ length old = omega arith in
    let gap =
    gap_beside text old c.args.at low done s rest copied up inside
    (g.F.FileSet.holds c.args.files.now)
    (λ a from to. c.requires.free.beside a from (omega arith)) in
    let same = g.met.F.FileSet.same c.args.files.now old _ gap ∙ c.loop-segment.invariant.same in
    rw c.zero.ensures.after same

pub load_segment-requires-clause-file : goal.load_segment-requires-clause-file
load_segment-requires-clause-file g c = rw (files_kept g c) c.requires.block.file

pub load_segment-requires-clause-copied : goal.load_segment-requires-clause-copied
load_segment-requires-clause-copied g c =
    rw (files_kept g c)
    (c.requires.block.copied c.loop-segment.segment-index no_segment c.loop-segment-test.true)

pub load_segment-requires-clause-free : goal.load_segment-requires-clause-free
load_segment-requires-clause-free g c =
    let segments = c.args.segments.now in
    let i = c.loop-segment.segment-index in
    let s = get_or segments i no_segment in
    let low = (get_or segments 0 no_segment).address in
    let done = c.loop-segment.done in
    let old = g.M.PhysMem.bytes c.loop-segment.memory in
    let text =
    nth_file (g.F.FileSet.texts c.args.files.now (g.M.PhysMem.bytes c.args.memory.now))
    c.args.file in
    let here = c.loop-segment-test.true in
    let rest = drop (i + 1) segments in
    let copied = c.requires.block.copied i no_segment here in
    let up = c.loop-segment.invariant.above i no_segment (omega arith) here in
    let left = rw (drop_more segments i no_segment here) at c.loop-segment.invariant.count in
    let inside : c.args.at + (done + length (block_from text (low + done) (s ∷ rest)))
    ≤ length old = omega arith in
    let behind = left_behind text old c.args.at low done s rest copied up inside in
    record {
      held =
          rw (c.zero.ensures.kept.size, c.loop-segment.invariant.kept.size) c.requires.free.held;
      inside = rw c.zero.ensures.kept.size (omega arith);
      room = λ a from to.
          let bound : a < c.args.at + span_of segments = omega arith in
          c.zero.ensures.kept.room a
          (c.loop-segment.invariant.kept.room a (c.requires.free.room a (omega arith) bound));
      beside =
          segment_beside text old c.args.at low done s rest copied up inside
          (g.F.FileSet.holds c.args.files.now)
          (λ a from to. c.requires.free.beside a from (omega arith));
    }

pub loop-segment-preserved : goal.loop-segment-preserved
loop-segment-preserved g c =
    let segments = c.args.segments.now in
    let i = c.loop-segment.segment-index in
    let s = get_or segments i no_segment in
    let low = (get_or segments 0 no_segment).address in
    let done = c.loop-segment.done in
    let old = g.M.PhysMem.bytes c.loop-segment.memory in
    let text =
    nth_file (g.F.FileSet.texts c.args.files.now (g.M.PhysMem.bytes c.args.memory.now))
    c.args.file in
    let here = c.loop-segment-test.true in
    let rest = drop (i + 1) segments in
    let copied = c.requires.block.copied i no_segment here in
    let up = c.loop-segment.invariant.above i no_segment (omega arith) here in
    let left = rw (drop_more segments i no_segment here) at c.loop-segment.invariant.count in
    let inside : c.args.at + (done + length (block_from text (low + done) (s ∷ rest)))
    ≤ length old = omega arith in
    let whole = rw (drop_more segments i no_segment here) at c.loop-segment.invariant.rest in
    let gap =
    gap_beside text old c.args.at low done s rest copied up inside
    (g.F.FileSet.holds c.args.files.now)
    (λ a from to. c.requires.free.beside a from (omega arith)) in
    let same = g.met.F.FileSet.same c.args.files.now old _ gap ∙ c.loop-segment.invariant.same in
    let kept : g.F.FileSet.texts c.args.files.now (g.M.PhysMem.bytes c.zero.new.self)
    ≡ g.F.FileSet.texts c.args.files.now (g.M.PhysMem.bytes c.args.memory.now) =
    rw c.zero.ensures.after same in
    record {
      same = c.load_segment.ensures.texts ∙ kept;
      above =
          λ k d next within. let ahead =
          rw (get_or_default segments i d no_segment here) at
          (c.requires.block.ascending i k d (omega arith) within) in omega arith;
      count = left_behind text old c.args.at low done s rest copied up inside ∙ left;
      rest =
          rw (c.load_segment.ensures.after, kept, c.zero.ensures.after)
          (block_step text old c.args.at low done s rest copied up inside ∙ whole);
      kept =
          keeps_on (keeps_on c.loop-segment.invariant.kept c.zero.ensures.kept)
          c.load_segment.ensures.kept;
    }

pub returns-clause-put : goal.returns-clause-put
returns-clause-put g c =
    let segments = c.args.segments.now in
    let low = (get_or segments 0 no_segment).address in
    let text =
    nth_file (g.F.FileSet.texts c.args.files.now (g.M.PhysMem.bytes c.args.memory.now))
    c.args.file in
    record {
      after =
          none_left text (g.M.PhysMem.bytes c.loop-segment.memory)
          (c.args.at + c.loop-segment.done) (low + c.loop-segment.done) segments
          c.loop-segment.segment-index c.loop-segment-test.false
          ∙ c.loop-segment.invariant.rest;
      texts = c.loop-segment.invariant.same;
      kept = c.loop-segment.invariant.kept;
    }

pub returns-clause-count : goal.returns-clause-count
returns-clause-count g c =
    let none = drop_all c.loop-segment.segment-index c.args.segments.now c.loop-segment-test.false in
    rw (none, add-zero) at c.loop-segment.invariant.count

pub overflow_add-at-in-loop-segment : goal.overflow_add-at-in-loop-segment
overflow_add-at-in-loop-segment g c = grind (arith, common_steps)

pub zero-requires-clause-inside : goal.zero-requires-clause-inside
zero-requires-clause-inside g c = grind (arith, common_steps)

pub zero-requires-clause-room : goal.zero-requires-clause-room
zero-requires-clause-room g c = grind (arith, common_steps)

pub overflow_add-at-in-loop-segment-2 : goal.overflow_add-at-in-loop-segment-2
overflow_add-at-in-loop-segment-2 g c = grind (arith, common_steps)
