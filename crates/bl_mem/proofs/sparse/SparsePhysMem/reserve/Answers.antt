use Rattle.std.proofs.Common.{◌∙◌, ℕ, arith, refl, sym, take}
use Rattle.std.specs.declared.ops.Range.{Range}
use Rattle.std.proofs.lemmas.List.{take_all}
use Rattle.std.proofs.lemmas.List.Elements.{All-more, All-same, All-weaker}
use Rattle.bl_mem.specs.Memory.{HasRoom}
use Rattle.bl_mem.specs.SparseFrames.{HasRoomAt}
use Rattle.bl_mem.proofs.sparse.SparsePhysMem.reserve.Goals as goal

pub loop-range-init : goal.loop-range-init
loop-range-init g c = record {
  same = refl;
  size = refl;
  kept = λ a held. held;
  made = λ k d h. absurd (omega arith);
}

pub loop-range-preserved : goal.loop-range-preserved
loop-range-preserved g c =
    let before = c.loop-range.invariant in
    let old = c.loop-range.self.frames in
    let new = c.hold.new.self.frames in
    let none : Range ℕ = record { start = 0; end = 0 } in
    record {
      same = c.hold.ensures.kept.same ∙ before.same;
      size = c.hold.ensures.kept.size ∙ before.size;
      kept = λ a had. c.hold.ensures.kept.kept a (before.kept a had);
      made =
          All-more (λ (range : Range ℕ). HasRoom (HasRoomAt new) range.start range.end)
          c.args.ranges.now c.loop-range.range-index none c.loop-range-test.true
          (All-weaker (λ (range : Range ℕ). HasRoom (HasRoomAt old) range.start range.end)
          (λ (range : Range ℕ). HasRoom (HasRoomAt new) range.start range.end)
          (λ range had a low high. c.hold.ensures.kept.kept a (had a low high))
          (take c.loop-range.range-index c.args.ranges.now) before.made)
          c.in_ok-hold.ensures.made;
    }

pub returns-clause-made : goal.returns-clause-made
returns-clause-made g c =
    let at = c.loop-range.range-index in
    let frames = c.loop-range.self.frames in
    let ranges = c.args.ranges.now in
    All-same (λ (range : Range ℕ). HasRoom (HasRoomAt frames) range.start range.end) ranges
    (take at ranges) (sym (take_all at ranges c.loop-range-test.false))
    c.loop-range.invariant.made
