use Rattle.std.proofs.Common.{◌≤◌, ℕ, arith, sym, take}
use Rattle.std.specs.declared.ops.Range.{Range}
use Rattle.std.proofs.lemmas.List.{take_all}
use Rattle.std.proofs.lemmas.List.Elements.{All-more, All-same}
use Rattle.bl_mem.specs.Memory.{HasRoom}
use Rattle.bl_mem.proofs.slice_memory.SliceMemoryPhysMem.reserve.Goals as goal
use Rattle.bl_mem.proofs.slice_memory.SliceMemoryPhysMem.reserve.Goals.{
  else-range-via-then-range+else-range-self,
  else-range-via-else-range,
}

pub loop-range-preserved : goal.loop-range-preserved
loop-range-preserved c =
    let none : Range ℕ = record { start = 0; end = 0 } in
    All-more
    (λ (range : Range ℕ). HasRoom (λ a. c.args.self.now.base ≤ a) range.start range.end)
    c.args.ranges.now c.loop-range.range-index none c.loop-range-test.true
    c.loop-range.invariant (λ a from to.
    elim c.else-range.branch [
      | else-range-via-then-range+else-range-self w ↦ omega (arith, w.if-range-self.false)
      | else-range-via-else-range w ↦ omega (arith, w.if-range.false)
    ])

pub returns-clause-made : goal.returns-clause-made
returns-clause-made c =
    let at = c.loop-range.range-index in
    let ranges = c.args.ranges.now in
    All-same
    (λ (range : Range ℕ). HasRoom (λ a. c.args.self.now.base ≤ a) range.start range.end) ranges
    (take at ranges) (sym (take_all at ranges c.loop-range-test.false)) c.loop-range.invariant
