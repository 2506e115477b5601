use Rattle.std.proofs.Common.{◌+◌, ap, length, arith}
use Rattle.bl_mbi.specs.InfoToWriteFacts.{ModuleInfo}
use Rattle.bl_mbi.specs.Size.{tag_size}
use Rattle.bl_mbi.proofs.SumLemmas.{next_fits, next_sum}
use Rattle.bl_mbi.proofs.write.modules_len.Goals as goal

pub tag_len-sum-requires : goal.tag_len-sum-requires
tag_len-sum-requires c =
    let line = ap (λ (m : ModuleInfo). length m.line) c.loaded.view_is in
    omega (
      arith,
      line,
      next_fits (λ m. tag_size (length m.line + 9)) c.args.modules.now
          c.loop-loaded.loaded-index _ c.loaded-item.is c.loop-loaded-test.true,
      c.requires,
    )

pub overflow_add-sum : goal.overflow_add-sum
overflow_add-sum c =
    let line = ap (λ (m : ModuleInfo). length m.line) c.loaded.view_is in
    omega (
      arith,
      line,
      c.tag_len-sum.ensures,
      c.loop-loaded.invariant,
      next_fits (λ m. tag_size (length m.line + 9)) c.args.modules.now
          c.loop-loaded.loaded-index _ c.loaded-item.is c.loop-loaded-test.true,
      c.requires,
    )

pub loop-loaded-preserved : goal.loop-loaded-preserved
loop-loaded-preserved c =
    let line = ap (λ (m : ModuleInfo). length m.line) c.loaded.view_is in
    omega (
      arith,
      line,
      c.tag_len-sum.ensures,
      c.loop-loaded.invariant,
      next_sum (λ m. tag_size (length m.line + 9)) c.args.modules.now
          c.loop-loaded.loaded-index _ c.loaded-item.is c.loop-loaded-test.true,
    )
