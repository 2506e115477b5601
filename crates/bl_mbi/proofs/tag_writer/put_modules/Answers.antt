use Rattle.std.proofs.Common.{◌+◌, arith, length}
use Rattle.std.proofs.lemmas.Grind.{common_steps}
use Rattle.bl_mbi.specs.Tags.{module_tag}
use Rattle.bl_mbi.specs.Size.{tag_size}
use Rattle.bl_mbi.proofs.SumLemmas.{next_fits, next_sum, appended_next}
use Rattle.bl_mbi.proofs.tag_writer.put_modules.Goals as goal

pub put_module-requires-clause-room : goal.put_module-requires-clause-room
put_module-requires-clause-room g c =
    let i = c.loop-module.invariant in
    omega (
      arith,
      next_fits (λ m. tag_size (length m.line + 9)) c.args.modules.now
          c.loop-module.module-index _ c.module-item.is c.loop-module-test.true,
      c.requires.room,
      i.len,
      i.capacity,
    )

pub put_module-requires-clause-small : goal.put_module-requires-clause-small
put_module-requires-clause-small g c =
    omega (
      arith,
      next_fits (λ m. tag_size (length m.line + 9)) c.args.modules.now
          c.loop-module.module-index _ c.module-item.is c.loop-module-test.true,
      c.requires.small,
    )

pub loop-module-preserved : goal.loop-module-preserved
loop-module-preserved g c =
    let i = c.loop-module.invariant in
    let e = c.put_module.ensures in
    record {
      items =
          appended_next module_tag c.args.modules.now c.loop-module.module-index
          _ _ _ _ c.module-item.is c.loop-module-test.true i.items e.items;
      len =
          omega (
            arith,
            e.len,
            i.len,
            next_sum (λ m. tag_size (length m.line + 9)) c.args.modules.now
                c.loop-module.module-index _ c.module-item.is c.loop-module-test.true,
          );
      capacity = omega (arith, e.capacity, i.capacity);
    }

pub returns : goal.returns
returns g c = grind (arith, common_steps)
