use Rattle.std.proofs.Common.{rules, arith, List, ℕ, ◌++◌, ◌∙◌, ap}
use Rattle.std.proofs.lemmas.Grind.{common_steps}
use Rattle.bl_mem.specs.LittleEndian.{u32_bytes}
use Rattle.bl_mbi.proofs.GroupLemmas.{spelled, info_size_is}
use Rattle.bl_mbi.proofs.write.write_info.Goals as goal

pub returns-clause-ok : goal.returns-clause-ok
returns-clause-ok g c =
    spelled c.args.out.now.items _ _ _ _ _ _ _ c.args.facts.now
    _ c.info_size-total_size.ensures.by_lengths
    (c.put_u32.ensures.items
    ∙ ap (λ (x : List ℕ). x ++ u32_bytes c.info_size-total_size.result)
    c.reserve.ensures.items) c.put_u32-2.ensures.items c.put_texts.ensures.items
    c.put_memory_tags.ensures.items c.put_firmware_tags.ensures.items c.put_copies.ensures.items
    c.put_closing_tags.ensures

pub returns-in_err-reserve-clause-err : goal.returns-in_err-reserve-clause-err
returns-in_err-reserve-clause-err g c = search rules

pub put_texts-requires : goal.put_texts-requires
put_texts-requires g c = grind (arith, common_steps, info_size_is c.args.facts.now)

pub put_memory_tags-requires : goal.put_memory_tags-requires
put_memory_tags-requires g c = grind (arith, common_steps, info_size_is c.args.facts.now)

pub put_firmware_tags-requires : goal.put_firmware_tags-requires
put_firmware_tags-requires g c = grind (arith, common_steps, info_size_is c.args.facts.now)

pub put_copies-requires : goal.put_copies-requires
put_copies-requires g c = grind (arith, common_steps, info_size_is c.args.facts.now)

pub put_closing_tags-requires : goal.put_closing_tags-requires
put_closing_tags-requires g c = grind (arith, common_steps, info_size_is c.args.facts.now)
