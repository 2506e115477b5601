use Rattle.std.proofs.Common.{◌<◌, ◌≡◌, ◌≤◌, List, length, take, map, sym, ap, ◌∙◌, arith, subst}
use Rattle.std.proofs.lemmas.List.{take_all}
use Rattle.std.proofs.lemmas.Result.{err_from_is_err_and}
use Rattle.bl_load.specs.Handover.{Handover, Part}
use Rattle.bl_load.specs.HandoffFacts.{IsWellFormedHandoff}
use Rattle.bl_load.specs.PlanContents.{part_in}
use Rattle.bl_image.specs.ImageHandover.{handoff_of}
use Rattle.bl_load.specs.declared.registers.Registers.{Registers}
use Rattle.bl_plan.specs.declared.protocol.Protocol.{Protocol}
use Rattle.bl_image.proofs.PartLemmas.{parts_in-more, memory_kept}
use Rattle.bl_image.proofs.image.Image.of.Goals as goal

pub new-requires : goal.new-requires
new-requires g c =
    let bytes = g.M.PhysMem.bytes c.args.memory.now in
    let h = c.args.handoff.now in
    let all : length h.places ≤ c.loop-i.i = omega (arith, c.len-i-end.ensures.len) in
    let whole : take c.loop-i.i h.places ≡ h.places = take_all c.loop-i.i h.places all in
    rw (c.protocol.ensures, c.registers.ensures)
    (subst
    (λ (parts : List Part).
    IsWellFormedHandoff
    (handoff_of (record { protocol = h.protocol; registers = h.registers; parts = parts })))
    (sym (c.loop-i.invariant ∙ ap (map (part_in bytes)) whole))
    (memory_kept bytes h.protocol h.registers h.places c.requires c.len-i-end.ensures.kept))

pub part_of-requires : goal.part_of-requires
part_of-requires g c =
    let places = c.args.handoff.now.places in
    let inside : c.loop-i.i < length places =
    omega (arith, c.loop-i-test.true, c.len-i-end.ensures.len) in
    rw (← c.place.ensures) at (c.requires c.loop-i.i c.place.result inside)

pub returns-in_err-part : goal.returns-in_err-part
returns-in_err-part g c =
    let p = err_from_is_err_and c.from_residual.result c.from_residual.ensures.1 in
    rw p.1 tt

pub loop-i-preserved : goal.loop-i-preserved
loop-i-preserved g c =
    let places = c.args.handoff.now.places in
    let inside : c.loop-i.i < length places =
    omega (arith, c.loop-i-test.true, c.len-i-end.ensures.len) in
    rw (c.in_ok-push.ensures.items, c.in_ok-part.ensures, c.loop-i.invariant)
    (parts_in-more (g.M.PhysMem.bytes c.args.memory.now) places c.loop-i.i c.place.result
    c.place.ensures inside)

-- what is handed over with these parts
abbrev with_parts : Protocol → Registers → List Part → Handover
with_parts protocol registers parts =
    record { protocol = protocol; registers = registers; parts = parts }

pub returns : goal.returns
returns g c =
    let h = c.args.handoff.now in
    let all : length h.places ≤ c.loop-i.i = omega (arith, c.len-i-end.ensures.len) in
    rw (c.new.ensures, c.protocol.ensures, c.registers.ensures)
    (ap (with_parts h.protocol h.registers)
    (c.loop-i.invariant
    ∙ ap (map (part_in (g.M.PhysMem.bytes c.args.memory.now)))
    (take_all c.loop-i.i h.places all)))
