use Rattle.std.proofs.Common.{◌≡◌, List, map, length, refl, ap, ◌∙◌, slice_index}
use Rattle.bl_load.specs.declared.plan.PlannedPart.{PlannedPart}
use Rattle.bl_load.specs.Handover.{Part, Handover, overwrite_parts}
use Rattle.bl_load.specs.PlanContents.{part_by}
use Rattle.bl_load.proofs.HeldLemmas.{can_load, all_end_within, all_are_before, held}
use Rattle.bl_load.proofs.HeldLemmas.{held_elsewhere}
use Rattle.bl_load.proofs.WrittenLemmas.{written_in}
use Rattle.bl_load.proofs.loading.load.Goals as goal

pub load_parts-requires-clause-can : goal.load_parts-requires-clause-can
load_parts-requires-clause-can g c =
    rw c.as_slice.ensures.value
    (can_load (g.F.FileSet.texts c.args.files.now (g.M.PhysMem.bytes c.args.memory.now))
    _ c.args.plan c.requires.loadable (g.M.PhysMem.room c.args.memory.now)
    (g.F.FileSet.holds c.args.files.now) c.requires.room c.requires.beside)

-- the plan's parts are written
is_written : (g : _) (c : goal.After-load_parts g)
    → g.M.PhysMem.bytes c.load_parts.new.memory
    ≡ overwrite_parts
    (map
    (part_by (g.F.FileSet.texts c.args.files.now (g.M.PhysMem.bytes c.args.memory.now)))
    c.args.plan.parts.items) (g.M.PhysMem.bytes c.args.memory.now)
is_written g c =
    c.load_parts.ensures.after
    ∙ ap
    (λ (ps : List (PlannedPart g.row.A.Denot)).
    overwrite_parts
    (map
    (part_by
    (g.F.FileSet.texts c.args.files.now
    (g.M.PhysMem.bytes c.args.memory.now))) ps)
    (g.M.PhysMem.bytes c.args.memory.now)) c.as_slice.ensures.value

pub returns-clause-handed : goal.returns-clause-handed
returns-clause-handed g c =
    let old = g.M.PhysMem.bytes c.args.memory.now in
    let read =
    held (g.F.FileSet.texts c.args.files.now (g.M.PhysMem.bytes c.args.memory.now)) (length old)
    c.args.plan c.requires.loadable old refl in
    rw (is_written g c)
    (ap
    (λ (ps : List Part).
    let h : Handover =
    record {
      protocol = c.args.plan.protocol;
      registers = c.args.plan.registers;
      parts = ps;
    } in h) read)

pub returns-clause-in_parts : goal.returns-clause-in_parts
returns-clause-in_parts g c = λ k d within a low high.
    let texts = g.F.FileSet.texts c.args.files.now (g.M.PhysMem.bytes c.args.memory.now) in
    let old = g.M.PhysMem.bytes c.args.memory.now in
    ap (λ m. slice_index m a) (is_written g c)
    ∙ written_in (length old) (map (part_by texts) c.args.plan.parts.items) old k a d refl
    (all_end_within texts (length old) c.args.plan c.requires.loadable)
    (all_are_before texts (length old) c.args.plan c.requires.loadable) within (low, high)

pub returns-clause-elsewhere : goal.returns-clause-elsewhere
returns-clause-elsewhere g c = λ a out.
    let old = g.M.PhysMem.bytes c.args.memory.now in
    ap (λ m. slice_index m a) (is_written g c)
    ∙ held_elsewhere (g.F.FileSet.texts c.args.files.now (g.M.PhysMem.bytes c.args.memory.now))
    (length old) c.args.plan c.requires.loadable old a refl out

pub returns-clause-after : goal.returns-clause-after
returns-clause-after g c = is_written g c

pub returns-clause-places : goal.returns-clause-places
returns-clause-places g c = refl
