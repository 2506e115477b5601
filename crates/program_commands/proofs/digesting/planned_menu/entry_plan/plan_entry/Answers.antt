use Rattle.std.proofs.Common.{◌≡◌, ◌∙◌, None, length, map, arith, ap}
use Rattle.std.proofs.lemmas.Grind.{common_steps}
use Rattle.std.proofs.lemmas.List.{length-map}
use Rattle.std.proofs.lemmas.Result.{err_from_is_err_and}
use Rattle.bl_load.specs.PlanContents.{handoff_by}
use Rattle.bl_stage.specs.Files.{stored_files}
use Rattle.bl_session.specs.attempt.AttemptResult.{known_lengths, size_refusal}
use Rattle.bl_session.specs.menu.Menu.{files_of}
use Rattle.bl_session.proofs.menu_lemmas.MenuLemmas.{few_files}
use Rattle.program_say.proofs.FrameLemmas.{ascending_parts}
use Rattle.program_boots.specs.EntryPlans.{file_sizes, file_texts}
use Rattle.program_boots.proofs.digesting_lemmas.EntryLemmas.{counted_texts, fits_sizes}
use Rattle.program_boots.proofs.digesting_lemmas.EntryLemmas.{has_plan, room_fault}
use Rattle.program_boots.proofs.digesting_lemmas.EntryLemmas.{value_fault}
use Rattle.program_commands.proofs.digesting.planned_menu.entry_plan.plan_entry.Goals as goal

pub checked_lengths-requires : goal.checked_lengths-requires
checked_lengths-requires g c =
    let few = few_files c.args.entry.now c.requires in grind (arith, common_steps, few)

pub prepare-requires-clause-files : goal.prepare-requires-clause-files
prepare-requires-clause-files g c =
    let files = stored_files c.args.files.now in
    let texts : map (λ t. t.bytes.now) c.deref-4.result.now
    ≡ file_texts files (files_of c.args.entry.now) =
    rw (c.deref-4.ensures.value, ← c.in_ok-indices.ensures, ← c.deref-3.ensures.value)
    c.in_ok-texts.ensures in
    let counted = counted_texts c.args.machine.now c.args.entry.now files in
    omega (arith, length-map c.deref-4.result.now (λ t. t.bytes.now), ap length texts, counted)

pub returns-in_err-plan-clause-fault : goal.returns-in_err-plan-clause-fault
returns-in_err-plan-clause-fault g c =
    let machine = c.args.machine.now in
    let entry = c.args.entry.now in
    let files = stored_files c.args.files.now in
    let texts : map (λ t. t.bytes.now) c.deref-4.result.now ≡ file_texts files (files_of entry) =
    rw (c.deref-4.ensures.value, ← c.in_ok-indices.ensures, ← c.deref-3.ensures.value)
    c.in_ok-texts.ensures in
    let indices : c.deref.result.now ≡ files_of entry =
    c.deref.ensures.value ∙ c.in_ok-indices.ensures in
    let fits : size_refusal machine (file_sizes files (files_of entry)) ≡ None =
    fits_sizes machine files (files_of entry) c.deref.result.now c.deref-2.result.now
    c.frames_in.result indices c.in_ok-lengths.ensures.fits
    (c.deref-2.ensures.value ∙ c.in_ok-lengths.ensures.lengths)
    c.in_ok-check_frames.ensures.ok (rw c.pool-pool.ensures.pool at c.frames_in.ensures) in
    let p =
    err_from_is_err_and c.from_residual-in_err-plan.result c.from_residual-in_err-plan.ensures.1 in
    rw (p.1, p.2)
    (value_fault machine entry files fits c.in_err-plan.field-0.0
    (rw texts at c.in_err-plan.ensures.fault))

pub open_frames-requires-clause-ascending : goal.open_frames-requires-clause-ascending
open_frames-requires-clause-ascending g c =
    rw c.ranges-2.ensures
    (ascending_parts (handoff_by c.in_ok-plan.plan) c.in_ok-plan.ensures.loadable.kept)

pub returns-in_err-check_frames-2-clause-fault : goal.returns-in_err-check_frames-2-clause-fault
returns-in_err-check_frames-2-clause-fault g c =
    let machine = c.args.machine.now in
    let entry = c.args.entry.now in
    let files = stored_files c.args.files.now in
    let texts : map (λ t. t.bytes.now) c.deref-4.result.now ≡ file_texts files (files_of entry) =
    rw (c.deref-4.ensures.value, ← c.in_ok-indices.ensures, ← c.deref-3.ensures.value)
    c.in_ok-texts.ensures in
    let indices : c.deref.result.now ≡ files_of entry =
    c.deref.ensures.value ∙ c.in_ok-indices.ensures in
    let known : c.in_ok-lengths.lengths.items ≡ known_lengths (file_sizes files (files_of entry)) =
    rw indices at c.in_ok-lengths.ensures.lengths in
    let fits : size_refusal machine (file_sizes files (files_of entry)) ≡ None =
    fits_sizes machine files (files_of entry) c.deref.result.now c.deref-2.result.now
    c.frames_in.result indices c.in_ok-lengths.ensures.fits
    (c.deref-2.ensures.value ∙ c.in_ok-lengths.ensures.lengths)
    c.in_ok-check_frames.ensures.ok (rw c.pool-pool.ensures.pool at c.frames_in.ensures) in
    let refused = c.in_err-check_frames-2.ensures.refused in
    let p =
    err_from_is_err_and c.from_residual-in_err-check_frames-2.result
    c.from_residual-in_err-check_frames-2.ensures.1 in
    rw (p.1, p.2, refused.0)
    (room_fault machine entry files fits c.in_ok-plan.plan
    (rw texts at c.in_ok-plan.ensures.handover) (rw texts at c.in_ok-plan.ensures.loadable)
    c.deref-5.result.now c.open_frames.result (c.deref-5.ensures.value ∙ known) refused.1
    (rw (c.pool-pool.ensures.pool, c.ranges-2.ensures) at c.open_frames.ensures))

pub returns-clause-planned : goal.returns-clause-planned
returns-clause-planned g c =
    let machine = c.args.machine.now in
    let entry = c.args.entry.now in
    let files = stored_files c.args.files.now in
    let texts : map (λ t. t.bytes.now) c.deref-4.result.now ≡ file_texts files (files_of entry) =
    rw (c.deref-4.ensures.value, ← c.in_ok-indices.ensures, ← c.deref-3.ensures.value)
    c.in_ok-texts.ensures in
    let indices : c.deref.result.now ≡ files_of entry =
    c.deref.ensures.value ∙ c.in_ok-indices.ensures in
    let known : c.in_ok-lengths.lengths.items ≡ known_lengths (file_sizes files (files_of entry)) =
    rw indices at c.in_ok-lengths.ensures.lengths in
    let fits : size_refusal machine (file_sizes files (files_of entry)) ≡ None =
    fits_sizes machine files (files_of entry) c.deref.result.now c.deref-2.result.now
    c.frames_in.result indices c.in_ok-lengths.ensures.fits
    (c.deref-2.ensures.value ∙ c.in_ok-lengths.ensures.lengths)
    c.in_ok-check_frames.ensures.ok (rw c.pool-pool.ensures.pool at c.frames_in.ensures) in
    has_plan machine entry files fits c.in_ok-plan.plan
    (rw texts at c.in_ok-plan.ensures.handover) (rw texts at c.in_ok-plan.ensures.loadable)
    c.deref-5.result.now c.open_frames.result (c.deref-5.ensures.value ∙ known)
    c.in_ok-check_frames-2.ensures.ok
    (rw (c.pool-pool.ensures.pool, c.ranges-2.ensures) at c.open_frames.ensures)
