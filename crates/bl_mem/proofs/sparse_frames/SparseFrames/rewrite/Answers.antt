use Rattle.std.proofs.Common.{◌≡◌, arith, sym, subst, get_or}
use Rattle.std.proofs.Common.{None, Some, refl, ◌∙◌}
use Rattle.bl_mem.specs.declared.frame_state.FrameState.TheVariants.{Bare, Kept}
use Rattle.bl_mem.specs.SparseFrames.{SparseFramesFacts, frame_numbered}
use Rattle.bl_mem.specs.internal.FrameSlots.{slot_of, partner, AreSoundSlots}
use Rattle.bl_mem.proofs.FrameLemmas.{kept_set, beside_slot, in_table, slot_room, slot_owes}
use Rattle.bl_mem.proofs.PairLemmas.{reads_other}
use Rattle.bl_mem.proofs.SoundLemmas.{sound_set}
use Rattle.std.proofs.lemmas.Grind.{common_steps}
use Rattle.bl_mem.proofs.sparse_frames.SparseFrames.rewrite.Goals as goal

pub invariant_of-self : goal.invariant_of-self
invariant_of-self g c =
    let table = c.self.inside.table.items in
    let number = c.args.number in
    let slot = c.args.slot in
    let own : slot_of (get_or table number Bare) ≡ Some slot =
    subst (λ (facts : SparseFramesFacts). slot_of (frame_numbered facts number) ≡ Some slot)
    (sym c.self.view_is) c.requires.slot.own in
    let alone : partner (get_or table number Bare) ≡ None =
    subst (λ (facts : SparseFramesFacts). partner (frame_numbered facts number) ≡ None)
    (sym c.self.view_is) c.requires.slot.alone in
    sound_set table _ c.self.inside.owed _ _ number (Kept slot)
    (subst (λ n. AreSoundSlots table n c.self.inside.owed c.self.inside.kept.cap)
    (sym c.put_at.ensures.len) c.self.invariant)
    (in_table table number (slot_room _ slot own))
    (omega (arith, c.put_at.ensures.capacity)) (sym (slot_owes _ slot own)) alone refl
    (λ s is. own ∙ is)

pub returns-clause-after : goal.returns-clause-after
returns-clause-after g c =
    let table = c.self.inside.table.items in
    let kept = c.self.inside.kept.items in
    let number = c.args.number in
    let slot = c.args.slot in
    let part = c.args.part.now in
    let sound = c.self.invariant in
    let own : slot_of (get_or table number Bare) ≡ Some slot =
    subst (λ (facts : SparseFramesFacts). slot_of (frame_numbered facts number) ≡ Some slot)
    (sym c.self.view_is) c.requires.slot.own in
    let alone : partner (get_or table number Bare) ≡ None =
    subst (λ (facts : SparseFramesFacts). partner (frame_numbered facts number) ≡ None)
    (sym c.self.view_is) c.requires.slot.alone in
    let fits = sound.inside number slot own in
    rw (← c.self.view_is)
    (kept_set c.self.inside.fill table kept c.put_at.new.out.items number slot
    (in_table table number (slot_room _ slot own))
    (λ j s place other small is.
    rw c.put_at.ensures.items
    (beside_slot kept part slot c.args.place s place c.requires.inside (omega (arith, fits))
    (reads_other table _ _ _ number j slot s sound other alone own is) small)))

pub index_mut-requires : goal.index_mut-requires
index_mut-requires g c = grind (arith, common_steps)
