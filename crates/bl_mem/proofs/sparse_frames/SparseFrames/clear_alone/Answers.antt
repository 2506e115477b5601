use Rattle.std.proofs.Common.{None, ◌≡◌, ap, sym, subst, true, get_or, ◌∙◌, arith}
use Rattle.bl_mem.specs.declared.frame_state.FrameState.TheVariants.{Bare}
use Rattle.bl_mem.specs.FrameState.{has_room, cleared}
use Rattle.bl_mem.specs.SparseFrames.{SparseFramesFacts, frame_numbered}
use Rattle.bl_mem.specs.internal.FrameSlots.{partner}
use Rattle.bl_mem.proofs.FrameLemmas.{in_table, cleared_stored, cleared_owes, cleared_slot}
use Rattle.bl_mem.proofs.FrameLemmas.{cleared_alone}
use Rattle.bl_mem.proofs.SoundLemmas.{sound_set}
use Rattle.bl_mem.proofs.sparse_frames.SparseFrames.clear_alone.Goals as goal

pub invariant_of-self : goal.invariant_of-self
invariant_of-self g c =
    let table = c.self.inside.table.items in
    let number = c.args.number in
    let had : has_room (get_or table number Bare) ≡ true =
    subst (λ (facts : SparseFramesFacts). has_room (frame_numbered facts number) ≡ true)
    (sym c.self.view_is)
    c.requires.held in
    let now : c.cleared-cleared.result ≡ cleared (get_or table number Bare) =
    c.cleared-cleared.ensures ∙ ap cleared c.frame.ensures
    ∙ ap (λ (facts : SparseFramesFacts). cleared (frame_numbered facts number))
    (sym c.self.view_is) in
    rw now
    (sound_set table _ c.self.inside.owed _ _ number (cleared (get_or table number Bare))
    c.self.invariant (in_table table number had) (omega arith)
    (cleared_owes (get_or table number Bare))
    (subst (λ (facts : SparseFramesFacts). partner (frame_numbered facts number) ≡ None)
    (sym c.self.view_is) c.requires.alone)
    (cleared_alone (get_or table number Bare))
    (λ s is. sym (cleared_slot (get_or table number Bare)) ∙ is))

pub returns : goal.returns
returns g c =
    let table = c.self.inside.table.items in
    let number = c.args.number in
    let had : has_room (get_or table number Bare) ≡ true =
    subst (λ (facts : SparseFramesFacts). has_room (frame_numbered facts number) ≡ true)
    (sym c.self.view_is)
    c.requires.held in
    let now : c.cleared-cleared.result ≡ cleared (get_or table number Bare) =
    c.cleared-cleared.ensures ∙ ap cleared c.frame.ensures
    ∙ ap (λ (facts : SparseFramesFacts). cleared (frame_numbered facts number))
    (sym c.self.view_is) in
    rw (← c.self.view_is, now)
    (cleared_stored c.self.inside.fill table c.self.inside.kept.items number had)
