use Rattle.std.proofs.lemmas.Grind.{common_steps}
use Rattle.std.proofs.Common.{◌≡◌, ◌+◌, ◌*◌, ◌/◌, ap, arith, sym, subst}
use Rattle.std.proofs.Common.{None, get_or, length, rules}
use Rattle.std.proofs.lemmas.List.{get_or_append_left}
use Rattle.bl_mem.specs.declared.frame_state.FrameState.TheVariants.{Bare}
use Rattle.bl_mem.specs.SparseFrames.{SparseFramesFacts, frame_numbered}
use Rattle.bl_mem.specs.internal.FrameSlots.{owed_slots, partner}
use Rattle.bl_mem.proofs.FrameLemmas.{kept_set, in_table, owes_room}
use Rattle.bl_mem.proofs.PairLemmas.{reads_inside}
use Rattle.bl_mem.proofs.SoundLemmas.{sound_appended}
use Rattle.bl_mem.proofs.sparse_frames.SparseFrames.append.Goals as goal

pub invariant_of-self : goal.invariant_of-self
invariant_of-self g c =
    let table = c.self.inside.table.items in
    let number = c.args.number in
    let owed = c.self.inside.owed in
    let owing : owed_slots (get_or table number Bare) ≡ 1 =
    subst (λ (facts : SparseFramesFacts). owed_slots (frame_numbered facts number) ≡ 1)
    (sym c.self.view_is)
    c.requires.plain in
    let alone : partner (get_or table number Bare) ≡ None =
    subst (λ (facts : SparseFramesFacts). partner (frame_numbered facts number) ≡ None)
    (sym c.self.view_is) c.requires.alone in
    rw (c.put_bytes.ensures.len, c.requires.whole)
    (sound_appended table c.self.inside.kept.len owed c.self.inside.kept.cap _ number
    (c.len.result / 4096) c.self.invariant (in_table table number (owes_room _ owing))
    c.put_bytes.ensures.capacity owing alone (ap (λ n. n / 4096) c.len.ensures))

pub returns-clause-after : goal.returns-clause-after
returns-clause-after g c =
    let table = c.self.inside.table.items in
    let kept = c.self.inside.kept.items in
    let number = c.args.number in
    let owing : owed_slots (get_or table number Bare) ≡ 1 =
    subst (λ (facts : SparseFramesFacts). owed_slots (frame_numbered facts number) ≡ 1)
    (sym c.self.view_is)
    c.requires.plain in
    let len : c.len.result ≡ length kept = search rules in
    rw (← c.self.view_is, ← len)
    (kept_set c.self.inside.fill table kept c.put_bytes.new.out.items number (c.len.result / 4096)
    (in_table table number (owes_room _ owing))
    (λ j s place other small is.
    let fits = reads_inside table _ _ _ j s c.self.invariant is in
    rw c.put_bytes.ensures.items
    (get_or_append_left kept c.args.part.now 0 (4096 * s + place) (omega (arith, fits)))))

pub put_bytes-requires : goal.put_bytes-requires
put_bytes-requires g c = grind (arith, common_steps)

pub index_mut-requires : goal.index_mut-requires
index_mut-requires g c = grind (arith, common_steps)

pub returns-clause-bytes : goal.returns-clause-bytes
returns-clause-bytes g c = grind (arith, common_steps)

pub overflow_cast-slot : goal.overflow_cast-slot
overflow_cast-slot g c = grind (arith, common_steps)

pub overflow_sub-self : goal.overflow_sub-self
overflow_sub-self g c = grind (arith, common_steps)
