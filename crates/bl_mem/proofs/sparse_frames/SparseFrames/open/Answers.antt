use Rattle.std.proofs.Common.{arith}
use Rattle.bl_mem.proofs.SoundLemmas.{sound_opened}
use Rattle.std.proofs.lemmas.Grind.{common_steps}
use Rattle.bl_mem.proofs.sparse_frames.SparseFrames.open.Goals as goal

pub invariant_of-self-2 : goal.invariant_of-self-2
invariant_of-self-2 g c =
    let most = c.give_room.ensures.most in
    let room = c.in_ok-reserve_exact.ensures.ok in
    rw c.reserve_exact.ensures.len
    (sound_opened c.self.inside.table.items _ _ c.self.inside.owed _ _ c.args.first c.args.end
    c.self.inside.fill _ c.self.invariant c.give_room.ensures (omega (arith, most, room))
    (omega (arith, most, c.if-more-len.false)))

pub returns-in_err-reserve_exact-clause-size : goal.returns-in_err-reserve_exact-clause-size
returns-in_err-reserve_exact-clause-size g c = grind (arith, common_steps)

pub give_room-requires-clause-inside : goal.give_room-requires-clause-inside
give_room-requires-clause-inside g c = grind (arith, common_steps)

pub returns-clause-size : goal.returns-clause-size
returns-clause-size g c = grind (arith, common_steps)
