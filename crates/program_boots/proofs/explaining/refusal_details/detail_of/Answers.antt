use Rattle.std.proofs.Common.{inl, inr, refl}
use Rattle.program_boots.proofs.explaining.refusal_details.detail_of.Goals as goal

pub place_detail-requires : goal.place_detail-requires
place_detail-requires g c =
    let refused = rw c.in-NotUsable.is at c.requires in inl (refused refl)

pub place_detail-requires-in-NoRoom : goal.place_detail-requires-in-NoRoom
place_detail-requires-in-NoRoom g c =
    let refused = rw c.in-NoRoom.is at c.requires in inr (refused refl)
