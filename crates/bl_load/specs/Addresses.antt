-- Where the parts of an entry stand, found by what they are and never by their order. Own.
use Rattle.std.specs.Prelude.{ℕ, ◌==◌, ◌&&◌, if◌then◌else◌, List, [], ◌∷◌}
use Rattle.bl_plan.specs.declared.part.Role.{Role}
use Rattle.bl_plan.specs.declared.part.Place.{Place}
use Rattle.bl_plan.specs.RoleNumbers.{role_number}

-- the address of the part of a role and an index, 0 where there is none
abbrev pub address_of : Role → ℕ → List Place → ℕ
address_of role index [] = 0
address_of role index (place ∷ places) =
    if role_number place.role == role_number role && place.index == index then place.address else
    address_of role index places
