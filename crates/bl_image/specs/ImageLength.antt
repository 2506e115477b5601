-- How many bytes an image has. Own.
use Rattle.std.specs.Prelude.{ℕ, ◌+◌, List, [], ◌∷◌}
use Rattle.bl_plan.specs.declared.part.Place.{Place}

-- by the places of its parts, in the version that is written: the head, and for each part its
-- record and its bytes
abbrev pub image_length : List Place → ℕ
image_length [] = 272
image_length (place ∷ places) = 24 + place.length + image_length places
