use Rattle.std.proofs.Common.{◌≡◌, ◌+◌, ◌≤◌, take}
use Rattle.program_boots.specs.explaining.TextPlaces as places
use Rattle.program_boots.proofs.explaining.text_places.text_place.Given as goal

abbrev pub invariant-loop-byte : goal.invariant-loop-byte
invariant-loop-byte l =
    (l.place ≡ places.text_place (take l.byte-index l.before))
    × (l.place.line ≤ l.byte-index + 1) × (l.place.column ≤ l.byte-index + 1)
