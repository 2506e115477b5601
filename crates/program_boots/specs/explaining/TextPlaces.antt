-- Places in a text, as a person counts them. Own.
use Rattle.std.specs.Prelude.{◌+◌, ◌==◌, ◌&&◌, ℕ, nat_le, nat_lt, List, [], ◌∷◌, if◌then◌else◌}
use Rattle.program_say.specs.declared.subjects.blame.TextPlace.{TextPlace}

-- the place behind a byte: a line feed ends a line; a character is one column, and begins with any
-- byte but 0x80 to 0xBF
abbrev pub after_byte : TextPlace → ℕ → TextPlace
after_byte place b =
    if b == 10 then record { line = place.line + 1; column = 1 } else
    if nat_le 0x80 b && nat_lt b 0xC0 then place else
    record { line = place.line; column = place.column + 1 }

abbrev pub after_bytes : TextPlace → List ℕ → TextPlace
after_bytes place [] = place
after_bytes place (b ∷ bytes) = after_bytes (after_byte place b) bytes

-- the place behind a text; lines and columns count from 1
abbrev pub text_place : List ℕ → TextPlace
text_place before = after_bytes (record { line = 1; column = 1 }) before
