-- Sixteen hexadecimal digits, as a hole of a format writes them.
use Rattle.std.proofs.Common.{◌≡◌, ℕ, ◌-◌, ◌^◌, false, List, [], length, arith}
use Rattle.std.proofs.lemmas.List.{append-nil}
use Rattle.std.specs.Fmt.{padded_integral, format_spec, digits, char_count}
use Rattle.program_say.specs.BootAndMapLines.{hex16}

-- what the hole {:016x} writes
abbrev pub hex_hole : ℕ → List ℕ
hex_hole n = padded_integral (format_spec 32 0 4 16 (2 ^ 64 - 1)) false [] (digits 16 false n)

pub hex16_hole : (n : ℕ) → hex_hole n ≡ hex16 n
unfolding padded_integral char_count hex16
hex16_hole n =
    let ds : List ℕ = digits 16 false n in
    let zeros : 16 - length ds - 0 - 0 ≡ 16 - length ds = omega arith in
    rw (zeros, append-nil)
