-- Eight hexadecimal digits, as a hole of a format writes them.
use Rattle.std.proofs.Common.{◌≡◌, ℕ, ◌-◌, false, List, [], length, arith}
use Rattle.std.proofs.lemmas.List.{append-nil}
use Rattle.std.specs.Fmt.{padded_integral, format_spec, digits, char_count}
use Rattle.program_say.specs.Addresses.{hex8}

-- what the hole {:08x} writes of a number below a limit
abbrev pub hex8_hole : ℕ → ℕ → List ℕ
hex8_hole limit n = padded_integral (format_spec 32 0 4 8 limit) false [] (digits 16 false n)

pub hex8_is : (limit n : ℕ) → hex8_hole limit n ≡ hex8 n
unfolding padded_integral char_count hex8
hex8_is limit n =
    let ds : List ℕ = digits 16 false n in
    let zeros : 8 - length ds - 0 - 0 ≡ 8 - length ds = omega arith in
    rw (zeros, append-nil)
