-- An address, told in a line. Own.
use Rattle.std.specs.Prelude.{ℕ, ◌-◌, false, List, ◌++◌, length, replicate}
use Rattle.std.specs.Fmt.{digits}

-- an address: lower-case hexadecimal digits, zeros in front up to eight
unfoldable pub hex8 : ℕ → List ℕ
hex8 n = replicate (8 - length (digits 16 false n)) 48 ++ digits 16 false n

-- an address between two texts
unfoldable pub address_words : (before : List ℕ) → ℕ → (behind : List ℕ) → List ℕ
address_words before a behind = before ++ hex8 a ++ behind
