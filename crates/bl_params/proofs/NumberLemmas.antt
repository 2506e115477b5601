-- Numbers whose bytes are known one by one.
use Rattle.std.proofs.Common.{◌≡◌, ◌+◌, ◌-◌, ◌<◌, ◌^◌, ℕ, List, slice_index, arith, ap, ◌∙◌, ⊎_elim}
use Rattle.std.proofs.lemmas.Bool.{cases_eq}
use Rattle.bl_mem.specs.LittleEndian.{u16_at, u32_at}
use Rattle.bl_params.specs.FieldBytes.{number_bytes}
use Rattle.bl_params.proofs.EntriesTold.{number_told}

byte_there : (at i n x k : ℕ) (bytes : List ℕ) → k ≡ at + i
    → slice_index bytes (at + i) ≡ slice_index (number_bytes n x) i
    → slice_index bytes k ≡ slice_index (number_bytes n x) (k - at)
byte_there at i n x k bytes e told =
    let place : i ≡ k - at = omega arith in
    ap (λ (j : ℕ). slice_index bytes j) e ∙ told
    ∙ ap (λ (j : ℕ). slice_index (number_bytes n x) j) place

pub u16_told : (at x : ℕ) (bytes : List ℕ) → x < 2 ^ 16
    → slice_index bytes (at + 0) ≡ slice_index (number_bytes 2 x) 0
    → slice_index bytes (at + 1) ≡ slice_index (number_bytes 2 x) 1 → u16_at bytes at ≡ x
u16_told at x bytes fits b0 b1 =
    number_told 2 at x bytes fits (λ k from below. ⊎_elim
    (λ first. byte_there at 0 2 x k bytes first b0)
    (λ other. byte_there at 1 2 x k bytes (omega arith) b1)
    (cases_eq k (at + 0)))

pub u32_told : (at x : ℕ) (bytes : List ℕ) → x < 2 ^ 32
    → slice_index bytes (at + 0) ≡ slice_index (number_bytes 4 x) 0
    → slice_index bytes (at + 1) ≡ slice_index (number_bytes 4 x) 1
    → slice_index bytes (at + 2) ≡ slice_index (number_bytes 4 x) 2
    → slice_index bytes (at + 3) ≡ slice_index (number_bytes 4 x) 3 → u32_at bytes at ≡ x
u32_told at x bytes fits b0 b1 b2 b3 =
    number_told 4 at x bytes fits (λ k from below. ⊎_elim
    (λ first. byte_there at 0 4 x k bytes first b0)
    (λ not_first. ⊎_elim
    (λ second. byte_there at 1 4 x k bytes second b1)
    (λ not_second. ⊎_elim
    (λ third. byte_there at 2 4 x k bytes third b2)
    (λ not_third. byte_there at 3 4 x k bytes (omega arith) b3)
    (cases_eq k (at + 2)))
    (cases_eq k (at + 1)))
    (cases_eq k (at + 0)))
