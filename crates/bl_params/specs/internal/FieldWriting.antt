-- What a writer of a field leaves. Own.
use Rattle.std.specs.Prelude.{◌≡◌, ℕ, List, slice_index}
use Rattle.bl_params.specs.FieldBytes.{byte_over}

-- the field stands at an offset, over what stood there, and all else as it stood
abbrev pub IsWrittenAt : ℕ → List ℕ → (old new : List ℕ) → Type 0
IsWrittenAt at field old new =
    (k : ℕ) → slice_index new k ≡ byte_over at field (λ j. slice_index old j) k
