-- A return that answers an error, as the one of `?` does.
use Rattle.std.proofs.Common.{ℕ, List, refl, Result, Ok, Err, IfOk, OnErr, IsErrAnd}
use Rattle.bl_mem.specs.Memory.{KeepsSizeAndRoom}

module _ {T E : Type 0} where
  -- it says nothing of a value
  pub no_value : (P : T → Type 0) (Q : E → Type 0) (r : Result T E) → IsErrAnd r Q → IfOk r P
  no_value P Q (Ok x) is = absurd is
  no_value P Q (Err e) is = tt

  pub on_error : {P : Type 0} (r : Result T E) → P → OnErr r P
  on_error (Ok x) told = tt
  on_error (Err e) told = told

-- memory that nothing was done with
pub keeps_same : {M : Type 0} {lender : M → ℕ} {bytes : M → List ℕ} {room : M → ℕ → Type 0}
    {memory : M} → KeepsSizeAndRoom lender bytes room memory memory
keeps_same = record {
  lender = refl;
  size = refl;
  room = λ a had. had;
}
