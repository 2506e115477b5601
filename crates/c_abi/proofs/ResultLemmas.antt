-- What holds of a result that is returned as it is.
use Rattle.std.proofs.Common.{Result, Ok, Err, IfOk, OnOk}

-- what holds holds of a success
pub on_ok : {T E P : Type 0} (r : Result T E) → P → OnOk r P
on_ok (Ok x) p = p
on_ok (Err e) p = tt

-- what follows from two facts of a success
pub ok_by_both : {T E : Type 0} (r : Result T E) (P Q R : T → Type 0) → ((x : T) → P x → Q x → R x)
    → IfOk r P → IfOk r Q → IfOk r R
ok_by_both (Ok x) P Q R f p q = f x p q
ok_by_both (Err e) P Q R f p q = tt
