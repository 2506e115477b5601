use Rattle.std.proofs.Common.{◌≡◌, ◌<◌, ℕ, List, length, subst, arith}
use Rattle.std.proofs.lemmas.Grind.{common_steps}
use Rattle.std.proofs.lemmas.List.{get_or_default}
use Rattle.bl_mem.proofs.bytes.Bytes.copy.Goals as goal

pub returns-in_err-from_slice : goal.returns-in_err-from_slice
returns-in_err-from_slice g c = grind (arith, common_steps)

pub returns : goal.returns
returns g c = grind (arith, common_steps)

pub invariant_of-result : goal.invariant_of-result
invariant_of-result g c = λ k d within.
    let bytes = c.args.bytes.now in
    let items : c.in_ok-from_slice.field-0.items ≡ bytes = c.in_ok-from_slice.ensures.items in
    let inside : k < length bytes = subst (λ (l : List ℕ). k < length l) items within in
    let fits = c.type_inv.bytes k in
    rw (items, get_or_default bytes k d 0 inside) (omega (arith, fits))
