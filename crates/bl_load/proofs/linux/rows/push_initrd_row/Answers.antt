use Rattle.std.proofs.Common.{◌≡◌, ◌<◌, ℕ, List, [], ◌∷◌, ◌++◌, length, sym, ap, arith}
use Rattle.bl_bzimage.specs.declared.setup.Setup.{Setup}
use Rattle.bl_plan.specs.declared.part.Row.{Row}
use Rattle.bl_load.specs.internal.Placing.{capped_initrd_row, capped_initrd_rows}
use Rattle.bl_load.proofs.linux.rows.push_initrd_row.Goals as goal

-- an initrd that has bytes has one row
one_row : (setup : Setup) (initrd : List ℕ) (size : ℕ) → length initrd ≡ size → 0 < size
    → capped_initrd_row setup size ∷ [] ≡ capped_initrd_rows setup initrd
one_row setup [] size long some = absurd (omega arith)
one_row setup (byte ∷ bytes) size long some =
    ap (λ (n : ℕ). capped_initrd_row setup n ∷ []) (sym long)

pub returns-in_ok-push : goal.returns-in_ok-push
returns-in_ok-push g c initrd long =
    let some : 0 < c.args.size = omega arith in
    rw (c.in_ok-push.ensures.items, c.capped_length.ensures)
    (ap (λ (row : List Row). c.args.rows.now.items ++ row)
    (one_row c.args.setup.now initrd c.args.size long some))
