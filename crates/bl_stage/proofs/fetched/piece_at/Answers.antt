use Rattle.std.proofs.Common.{◌≡◌, ◌*◌, ◌-◌, ◌∙◌, ℕ, length, take, drop, min, ap, arith}
use Rattle.std.proofs.lemmas.List.{take_min, length-drop}
use Rattle.bl_stage.proofs.fetched.piece_at.Goals as goal

pub returns-clause-piece : goal.returns-clause-piece
returns-clause-piece c =
    let bytes = c.args.bytes.now in
    let start = 4096 * c.args.index in
    let count : c.min-end.result - start ≡ min 4096 (length (drop start bytes)) =
    simp length-drop (omega (arith, c.min-end.ensures)) in
    ap (λ (n : ℕ). take n (drop start bytes)) count ∙ take_min 4096 (drop start bytes)
