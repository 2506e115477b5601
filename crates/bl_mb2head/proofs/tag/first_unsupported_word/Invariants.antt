use Rattle.std.proofs.Common.{◌+◌, ◌-◌, ◌≡◌, ◌*◌, ℕ, not}
use Rattle.std.specs.List.{find}
use Rattle.bl_mb2head.specs.Tags.{words_at, can_be_given}
use Rattle.bl_mb2head.proofs.tag.first_unsupported_word.Given as goal

-- the first type that can't be given is the first of those from here on
abbrev pub invariant-loop-i : goal.invariant-loop-i
invariant-loop-i g l =
    let bytes = g.V.ByteView.bytes l.view in
    let first : ℕ → ℕ → _ = λ at n. find (λ kind. not (can_be_given kind)) (words_at bytes at n) in
    first (l.at + 4 * l.i) (l.count - l.i) ≡ first l.at l.count
