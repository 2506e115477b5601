use Rattle.std.proofs.Common.{Some, ◌+◌, ◌≤◌, ℕ, List, length, slice_range, drop, ap, ◌∙◌, arith}
use Rattle.std.proofs.Common.{rules}
use Rattle.std.proofs.lemmas.List.{drop_all}
use Rattle.bl_image.proofs.Inputs.{part_came, came_from}
use Rattle.bl_image.proofs.mem_source.MemSourceSource.read.Goals as goal

pub returns-clause-gave : goal.returns-clause-gave
returns-clause-gave g c =
    let bytes = c.self.inside.held.items in
    let at = c.self.inside.at in
    let n = c.min-count.result in
    let within : at + n ≤ length bytes =
    omega (arith, c.min-count.ensures, c.min-most.ensures, c.len.ensures, c.self.invariant) in
    let is =
    c.copy_from_slice.ensures.after
    ∙ ap (λ (l : List ℕ). slice_range l at (at + n)) c.deref.ensures.value in
    came_from _ _ c.self.view_is
    (part_came bytes at n c.copy_from_slice.new.self (drop n c.args.out.now) within is)

pub returns-clause-due : goal.returns-clause-due
returns-clause-due g c = search rules

pub returns-clause-ended : goal.returns-clause-ended
returns-clause-ended g c none some =
    ap (λ (l : List ℕ). Some l)
    (drop_all (c.self.inside.at + c.min-count.result) c.self.inside.held.items
    (omega (arith, c.min-count.ensures, c.min-most.ensures, c.len.ensures, c.self.invariant)))
