use Rattle.std.proofs.Common.{◌≡◌, ◌<◌, ◌*◌, ℕ, Some}
use Rattle.bl_params.specs.Translation.{translation}
use Rattle.bl_walk.proofs.state.moved_page.Given as goal

abbrev pub invariant-loop-page : goal.invariant-loop-page
invariant-loop-page l =
    (k : ℕ) → k < l.page → translation l.tables l.base (k * 0x200000) ≡ Some (k * 0x200000)
