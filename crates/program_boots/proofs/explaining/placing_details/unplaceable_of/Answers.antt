use Rattle.std.proofs.Common.{◌+◌, ◌<◌, ◌≤◌, ℕ, Option, Some, None, MatchOption, arith, inl, inr}
use Rattle.std.proofs.lemmas.Bool.{cases_lt}
use Rattle.bl_mem.specs.Least.{IsLeast}
use Rattle.bl_map.specs.MachineFacts.{MachineFacts, AllUsable}
use Rattle.bl_plan.specs.Permitted.{AreUnavoided}
use Rattle.bl_plan.specs.Unusable.{IsUnplaceableFrom}
use Rattle.program_boots.proofs.explaining.placing_details.unplaceable_of.Goals as goal

-- what is found of the first of so many bytes is found of all, where these go past the size
of_all : (facts : MachineFacts) (at count most : ℕ) (byte : Option ℕ)
    → most ≤ count → (most < count → facts.size < at + most) → at < facts.size
    → MatchOption byte (AllUsable facts at (at + most) × AreUnavoided facts at (at + most))
    (λ a. (a < at + most) × IsLeast (IsUnplaceableFrom facts at) a)
    → MatchOption byte (AllUsable facts at (at + count) × AreUnavoided facts at (at + count))
    (λ a. (a < at + count) × IsLeast (IsUnplaceableFrom facts at) a)
of_all facts at count most None within past before none =
    let whole : (a : ℕ) → a < at + count → a < at + most =
    λ a below. elim (cases_lt a (at + most)) [
      | inl less ↦ less
      | inr more ↦
          let usable = none.0 facts.size (omega arith) (past (omega arith)) in
          let within = usable.in_size in absurd (omega arith)
    ] in
    (λ a from below. none.0 a from (whole a below), λ a from below. none.1 a from (whole a below))
of_all facts at count most (Some a) within past before found = (omega (arith, found.0), found.1)

pub returns : goal.returns
returns g c =
    of_all c.args.machine.now c.args.at c.args.count _ _ (omega (arith, c.min.ensures))
    (λ less. omega (arith, c.min.ensures, c.size-size.ensures.size))
    (omega (arith, c.size-size.ensures.size, c.if-at-size.false)) c.first_unplaceable.ensures
