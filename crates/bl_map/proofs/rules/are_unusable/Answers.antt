use Rattle.std.proofs.Common.{◌^◌, arith, inl, inr}
use Rattle.std.proofs.lemmas.Bool.{cases_lt}
use Rattle.bl_map.proofs.KindLemmas.{none_behind}
use Rattle.bl_map.proofs.rules.are_unusable.Goals as goal

pub loop-at-preserved : goal.loop-at-preserved
loop-at-preserved c =
    let i = c.loop-at.invariant in
    let step = c.run_end-at.ensures in
    record {
      from = omega (arith, step.ahead, i.from);
      so_far = λ a from below usable. elim (cases_lt a c.loop-at.at) [
        | inl before ↦ i.so_far a from before usable
        | inr behind ↦
            let same = step.same a behind below in
            omega (arith, same, usable)
      ];
    }

pub returns-then-kind_number_at-eq1 : goal.returns-then-kind_number_at-eq1
returns-then-kind_number_at-eq1 c = λ none.
    none c.loop-at.at (omega arith) (omega arith) (omega arith)

pub returns : goal.returns
returns c = λ a from below usable.
    elim (cases_lt a c.loop-at.at) [
      | inl before ↦ c.loop-at.invariant.so_far a from before usable
      | inr behind ↦
          let none = none_behind c.before.before.before.before.args.regions.now (2 ^ 52) a c.requires.low (omega arith) in
          omega (arith, none, usable)
    ]
