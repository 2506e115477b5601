use Rattle.std.proofs.Common.{ℕ, List, [], ◌∷◌, All, ◌≡◌, ◌≢◌, ◌^◌, length, arith, sym, ap, inl}
use Rattle.std.proofs.Common.{inr}
use Rattle.std.proofs.lemmas.List.{length-append}
use Rattle.std.proofs.lemmas.Bool.{cases_lt}
use Rattle.bl_map.specs.declared.kind.Kind.{Kind}
use Rattle.bl_map.specs.declared.region.Region.{Region}
use Rattle.bl_map.specs.Faults.{HasAllowedEnd}
use Rattle.bl_map.specs.Kinds.{kind_number}
use Rattle.bl_map.specs.NormalMap.{kind_at}
use Rattle.bl_map.proofs.EdgeLemmas.{edges_most, edges_fall, edges_fall_once}
use Rattle.bl_map.proofs.KindLemmas.{none_behind, number_positive}
use Rattle.bl_map.proofs.SweepLemmas.{upto_none, upto_gap, upto_run, upto_all, run_of, IsRunEnd}
use Rattle.bl_map.proofs.normalization.normal_map.Goals as goal

changes : (regions : List Region) (at end : ℕ) (kind : Kind) → All HasAllowedEnd regions
    → IsRunEnd regions at end → kind_number kind ≡ kind_at regions at
    → kind_at regions end ≢ kind_at regions at
changes regions at end kind low run is = elim (cases_lt end (2 ^ 52)) [
  | inl before ↦ run.other before
  | inr behind ↦ λ same. let none = none_behind regions (2 ^ 52) end low behind in
      let some = number_positive kind in omega (arith, none, some, same, is)
]

pub loop-at-init : goal.loop-at-init
loop-at-init g c =
    let most = edges_most c.args.regions.now 0 in
    let none = ap (λ (rs : List Region). length rs) c.new-runs.ensures.items in
    record {
      map = rw c.new-runs.ensures.items (upto_none c.args.regions.now);
      few = omega (arith, none);
    }

pub loop-at-preserved-in_ok-push : goal.loop-at-preserved-in_ok-push
loop-at-preserved-in_ok-push g c =
    let e = c.run_end-end.ensures in
    let run : IsRunEnd c.args.regions.now c.loop-at.at c.run_end-end.result =
    record { ahead = e.ahead; within = e.within; same = e.same; other = e.other } in
    record {
      map =
          rw c.in_ok-push.ensures.items
          (upto_run c.args.regions.now c.loop-at.runs.items c.loop-at.at c.run_end-end.result
          c.in-Some.kind c.requires.low c.loop-at.invariant.map run c.in-Some.ensures);
      few = let few = c.loop-at.invariant.few in
          let more =
          length-append c.loop-at.runs.items
          (run_of c.loop-at.at c.run_end-end.result c.in-Some.kind ∷ []) in
          let longer = ap (λ (rs : List Region). length rs) c.in_ok-push.ensures.items in
          let passed =
          edges_fall_once c.args.regions.now c.loop-at.at c.run_end-end.result (omega arith)
          (changes c.args.regions.now c.loop-at.at c.run_end-end.result c.in-Some.kind
          c.requires.low run c.in-Some.ensures) in
          omega (arith, more, longer, passed);
    }

pub loop-at-preserved : goal.loop-at-preserved
loop-at-preserved g c =
    let e = c.run_end-end.ensures in
    let run : IsRunEnd c.args.regions.now c.loop-at.at c.run_end-end.result =
    record { ahead = e.ahead; within = e.within; same = e.same; other = e.other } in
    let fall = edges_fall c.args.regions.now c.loop-at.at c.run_end-end.result (omega arith) in
    record {
      map =
          upto_gap c.args.regions.now c.loop-at.runs.items c.loop-at.at c.run_end-end.result
          c.loop-at.invariant.map run (sym c.in_default.ensures);
      few = let few = c.loop-at.invariant.few in omega arith;
    }

pub returns-clause-normal : goal.returns-clause-normal
returns-clause-normal g c =
    upto_all c.args.regions.now c.loop-at.runs.items c.loop-at.at c.requires.low
    c.loop-at.invariant.map c.loop-at-test.false
