use Rattle.std.proofs.Common.{◌≡◌, ◌<◌, ◌/◌, ℕ, length, arith, ap, rules, ◌∙◌}
use Rattle.std.specs.declared.ops.Range.{Range}
use Rattle.std.proofs.lemmas.List.{length-map}
use Rattle.bl_stage.proofs.TableLemmas.{read_number, numbers_apart}
use Rattle.bl_stage.proofs.stage.Stage.begin_at.Goals as goal

pub begin_in-requires : goal.begin_in-requires
begin_in-requires g c =
    let is = c.in_ok-numbers.ensures in
    let long : length c.in_ok-numbers.numbers.items ≡ length c.args.frames.now =
    ap length is ∙ length-map c.args.frames.now (λ (a : ℕ). a / 4096) in
    let start = ap (λ (p : Range ℕ). p.start) c.pool-pool.ensures.pool in
    let end = ap (λ (p : Range ℕ). p.end) c.pool-pool.ensures.pool in
    record {
      start = search rules;
      end = search rules;
      forward = search rules;
      few = search rules;
      all = omega (arith, long, c.requires.enough);
      low = λ k h.
          let small : k < length c.args.frames.now = omega arith in
          let inside = c.requires.inside k 0 small in
          let read = read_number c.args.frames.now k small in
          rw is (omega arith);
      high = λ k h.
          let small : k < length c.args.frames.now = omega arith in
          let inside = c.requires.inside k 0 small in
          let read = read_number c.args.frames.now k small in
          rw is (omega arith);
      apart = rw is (numbers_apart c.args.frames.now c.requires.apart c.requires.whole);
    }
