use Rattle.std.proofs.Common.{◌≡◌, ◌+◌, ◌*◌, ◌<◌, ◌^◌, ◌++◌, ℕ, List, length, take, All, arith, ◌∙◌}
use Rattle.std.proofs.Common.{sym, ap, subst}
use Rattle.std.proofs.Math.Seq.{take-length}
use Rattle.std.proofs.lemmas.List.{append-nil}
use Rattle.std.proofs.lemmas.List.Elements.{All-more, All-nil}
use Rattle.bl_plan.specs.declared.part.Place.{Place}
use Rattle.bl_image.specs.Image.{head}
use Rattle.bl_image.specs.internal.PlaceRecords.{place_record}
use Rattle.bl_image.specs.Versions.{written_version}
use Rattle.bl_image.proofs.Spelled.{records_more, records_all}
use Rattle.bl_image.proofs.FitLemmas.{records_fit}
use Rattle.bl_image.proofs.front.put_front.Goals as goal

pub loop-i-init : goal.loop-i-init
loop-i-init g c =
    let places = g.P.Places.places c.args.places.now in
    let top : List ℕ =
    head written_version c.args.protocol c.args.registers.now (length places) in
    let wide : 272 ≡ 0 + length c.head_bytes-bytes.result = omega arith in
    let bytes : c.head_bytes-bytes.result ≡ top =
    rw (c.count-count.ensures) at c.head_bytes-bytes.ensures.bytes in
    record {
      front =
          ap (λ (n : ℕ). take n c.write_at.new.buffer) wide ∙ c.write_at.ensures ∙ bytes
          ∙ sym (append-nil top);
      indices = All-nil (λ (place : Place). place.index < 2 ^ 32);
    }

pub loop-i-preserved : goal.loop-i-preserved
loop-i-preserved g c =
    let places = g.P.Places.places c.args.places.now in
    let i = c.loop-i.i in
    let place = c.place_at-place.result in
    let inside : i < length places = omega (arith, c.loop-i-test.true, c.count-count.ensures) in
    let wide : 272 + 24 * i + 24 ≡ 272 + 24 * i + length c.record_bytes.result = omega arith in
    let step : take (272 + 24 * i + 24) c.write_at-in-loop-i.new.buffer
    ≡ take (272 + 24 * i) c.loop-i.buffer ++ place_record place =
    ap (λ (n : ℕ). take n c.write_at-in-loop-i.new.buffer) wide
    ∙ c.write_at-in-loop-i.ensures
    ∙ ap (λ (l : List ℕ). take (272 + 24 * i) c.loop-i.buffer ++ l) c.record_bytes.ensures.bytes in
    record {
      front =
          records_more
          (head written_version c.args.protocol c.args.registers.now (length places))
          c.loop-i.buffer c.write_at-in-loop-i.new.buffer places i place c.place_at-place.ensures
          inside
          c.loop-i.invariant.front step;
      indices =
          All-more (λ (p : Place). p.index < 2 ^ 32) places i place inside
          c.loop-i.invariant.indices
          (subst (λ (p : Place). p.index < 2 ^ 32) c.place_at-place.ensures
          c.record_bytes.ensures.index);
    }

pub returns-clause-fit : goal.returns-clause-fit
returns-clause-fit g c =
    let places = g.P.Places.places c.args.places.now in
    let all : c.loop-i.i ≡ length places = omega (arith, c.count-count.ensures) in
    let indices : All (λ (p : Place). p.index < 2 ^ 32) places =
    subst (All (λ (p : Place). p.index < 2 ^ 32))
    (ap (λ (n : ℕ). take n places) all ∙ take-length places)
    c.loop-i.invariant.indices in
    records_fit c.args.protocol c.args.registers.now places c.head_bytes-bytes.ensures.fit indices
    c.requires.kept

pub returns-clause-front : goal.returns-clause-front
returns-clause-front g c =
    let places = g.P.Places.places c.args.places.now in
    records_all (head written_version c.args.protocol c.args.registers.now (length places))
    c.loop-i.buffer places c.loop-i.i
    c.count-count.result (omega arith) c.count-count.ensures c.loop-i.invariant.front
