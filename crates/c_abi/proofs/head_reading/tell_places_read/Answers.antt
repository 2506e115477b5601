use Rattle.std.proofs.Common.{arith, ap, ◌∙◌, ◌≡◌, ◌++◌, ℕ, drop, length, map}
use Rattle.std.proofs.lemmas.List.{length-map}
use Rattle.c_records.specs.LoadTold.{place_told}
use Rattle.c_records.proofs.TellLemmas.{tell_one, told_whole}
use Rattle.c_abi.proofs.head_reading.tell_places_read.Goals as goal

pub loop-index-preserved : goal.loop-index-preserved
loop-index-preserved c =
    tell_one place_told c.args.read.now c.args.places.now c.loop-index.places
    c.loop-index.index _ c.place_told.result c.loop-index.invariant (omega arith) (omega arith)
    c.place_told.ensures

pub returns : goal.returns
returns c =
    let end = c.loop-index.auto.index-end in
    let all : c.loop-index.index ≡ length c.args.read.now =
    omega (arith, end, c.loop-index-test.false) in
    c.loop-index.invariant
    ∙ told_whole place_told c.args.read.now c.args.places.now c.loop-index.index all
    ∙ ap (λ (n : ℕ). map place_told c.args.read.now ++ drop n c.args.places.now)
    (length-map c.args.read.now place_told)
