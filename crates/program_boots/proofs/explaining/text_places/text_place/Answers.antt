use Rattle.std.proofs.Common.{◌≡◌, ◌+◌, ◌∙◌, ap, sym, get_or, take}
use Rattle.std.proofs.lemmas.List.{take_more}
use Rattle.program_boots.specs.explaining.TextPlaces.{after_byte, text_place}
use Rattle.program_say.specs.declared.subjects.blame.TextPlace.{TextPlace}
use Rattle.program_boots.proofs.explaining_lemmas.ExplainLemmas.{after_bytes_more}
use Rattle.program_boots.proofs.explaining_lemmas.ExplainLemmas.{after_byte_small}
use Rattle.program_boots.proofs.explaining.text_places.text_place.Goals as goal

pub loop-byte-preserved : goal.loop-byte-preserved
loop-byte-preserved c =
    let bytes = c.args.before.now in
    let i = c.loop-byte.byte-index in
    let so = c.loop-byte.invariant in
    let b = get_or bytes i 0 in
    let more : text_place (take (i + 1) bytes) ≡ after_byte (text_place (take i bytes)) b =
    ap text_place (take_more bytes i 0 c.loop-byte-test.true)
    ∙ after_bytes_more (record { line = 1; column = 1 }) (take i bytes) b in
    let small = after_byte_small c.loop-byte.place b (i + 1) so.1 so.2 in (
      c.after_byte-place.ensures
          ∙ ap (λ (p : TextPlace). after_byte p b) so.0 ∙ sym more,
      rw c.after_byte-place.ensures small.0,
      rw c.after_byte-place.ensures small.1,
    )
