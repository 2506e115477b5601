use Rattle.std.proofs.Common.{◌≡◌, ◌-◌, ◌++◌, ℕ, List, length, take, drop, ap, ◌∙◌, arith}
use Rattle.std.proofs.Common.{length-drop}
use Rattle.std.proofs.lemmas.List.{take_rest}
use Rattle.bl_digest.specs.internal.Hashing.{PartsFacts}
use Rattle.bl_digest.proofs.HashingLemmas.{piece_more, same_facts}
use Rattle.bl_digest.proofs.parts_hasher.PartsHasher.take.Goals as goal

pub loop-done-preserved : goal.loop-done-preserved
loop-done-preserved g c =
    let bytes = c.args.bytes.now in
    let done = c.loop-done.done in
    let n = c.take_some-done.result in
    let before = c.loop-done.invariant.taken in
    let rest : take (length bytes - done) (drop done bytes) ≡ drop done bytes = take_rest bytes done in
    let within = rw rest at c.take_some-done.ensures.within in
    record {
      taken =
          c.take_some-done.ensures.taken
          ∙ same_facts _ _ _ _ (ap (λ (f : PartsFacts). f.places) before)
          (ap (λ (l : List ℕ). c.loop-done.self.taken ++ take n l) rest
          ∙ ap (λ (f : PartsFacts). f.taken ++ take n (drop done bytes)) before
          ∙ piece_more c.args.self.now.taken bytes done n);
      within = omega (arith, within, length-drop done bytes, c.loop-done-test.true);
    }
