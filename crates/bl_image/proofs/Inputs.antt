-- What came from a source, piece after piece.
use Rattle.std.proofs.Common.{◌≡◌, ◌+◌, ◌≤◌, ℕ, List, [], ◌++◌, length, take, drop, slice_range}
use Rattle.std.proofs.Common.{Option, Some, None, refl, sym, ap, ◌∙◌, arith, rules, append_assoc}
use Rattle.std.proofs.Common.{subst}
use borrow.Rule.Slice.PartMut.{put_mid, post_of}
use Rattle.std.proofs.Math.Seq.{take-append-add}
use Rattle.std.proofs.lemmas.List.{append-nil, length-take-le, take-append-le, same_lists, places}
use Rattle.std.proofs.lemmas.List.{take_at}
use Rattle.std.specs.Io.KnownBytes.{Consumes}
use Rattle.bl_image.specs.SourceFacts.{SourceFacts, Comes}
use Rattle.bl_image.specs.SourceFacts.{MemSourceFacts, mem_source_input}

consumes_nothing : (rest : Option (List ℕ)) → Consumes rest rest []
consumes_nothing None = tt
consumes_nothing (Some bytes) = refl

consumes_more : (old mid new : Option (List ℕ)) (front back : List ℕ) → Consumes old mid front
    → Consumes mid new back → Consumes old new (front ++ back)
consumes_more None mid new front back h k = tt
consumes_more (Some xs) None new front back h k = absurd h
consumes_more (Some xs) (Some ys) None front back h k = absurd k
consumes_more (Some xs) (Some ys) (Some zs) front back h k =
    h ∙ ap (λ (l : List ℕ). front ++ l) k ∙ sym (append_assoc front back zs)

-- nothing came yet
pub comes_nothing : (input : SourceFacts) → Comes input input []
comes_nothing input =
    record { given_is = sym (append-nil input.given); rest_is = consumes_nothing input.rest }

-- more came
pub comes_more : {old mid new : SourceFacts} {front back : List ℕ} → Comes old mid front
    → Comes mid new back → Comes old new (front ++ back)
comes_more {old = old} {mid = mid} {new = new} {front = front} {back = back} h k = record {
  given_is =
      k.given_is ∙ ap (λ (l : List ℕ). l ++ back) h.given_is ∙ append_assoc old.given front back;
  rest_is = consumes_more old.rest mid.rest new.rest front back h.rest_is k.rest_is;
}

-- the same bytes, written in another way
pub comes_as : {old new : SourceFacts} {bytes other : List ℕ} → bytes ≡ other → Comes old new bytes
    → Comes old new other
comes_as {old = old} {new = new} e h = let P : List ℕ → Type 0 = λ l. Comes old new l in subst P e h

-- the first bytes of a piece that was put after others
pub take_piece : (done k n : ℕ) (out piece : List ℕ) → done ≤ length out → n ≤ length piece
    → take (done + n) (put_mid done k out piece) ≡ take done out ++ take n piece
take_piece done k n out piece h within =
    let front : List ℕ = take done out in
    let size : length front ≡ done = length-take-le done out h in
    ap (λ (m : ℕ). take (m + n) (put_mid done k out piece)) (sym size)
    ∙ take-append-add front (piece ++ post_of done k out) n
    ∙ ap (λ (l : List ℕ). front ++ l) (take-append-le n piece (post_of done k out) within)

-- a part of bytes, after those before it and before those after it
pub part_given : (bytes : List ℕ) (at n : ℕ) → at + n ≤ length bytes
    → take (at + n) bytes ≡ take at bytes ++ slice_range bytes at (at + n)
part_given bytes at n h =
    same_lists _ _ (search (rules, places)) (λ k d within. grind (arith, places))

pub part_left : (bytes : List ℕ) (at n : ℕ) → at + n ≤ length bytes
    → drop at bytes ≡ slice_range bytes at (at + n) ++ drop (at + n) bytes
part_left bytes at n h =
    same_lists _ _ (search (rules, places)) (λ k d within. grind (arith, places))

-- a part of bytes that are known came
pub part_came : (bytes : List ℕ) (at n : ℕ) (piece rest : List ℕ) → at + n ≤ length bytes
    → piece ≡ slice_range bytes at (at + n)
    → Comes (record { given = take at bytes; rest = Some (drop at bytes) })
    (record { given = take (at + n) bytes; rest = Some (drop (at + n) bytes) })
    (take n (piece ++ rest))
part_came bytes at n piece rest h is =
    let long : length (slice_range bytes at (at + n)) ≡ n = search (rules, places) in
    let front : take n (piece ++ rest) ≡ slice_range bytes at (at + n) =
    take_at piece rest n (ap length is ∙ long) ∙ is in
    record {
      given_is = part_given bytes at n h ∙ ap (λ (l : List ℕ). take at bytes ++ l) (sym front);
      rest_is = part_left bytes at n h ∙ ap (λ (l : List ℕ). l ++ drop (at + n) bytes) (sym front);
    }

-- the same where the state is seen in another way
pub came_from : {new : SourceFacts} {bytes : List ℕ} (made facts : MemSourceFacts) → made ≡ facts
    → Comes (mem_source_input made) new bytes → Comes (mem_source_input facts) new bytes
came_from {new = new} {bytes = bytes} made facts e h =
    let P : MemSourceFacts → Type 0 = λ f. Comes (mem_source_input f) new bytes in subst P e h
