-- The bytes of a block of segments.
use Rattle.std.proofs.Common.{◌≡◌, ℕ, ◌+◌, ◌-◌, ◌<◌, ◌≤◌, List, [], ◌∷◌, ◌++◌, length, get_or}
use Rattle.std.proofs.Common.{replicate, zero, suc, arith, rules, refl, sym, ap, ◌∙◌, All, AllPairs}
use Rattle.std.proofs.Common.{length-append, inl, inr, max, slice_range, true, false}
use Rattle.std.proofs.lemmas.List.{places, length-replicate, get_or_append_left}
use Rattle.std.proofs.lemmas.List.{get_or-append_right, get_or-replicate, get_or_default, get_or_at}
use Rattle.std.proofs.lemmas.List.Elements.{All-cons}
use Rattle.std.proofs.lemmas.Bool.{cases_lt}
use Rattle.std.proofs.lemmas.Bool.Decides.{nat_tests}
use Rattle.bl_mem.specs.declared.segment.Segment.{Segment}
use Rattle.bl_mem.specs.SegmentContents.{contents_of, segment_holds}
use Rattle.bl_load.specs.KernelBlock.{low_of, high_of, span_of, block_byte, first_values, block_of}
use Rattle.bl_load.specs.Loadable.{IsCopyable, SegmentsAscend}

-- segments from a linked address on, each after the zeros of the gap before it
abbrev pub block_from : List ℕ → ℕ → List Segment → List ℕ
block_from text start [] = []
block_from text start (s ∷ segments) =
    replicate (s.address - start) 0 ++ contents_of text s
    ++ block_from text (s.address + s.memsz) segments

-- a segment has as many bytes of the file as it says
pub length-filed : (text : List ℕ) (s : Segment) → IsCopyable (length text) s
    → length (slice_range text s.offset (s.offset + s.filesz)) ≡ s.filesz
length-filed text s copied =
    elim (cases_lt 0 s.filesz) [
      | inl some ↦ let inside = copied.inside (omega arith) in search (rules, places)
      | inr none ↦ search (rules, places)
    ]

pub length-contents_of : (text : List ℕ) (s : Segment) → IsCopyable (length text) s
    → length (contents_of text s) ≡ s.memsz
length-contents_of text s copied =
    let fits = copied.fits in
    rw (length-append, length-replicate, length-filed text s copied) (omega arith)

holds_in : (s : Segment) (a : ℕ) → s.address ≤ a → a < s.address + s.memsz → segment_holds s a ≡ true
holds_in s a low high = grind (arith, nat_tests)

misses_below : (s : Segment) (a : ℕ) → a < s.address → segment_holds s a ≡ false
misses_below s a below = grind (arith, nat_tests)

misses_above : (s : Segment) (a : ℕ) → s.address + s.memsz ≤ a → segment_holds s a ≡ false
misses_above s a above = grind (arith, nat_tests)

-- no segment holds an address below all of them
byte_below : (text : List ℕ) (segments : List Segment) (a : ℕ) → All (λ s. a < s.address) segments
    → block_byte text segments a ≡ 0
byte_below text [] a above = refl
byte_below text (s ∷ segments) a above =
    rw (misses_below s a (above 0 s (omega arith)))
    (byte_below text segments a (λ k d h. above (suc k) d (omega arith)))

pub length-first_values : (n : ℕ) (f : ℕ → ℕ) → length (first_values n f) ≡ n
unfolding first_values
length-first_values zero f = refl
length-first_values (suc n) f = rw (length-append, length-first_values n f) (omega arith)

pub get_or-first_values : (n : ℕ) (f : ℕ → ℕ) (k d : ℕ) → k < n
    → get_or (first_values n f) k d ≡ f k
unfolding first_values
get_or-first_values zero f k d h = absurd (omega arith)
get_or-first_values (suc n) f k d h =
    let count = length-first_values n f in
    elim (cases_lt k n) [
      | inl below ↦
          get_or_append_left (first_values n f) (f n ∷ []) d k (omega arith)
          ∙ get_or-first_values n f k d below
      | inr at_least ↦
          let same : k ≡ n =
          omega arith in rw same (get_or_at (first_values n f) (f n) [] d n count)
    ]

pub length-block_of : (text : List ℕ) (segments : List Segment)
    → length (block_of text segments) ≡ span_of segments
unfolding block_of
length-block_of text segments =
    length-first_values (span_of segments) (λ i. block_byte text segments (low_of segments + i))

-- segments end after where they begin
high_above : (text : List ℕ) (start : ℕ) (s : Segment) (segments : List Segment)
    → All (IsCopyable (length text)) (s ∷ segments) → All (λ t. start ≤ t.address) (s ∷ segments)
    → start < high_of (s ∷ segments)
high_above text start s segments copied above =
    let c = copied 0 s (omega arith) in
    let filled = c.filled in let a = above 0 s (omega arith) in omega arith

pub length-block_from : (text : List ℕ) (start : ℕ) (segments : List Segment)
    → All (IsCopyable (length text)) segments → AllPairs SegmentsAscend segments
    → All (λ s. start ≤ s.address) segments
    → start + length (block_from text start segments) ≡ max start (high_of segments)
length-block_from text start [] copied ascend above = omega arith
length-block_from text start (s ∷ segments) copied ascend above =
    let c = copied 0 s (omega arith) in
    let filled = c.filled in
    let first : start ≤ s.address = above 0 s (omega arith) in
    let n = length-contents_of text s c in
    let rest =
    length-block_from text (s.address + s.memsz) segments
    (λ k d h. copied (suc k) d (omega arith))
    (λ i j d ij h. ascend (suc i) (suc j) d (omega arith) (omega arith))
    (λ k d h. ascend 0 (suc k) d (omega arith) (omega arith)) in
    rw (length-append, length-append, length-replicate, n) (omega arith)

pub get_or-block_from : (text : List ℕ) (start : ℕ) (segments : List Segment) (k d : ℕ)
    → All (IsCopyable (length text)) segments → AllPairs SegmentsAscend segments
    → All (λ s. start ≤ s.address) segments
    → k < length (block_from text start segments)
    → get_or (block_from text start segments) k d ≡ block_byte text segments (start + k)
get_or-block_from text start [] k d copied ascend above within = absurd (omega arith)
get_or-block_from text start (s ∷ segments) k d copied ascend above within =
    let gap : ℕ = s.address - start in
    let zeros : List ℕ = replicate gap 0 in
    let own : List ℕ = contents_of text s in
    let rest : List ℕ = block_from text (s.address + s.memsz) segments in
    let first : start ≤ s.address = above 0 s (omega arith) in
    let behind : All (λ t. s.address + s.memsz ≤ t.address) segments =
    λ j e h. ascend 0 (suc j) e (omega arith) (omega arith) in
    let width : length own ≡ s.memsz = length-contents_of text s (copied 0 s (omega arith)) in
    let wide : length zeros ≡ gap = length-replicate gap 0 in
    let both : length (zeros ++ own) ≡ gap + s.memsz = length-append zeros own ∙ omega arith in
    let total : length (zeros ++ own ++ rest) ≡ length (zeros ++ own) + length rest =
    length-append (zeros ++ own) rest in
    elim (cases_lt k gap) [
      | inl in_gap ↦
          get_or_append_left (zeros ++ own) rest d k (omega arith)
          ∙ get_or_append_left zeros own d k (omega arith) ∙ get_or-replicate gap k 0 d in_gap
          ∙ sym
          (byte_below text (s ∷ segments) (start + k)
          (All-cons (λ t. start + k < t.address) s segments (omega arith)
          (λ j e h. let up = behind j e h in omega arith)))
      | inr past_gap ↦ elim (cases_lt k (gap + s.memsz)) [
        | inl in_own ↦
            get_or_append_left (zeros ++ own) rest d k (omega arith)
            ∙ get_or-append_right zeros own gap k d wide past_gap
            ∙ rw (holds_in s (start + k) (omega arith) (omega arith))
            (get_or_default own (k - gap) d 0 (omega arith)
            ∙ ap (λ (n : ℕ). get_or own n 0) (omega arith))
        | inr past_own ↦ get_or-append_right (zeros ++ own) rest (gap + s.memsz) k d both past_own
            ∙ get_or-block_from text (s.address + s.memsz) segments (k - (gap + s.memsz)) d
            (λ j e h. copied (suc j) e (omega arith))
            (λ i j e ij h. ascend (suc i) (suc j) e (omega arith) (omega arith)) behind
            (omega arith)
            ∙ rw (misses_above s (start + k) (omega arith))
            (ap (block_byte text segments) (omega arith))
      ]
    ]
