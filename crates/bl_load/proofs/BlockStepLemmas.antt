-- A block, segment after segment.
use Rattle.std.proofs.Common.{◌≡◌, ℕ, ◌+◌, ◌-◌, ◌<◌, ◌≤◌, List, [], ◌∷◌, ◌++◌, length, get_or}
use Rattle.std.proofs.Common.{replicate, suc, arith, refl, sym, ap, ◌∙◌, All, AllPairs}
use Rattle.std.proofs.Common.{length-append, drop}
use Rattle.std.proofs.lemmas.List.{same_lists, length-replicate, drop_all}
use Rattle.std.proofs.lemmas.List.Elements.{All-cons}
use Rattle.bl_mem.specs.Memory.{overwrite}
use Rattle.bl_mem.specs.FileSet.{IsApartFrom, Agree}
use Rattle.bl_mem.proofs.Overwrites.{overwrite_more, beside_zeros}
use Rattle.bl_mem.specs.declared.segment.Segment.{Segment}
use Rattle.bl_mem.specs.SegmentContents.{contents_of, segment_holds}
use Rattle.bl_load.specs.KernelBlock.{low_of, span_of, block_byte, first_values, block_of}
use Rattle.bl_load.specs.Loadable.{IsCopyable, SegmentsAscend}
use Rattle.bl_load.proofs.BlockLemmas.{block_from, length-contents_of, length-first_values}
use Rattle.bl_load.proofs.BlockLemmas.{get_or-first_values, length-block_from, get_or-block_from}
use Rattle.bl_load.proofs.MemoryLemmas.{writes_none}

-- once no segment is left, nothing is left to write
pub none_left : (text m : List ℕ) (at start : ℕ) (segments : List Segment) (i : ℕ)
    → length segments ≤ i → m ≡ overwrite m at (block_from text start (drop i segments))
none_left text m at start segments i all =
    rw (drop_all i segments all) (writes_none m at [] refl)

-- the first segment is the lowest
pub low_first : (s : Segment) (segments : List Segment) → AllPairs SegmentsAscend (s ∷ segments)
    → low_of (s ∷ segments) ≡ s.address
low_first s [] ascend = refl
low_first s (t ∷ segments) ascend =
    let next =
    low_first t segments (λ i j d ij h. ascend (suc i) (suc j) d (omega arith) (omega arith)) in
    let up = ascend 0 1 s (omega arith) (omega arith) in
    rw next (omega arith)

-- and no segment is lower than the first
pub first_below : (segments : List Segment) (d : Segment) → AllPairs SegmentsAscend segments
    → All (λ s. (get_or segments 0 d).address ≤ s.address) segments
first_below [] d ascend = λ k e within. absurd (omega arith)
first_below (s ∷ segments) d ascend =
    All-cons (λ t. s.address ≤ t.address) s segments (omega arith)
    (λ j e h. let up = ascend 0 (suc j) e (omega arith) (omega arith) in omega arith)

-- the block is its segments from the first address on
pub block_from_first : (text : List ℕ) (segments : List Segment) (d : Segment) → 1 ≤ length segments
    → All (IsCopyable (length text)) segments → AllPairs SegmentsAscend segments
    → (span_of segments ≡ length (block_from text (get_or segments 0 d).address segments))
    × (block_of text segments ≡ block_from text (get_or segments 0 d).address segments)
unfolding block_of
block_from_first text [] d some copied ascend = absurd (omega arith)
block_from_first text (s ∷ segments) d some copied ascend =
    let all : List Segment = s ∷ segments in
    let low : low_of all ≡ s.address = low_first s segments ascend in
    let above : All (λ t. s.address ≤ t.address) all = first_below all d ascend in
    let width = length-block_from text s.address all copied ascend above in
    let span : span_of all ≡ length (block_from text s.address all) = omega arith in
    let byte : ℕ → ℕ = λ i. block_byte text all (low_of all + i) in
    let count = length-first_values (span_of all) byte in (
      span,
      same_lists (first_values (span_of all) byte) (block_from text s.address all) (omega arith)
          (λ (k d : ℕ) (h : k < length (first_values (span_of all) byte)).
          get_or-first_values (span_of all) byte k d (omega arith)
          ∙ ap (λ (n : ℕ). block_byte text all (n + k)) low
          ∙ sym (get_or-block_from text s.address all k d copied ascend above (omega arith))),
    )

-- a gap and a segment are written
module _ (text m : List ℕ) (at low done : ℕ) (s : Segment) (rest : List Segment)
    (copied : IsCopyable (length text) s) (above : low + done ≤ s.address)
    (inside : at + (done + length (block_from text (low + done) (s ∷ rest))) ≤ length m) where
  -- what is left then
  pub left_behind : s.address - low + s.memsz
      + length (block_from text (low + (s.address - low + s.memsz)) rest)
      ≡ done + length (block_from text (low + done) (s ∷ rest))
  left_behind =
      let end : low + (s.address - low + s.memsz) ≡ s.address + s.memsz = omega arith in
      rw (end, length-append, length-append, length-replicate, length-contents_of text s copied)
      (omega arith)

  -- the gap lies beside what the whole block lies beside
  pub gap_beside : (segment_holds : ℕ → Type 0)
      → IsApartFrom segment_holds at (at + (done + length (block_from text (low + done) (s ∷ rest))))
      → Agree segment_holds m (overwrite m (at + done) (replicate (at + (s.address - low) - (at + done)) 0))
  gap_beside segment_holds beside =
      let left : s.address - low + s.memsz
      + length (block_from text (low + (s.address - low + s.memsz)) rest)
      ≡ done + length (block_from text (low + done) (s ∷ rest)) = left_behind in
      beside_zeros segment_holds m (at + done) (at + (s.address - low)) (omega arith) (omega arith)
      (λ a from to. beside a (omega arith) (omega arith))

  -- and so does the segment
  pub segment_beside : (segment_holds : ℕ → Type 0)
      → IsApartFrom segment_holds at (at + (done + length (block_from text (low + done) (s ∷ rest))))
      → IsApartFrom segment_holds (at + (s.address - low)) (at + (s.address - low) + s.memsz)
  segment_beside segment_holds beside a from to =
      let left : s.address - low + s.memsz
      + length (block_from text (low + (s.address - low + s.memsz)) rest)
      ≡ done + length (block_from text (low + done) (s ∷ rest)) = left_behind in
      beside a (omega arith) (omega arith)

  -- what is left leads to what they and it lead to
  pub block_step : overwrite
      (overwrite (overwrite m (at + done) (replicate (at + (s.address - low) - (at + done)) 0))
      (at + (s.address - low)) (contents_of text s))
      (at + (s.address - low + s.memsz)) (block_from text (low + (s.address - low + s.memsz)) rest)
      ≡ overwrite m (at + done) (block_from text (low + done) (s ∷ rest))
  block_step =
      let gap : at + (s.address - low) - (at + done) ≡ s.address - (low + done) = omega arith in
      let end : low + (s.address - low + s.memsz) ≡ s.address + s.memsz = omega arith in
      let zeros : List ℕ = replicate (s.address - (low + done)) 0 in
      let own : List ℕ = contents_of text s in
      let more : List ℕ = block_from text (s.address + s.memsz) rest in
      let wide : length zeros ≡ s.address - (low + done) =
      length-replicate (s.address - (low + done)) 0 in
      let width : length own ≡ s.memsz = length-contents_of text s copied in
      let both : length (zeros ++ own) ≡ length zeros + length own = length-append zeros own in
      let total : length (zeros ++ own ++ more) ≡ length (zeros ++ own) + length more =
      length-append (zeros ++ own) more in
      rw (gap, end)
      (ap (λ (n : List ℕ). overwrite n (at + (s.address - low + s.memsz)) more)
      (overwrite_more m (at + done) zeros own (at + (s.address - low)) (omega arith)
      (omega arith))
      ∙ overwrite_more m (at + done) (zeros ++ own) more (at + (s.address - low + s.memsz))
      (omega arith) (omega arith))
