-- Segments in address order make the same block.
use Rattle.std.proofs.Common.{◌≡◌, ◌≤◌, ◌+◌, ◌-◌, ℕ, zero, suc, Bool, true, false, List, [], ◌∷◌}
use Rattle.std.proofs.Common.{◌++◌, length, get_or, arith, refl, sym, ap, ap₂, ◌∙◌, All, AllPairs}
use Rattle.std.proofs.Common.{inl, inr}
use Rattle.std.specs.Prelude.{slice_index}
use Rattle.std.specs.List.{list_any}
use Rattle.std.proofs.lemmas.List.Elements.{All-nil, All-cons, All-head, All-tail}
use Rattle.std.proofs.lemmas.Bool.{cond_both, cases_lt, or_parts}
use Rattle.bl_mem.specs.declared.segment.Segment.{Segment}
use Rattle.bl_mem.specs.SegmentContents.{contents_of, segment_holds, is_in_segment}
use Rattle.bl_elf.specs.Elf.{AreApartSegments}
use Rattle.bl_load.specs.KernelBlock.{low_of, high_of, span_of, block_byte, first_values, block_of}
use Rattle.bl_load.specs.Loadable.{SegmentsAscend}
use Rattle.bl_plan.specs.AddressOrder.{segment_key, segments_in_order}
use Rattle.bl_load.proofs.KernelLaws.{held_within}
use Rattle.bl_plan.proofs.OrderLemmas.{AreRelated, pairs_related, in_order_all, in_order_pairs}
use Rattle.bl_plan.proofs.OrderLemmas.{in_order_sorted}
use Rattle.bl_plan.proofs.OrderCountLemmas.{list_any-in_order}
use Rattle.bl_load.proofs.SpanLemmas.{or_rest, low_all, same_low, high_all, same_span}

-- the byte that a segment has at a linked address
abbrev byte_of : List ℕ → Segment → ℕ → ℕ
byte_of file s a = slice_index (contents_of file s) (a - s.address)

abbrev Gives : List ℕ → ℕ → ℕ → Segment → Type 0
Gives file a b s = segment_holds s a ≡ true → byte_of file s a ≡ b

byte_none : (file : List ℕ) (segments : List Segment) (a : ℕ)
    → list_any (is_in_segment a) segments ≡ false → block_byte file segments a ≡ 0
byte_none file [] a h = refl
byte_none file (s ∷ segments) a h =
    let parts = or_parts (segment_holds s a) (list_any (is_in_segment a) segments) h in
    cond_both (segment_holds s a) (byte_of file s a) (block_byte file segments a) (λ n. n ≡ 0)
    (λ e. let bad = parts.0 in absurd cc) (λ e. byte_none file segments a parts.1)

byte_some : (file : List ℕ) (segments : List Segment) (a b : ℕ)
    → list_any (is_in_segment a) segments ≡ true → All (Gives file a b) segments
    → block_byte file segments a ≡ b
byte_some file [] a b h each = absurd cc
byte_some file (s ∷ segments) a b h each =
    cond_both (segment_holds s a) (byte_of file s a) (block_byte file segments a) (λ n. n ≡ b)
    (λ e. All-head (Gives file a b) s segments each e)
    (λ e.
    byte_some file segments a b (or_rest (segment_holds s a) (list_any (is_in_segment a) segments) h e)
    (All-tail (Gives file a b) s segments each))

held_once : (s t : Segment) (a : ℕ) → AreApartSegments s t → segment_holds t a ≡ true → segment_holds s a ≡ true → ⊥
held_once s t a apart ht hs = apart a (held_within s a hs) (held_within t a ht)

byte_each : (file : List ℕ) (segments : List Segment) (a : ℕ) → AreRelated AreApartSegments segments
    → All (Gives file a (block_byte file segments a)) segments
byte_each file [] a h = All-nil (Gives file a 0)
byte_each file (s ∷ segments) a h =
    let all = block_byte file (s ∷ segments) a in
    All-cons (Gives file a all) s segments
    (λ e.
    cond_both (segment_holds s a) (byte_of file s a) (block_byte file segments a)
    (λ n. byte_of file s a ≡ n) (λ _. refl) (λ bad. absurd cc))
    (λ k d within e.
    cond_both (segment_holds s a) (byte_of file s a) (block_byte file segments a)
    (λ n. byte_of file (get_or segments k d) a ≡ n)
    (λ hs. absurd (held_once s (get_or segments k d) a (h.0 k d within) e hs))
    (λ _. byte_each file segments a h.1 k d within e))

same_byte_by : (file : List ℕ) (segments sorted : List Segment) (a : ℕ) (held : Bool)
    → list_any (is_in_segment a) segments ≡ held → list_any (is_in_segment a) sorted ≡ held
    → All (Gives file a (block_byte file segments a)) sorted
    → block_byte file sorted a ≡ block_byte file segments a
same_byte_by file segments sorted a true h k each =
    byte_some file sorted a (block_byte file segments a) k each
same_byte_by file segments sorted a false h k each =
    byte_none file sorted a k ∙ sym (byte_none file segments a h)

same_byte : (file : List ℕ) (segments : List Segment) (a : ℕ) → AllPairs AreApartSegments segments
    → block_byte file (segments_in_order segments) a ≡ block_byte file segments a
same_byte file segments a apart =
    same_byte_by file segments (segments_in_order segments) a (list_any (is_in_segment a) segments) refl
    (list_any-in_order segment_key (is_in_segment a) segments)
    (in_order_all segment_key (Gives file a (block_byte file segments a)) segments
    (byte_each file segments a (pairs_related AreApartSegments segments apart)))

-- ---- the block

same_values : (n : ℕ) (f g : ℕ → ℕ) → ((k : ℕ) → f k ≡ g k) → first_values n f ≡ first_values n g
unfolding first_values
same_values zero f g h = refl
same_values (suc n) f g h = ap₂ (λ (xs : List ℕ) (x : ℕ). xs ++ x ∷ []) (same_values n f g h) (h n)

-- segments in address order make the same block
pub same_block : (file : List ℕ) (segments : List Segment) → 1 ≤ length segments
    → AllPairs AreApartSegments segments → block_of file (segments_in_order segments)
    ≡ block_of file segments
unfolding block_of
same_block file segments some apart =
    let low = same_low segments some in
    let span = same_span segments some in
    ap (λ (n : ℕ).
    first_values n (λ i. block_byte file (segments_in_order segments) (low_of (segments_in_order segments) + i)))
    span
    ∙ same_values (span_of segments)
    (λ i. block_byte file (segments_in_order segments) (low_of (segments_in_order segments) + i))
    (λ i. block_byte file segments (low_of segments + i))
    (λ i.
    same_byte file segments (low_of (segments_in_order segments) + i) apart
    ∙ ap (λ (n : ℕ). block_byte file segments (n + i)) low)

apart_back : (s t : Segment) → AreApartSegments s t → AreApartSegments t s
apart_back s t h = λ a x y. h a y x

-- segments that are apart and not empty ascend once they are in order
pub ascending_ascends : (segments : List Segment) → All (λ s. 1 ≤ s.memsz) segments
    → AllPairs AreApartSegments segments → AllPairs SegmentsAscend (segments_in_order segments)
ascending_ascends segments filled apart i j d ij within =
    let sorted = segments_in_order segments in
    let some = in_order_all segment_key (λ s. 1 ≤ s.memsz) segments filled j d within in
    let order = in_order_sorted segment_key segments i j d ij within in
    let other =
    in_order_pairs segment_key AreApartSegments apart_back segments apart i j d ij within in
    elim (cases_lt (get_or sorted j d).address
    ((get_or sorted i d).address + (get_or sorted i d).memsz)) [
      | inl meet ↦
          absurd (other (get_or sorted j d).address (order, meet) (omega arith, omega arith))
      | inr free ↦ free
    ]

-- the least address is not above that of any segment, and no segment ends above the greatest
pub low_below : (segments : List Segment) → All (λ s. low_of segments ≤ s.address) segments
low_below segments = low_all segments

pub high_above_all : (segments : List Segment)
    → All (λ s. s.address + s.memsz ≤ high_of segments) segments
high_above_all segments = high_all segments
