-- A read and a write that go on where they stopped.
use Rattle.std.proofs.Common.{◌≡◌, ℕ, ◌+◌, ◌-◌, ◌/◌, ◌%◌, ◌<◌, ◌≤◌, List, ◌++◌, length, get_or}
use Rattle.std.proofs.Common.{sym}
use Rattle.std.proofs.Common.{take, slice_range, arith, rules, ap, ◌∙◌}
use Rattle.std.proofs.Common.{Option, Some, None, IfSome}
use Rattle.std.proofs.lemmas.List.{places, same_lists}
use Rattle.bl_mem.specs.Memory.{overwrite}
use Rattle.bl_mem.specs.SparseFrames.{SparseFramesFacts, frame_byte, AreLentBytes, IsShared}
use Rattle.bl_mem.specs.Sparse.{bytes_of}
use Rattle.bl_mem.proofs.ValueLemmas.{values_range, values_overwritten, get_or-values}
use Rattle.bl_mem.proofs.ValueLemmas.{bytes_of_length}
use Rattle.bl_mem.proofs.Overwrites.{overwrite_more, range_more}

-- a read that goes on where it stopped
pub read_on : (bytes old out piece : List ℕ) (at done next : ℕ) → done + next ≤ length old
    → at + length old ≤ length bytes → take done old ≡ slice_range bytes at (at + done)
    → piece ≡ slice_range bytes (at + done) (at + done + next)
    → take (done + next) out ≡ take done old ++ piece
    → take (done + next) out ≡ slice_range bytes at (at + (done + next))
read_on bytes old out piece at done next within inside before is now =
    now ∙ ap (λ t. t ++ piece) before ∙ ap (λ t. slice_range bytes at (at + done) ++ t) is
    ∙ range_more bytes at (at + done) (at + done + next) (omega arith) (omega arith) (omega arith)
    ∙ ap (slice_range bytes at) (omega arith)

-- a write that goes on where it stopped
pub write_on : (bytes part : List ℕ) (at done next : ℕ) → done + next ≤ length part
    → at + length part ≤ length bytes
    → overwrite (overwrite bytes at (take done part)) (at + done)
    (slice_range part done (done + next)) ≡ overwrite bytes at (take (done + next) part)
write_on bytes part at done next within inside =
    let first : length (take done part) ≡ done = search (rules, places) in
    let second : length (slice_range part done (done + next)) ≡ next = search (rules, places) in
    overwrite_more bytes at (take done part) (slice_range part done (done + next)) (at + done)
    (omega arith) (omega arith)
    ∙ ap (overwrite bytes at)
    (same_lists _ _ (search (rules, places)) (λ k d h. grind (arith, places)))

-- what frames lend is what memory has there
pub lent_on : {B : Type 0} → (frames : SparseFramesFacts) (size at count : ℕ) (found : Option B)
    (now : B → List ℕ) → at + count ≤ length (bytes_of frames size)
    → IfSome found (λ piece. AreLentBytes frames at count (now piece))
    → IfSome found (λ piece. now piece ≡ slice_range (bytes_of frames size) at (at + count))
lent_on frames size at count None now inside is = is
lent_on frames size at count (Some piece) now inside is =
    let len = is.len in
    let whole = bytes_of_length frames size in
    values_range (frame_byte frames) size at (now piece) (omega arith) is.bytes
    ∙ ap (λ n. slice_range (bytes_of frames size) at (at + n)) len

-- a frame that reads as another one is as one that the other's bytes were written over
pub shared_bytes : (old new : SparseFramesFacts) (size from to : ℕ) → from + 4096 ≤ size
    → to + 4096 ≤ size → from % 4096 ≡ 0 → to % 4096 ≡ 0
    → IsShared old new (from / 4096) (to / 4096)
    → bytes_of new size
    ≡ overwrite (bytes_of old size) to (slice_range (bytes_of old size) from (from + 4096))
shared_bytes old new size from to source inside whole_from whole_to is =
    let all = bytes_of_length old size in
    let part = slice_range (bytes_of old size) from (from + 4096) in
    let len : length part ≡ 4096 = search (rules, places) in
    values_overwritten (frame_byte old) (frame_byte new) size to part (omega arith)
    (λ a low high.
    let small : a - to < 4096 = omega (arith, len) in
    let read : get_or part (a - to) 0 ≡ get_or (bytes_of old size) (from + (a - to)) 0 =
    grind (arith, places) in
    ap (frame_byte new) (omega arith) ∙ is.here (a % 4096) (omega arith)
    ∙ ap (frame_byte old) (omega arith)
    ∙ sym (get_or-values (frame_byte old) size (from + (a - to)) (omega arith)) ∙ sym read)
    (λ a low. is.beside a (λ e. omega (arith, e)))
    (λ a high. is.beside a (λ e. omega (arith, e, len)))
