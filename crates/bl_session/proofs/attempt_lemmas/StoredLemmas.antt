-- What a stage stores is what an attempt awaits.
use Rattle.std.proofs.Common.{◌≡◌, ◌≢◌, ℕ, ◌-◌, ◌*◌, ◌<◌, ◌==◌, ◌&&◌, Bool, true, false, not}
use Rattle.std.proofs.Common.{if◌then◌else◌, nat_lt, List, [], length, min, get_or, set, arith}
use Rattle.std.proofs.Common.{refl, sym, ap, ◌∙◌, inl, inr}
use Rattle.std.proofs.lemmas.Bool.{cases_lt}
use Rattle.std.proofs.lemmas.Bool.Decides.{nat_tests}
use Rattle.bl_map.specs.PoolFrames.{frames_of}
use Rattle.bl_stage.specs.Staged.{Staging, staged_file, frames_of_file}
use Rattle.bl_stage.specs.Pieces.{is_piece, slot_in, put_answer, is_missing}
use Rattle.bl_stage.specs.declared.stage.putting.Put.{Put}
use Rattle.bl_stage.specs.declared.stage.putting.Put.TheVariants.{Stored, Repeated, Strange}
use Rattle.bl_stage.specs.PieceStates as stage
use Rattle.bl_stage.specs.PieceStates.{PieceState, has, piece_states, piece_of}
use Rattle.bl_stage.specs.PieceStates.{piece_states_after_put}
use Rattle.bl_stage.proofs.FrameLemmas.{staged_length}
use Rattle.bl_stage.proofs.PieceStateLemmas.{piece_long}
use Rattle.bl_session.specs.attempt.AwaitedPieces.{is_awaited, awaits, piece_state_of, with_piece}
use Rattle.bl_session.proofs.attempt_lemmas.PieceStateLemmas.{Named, file_piece_states}
use Rattle.bl_session.proofs.attempt_lemmas.PieceStateLemmas.{piece_state_named}
use Rattle.bl_session.proofs.attempt_lemmas.PieceStateLemmas.{piece_state_past, index_past}

-- ---- what is awaited

awaits_if : (came : Bool) (piece : List ℕ) (size len : ℕ) → length piece ≡ size
    → awaits (stage.piece_state_if_came came piece) len ≡ (not came && (size == len))
awaits_if true piece size len e = refl
awaits_if false piece size len e = ap (λ n. n == len) e

awaited_if : (came : Bool) (piece : List ℕ)
    → is_awaited (stage.piece_state_if_came came piece) ≡ not came
awaited_if true piece = refl
awaited_if false piece = refl

pub piece_size : (bytes : List ℕ) (stage : Staging) (file index : ℕ)
    → length (piece_of (staged_file bytes stage file) index)
    ≡ min 4096 (get_or stage.sizes file 0 - 4096 * index)
piece_size bytes stage file index =
    piece_long (staged_file bytes stage file) index
    ∙ ap (λ n. min 4096 (n - 4096 * index))
    (staged_length bytes (frames_of_file stage file) (get_or stage.sizes file 0))

abbrev pub is_stored : Put → Bool
is_stored Stored = true
is_stored Repeated = false
is_stored Strange = false

put_if : (piece came : Bool)
    → is_stored (if piece then (if came then Repeated else Stored) else Strange)
    ≡ (not came && piece)
put_if true true = refl
put_if true false = refl
put_if false true = refl
put_if false false = refl

and-none : (a : Bool) → (not a && false) ≡ false
and-none true = refl
and-none false = refl

-- a piece is stored if it is awaited
awaits_named : (bytes : List ℕ) (stage : Staging) (file index len : ℕ) → Named stage file index
    → awaits (piece_state_of (piece_states bytes stage) file index) len
    ≡ (not (get_or stage.came (slot_in stage file index) false)
    && is_piece stage file index len)
awaits_named bytes stage file index len named =
    let came = get_or stage.came (slot_in stage file index) false in
    let size = get_or stage.sizes file 0 in
    let h = named.0 in
    let i = named.1 in
    let test : is_piece stage file index len ≡ (min 4096 (size - 4096 * index) == len) =
    let file_is : nat_lt file (length stage.sizes) ≡ true = grind (arith, nat_tests) in
    let index_is : nat_lt index (frames_of size) ≡ true = grind (arith, nat_tests) in
    rw (file_is, index_is)
    (same_length len (min 4096 (size - 4096 * index)) (min (size - 4096 * index) 4096)
    (omega arith)) in
    ap (λ (s : PieceState). awaits s len) (piece_state_named bytes stage file index named)
    ∙ awaits_if came (piece_of (staged_file bytes stage file) index)
    (min 4096 (size - 4096 * index))
    len (piece_size bytes stage file index)
    ∙ ap (λ (b : Bool). not came && b) (sym test)
  where
    same_length : (len a b : ℕ) → a ≡ b → (len == b) ≡ (a == len)
    same_length len a b e = grind (arith, nat_tests)

-- where there is no such piece
awaits_none : (bytes : List ℕ) (stage : Staging) (file index len : ℕ)
    → piece_state_of (piece_states bytes stage) file index ≡ has []
    → is_piece stage file index len ≡ false
    → awaits (piece_state_of (piece_states bytes stage) file index) len
    ≡ (not (get_or stage.came (slot_in stage file index) false)
    && is_piece stage file index len)
awaits_none bytes stage file index len none test =
    ap (λ (s : PieceState). awaits s len) none
    ∙ sym
    (ap (λ (b : Bool). not (get_or stage.came (slot_in stage file index) false) && b) test
    ∙ and-none (get_or stage.came (slot_in stage file index) false))

pub awaits_stored : (bytes : List ℕ) (stage : Staging) (file index len : ℕ)
    → awaits (piece_state_of (piece_states bytes stage) file index) len
    ≡ is_stored (put_answer stage file index len)
awaits_stored bytes stage file index len =
    (elim (cases_lt file (length stage.sizes)) [
      | inl h ↦ elim (cases_lt index (frames_of (get_or stage.sizes file 0))) [
        | inl i ↦ awaits_named bytes stage file index len (h, i)
        | inr past ↦
            awaits_none bytes stage file index len (index_past bytes stage file index h past)
            (let no : nat_lt index (frames_of (get_or stage.sizes file 0)) ≡ false =
            grind (arith, nat_tests) in
            no_index (nat_lt file (length stage.sizes))
            (nat_lt index (frames_of (get_or stage.sizes file 0))) _ no)
      ]
      | inr past ↦
          awaits_none bytes stage file index len (piece_state_past bytes stage file index past)
          (let no : nat_lt file (length stage.sizes) ≡ false = grind (arith, nat_tests) in
          rw no refl)
    ]) ∙ sym
    (put_if (is_piece stage file index len)
    (get_or stage.came (slot_in stage file index) false))
  where
    no_index : (a b c : Bool) → b ≡ false → (a && (b && c)) ≡ false
    no_index true b c e = rw e refl
    no_index false b c e = refl

-- a piece that is stored is awaited, and every other one is not
pub stored : (bytes : List ℕ) (stage : Staging) (file index len : ℕ) (answer : Put)
    → answer ≡ put_answer stage file index len → answer ≡ Stored
    → awaits (piece_state_of (piece_states bytes stage) file index) len ≡ true
stored bytes stage file index len answer is e =
    awaits_stored bytes stage file index len ∙ ap is_stored (sym is ∙ e)

pub not_stored : (bytes : List ℕ) (stage : Staging) (file index len : ℕ) (answer : Put)
    → answer ≡ put_answer stage file index len → answer ≢ Stored
    → awaits (piece_state_of (piece_states bytes stage) file index) len ≡ false
not_stored bytes stage file index len answer is e =
    awaits_stored bytes stage file index len ∙ ap is_stored (sym is) ∙ other answer e
  where
    other : (answer : Put) → answer ≢ Stored → is_stored answer ≡ false
    other Stored e = absurd (e refl)
    other Repeated e = refl
    other Strange e = refl

-- a piece is missing if it is awaited
pub missing_awaited : (bytes : List ℕ) (stage : Staging) (file index : ℕ)
    → is_missing stage file index ≡ is_awaited
    (piece_state_of (piece_states bytes stage) file index)
missing_awaited bytes stage file index =
    elim (cases_lt file (length stage.sizes)) [
      | inl h ↦ elim (cases_lt index (frames_of (get_or stage.sizes file 0))) [
        | inl i ↦
            let file_is : nat_lt file (length stage.sizes) ≡ true = grind (arith, nat_tests) in
            let index_is : nat_lt index (frames_of (get_or stage.sizes file 0)) ≡ true =
            grind (arith, nat_tests) in
            rw (file_is, index_is)
            (sym
            (ap is_awaited (piece_state_named bytes stage file index (h, i))
            ∙ awaited_if (get_or stage.came (slot_in stage file index) false)
            (piece_of (staged_file bytes stage file) index)))
        | inr past ↦
            let file_is : nat_lt file (length stage.sizes) ≡ true = grind (arith, nat_tests) in
            let no : nat_lt index (frames_of (get_or stage.sizes file 0)) ≡ false =
            grind (arith, nat_tests) in
            rw (file_is, no) (sym (ap is_awaited (index_past bytes stage file index h past)))
      ]
      | inr past ↦
          let no : nat_lt file (length stage.sizes) ≡ false =
          grind (arith, nat_tests) in
          rw no (sym (ap is_awaited (piece_state_past bytes stage file index past)))
    ]

-- ---- after a piece

pub put_with : (bytes : List ℕ) (stage : Staging) (file index : ℕ) (piece : List ℕ)
    → file < length stage.sizes
    → piece_states_after_put bytes stage file index piece
    ≡ with_piece (piece_states bytes stage) file index piece
put_with bytes stage file index piece h =
    ap (λ (s : List PieceState). set (piece_states bytes stage) file (set s index (has piece)))
    (sym (file_piece_states bytes stage file h))
