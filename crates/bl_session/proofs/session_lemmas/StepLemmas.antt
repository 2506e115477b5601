-- One event of an attempt that waits.
use Rattle.std.proofs.Common.{◌≡◌, ◌≢◌, ℕ, ◌<◌, ◌==◌, ◌&&◌, Bool, true, false, MatchBool, nat_lt}
use Rattle.std.proofs.Common.{List, length, Result, Ok, Err, IfOk, OnErr, refl, sym, ap, subst, ◌∙◌}
use Rattle.std.proofs.Common.{inl, inr, arith}
use Rattle.std.specs.declared.ops.Range.{Range}
use Rattle.std.proofs.lemmas.Bool.{cases_lt}
use Rattle.std.proofs.lemmas.Bool.Decides.{nat_tests}
use Rattle.bl_load.specs.declared.refused_entry.RefusedEntry.{RefusedEntry}
use Rattle.bl_stage.specs.Ranges.{IsSameOutside}
use Rattle.bl_stage.specs.Staged.{Staging}
use Rattle.bl_stage.specs.Pieces.{put_answer}
use Rattle.bl_stage.specs.declared.stage.putting.Put.{Put}
use Rattle.bl_stage.specs.declared.stage.putting.Put.TheVariants.{Stored, Strange}
use Rattle.bl_stage.specs.PieceStates.{PieceState, piece_states, piece_states_after_put}
use Rattle.bl_store.specs.declared.ticket.Ticket.{Ticket}
use Rattle.bl_session.specs.attempt.AwaitedPieces.{awaits, piece_state_of, with_piece, are_whole}
use Rattle.bl_session.specs.session.BootSteps.{BootFacts, State, running, Begins}
use Rattle.bl_store.specs.Events.{EventFacts, piece}
use Rattle.bl_session.specs.session.BootSteps.{Continues}
use Rattle.bl_session.specs.session.BootSteps.{StepsTo, is_wanted, ends_attempt}
use Rattle.bl_session.specs.session.BootMemory.{IsMemoryAt}
use Rattle.bl_session.proofs.session_lemmas.KeptMemoryLemmas.{memory_on, same_on}
use Rattle.bl_session.proofs.attempt_lemmas.StoredLemmas.{stored, not_stored, put_with}

pub by_test : (b : Bool) (tested : Bool) (P Q : Type 0) → tested ≡ b → MatchBool b P Q
    → MatchBool tested P Q
by_test b tested P Q e h = subst (λ (x : Bool). MatchBool x P Q) (sym e) h

-- ---- an event that is not wanted

pub steps_same : (facts : BootFacts) (entry : ℕ) (rest : List ℕ) (earlier : List RefusedEntry)
    (files : List (List PieceState)) (event : EventFacts) → is_wanted earlier files event ≡ false
    → StepsTo facts (running entry rest earlier files) event (running entry rest earlier files)
steps_same facts entry rest earlier files event e =
    by_test false (is_wanted earlier files event) _ _ e refl

pub memory_same : (wanted : Bool) (P : Type 0) (old new : List ℕ) → wanted ≡ false → new ≡ old
    → MatchBool wanted P (new ≡ old)
memory_same wanted P old new e same = by_test false wanted P (new ≡ old) e same

pub other_attempt : (earlier : List RefusedEntry) (files : List (List PieceState)) (ticket : Ticket)
    (bytes : List ℕ) (test : Bool) → test ≡ (ticket.attempt == length earlier) → test ≡ false
    → is_wanted earlier files (piece ticket bytes) ≡ false
other_attempt earlier files ticket bytes test is e =
    ap (λ (b : Bool). b && awaits (piece_state_of files ticket.file ticket.piece) (length bytes))
    (sym is ∙ e)

pub wanted_not : (old : List ℕ) (stage : Staging) (earlier : List RefusedEntry) (ticket : Ticket)
    (bytes : List ℕ) (answer : Put)
    → answer ≡ put_answer stage ticket.file ticket.piece (length bytes) → answer ≢ Stored
    → is_wanted earlier (piece_states old stage) (piece ticket bytes) ≡ false
wanted_not old stage earlier ticket bytes answer is other =
    ap (λ (b : Bool). (ticket.attempt == length earlier) && b)
    (not_stored old stage ticket.file ticket.piece (length bytes) answer is other)
    ∙ and_none (ticket.attempt == length earlier)
  where
    and_none : (b : Bool) → (b && false) ≡ false
    and_none true = refl
    and_none false = refl

-- the stage is as before, and so are its pieces
pub steps_unchanged : (facts : BootFacts) (entry : ℕ) (rest : List ℕ) (earlier : List RefusedEntry)
    (old new : List ℕ) (stage later : Staging) (event : EventFacts) → later ≡ stage → new ≡ old
    → is_wanted earlier (piece_states old stage) event ≡ false
    → StepsTo facts (running entry rest earlier (piece_states old stage)) event
    (running entry rest earlier (piece_states new later))
steps_unchanged facts entry rest earlier old new stage later event same bytes e =
    let is : running entry rest earlier (piece_states old stage)
    ≡ running entry rest earlier (piece_states new later) = rw (same, bytes) refl in
    subst (λ (s : State). StepsTo facts (running entry rest earlier (piece_states old stage)) event s)
    is
    (steps_same facts entry rest earlier (piece_states old stage) event e)

-- ---- a piece that is stored

pub wanted_stored : (old : List ℕ) (stage : Staging) (earlier : List RefusedEntry) (ticket : Ticket)
    (bytes : List ℕ) (test : Bool) (answer : Put) → test ≡ (ticket.attempt == length earlier)
    → test ≡ true
    → answer ≡ put_answer stage ticket.file ticket.piece (length bytes) → answer ≡ Stored
    → is_wanted earlier (piece_states old stage) (piece ticket bytes) ≡ true
wanted_stored old stage earlier ticket bytes test answer is e told e_stored =
    ap (λ (b : Bool).
    b && awaits (piece_state_of (piece_states old stage) ticket.file ticket.piece) (length bytes))
    (sym is ∙ e)
    ∙ stored old stage ticket.file ticket.piece (length bytes) answer told e_stored

strange_if : (stage : Staging) (file index len : ℕ) → nat_lt file (length stage.sizes) ≡ false
    → put_answer stage file index len ≡ Strange
strange_if stage file index len e = rw e refl

named_stored : (stage : Staging) (file index len : ℕ) → put_answer stage file index len ≡ Stored
    → file < length stage.sizes
named_stored stage file index len e = elim (cases_lt file (length stage.sizes)) [
  | inl named ↦ named
  | inr past ↦
      let no : nat_lt file (length stage.sizes) ≡ false = grind (arith, nat_tests) in
      let strange =
      strange_if stage file index len no in
      absurd (let bad : Strange ≡ Stored = sym strange ∙ e in cc)
]

-- the pieces after it
pub piece_states_after : (old new : List ℕ) (stage later : Staging) (ticket : Ticket)
    (bytes : List ℕ)
    (answer : Put) → answer ≡ put_answer stage ticket.file ticket.piece (length bytes)
    → answer ≡ Stored
    → piece_states new later ≡ piece_states_after_put old stage ticket.file ticket.piece bytes
    → piece_states new later ≡ with_piece (piece_states old stage) ticket.file ticket.piece bytes
piece_states_after old new stage later ticket bytes answer told is piece_states_is =
    piece_states_is
    ∙ put_with old stage ticket.file ticket.piece bytes
    (named_stored stage ticket.file ticket.piece (length bytes) (sym told ∙ is))

pub steps_piece : {P E : Type 0} (facts : BootFacts) (entry : ℕ) (rest : List ℕ)
    (earlier : List RefusedEntry) (files after : List (List PieceState)) (ticket : Ticket)
    (bytes : List ℕ) (result : Result P E) (state : P → State)
    → is_wanted earlier files (piece ticket bytes) ≡ true
    → after ≡ with_piece files ticket.file ticket.piece bytes
    → IfOk result
    (λ phase. Continues facts (Begins facts rest) entry rest earlier after (state phase))
    → IfOk result
    (λ phase. StepsTo facts (running entry rest earlier files) (piece ticket bytes) (state phase))
steps_piece facts entry rest earlier files after ticket bytes (Err e) state wanted is goes = tt
steps_piece facts entry rest earlier files after ticket bytes (Ok phase) state wanted is goes =
    by_test true (is_wanted earlier files (piece ticket bytes)) _ _ wanted
    (subst
    (λ (fs : List (List PieceState)).
    Continues facts (Begins facts rest) entry rest earlier fs (state phase)) is goes)

pub lacks_piece : {P E : Type 0} (entry : ℕ) (rest : List ℕ) (earlier : List RefusedEntry)
    (files after : List (List PieceState)) (ticket : Ticket) (bytes : List ℕ) (result : Result P E)
    → is_wanted earlier files (piece ticket bytes) ≡ true
    → after ≡ with_piece files ticket.file ticket.piece bytes
    → OnErr result (are_whole after ≡ true)
    → OnErr result (ends_attempt (running entry rest earlier files) (piece ticket bytes) ≡ true)
lacks_piece entry rest earlier files after ticket bytes (Ok phase) wanted is whole = tt
lacks_piece entry rest earlier files after ticket bytes (Err e) wanted is whole =
    ap (λ (b : Bool). b && are_whole (with_piece files ticket.file ticket.piece bytes)) wanted
    ∙ ap are_whole (sym is) ∙ whole

-- memory after a wanted event
pub memory_taken : {P E : Type 0} (pool : Range ℕ) (wanted : Bool) (old mid new : List ℕ)
    (result : Result P E) (state : P → State) → wanted ≡ true → IsSameOutside pool old mid
    → IfOk result (λ phase. IsMemoryAt pool (state phase) mid new)
    → IfOk result (λ phase. MatchBool wanted (IsMemoryAt pool (state phase) old new) (new ≡ old))
memory_taken pool wanted old mid new (Err e) state is first second = tt
memory_taken pool wanted old mid new (Ok phase) state is first second =
    by_test true wanted _ (new ≡ old) is (memory_on pool (state phase) old mid new first second)

pub outside_taken : {P E : Type 0} (pool : Range ℕ) (old mid new : List ℕ) (result : Result P E)
    → IsSameOutside pool old mid → OnErr result (IsSameOutside pool mid new)
    → OnErr result (IsSameOutside pool old new)
outside_taken pool old mid new (Ok phase) first second = tt
outside_taken pool old mid new (Err e) first second = same_on pool old mid new first second
