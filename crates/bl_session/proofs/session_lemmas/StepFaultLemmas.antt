-- A fault, or want of memory, at an attempt that waits.
use Rattle.std.proofs.Common.{◌≡◌, ℕ, ◌&&◌, Bool, true, false, MatchBool, List, [], ◌∷◌, ◌++◌}
use Rattle.std.proofs.Common.{Result, Ok, Err, IfOk, OnErr, refl}
use Rattle.std.specs.declared.ops.Range.{Range}
use Rattle.bl_load.specs.declared.refusal.Refusal.TheVariants.{FileFault}
use Rattle.bl_load.specs.declared.refused_entry.RefusedEntry.{RefusedEntry}
use Rattle.bl_stage.specs.Ranges.{IsSameOutside}
use Rattle.bl_stage.specs.PieceStates.{PieceState}
use Rattle.bl_store.specs.declared.ticket.Ticket.{Ticket}
use Rattle.bl_session.specs.attempt.AwaitedPieces.{with_piece, are_whole}
use Rattle.bl_session.specs.session.BootSteps.{BootFacts, State}
use Rattle.bl_store.specs.Events.{EventFacts, piece, fault}
use Rattle.bl_session.specs.session.BootSteps.{unstarted}
use Rattle.bl_session.specs.session.BootSteps.{running}
use Rattle.bl_session.specs.session.BootSteps.{handed_over, none_left, out_of_memory, Begins}
use Rattle.bl_session.specs.session.BootSteps.{StepsTo}
use Rattle.bl_session.specs.session.BootSteps.{is_wanted}
use Rattle.bl_session.specs.session.BootSteps.{is_taken, ends_attempt}
use Rattle.bl_session.specs.session.BootMemory.{IsMemoryAt}
use Rattle.bl_session.proofs.session_lemmas.StepLemmas.{by_test}

-- ---- a fault

pub steps_fault : {P E : Type 0} (facts : BootFacts) (entry : ℕ) (rest : List ℕ)
    (earlier : List RefusedEntry) (files : List (List PieceState)) (ticket : Ticket)
    (result : Result P E)
    (state : P → State)
    → is_wanted earlier files (fault ticket) ≡ true
    → IfOk result
    (λ phase.
    Begins facts rest
    (earlier ++ record { entry = entry; refusal = FileFault ticket.file } ∷ [])
    (state phase))
    → IfOk result
    (λ phase. StepsTo facts (running entry rest earlier files) (fault ticket) (state phase))
steps_fault facts entry rest earlier files ticket (Err e) state wanted goes = tt
steps_fault facts entry rest earlier files ticket (Ok phase) state wanted goes =
    by_test true (is_wanted earlier files (fault ticket)) _ _ wanted goes

pub lacks_fault : {P E : Type 0} (entry : ℕ) (rest : List ℕ) (earlier : List RefusedEntry)
    (files : List (List PieceState)) (ticket : Ticket) (result : Result P E)
    → is_wanted earlier files (fault ticket) ≡ true
    → OnErr result (ends_attempt (running entry rest earlier files) (fault ticket) ≡ true)
lacks_fault entry rest earlier files ticket (Ok phase) wanted = tt
lacks_fault entry rest earlier files ticket (Err e) wanted = wanted

pub same_itself : (pool : Range ℕ) (old : List ℕ) → IsSameOutside pool old old
same_itself pool old = λ a outside. refl

-- ---- want of memory

-- an event that ends an attempt is one that it waits for
pub ends_taken : (state : State) (event : EventFacts) → ends_attempt state event ≡ true
    → is_taken state event ≡ true
ends_taken unstarted event e = absurd cc
ends_taken (running entry rest earlier files) (piece ticket bytes) e =
    first (is_wanted earlier files (piece ticket bytes))
    (are_whole (with_piece files ticket.file ticket.piece bytes)) e
  where
    first : (a b : Bool) → (a && b) ≡ true → a ≡ true
    first true b e = refl
    first false b e = absurd cc
ends_taken (running entry rest earlier files) (fault ticket) e = e
ends_taken (handed_over entry earlier handover) event e = absurd cc
ends_taken (none_left earlier) event e = absurd cc
ends_taken out_of_memory event e = absurd cc

pub memory_lacking : (pool : Range ℕ) (state : State) (event : EventFacts) (old new : List ℕ)
    → ends_attempt state event ≡ true → IsSameOutside pool old new
    → MatchBool (is_taken state event) (IsMemoryAt pool out_of_memory old new) (new ≡ old)
memory_lacking pool state event old new e outside =
    by_test true (is_taken state event) (IsMemoryAt pool out_of_memory old new) (new ≡ old)
    (ends_taken state event e) outside
