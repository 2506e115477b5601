-- Where a step leads: the attempt goes on, or one that has just begun runs.
use Rattle.std.proofs.Common.{◌≡◌, ℕ, ◌+◌, ◌<◌, ◌≤◌, Bool, true, false, MatchBool, List, [], ◌∷◌}
use Rattle.std.proofs.Common.{◌++◌, length, map, Option, None, Some, refl, sym, subst, ◌∙◌, ◌⊎◌}
use Rattle.std.proofs.Common.{inl, inr, arith, length-append}
use Rattle.std.proofs.lemmas.List.{length-map}
use Rattle.bl_load.specs.declared.refusal.Refusal.{Refusal}
use Rattle.bl_load.specs.declared.refusal.Refusal.TheVariants.{FileFault}
use Rattle.bl_load.specs.declared.refused_entry.RefusedEntry.{RefusedEntry}
use Rattle.bl_stage.specs.PieceStates.{PieceState, came_bytes, waiting_pieces}
use Rattle.bl_store.specs.declared.ticket.Ticket.{Ticket}
use Rattle.bl_session.specs.attempt.AttemptResult.{AttemptResult, handed, refused, size_refusal}
use Rattle.bl_session.specs.attempt.AttemptResult.{known_lengths}
use Rattle.bl_session.specs.menu.Menu.{entry_at}
use Rattle.bl_session.specs.attempt.AwaitedPieces.{are_whole, with_piece}
use Rattle.bl_session.specs.session.BootSteps.{BootFacts, State}
use Rattle.bl_store.specs.Events.{EventFacts, piece, fault}
use Rattle.bl_session.specs.session.BootSteps.{unstarted}
use Rattle.bl_session.specs.session.BootSteps.{running}
use Rattle.bl_session.specs.session.BootSteps.{handed_over, none_left, out_of_memory, sizes_of}
use Rattle.bl_session.specs.session.BootSteps.{fresh}
use Rattle.bl_session.specs.session.BootSteps.{TextsHaveResult, AfterAttempt, Continues}
use Rattle.bl_session.specs.session.BootSteps.{BeginsUnless}
use Rattle.bl_session.specs.session.BootSteps.{Begins}
use Rattle.bl_session.specs.session.BootSteps.{is_wanted, TakesEvent, StepsTo}

-- the boot has ended; or an attempt has just begun, with at least this many refusals before it and
-- fewer than so many attempts after it
abbrev pub IsNewFrom : BootFacts → (count number : ℕ) → State → Type 0
IsNewFrom facts count number unstarted = ⊥
IsNewFrom facts count number (running entry rest earlier files) =
    (number ≤ length earlier) × (length rest < count)
    × (size_refusal facts.machine (sizes_of facts entry) ≡ None) × (files ≡ fresh facts entry)
IsNewFrom facts count number (handed_over entry earlier handover) = Unit {0}
IsNewFrom facts count number (none_left earlier) = Unit {0}
IsNewFrom facts count number out_of_memory = Unit {0}

new_later : (facts : BootFacts) (count more low high : ℕ) (state : State) → count ≤ more
    → low ≤ high → IsNewFrom facts count high state → IsNewFrom facts more low state
new_later facts count more low high unstarted c h is = absurd is
new_later facts count more low high (running entry rest earlier files) c h (l, few, sized, e) =
    (omega (arith, h, l), omega (arith, c, few), sized, e)
new_later facts count more low high (handed_over entry earlier handover) c h is = tt
new_later facts count more low high (none_left earlier) c h is = tt
new_later facts count more low high out_of_memory c h is = tt

-- an attempt that ended, if each one after it is new
pub new_goes : (facts : BootFacts) (rest : List ℕ) (entry : ℕ) (earlier : List RefusedEntry)
    (end : AttemptResult) (new : State)
    → ((r : List RefusedEntry) (s : State) → Begins facts rest r s
    → IsNewFrom facts (length rest) (length r) s)
    → AfterAttempt (Begins facts rest) entry earlier end new
    → IsNewFrom facts (length rest) (length earlier + 1) new
new_goes facts rest entry earlier (handed handover) new more goes =
    subst (IsNewFrom facts (length rest) (length earlier + 1)) (sym goes) tt
new_goes facts rest entry earlier (refused refusal) new more goes =
    let long : length (earlier ++ record { entry = entry; refusal = refusal } ∷ [])
    ≡ length earlier + 1 =
    length-append earlier (record { entry = entry; refusal = refusal } ∷ []) in
    subst (λ (n : ℕ). IsNewFrom facts (length rest) n new) long
    (more (earlier ++ record { entry = entry; refusal = refusal } ∷ []) new goes)

-- an attempt goes on, or it ended and what comes is new
goes_or_new : (facts : BootFacts) (entry : ℕ) (rest : List ℕ) (earlier : List RefusedEntry)
    (files : List (List PieceState)) (new : State)
    → ((r : List RefusedEntry) (s : State) → Begins facts rest r s
    → IsNewFrom facts (length rest) (length r) s)
    → Continues facts (Begins facts rest) entry rest earlier files new
    → (new ≡ running entry rest earlier files)
    ⊎ IsNewFrom facts (length rest) (length earlier + 1) new
goes_or_new facts entry rest earlier files new more goes = choice (are_whole files) goes
  where
    choice : (b : Bool)
        → MatchBool b
        ((end : AttemptResult) × TextsHaveResult facts entry (map came_bytes files) end
        × AfterAttempt (Begins facts rest) entry earlier end new)
        (new ≡ running entry rest earlier files)
        → (new ≡ running entry rest earlier files)
        ⊎ IsNewFrom facts (length rest) (length earlier + 1) new
    choice true (end, ends, on) = inr (new_goes facts rest entry earlier end new more on)
    choice false same = inl same

new_unless : (facts : BootFacts) (entry : ℕ) (rest : List ℕ) (earlier : List RefusedEntry)
    (why : Option Refusal) (new : State)
    → ((r : List RefusedEntry) (s : State) → Begins facts rest r s
    → IsNewFrom facts (length rest) (length r) s)
    → size_refusal facts.machine (sizes_of facts entry) ≡ why
    → BeginsUnless facts (Begins facts rest) entry rest earlier why new
    → IsNewFrom facts (length (entry ∷ rest)) (length earlier) new
new_unless facts entry rest earlier (Some refusal) new more sized goes =
    new_later facts (length rest) (length (entry ∷ rest)) (length earlier) (length earlier + 1) new
    (omega arith) (omega arith) (new_goes facts rest entry earlier (refused refusal) new more goes)
new_unless facts entry rest earlier None new more sized goes =
    elim (goes_or_new facts entry rest earlier (fresh facts entry) new more goes) [
      | inl same ↦
          subst (IsNewFrom facts (length (entry ∷ rest)) (length earlier)) (sym same)
          (omega arith, omega arith, sized, refl)
      | inr later ↦
          new_later facts (length rest) (length (entry ∷ rest)) (length earlier)
          (length earlier + 1) new (omega arith) (omega arith) later
    ]

pub new_begins : (facts : BootFacts) (rest : List ℕ) (earlier : List RefusedEntry) (new : State)
    → Begins facts rest earlier new → IsNewFrom facts (length rest) (length earlier) new
new_begins facts [] earlier new goes = subst (IsNewFrom facts 0 (length earlier)) (sym goes) tt
new_begins facts (entry ∷ rest) earlier new goes =
    new_unless facts entry rest earlier (size_refusal facts.machine (sizes_of facts entry)) new
    (new_begins facts rest) refl goes

-- what one event does to an attempt that runs: nothing, if it is not wanted; it stores a piece; or
-- the attempt ended, and what comes is new
abbrev pub Went : BootFacts → ℕ → List ℕ → List RefusedEntry → List (List PieceState) → EventFacts
    → State
    → Type 0
Went facts entry rest earlier files event new =
    ((is_wanted earlier files event ≡ false) × (new ≡ running entry rest earlier files))
    ⊎ ((is_wanted earlier files event ≡ true)
    × (((ticket : Ticket) × (bytes : List ℕ) × (event ≡ piece ticket bytes)
    × (new ≡ running entry rest earlier (with_piece files ticket.file ticket.piece bytes)))
    ⊎ IsNewFrom facts (length rest) (length earlier + 1) new))

pub step_went : (facts : BootFacts) (entry : ℕ) (rest : List ℕ) (earlier : List RefusedEntry)
    (files : List (List PieceState)) (event : EventFacts) (new : State)
    → StepsTo facts (running entry rest earlier files) event new
    → Went facts entry rest earlier files event new
step_went facts entry rest earlier files event new goes =
    choice (is_wanted earlier files event) refl goes
  where
    taken : (event : EventFacts) → TakesEvent facts entry rest earlier files event new
        → ((ticket : Ticket) × (bytes : List ℕ) × (event ≡ piece ticket bytes)
        × (new ≡ running entry rest earlier (with_piece files ticket.file ticket.piece bytes)))
        ⊎ IsNewFrom facts (length rest) (length earlier + 1) new
    taken (piece ticket bytes) goes =
        elim (goes_or_new facts entry rest earlier (with_piece files ticket.file ticket.piece bytes)
        new (new_begins facts rest) goes) [
          | inl same ↦ inl (ticket, bytes, refl, same)
          | inr later ↦ inr later
        ]
    taken (fault ticket) goes =
        inr
        (new_goes facts rest entry earlier (refused (FileFault ticket.file)) new
        (new_begins facts rest) goes)

    choice : (b : Bool) → is_wanted earlier files event ≡ b
        → MatchBool b (TakesEvent facts entry rest earlier files event new)
        (new ≡ running entry rest earlier files) → Went facts entry rest earlier files event new
    choice true e takes = inr (e, taken event takes)
    choice false e same = inl (e, same)

-- a new attempt has a state of each piece of its files
pub fresh_length : (facts : BootFacts) (entry : ℕ)
    → length (fresh facts entry) ≡ length (entry_at facts.menu entry).files
fresh_length facts entry =
    length-map (known_lengths (sizes_of facts entry)) waiting_pieces
    ∙ length-map (sizes_of facts entry) _
    ∙ length-map (entry_at facts.menu entry).files _
