-- A boot comes to what its state comes to: the first entry that is not refused.
use Rattle.std.proofs.Common.{◌≡◌, ℕ, Bool, true, false, MatchBool, List, [], ◌∷◌, ◌++◌, length}
use Rattle.std.proofs.Common.{Option, Some, None, sym, ap, subst, ◌∙◌, refl, map, if◌then◌else◌}
use Rattle.bl_load.specs.declared.refusal.Refusal.{Refusal}
use Rattle.bl_load.specs.declared.refusal.Refusal.TheVariants.{FileFault}
use Rattle.bl_load.specs.declared.refused_entry.RefusedEntry.{RefusedEntry}
use Rattle.bl_stage.specs.PieceStates.{PieceState, came_bytes}
use Rattle.bl_stage.specs.Files.{File, size_of}
use Rattle.bl_session.specs.attempt.AttemptResult.{AttemptResult, handed, refused}
use Rattle.bl_session.specs.attempt.AttemptResult.{HasWholeFilesResult}
use Rattle.bl_session.specs.attempt.AttemptResult.{size_refusal}
use Rattle.bl_session.specs.attempt.AwaitedPieces.{are_whole, with_piece}
use Rattle.bl_session.specs.session.BootSteps.{BootFacts, State}
use Rattle.bl_store.specs.Events.{EventFacts, piece, fault}
use Rattle.bl_session.specs.session.BootSteps.{unstarted}
use Rattle.bl_session.specs.session.BootSteps.{running}
use Rattle.bl_session.specs.session.BootSteps.{handed_over, none_left, out_of_memory, sizes_of}
use Rattle.bl_session.specs.session.BootSteps.{fresh}
use Rattle.bl_session.specs.session.BootSteps.{TextsHaveResult, AfterAttempt, BeginsUnless, Begins}
use Rattle.bl_session.specs.session.BootSteps.{is_wanted}
use Rattle.bl_session.specs.session.BootSteps.{TakesEvent, StepsTo, LeadsTo}
use Rattle.bl_session.specs.menu.EntryContents.{texts_of, entry_value_in}
use Rattle.bl_session.specs.session.Schedules.{IsGenuineEvent}
use Rattle.bl_session.specs.session.Outcome.{faulty_file}
use Rattle.bl_session.specs.session.Schedules.{IsGenuineAt, IsGenuine}
use Rattle.bl_session.specs.session.Outcome.{EntryHasResult, IsFirst, IsOutcome}
use Rattle.bl_session.specs.session.Outcome.{HasEnded}
use Rattle.bl_session.proofs.attempt_lemmas.GatherLemmas.{FitAll, fits_piece, whole_files}
use Rattle.bl_session.proofs.attempt_lemmas.EntryEndLemmas.{fits_fresh, ends_by_size, ends_by_fault}
use Rattle.bl_session.proofs.attempt_lemmas.EntryEndLemmas.{ends_whole}

-- ---- a boot comes to what its state comes to

module _ (facts : BootFacts) (files : List File) (faults : ℕ → Option ℕ)
    (known : facts.sizes ≡ map size_of files) where
  -- what a boot that stands so comes to
  abbrev Comes : State → State → Type 0
  Comes unstarted end = end ≡ unstarted
  Comes (running entry rest earlier piece_states) end =
      IsFirst facts files faults (entry ∷ rest) earlier end
  Comes (handed_over entry earlier handover) end = end ≡ handed_over entry earlier handover
  Comes (none_left earlier) end = end ≡ none_left earlier
  Comes out_of_memory end = end ≡ out_of_memory

  -- what holds of a running attempt
  abbrev Holds : State → Type 0
  Holds unstarted = Unit {0}
  Holds (running entry rest earlier piece_states) =
      (size_refusal facts.machine (sizes_of facts entry) ≡ None)
      × (are_whole (fresh facts entry) ≡ false) × FitAll piece_states (texts_of facts files entry)
  Holds (handed_over entry earlier handover) = Unit {0}
  Holds (none_left earlier) = Unit {0}
  Holds out_of_memory = Unit {0}

  -- a new state holds, and comes to what these attempts come to
  abbrev Follows : List ℕ → List RefusedEntry → State → Type 0
  Follows rest earlier new =
      Holds new × ((end : State) → Comes new end → IsFirst facts files faults rest earlier end)

  -- the attempt of an entry ended so
  follows_end : (entry : ℕ) (rest : List ℕ) (earlier : List RefusedEntry) (e : AttemptResult)
      (new : State)
      → ((r : List RefusedEntry) (s : State) → Begins facts rest r s → Follows rest r s)
      → EntryHasResult facts files (faults (length earlier)) entry e
      → AfterAttempt (Begins facts rest) entry earlier e new → Follows (entry ∷ rest) earlier new
  follows_end entry rest earlier (handed h) new more ends goes = (
    subst Holds (sym goes) tt,
    λ end comes. (handed h, ends, subst (λ (s : State). Comes s end) goes comes),
  )
  follows_end entry rest earlier (refused r) new more ends goes =
      let next = more (earlier ++ record { entry = entry; refusal = r } ∷ []) new goes in
      (next.0, λ end comes. (refused r, ends, next.1 end comes))

  -- an attempt with these pieces
  follows_pieces : (entry : ℕ) (rest : List ℕ) (earlier : List RefusedEntry)
      (piece_states : List (List PieceState)) (full : Bool) (new : State)
      → ((r : List RefusedEntry) (s : State) → Begins facts rest r s → Follows rest r s)
      → size_refusal facts.machine (sizes_of facts entry) ≡ None
      → FitAll piece_states (texts_of facts files entry)
      → (full ≡ false → are_whole (fresh facts entry) ≡ false)
      → (full ≡ true → faulty_file facts entry (faults (length earlier)) ≡ None)
      → are_whole piece_states ≡ full
      → MatchBool full
      ((end : AttemptResult) × TextsHaveResult facts entry (map came_bytes piece_states) end
      × AfterAttempt (Begins facts rest) entry earlier end new)
      (new ≡ running entry rest earlier piece_states)
      → Follows (entry ∷ rest) earlier new
  follows_pieces entry rest earlier piece_states false new more sized fit waits told is goes = (
    subst Holds (sym goes) (sized, waits refl, fit),
    λ end comes. subst (λ (s : State). Comes s end) goes comes,
  )
  follows_pieces entry rest earlier piece_states true new more sized fit waits told is
      (e, ends, goes) =
      let texts : map came_bytes piece_states ≡ texts_of facts files entry =
      whole_files piece_states (texts_of facts files entry) fit is in
      let of_value : HasWholeFilesResult facts.machine (entry_value_in facts files entry) e =
      subst (λ (x : List (List ℕ)). TextsHaveResult facts entry x e) texts ends in
      follows_end entry rest earlier e new more
      (ends_whole facts.machine (sizes_of facts entry) _ (entry_value_in facts files entry) e sized
      (told refl) of_value) goes

  no_pieces : (entry : ℕ) (faulty : Option ℕ) → are_whole (fresh facts entry) ≡ true
      → faulty_file facts entry faulty ≡ None
  no_pieces entry faulty e = ap (λ (b : Bool). if b then None else faulty) e

  follows_unless : (entry : ℕ) (rest : List ℕ) (earlier : List RefusedEntry) (why : Option Refusal)
      (new : State)
      → ((r : List RefusedEntry) (s : State) → Begins facts rest r s → Follows rest r s)
      → size_refusal facts.machine (sizes_of facts entry) ≡ why
      → BeginsUnless facts (Begins facts rest) entry rest earlier why new
      → Follows (entry ∷ rest) earlier new
  follows_unless entry rest earlier (Some r) new more sized goes =
      follows_end entry rest earlier (refused r) new more
      (ends_by_size facts.machine (sizes_of facts entry) _ (entry_value_in facts files entry) r
      sized)
      goes
  follows_unless entry rest earlier None new more sized goes =
      follows_pieces entry rest earlier (fresh facts entry) (are_whole (fresh facts entry)) new more
      sized (fits_fresh facts files entry known sized) (λ e. e)
      (no_pieces entry (faults (length earlier))) refl goes

  pub follows_begins : (rest : List ℕ) (earlier : List RefusedEntry) (new : State)
      → Begins facts rest earlier new → Follows rest earlier new
  follows_begins [] earlier new goes =
      (subst Holds (sym goes) tt, λ end comes. subst (λ (s : State). Comes s end) goes comes)
  follows_begins (entry ∷ rest) earlier new goes =
      follows_unless entry rest earlier (size_refusal facts.machine (sizes_of facts entry)) new
      (follows_begins rest) refl goes

  -- one event that is genuine
  abbrev Keeps : State → State → Type 0
  Keeps old new = Holds new × ((end : State) → Comes new end → Comes old end)

  has_fault : (entry : ℕ) (told : Option ℕ) (place : ℕ) → are_whole (fresh facts entry) ≡ false
      → told ≡ Some place → faulty_file facts entry told ≡ Some place
  has_fault entry told place e f = ap (λ (b : Bool). if b then None else told) e ∙ f

  has_none : (entry : ℕ) (told : Option ℕ) → are_whole (fresh facts entry) ≡ false → told ≡ None
      → faulty_file facts entry told ≡ None
  has_none entry told e f = ap (λ (b : Bool). if b then None else told) e ∙ f

  keeps_taken : (entry : ℕ) (rest : List ℕ) (earlier : List RefusedEntry)
      (piece_states : List (List PieceState))
      (event : EventFacts) (new : State) → Holds (running entry rest earlier piece_states)
      → IsGenuineEvent facts files faults entry earlier piece_states event
      → TakesEvent facts entry rest earlier piece_states event new
      → Keeps (running entry rest earlier piece_states) new
  keeps_taken entry rest earlier piece_states (piece ticket bytes) new (sized, some, fit) (is, last)
      goes =
      follows_pieces entry rest earlier (with_piece piece_states ticket.file ticket.piece bytes)
      (are_whole (with_piece piece_states ticket.file ticket.piece bytes)) new (follows_begins rest)
      sized
      (fits_piece piece_states (texts_of facts files entry) ticket.file ticket.piece bytes is fit)
      (λ e. some) (λ e. has_none entry (faults (length earlier)) some (last e)) refl goes
  keeps_taken entry rest earlier piece_states (fault ticket) new (sized, some, fit) told goes =
      follows_end entry rest earlier (refused (FileFault ticket.file)) new (follows_begins rest)
      (ends_by_fault facts.machine (sizes_of facts entry) _ (entry_value_in facts files entry)
      ticket.file
      sized (has_fault entry (faults (length earlier)) ticket.file some told)) goes

  keeps_choice : (entry : ℕ) (rest : List ℕ) (earlier : List RefusedEntry)
      (piece_states : List (List PieceState)) (event : EventFacts) (wanted : Bool) (new : State)
      → Holds (running entry rest earlier piece_states)
      → (wanted ≡ true → IsGenuineEvent facts files faults entry earlier piece_states event)
      → MatchBool wanted (TakesEvent facts entry rest earlier piece_states event new)
      (new ≡ running entry rest earlier piece_states)
      → Keeps (running entry rest earlier piece_states) new
  keeps_choice entry rest earlier piece_states event true new holds is goes =
      keeps_taken entry rest earlier piece_states event new holds (is refl) goes
  keeps_choice entry rest earlier piece_states event false new holds is goes =
      (subst Holds (sym goes) holds, λ end comes. subst (λ (s : State). Comes s end) goes comes)

  keeps_step : (old : State) (event : EventFacts) (new : State) → Holds old
      → IsGenuineAt facts files faults old event → StepsTo facts old event new → Keeps old new
  keeps_step unstarted event new holds genuine goes =
      (subst Holds (sym goes) tt, λ end comes. subst (λ (s : State). Comes s end) goes comes)
  keeps_step (running entry rest earlier piece_states) event new holds genuine goes =
      keeps_choice entry rest earlier piece_states event (is_wanted earlier piece_states event) new
      holds genuine
      goes
  keeps_step (handed_over entry earlier handover) event new holds genuine goes =
      (subst Holds (sym goes) tt, λ end comes. subst (λ (s : State). Comes s end) goes comes)
  keeps_step (none_left earlier) event new holds genuine goes =
      (subst Holds (sym goes) tt, λ end comes. subst (λ (s : State). Comes s end) goes comes)
  keeps_step out_of_memory event new holds genuine goes =
      (subst Holds (sym goes) tt, λ end comes. subst (λ (s : State). Comes s end) goes comes)

  comes_end : (end : State) → HasEnded end → Comes end end
  comes_end unstarted ended = absurd ended
  comes_end (running entry rest earlier piece_states) ended = absurd ended
  comes_end (handed_over entry earlier handover) ended = refl
  comes_end (none_left earlier) ended = refl
  comes_end out_of_memory ended = absurd ended

  keeps_all : (events : List EventFacts) (old end : State) → Holds old
      → IsGenuine facts files faults old events → LeadsTo facts old events end → HasEnded end
      → Comes old end
  keeps_all [] old end holds genuine leads ended =
      subst (λ (s : State). Comes s end) leads (comes_end end ended)
  keeps_all (event ∷ events) old end holds genuine (next, step, leads) ended =
      let one = keeps_step old event next holds genuine.0 step in
      one.1 end (keeps_all events next end one.0 (genuine.1 next step) leads ended)

  pub first_ended : (events : List EventFacts) (begun end : State)
      → Begins facts facts.menu.attempts [] begun → IsGenuine facts files faults begun events
      → LeadsTo facts begun events end → HasEnded end
      → IsOutcome facts files faults end
  first_ended events begun end begins genuine leads ended =
      let first = follows_begins facts.menu.attempts [] begun begins in
      first.1 end (keeps_all events begun end first.0 genuine leads ended)
