-- One answer of a faithful store while an attempt runs.
use Rattle.std.proofs.Common.{◌≡◌, ℕ, ◌+◌, ◌<◌, ◌==◌, Bool, true, false, List, [], ◌∷◌, ◌++◌}
use Rattle.std.proofs.Common.{length, map, refl, sym, ap, subst, ◌∙◌, inl, inr, arith}
use Rattle.std.proofs.lemmas.Bool.Decides.{nat_tests}
use Rattle.std.proofs.lemmas.List.{append-nil}
use Rattle.bl_load.specs.declared.refused_entry.RefusedEntry.{RefusedEntry}
use Rattle.bl_stage.specs.PieceStates.{PieceState}
use Rattle.bl_stage.specs.Files.{File, size_of}
use Rattle.bl_store.specs.declared.ticket.Ticket.{Ticket}
use Rattle.bl_session.specs.attempt.AwaitedPieces.{is_awaited, piece_state_of, with_piece}
use Rattle.bl_session.specs.session.BootSteps.{BootFacts, State}
use Rattle.bl_store.specs.Events.{EventFacts, piece, fault}
use Rattle.bl_session.specs.session.BootSteps.{unstarted}
use Rattle.bl_session.specs.session.BootSteps.{running}
use Rattle.bl_session.specs.session.BootSteps.{handed_over, none_left, out_of_memory, StepsTo}
use Rattle.bl_session.specs.session.BootSteps.{StepsToOrFails}
use Rattle.bl_store.specs.History.{HistoryItem, submitted, came, failed, nothing}
use Rattle.bl_store.specs.History.{file_under}
use Rattle.bl_store.specs.History.{IsPieceOf}
use Rattle.bl_session.specs.session.Submissions.{attempt_submissions, new_submissions}
use Rattle.bl_session.specs.runs.Run.{IsAnswer}
use Rattle.bl_store.specs.Faithful.{IsFaithfulItem}
use Rattle.bl_store.proofs.TicketLemmas.{IsUntouched, same_ticket, other_ticket}
use Rattle.bl_store.proofs.TicketLemmas.{untouched_both}
use Rattle.bl_store.proofs.TicketLemmas.{once_first}
use Rattle.bl_session.proofs.run_lemmas.OrderLemmas.{untouched_piece, untouched_fault}
use Rattle.bl_session.proofs.run_lemmas.WentLemmas.{IsNewFrom, step_went}
use Rattle.bl_session.proofs.attempt_lemmas.AwaitedLemmas.{still_awaited}
use Rattle.bl_session.proofs.run_lemmas.SteadyLemmas.{file_at, Steady, steady_new}
use Rattle.bl_session.proofs.run_lemmas.AwaitedAnswers.{Awaited, once, no_fault, no_end, marked}
use Rattle.bl_session.proofs.run_lemmas.AwaitedAnswers.{wants_piece}
use Rattle.bl_session.proofs.run_lemmas.AwaitedAnswers.{wanted_fault, is_no_later}

module _ (facts : BootFacts) (files : List File) (known : facts.sizes ≡ map size_of files)
    (entry : ℕ) (rest : List ℕ) (earlier : List RefusedEntry)
    (piece_states : List (List PieceState))
    (given : List HistoryItem)
    (steady : Steady facts given (running entry rest earlier piece_states)) where
  -- ---- the state after it

  abbrev Next : HistoryItem → State → Type 0
  Next item new =
      Steady facts
      ((given ++ item ∷ []) ++ new_submissions facts (running entry rest earlier piece_states) new)
      new

  -- the attempt goes on with these pieces
  stays : (item : HistoryItem) (left : List (List PieceState)) (new : State)
      → ((file index : ℕ) → is_awaited (piece_state_of left file index) ≡ true
      → piece_state_of left file index ≡ piece_state_of piece_states file index)
      → ((t : Ticket) → length earlier < t.attempt → IsUntouched (item ∷ []) t)
      → ((t : Ticket) → t.attempt ≡ length earlier
      → is_awaited (piece_state_of left t.file t.piece) ≡ true
      → IsUntouched (item ∷ []) t)
      → new ≡ running entry rest earlier left → Next item new
  stays item left new same later apart goes =
      let here : (length earlier == length earlier) ≡ true = grind (arith, nat_tests) in
      let holds : Next item (running entry rest earlier left) = rw (here, append-nil) (
        steady.0,
        (λ file index e. let at = same file index e in
            at ∙ steady.1 file index (ap is_awaited (sym at) ∙ e)),
        (λ t l. untouched_both given (item ∷ []) t (steady.2 t l) (later t l)),
        (λ t a e.
            let at = same t.file t.piece e in
            once_first (file_at facts entry t.file) given (item ∷ []) t
            (once facts files known entry rest earlier piece_states given steady t
            (a, ap is_awaited (sym at) ∙ e)) (apart t a e)),
      ) in
      subst (λ (s : State). Next item s) (sym goes) holds

  -- it ended, and one that has just begun runs
  renews : (item : HistoryItem) (new : State)
      → ((t : Ticket) → length earlier < t.attempt → IsUntouched (item ∷ []) t)
      → IsNewFrom facts (length rest) (length earlier + 1) new → Next item new
  renews item new later is =
      by_state new is
      (steady_new facts (given ++ item ∷ []) (length rest) (length earlier + 1) new is
      (λ t l.
      untouched_both given (item ∷ []) t (steady.2 t (omega arith))
      (later t (omega arith))))
    where
      by_state : (new : State) → IsNewFrom facts (length rest) (length earlier + 1) new
          → Steady facts ((given ++ item ∷ []) ++ attempt_submissions facts new) new → Next item new
      by_state (running index others more left) is holds =
          let low = is.0 in
          let another : (length more == length earlier) ≡ false = grind (arith, nat_tests) in
          rw another holds
      by_state unstarted is holds = tt
      by_state (handed_over index more handover) is holds = tt
      by_state (none_left more) is holds = tt
      by_state out_of_memory is holds = tt

  -- ---- a piece

  stored : (t : Ticket) (bytes : List ℕ) (count : ℕ) (genuine : Bool) (new : State)
      → ((s : Ticket) → length earlier < s.attempt → IsUntouched (came t count genuine ∷ []) s)
      → new ≡ running entry rest earlier (with_piece piece_states t.file t.piece bytes)
      → Next (came t count genuine) new
  stored t bytes count genuine new later goes =
      stays (came t count genuine) (with_piece piece_states t.file t.piece bytes) new
      (λ file index e. (still_awaited piece_states t.file t.piece bytes file index e).1) later
      (λ s a e. untouched_piece t s count genuine (other_ticket t s (λ same.
      let is = same_ticket t s same in
      (still_awaited piece_states t.file t.piece bytes s.file s.piece e).0
      (ap (λ (x : Ticket). x.file) (sym is), ap (λ (x : Ticket). x.piece) (sym is)))))
      goes

  -- an answer that is not wanted is to a ticket that is not awaited
  stays_so : (item : HistoryItem) (new : State)
      → ((t : Ticket) → length earlier < t.attempt → IsUntouched (item ∷ []) t)
      → ((t : Ticket) → Awaited earlier piece_states t → IsUntouched (item ∷ []) t)
      → new ≡ running entry rest earlier piece_states → Next item new
  stays_so item new later apart goes =
      stays item piece_states new (λ file index e. refl) later (λ t a e. apart t (a, e)) goes

  take_piece : (t : Ticket) (bytes : List ℕ) (count : ℕ) (genuine : Bool) (new : State)
      → IsFaithfulItem files given (came t count genuine)
      → (genuine ≡ true → IsPieceOf files (file_under given t) t.piece bytes)
      → StepsTo facts (running entry rest earlier piece_states) (piece t bytes) new
      → Next (came t count genuine) new
  take_piece t bytes count genuine new faithful of_file goes =
      let later : (s : Ticket) → length earlier < s.attempt
      → IsUntouched (came t count genuine ∷ []) s =
      λ s l.
      untouched_piece t s count genuine
      (is_no_later facts files known entry rest earlier piece_states given steady t s faithful.0
      l) in
      elim (step_went facts entry rest earlier piece_states (piece t bytes) new goes) [
        | inl (unwanted, same) ↦
            stays_so (came t count genuine) new later
            (λ s waiting_files. untouched_piece t s count genuine (other_ticket t s (λ is.
            let here : Awaited earlier piece_states t =
            subst (Awaited earlier piece_states) (sym (same_ticket t s is)) waiting_files in
            let wanted =
            wants_piece facts files known entry rest earlier piece_states given steady t bytes here
            (of_file
            (marked facts files known entry rest earlier piece_states given steady t count genuine
            here faithful)) in
            let clash : false ≡ true = sym unwanted ∙ wanted in
            absurd (cc))))
            same
        | inr (wanted, inl (s, b, is, same)) ↦
            let ticket : s ≡ t = cc in
            let same_bytes : b ≡ bytes = cc in
            stored t bytes count genuine new later
            (same
            ∙ ap
            (λ (x : Ticket).
            running entry rest earlier (with_piece piece_states x.file x.piece b)) ticket
            ∙ ap
            (λ (x : List ℕ).
            running entry rest earlier
            (with_piece piece_states t.file t.piece x)) same_bytes)
        | inr (wanted, inr is) ↦ renews (came t count genuine) new later is
      ]

  take_fault : (t : Ticket) (new : State) → IsFaithfulItem files given (failed t)
      → StepsTo facts (running entry rest earlier piece_states) (fault t) new → Next (failed t) new
  take_fault t new faithful goes =
      elim (step_went facts entry rest earlier piece_states (fault t) new goes) [
        | inl (unwanted, same) ↦
            stays_so (failed t) new
            (λ s l.
            untouched_fault t s
            (is_no_later facts files known entry rest earlier piece_states given steady t s
            faithful.0 l))
            (λ s waiting_files.
            untouched_fault t s
            (other_ticket t s
            (λ is.
            no_fault facts files known entry rest earlier piece_states given steady t
            (subst (Awaited earlier piece_states) (sym (same_ticket t s is)) waiting_files)
            faithful)))
            same
        | inr (wanted, how) ↦
            absurd
            (no_fault facts files known entry rest earlier piece_states given steady t
            (wanted_fault facts files known entry rest earlier piece_states given steady t wanted)
            faithful)
      ]

  -- ---- any answer

  hear : (item : HistoryItem) (event : EventFacts) (new : State) → IsFaithfulItem files given item
      → IsAnswer files given earlier piece_states item event
      → StepsTo facts (running entry rest earlier piece_states) event new → Next item new
  hear (submitted file t) event new faithful is goes = absurd is
  hear (came t count genuine) event new faithful (bytes, same, long, of_file) goes =
      take_piece t bytes count genuine new faithful of_file.0
      (subst (λ (e : EventFacts). StepsTo facts (running entry rest earlier piece_states) e new) same
      goes)
  hear (failed t) event new faithful same goes =
      take_fault t new faithful
      (subst (λ (e : EventFacts). StepsTo facts (running entry rest earlier piece_states) e new) same
      goes)
  hear nothing event new faithful (t, first, same) goes =
      absurd (no_end facts files known entry rest earlier piece_states given steady t first
      faithful)

  pub hear_any : (item : HistoryItem) (event : EventFacts) (new : State)
      → IsFaithfulItem files given item
      → IsAnswer files given earlier piece_states item event
      → StepsToOrFails facts (running entry rest earlier piece_states) event new → Next item new
  hear_any item event new faithful is (inl goes) = hear item event new faithful is goes
  hear_any item event new faithful is (inr (lacks, ends)) =
      subst (λ (s : State). Next item s) (sym lacks) tt
