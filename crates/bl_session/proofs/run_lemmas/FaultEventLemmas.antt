-- An answer whose wanted pieces are marked is a genuine event, with the fault that came of it.
use Rattle.std.proofs.Common.{◌≡◌, ℕ, ◌+◌, ◌≤◌, Bool, true, false, MatchBool, List, [], ◌∷◌, ◌++◌}
use Rattle.std.proofs.Common.{length, refl, sym, ap, subst, ◌∙◌, inl, inr, arith}
use Rattle.bl_load.specs.declared.refused_entry.RefusedEntry.{RefusedEntry}
use Rattle.bl_stage.specs.PieceStates.{PieceState}
use Rattle.bl_stage.specs.Files.{File}
use Rattle.bl_session.specs.session.BootSteps.{BootFacts, State, unstarted, running}
use Rattle.bl_store.specs.Events.{EventFacts}
use Rattle.bl_session.specs.session.BootSteps.{handed_over}
use Rattle.bl_session.specs.session.BootSteps.{none_left, out_of_memory, is_wanted, TakesEvent}
use Rattle.bl_session.specs.session.BootSteps.{StepsTo}
use Rattle.bl_session.specs.session.Schedules.{Faults, EventAgreesWithFaults}
use Rattle.bl_store.specs.History.{HistoryItem}
use Rattle.bl_session.specs.session.Submissions.{new_submissions}
use Rattle.bl_session.specs.runs.Run.{IsAnswer, RunState, Delivers, IsMarked, IsGenuineItem}
use Rattle.bl_session.specs.runs.Run.{EachAnswerIs}
use Rattle.bl_session.proofs.session_lemmas.BootLaws.{one_step}
use Rattle.bl_session.proofs.run_lemmas.WentLemmas.{IsNewFrom}
use Rattle.bl_session.proofs.run_lemmas.LostLemmas.{LacksMemory, lost_step, hears_nothing}
use Rattle.bl_session.proofs.run_lemmas.FaultLemmas.{one_event, is_last, told, are_told, with_fault}
use Rattle.bl_session.proofs.run_lemmas.FaultLemmas.{at_fault}
use Rattle.bl_session.proofs.run_lemmas.FaultLemmas.{past_fault, last_new, goes_on}

module _ (facts : BootFacts) (files : List File) where
  -- ---- faults from an attempt on

  -- the attempt of this number is that which runs, or comes later
  abbrev pub IsFrom : State → ℕ → Type 0
  IsFrom unstarted n = ⊥
  IsFrom (running entry rest earlier piece_states) n = length earlier ≤ n
  IsFrom (handed_over entry earlier handover) n = ⊥
  IsFrom (none_left earlier) n = ⊥
  IsFrom out_of_memory n = ⊥

  from_new : (count number : ℕ) (state : State) (n : ℕ) → IsNewFrom facts count number state
      → IsFrom state n → number ≤ n
  from_new count number unstarted n is from = absurd from
  from_new count number (running entry rest earlier piece_states) n is from =
      let low = is.0 in omega (arith, low, from)
  from_new count number (handed_over entry earlier handover) n is from = absurd from
  from_new count number (none_left earlier) n is from = absurd from
  from_new count number out_of_memory n is from = absurd from

  -- some faults, which count only from the attempt that runs, make these items genuine
  abbrev pub Fits : List HistoryItem → RunState → List HistoryItem → Type 0
  Fits given run_state items =
      (faults : Faults)
      × ((others : Faults) → ((n : ℕ) → IsFrom run_state.state n → others n ≡ faults n)
      → EachAnswerIs facts files (IsGenuineItem others) given run_state items)

  -- ---- want of memory

  pub lost_genuine : (others : Faults) (items given : List HistoryItem) (run_state : RunState)
      → LacksMemory run_state
      → EachAnswerIs facts files (IsGenuineItem others) given run_state items
  lost_genuine others [] given run_state lost = tt
  lost_genuine others (item ∷ items) given run_state lost = (
    λ event e is. subst (λ (s : State). IsGenuineItem others s item event) (sym lost.0) tt,
    λ next hears. absurd (hears_nothing facts files given run_state item next lost hears),
  )

  -- ---- one answer of an attempt that runs

  module _ (given : List HistoryItem) (entry : ℕ) (rest : List ℕ) (earlier : List RefusedEntry)
      (piece_states : List (List PieceState)) (item : HistoryItem)
      (marked : (event : EventFacts) → IsAnswer files given earlier piece_states item event
      → is_wanted earlier piece_states event ≡ true → IsMarked item) where
    abbrev here : State
    here = running entry rest earlier piece_states

    -- an event that is wanted is the only one
    is_event : (a b : EventFacts) → IsAnswer files given earlier piece_states item a
        → is_wanted earlier piece_states a ≡ true → IsAnswer files given earlier piece_states item b
        → a ≡ b
    is_event a b p wanted q =
        one_event files given earlier piece_states item a b (marked a p wanted) p q

    -- it is genuine with these faults
    told_right : (others : Faults) (event other : EventFacts)
        → IsAnswer files given earlier piece_states item event
        → (is_last piece_states event ≡ true → others (length earlier) ≡ told event)
        → IsAnswer files given earlier piece_states item other
        → is_wanted earlier piece_states other ≡ true
        → IsMarked item × EventAgreesWithFaults others earlier piece_states other
    told_right others event other p is q wanted = (
      marked other q wanted,
      subst (EventAgreesWithFaults others earlier piece_states) (sym (is_event other event q wanted p))
          (are_told others earlier piece_states event is),
    )

    -- each other state of the run that is reached is the same, or lacks memory
    other_world : (others : Faults) (event : EventFacts) (next run_state : RunState)
        (items : List HistoryItem)
        → IsAnswer files given earlier piece_states item event → StepsTo facts here event next.state
        → next.owed ≡ new_submissions facts here next.state
        → Delivers facts files given here [] item run_state
        → EachAnswerIs facts files (IsGenuineItem others) (given ++ item ∷ []) next items
        → EachAnswerIs facts files (IsGenuineItem others) (given ++ item ∷ []) run_state items
    other_world others event next run_state items p goes left (other, q, inr (lost, ends), owed)
        genuine =
        lost_genuine others items (given ++ item ∷ []) run_state
        (lost_step facts here run_state lost owed)
    other_world others event next run_state items p goes left (other, q, inl steps, owed) genuine =
        let state : next.state ≡ run_state.state =
        same_state (is_wanted earlier piece_states other) (is_wanted earlier piece_states event)
        refl refl
        steps goes in
        let same : next ≡ run_state =
        ap (λ (s : State). record { state = s; owed = next.owed }) state
        ∙ ap (λ (o : List HistoryItem). record { state = run_state.state; owed = o })
        (left ∙ ap (new_submissions facts here) state ∙ sym owed) in
        subst (λ (w : RunState).
        EachAnswerIs facts files (IsGenuineItem others) (given ++ item ∷ []) w items) same
        genuine
      where
        same_state : (a b : Bool) → is_wanted earlier piece_states other ≡ a
            → is_wanted earlier piece_states event ≡ b
            → MatchBool a (TakesEvent facts entry rest earlier piece_states other run_state.state)
            (run_state.state ≡ here)
            → MatchBool b (TakesEvent facts entry rest earlier piece_states event next.state)
            (next.state ≡ here)
            → next.state ≡ run_state.state
        same_state true b e f takes other_takes =
            one_step facts here event next.state run_state.state goes
            (subst (λ (x : EventFacts). StepsTo facts here x run_state.state)
            (is_event other event q e p) steps)
        same_state false true e f takes other_takes =
            one_step facts here event next.state run_state.state goes
            (subst (λ (x : EventFacts). StepsTo facts here x run_state.state)
            (sym (is_event event other p f q)) steps)
        same_state false false e f stays other_stays = other_stays ∙ sym stays

    -- the faults after it, and that of this attempt if it ended
    pub taken : (event : EventFacts) (next : RunState) (items : List HistoryItem)
        → IsAnswer files given earlier piece_states item event → StepsTo facts here event next.state
        → next.owed ≡ new_submissions facts here next.state
        → Fits (given ++ item ∷ []) next items
        → Fits given (record { state = here; owed = [] }) (item ∷ items)
    taken event next items p goes left (faults, more) =
        wanted (is_wanted earlier piece_states event) refl goes
      where
        whole : (others : Faults)
            → (is_last piece_states event ≡ true → is_wanted earlier piece_states event ≡ true
            → others (length earlier) ≡ told event)
            → ((n : ℕ) → IsFrom next.state n → others n ≡ faults n)
            → EachAnswerIs facts files (IsGenuineItem others) given
            (record { state = here; owed = [] })
            (item ∷ items)
        whole others is same = (
          λ other none q is_it.
              told_right others event other p
              (λ last.
              is last
              (ap (is_wanted earlier piece_states) (sym (is_event other event q is_it p))
              ∙ is_it)) q is_it,
          λ run_state hears.
              other_world others event next run_state items p goes left hears (more others same),
        )

        ended : (last : Bool) → is_last piece_states event ≡ last
            → TakesEvent facts entry rest earlier piece_states event next.state
            → Fits given (record { state = here; owed = [] }) (item ∷ items)
        ended true e takes =
            let new = last_new facts entry rest earlier piece_states event next.state e takes in (
              with_fault (length earlier) (told event) faults,
              λ others same.
                  whole others
                  (λ last wants.
                  same (length earlier) (omega arith)
                  ∙ at_fault (length earlier) (told event) faults)
                  (λ n from.
                  let later =
                  from_new (length rest) (length earlier + 1) next.state n new from in
                  same n (omega (arith, later))
                  ∙ past_fault (length earlier) (told event) faults n (omega (arith, later))),
            )
        ended false e takes =
            let on = goes_on facts entry rest earlier piece_states event next.state e takes in (
              faults,
              λ others same.
                  whole others
                  (λ last wants. absurd (let clash : true ≡ false = sym last ∙ e in cc))
                  (λ n from. same n (subst (λ (s : State). IsFrom s n) on.1 from)),
            )

        wanted : (b : Bool) → is_wanted earlier piece_states event ≡ b
            → MatchBool b (TakesEvent facts entry rest earlier piece_states event next.state)
            (next.state ≡ here) → Fits given (record { state = here; owed = [] }) (item ∷ items)
        wanted true e takes = ended (is_last piece_states event) refl takes
        wanted false e stays = (
          faults,
          λ others same.
              whole others (λ last wants. absurd (let clash : true ≡ false = sym wants ∙ e in cc))
              (λ n from. same n (subst (λ (s : State). IsFrom s n) stays from)),
        )

    -- memory ran out by it
    pub lost_last : (event : EventFacts) → IsAnswer files given earlier piece_states item event
        → Fits given (record { state = here; owed = [] }) (item ∷ [])
    lost_last event p = (
      λ n. told event,
      λ others same. (
        λ other none q is_it.
            told_right others event other p (λ last. same (length earlier) (omega arith)) q is_it,
        λ run_state hears. tt,
      ),
    )
