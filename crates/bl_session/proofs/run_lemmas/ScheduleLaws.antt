-- The history of a boot is a schedule, and a genuine one if the history is genuine.
use Rattle.std.proofs.Common.{◌≡◌, ℕ, List, [], ◌∷◌, ◌++◌, length, map, Option, refl, sym, ap}
use Rattle.std.proofs.Common.{subst, ◌∙◌, ◌⊎◌, inl, inr, append_assoc}
use Rattle.std.proofs.lemmas.List.{append-nil}
use Rattle.bl_stage.specs.Files.{File, size_of}
use Rattle.bl_session.specs.session.BootSteps.{BootFacts, State, unstarted, running}
use Rattle.bl_store.specs.Events.{EventFacts}
use Rattle.bl_session.specs.session.BootSteps.{handed_over}
use Rattle.bl_session.specs.session.BootSteps.{none_left, out_of_memory, Begins, StepsTo}
use Rattle.bl_session.specs.session.BootSteps.{StartsOrFails}
use Rattle.bl_session.specs.session.BootSteps.{LeadsTo}
use Rattle.bl_session.specs.session.Schedules.{IsGenuineAt, IsGenuine}
use Rattle.bl_session.specs.session.Outcome.{IsOutcome, HasEnded}
use Rattle.bl_store.specs.History.{HistoryItem}
use Rattle.bl_session.specs.session.Submissions.{attempt_submissions}
use Rattle.bl_session.specs.runs.Run.{IsEventOf, RunState, run_state_of, Delivers, ItemsLeadTo}
use Rattle.bl_session.specs.runs.Run.{IsRun}
use Rattle.bl_session.specs.runs.Run.{IsGenuineItem}
use Rattle.bl_session.specs.runs.Run.{IsGenuineRun, EachAnswerIs}
use Rattle.bl_session.proofs.session_lemmas.BootLaws.{one_step}
use Rattle.bl_session.proofs.session_lemmas.FirstEndLaws.{first_ended}
use Rattle.bl_session.proofs.session_lemmas.OutcomeLaws.{one_outcome}
use Rattle.bl_session.proofs.run_lemmas.WentLemmas.{new_begins}
use Rattle.bl_session.proofs.run_lemmas.LostLemmas.{LacksMemory, lost_step, hears_nothing}
use Rattle.bl_session.proofs.run_lemmas.AskedLemmas.{AreAsked, asked_new, asked_same, asked_step}
use Rattle.bl_session.proofs.run_lemmas.GenuineLemmas.{genuine_event, same_under}

module _ (facts : BootFacts) (files : List File) (faults : ℕ → Option ℕ) where
  -- ---- one item

  -- an item is asked for, and the state stays; or it is an event of the schedule
  abbrev Heard : List HistoryItem → State → RunState → Type 0
  Heard given state next =
      AreAsked facts (given ++ next.owed) next.state
      × ((next.state ≡ state)
      ⊎ ((event : EventFacts) × IsGenuineAt facts files faults state event
      × StepsTo facts state event next.state))

  heard : (given : List HistoryItem) (state : State) (owed : List HistoryItem) (item : HistoryItem)
      (next : RunState)
      → AreAsked facts (given ++ owed) state
      → ((event : EventFacts) → owed ≡ [] → IsEventOf files given state item event
      → IsGenuineItem faults state item event) → Delivers facts files given state owed item next
      → Heard (given ++ item ∷ []) state next ⊎ LacksMemory next
  heard given state (order ∷ owed) item next asked genuine (is, same) =
      let stays : next.state ≡ state = ap (λ (w : RunState). w.state) same in
      let left : next.owed ≡ owed = ap (λ (w : RunState). w.owed) same in
      let list : given ++ order ∷ owed ≡ (given ++ item ∷ []) ++ next.owed =
      rw (is, left) (sym (append_assoc given (order ∷ []) owed)) in
      inl (
        subst (λ (xs : List HistoryItem). AreAsked facts xs next.state) list
            (subst (AreAsked facts (given ++ order ∷ owed)) (sym stays) asked),
        inl stays,
      )
  heard given unstarted [] item next asked genuine (event, is, goes, left) = absurd is
  heard given (running entry rest earlier piece_states) [] item next asked genuine
      (event, is, inl goes, left) =
      let now : AreAsked facts given (running entry rest earlier piece_states) =
      subst (λ (xs : List HistoryItem). AreAsked facts xs (running entry rest earlier piece_states))
      (append-nil given) asked in
      let more =
      asked_same facts given (given ++ item ∷ []) (running entry rest earlier piece_states)
      (same_under facts files faults given entry rest earlier piece_states item event is) now in
      let behind =
      asked_step facts (given ++ item ∷ []) entry rest earlier piece_states event next.state more
      goes in
      inl (
        subst (λ (xs : List HistoryItem). AreAsked facts ((given ++ item ∷ []) ++ xs) next.state)
            (sym left) behind,
        inr (
          event,
          genuine_event facts files faults given entry rest earlier piece_states item event now is
              (genuine event refl is),
          goes,
        ),
      )
  heard given (running entry rest earlier piece_states) [] item next asked genuine
      (event, is, inr (lost, ends), left) =
      inr (lost_step facts (running entry rest earlier piece_states) next lost left)
  heard given (handed_over entry earlier handover) [] item next asked genuine
      (event, is, goes, left) = absurd is
  heard given (none_left earlier) [] item next asked genuine (event, is, goes, left) = absurd is
  heard given out_of_memory [] item next asked genuine (event, is, goes, left) = absurd is

  -- ---- the whole history

  ended_not : (end : State) → end ≡ out_of_memory → HasEnded end → ⊥
  ended_not end is ended = subst HasEnded is ended

  -- a boot does not end after want of memory
  lost_not : (given : List HistoryItem) (run_state : RunState) (items : List HistoryItem)
      (end : State)
      → LacksMemory run_state → ItemsLeadTo facts files given run_state items end → HasEnded end → ⊥
  lost_not given run_state [] end (is, none) (inl same) ended = ended_not end (same ∙ is) ended
  lost_not given run_state [] end (is, none) (inr (lost, runs)) ended = ended_not end lost ended
  lost_not given run_state (item ∷ items) end lost (next, hears, reads) ended =
      hears_nothing facts files given run_state item next lost hears

  -- a genuine schedule leads from a state to another
  abbrev pub IsScheduled : State → State → Type 0
  IsScheduled old new =
      (events : List EventFacts) × IsGenuine facts files faults old events
      × LeadsTo facts old events new

  -- by one event more
  one_more : (old next end : State) (event : EventFacts) → IsGenuineAt facts files faults old event
      → StepsTo facts old event next → IsScheduled next end → IsScheduled old end
  one_more old next end event genuine goes (events, rest, leads) = (
    event ∷ events,
    (
      genuine,
      λ other step.
          subst (λ (s : State). IsGenuine facts files faults s events)
          (one_step facts old event next other goes step) rest,
    ),
    (next, goes, leads),
  )

  schedule : (items given : List HistoryItem) (run_state : RunState) (end : State)
      → AreAsked facts (given ++ run_state.owed) run_state.state
      → EachAnswerIs facts files (IsGenuineItem faults) given run_state items
      → ItemsLeadTo facts files given run_state items end
      → HasEnded end
      → IsScheduled run_state.state end
  schedule [] given run_state end asked genuine (inl same) ended = ([], tt, same)
  schedule [] given run_state end asked genuine (inr (lost, runs)) ended =
      absurd (ended_not end lost ended)
  schedule (item ∷ items) given run_state end asked genuine (next, hears, reads) ended =
      elim (heard given run_state.state run_state.owed item next asked genuine.0 hears) [
        | inl (now, inl stays) ↦
            subst (λ (s : State). IsScheduled s end) stays
            (schedule items (given ++ item ∷ []) next end now (genuine.1 next hears) reads
            ended)
        | inl (now, inr (event, holds, goes)) ↦
            one_more run_state.state next.state end event holds goes
            (schedule items (given ++ item ∷ []) next end now (genuine.1 next hears) reads
            ended)
        | inr lost ↦ absurd (lost_not (given ++ item ∷ []) next items end lost reads ended)
      ]

  -- the history of a boot that ended
  pub run_schedule : (old new : List HistoryItem) (end : State) → IsRun facts files old new end
      → IsGenuineRun facts files faults old new → HasEnded end
      → (begun : State) × Begins facts facts.menu.attempts [] begun × IsScheduled begun end
  run_schedule old new end run genuine ended = go run.begins
    where
      go : StartsOrFails facts unstarted run.begun
          → (begun : State) × Begins facts facts.menu.attempts [] begun × IsScheduled begun end
      go (inl begins) = (
        run.begun,
        begins,
        schedule run.gained old (run_state_of facts run.begun) end
            (asked_new facts old (length facts.menu.attempts) 0 run.begun
            (new_begins facts facts.menu.attempts [] run.begun begins))
            (genuine run.gained run.begun run.given run.begins) run.reads ended,
      )
      go (inr (lost, is)) =
          absurd
          (lost_not old (run_state_of facts run.begun) run.gained end
          (lost, ap (attempt_submissions facts) lost)
          run.reads ended)

  pub run_ended : facts.sizes ≡ map size_of files → (old new : List HistoryItem) (end : State)
      → IsRun facts files old new end → IsGenuineRun facts files faults old new → HasEnded end
      → IsOutcome facts files faults end
  run_ended known old new end run genuine ended =
      let (begun, begins, scheduled) = run_schedule old new end run genuine ended in
      first_ended facts files faults known scheduled.0 begun end begins scheduled.1 scheduled.2
      ended

  -- two histories with the same faults end alike
  pub runs_alike : facts.sizes ≡ map size_of files
      → (old new before after : List HistoryItem) (a b : State) → IsRun facts files old new a
      → IsGenuineRun facts files faults old new → HasEnded a
      → IsRun facts files before after b → IsGenuineRun facts files faults before after → HasEnded b
      → a ≡ b
  runs_alike known old new before after a b mine genuine ended other true_too done =
      one_outcome facts files faults a b (run_ended known old new a mine genuine ended)
      (run_ended known before after b other true_too done)
