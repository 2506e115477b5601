-- A history whose wanted pieces are marked is genuine, with the faults that came of it.
use Rattle.std.proofs.Common.{◌≡◌, List, [], ◌∷◌, ◌++◌, None, refl, sym, ap, subst, ◌∙◌, inl, inr}
use Rattle.bl_stage.specs.Files.{File}
use Rattle.bl_session.specs.session.BootSteps.{BootFacts, State, unstarted, running}
use Rattle.bl_store.specs.Events.{EventFacts}
use Rattle.bl_session.specs.session.BootSteps.{handed_over}
use Rattle.bl_session.specs.session.BootSteps.{none_left, out_of_memory, StartsOrFails}
use Rattle.bl_session.specs.session.Schedules.{Faults}
use Rattle.bl_store.specs.History.{HistoryItem}
use Rattle.bl_session.specs.session.Submissions.{attempt_submissions}
use Rattle.bl_session.specs.runs.Run.{IsEventOf, RunState, run_state_of, Delivers, ItemsLeadTo}
use Rattle.bl_session.specs.runs.Run.{IsRun}
use Rattle.bl_session.specs.runs.Run.{IsGenuineRun}
use Rattle.bl_session.specs.runs.Run.{EachAnswerIs, IsMarkedItem, IsMarkedRun, IsGenuineItem}
use Rattle.bl_session.proofs.session_lemmas.BootLaws.{one_start}
use Rattle.bl_session.proofs.run_lemmas.LostLemmas.{lost_step, reads_nothing}
use Rattle.bl_session.proofs.run_lemmas.FaultEventLemmas.{IsFrom, Fits, lost_genuine, taken}
use Rattle.bl_session.proofs.run_lemmas.FaultEventLemmas.{lost_last}

module _ (facts : BootFacts) (files : List File) where
  -- ---- the whole history

  one_item : (items : List HistoryItem) (item : HistoryItem) (given : List HistoryItem)
      (state : State)
      (owed : List HistoryItem) (next : RunState) (end : State)
      → ((event : EventFacts) → owed ≡ [] → IsEventOf files given state item event
      → IsMarkedItem state item event)
      → Delivers facts files given state owed item next
      → ItemsLeadTo facts files (given ++ item ∷ []) next items end
      → Fits facts files (given ++ item ∷ []) next items
      → Fits facts files given (record { state = state; owed = owed }) (item ∷ items)
  one_item items item given state (order ∷ owed) next end marked (is, same) reads (faults, more) = (
    faults,
    λ others agree. (
      λ event none p. absurd (let clash : order ∷ owed ≡ [] = none in cc),
      λ run_state (is_too, same_too).
          subst (λ (w : RunState).
          EachAnswerIs facts files (IsGenuineItem others) (given ++ item ∷ []) w items)
          (same ∙ sym same_too)
          (more others
          (λ n from. agree n (subst (λ (w : RunState). IsFrom facts files w.state n) same from))),
    ),
  )
  one_item items item given unstarted [] next end marked (event, is, goes, left) reads more =
      absurd is
  one_item items item given (running entry rest earlier piece_states) [] next end marked
      (event, is, inl goes, left) reads more =
      taken facts files given entry rest earlier piece_states item (λ other p. marked other refl p)
      event
      next items is
      goes left more
  one_item items item given (running entry rest earlier piece_states) [] next end marked
      (event, is, inr (lost, ends), left) reads more =
      let none =
      reads_nothing facts files (given ++ item ∷ []) next items end
      (lost_step facts (running entry rest earlier piece_states) next lost left) reads in
      subst
      (λ (rest_of : List HistoryItem).
      Fits facts files given (record { state = running entry rest earlier piece_states; owed = [] })
      (item ∷ rest_of)) (sym none)
      (lost_last facts files given entry rest earlier piece_states item
      (λ other p. marked other refl p)
      event is)
  one_item items item given (handed_over entry earlier handover) [] next end marked
      (event, is, goes, left) reads more = absurd is
  one_item items item given (none_left earlier) [] next end marked (event, is, goes, left) reads
      more = absurd is
  one_item items item given out_of_memory [] next end marked (event, is, goes, left) reads more =
      absurd is

  fits : (items given : List HistoryItem) (run_state : RunState) (end : State)
      → EachAnswerIs facts files IsMarkedItem given run_state items
      → ItemsLeadTo facts files given run_state items end
      → Fits facts files given run_state items
  fits [] given run_state end marked reads = (λ n. None, λ others same. tt)
  fits (item ∷ items) given run_state end marked (next, hears, reads) =
      one_item items item given run_state.state run_state.owed next end marked.0 hears reads
      (fits items (given ++ item ∷ []) next end (marked.1 next hears) reads)

  -- ---- a run

  same_rest : (old a b : List HistoryItem) → old ++ a ≡ old ++ b → a ≡ b
  same_rest [] a b e = e
  same_rest (item ∷ old) a b e = same_rest old a b cc

  -- a boot that began so, as it is told, or one that lacks memory from the first
  begun_alike : (old gained : List HistoryItem) (a b : State) (end : State)
      → StartsOrFails facts unstarted a → ItemsLeadTo facts files old (run_state_of facts a) gained end
      → (faults : Faults)
      → EachAnswerIs facts files (IsGenuineItem faults) old (run_state_of facts a) gained
      → StartsOrFails facts unstarted b
      → EachAnswerIs facts files (IsGenuineItem faults) old (run_state_of facts b) gained
  begun_alike old gained a b end (inl p) reads faults genuine (inl q) =
      subst (λ (s : State).
      EachAnswerIs facts files (IsGenuineItem faults) old (run_state_of facts s) gained)
      (one_start facts unstarted a b p q) genuine
  begun_alike old gained a b end p reads faults genuine (inr (lost, is)) =
      lost_genuine facts files faults gained old (run_state_of facts b)
      (lost, ap (attempt_submissions facts) lost)
  begun_alike old gained a b end (inr (lost, is)) reads faults genuine (inl q) =
      let none =
      reads_nothing facts files old (run_state_of facts a) gained end
      (lost, ap (attempt_submissions facts) lost)
      reads in
      subst (λ (items : List HistoryItem).
      EachAnswerIs facts files (IsGenuineItem faults) old (run_state_of facts b) items)
      (sym none) tt

  pub some_faults : (old new : List HistoryItem) (end : State) → IsRun facts files old new end
      → IsMarkedRun facts files old new
      → (faults : Faults) × IsGenuineRun facts files faults old new
  some_faults old new end run marked =
      let found =
      fits run.gained old (run_state_of facts run.begun) end
      (marked run.gained run.begun run.given run.begins) run.reads in (
        found.0,
        λ gained begun given begins.
            let same : run.gained ≡ gained =
            same_rest old run.gained gained (sym run.given ∙ given) in
            subst
            (λ (items : List HistoryItem).
            EachAnswerIs facts files (IsGenuineItem found.0) old (run_state_of facts begun) items)
            same
            (begun_alike old run.gained run.begun begun end run.begins run.reads found.0
            (found.1 found.0 (λ n from. refl)) begins),
      )
