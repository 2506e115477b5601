-- A faithful store's answers are genuine, and no fault comes of them.
use Rattle.std.proofs.Common.{◌≡◌, List, [], ◌∷◌, ◌++◌, map, None, refl, sym, ap, subst, ◌∙◌, inl}
use Rattle.std.proofs.Common.{inr, length, append_assoc}
use Rattle.std.proofs.lemmas.List.{append-nil}
use Rattle.bl_stage.specs.Files.{File, size_of}
use Rattle.bl_session.specs.session.BootSteps.{BootFacts, State, unstarted, running}
use Rattle.bl_store.specs.Events.{EventFacts}
use Rattle.bl_session.specs.session.BootSteps.{handed_over}
use Rattle.bl_session.specs.session.BootSteps.{none_left, out_of_memory, StepsToOrFails}
use Rattle.bl_session.specs.session.BootSteps.{StartsOrFails}
use Rattle.bl_store.specs.History.{HistoryItem}
use Rattle.bl_session.specs.session.Submissions.{attempt_submissions, new_submissions}
use Rattle.bl_session.specs.runs.Run.{RunState, IsEventOf, IsGenuineItem, IsGenuineRun}
use Rattle.bl_session.specs.runs.Run.{EachAnswerIs}
use Rattle.bl_store.specs.Faithful.{IsFaithfulItem, IsFaithfulAfter, IsFaithful}
use Rattle.bl_session.proofs.run_lemmas.SteadyLemmas.{Steady, steady_new}
use Rattle.bl_session.proofs.run_lemmas.WentLemmas.{new_begins}
use Rattle.bl_session.proofs.run_lemmas.AwaitedAnswers.{tell_true}
use Rattle.bl_session.proofs.run_lemmas.HeardLemmas.{hear_any}

module _ (facts : BootFacts) (files : List File) (known : facts.sizes ≡ map size_of files) where
  genuine_one : (state : State) (given : List HistoryItem) (item : HistoryItem) (event : EventFacts)
      → Steady facts given state → IsFaithfulItem files given item
      → IsEventOf files given state item event → IsGenuineItem (λ attempt. None) state item event
  genuine_one (running entry rest earlier piece_states) given item event steady faithful is =
      tell_true facts files known entry rest earlier piece_states given steady item event faithful
      is
  genuine_one unstarted given item event steady faithful is = tt
  genuine_one (handed_over entry earlier handover) given item event steady faithful is = tt
  genuine_one (none_left earlier) given item event steady faithful is = tt
  genuine_one out_of_memory given item event steady faithful is = tt

  steady_one : (state : State) (given : List HistoryItem) (item : HistoryItem) (event : EventFacts)
      (new : State)
      → Steady facts given state → IsFaithfulItem files given item
      → IsEventOf files given state item event → StepsToOrFails facts state event new
      → Steady facts ((given ++ item ∷ []) ++ new_submissions facts state new) new
  steady_one (running entry rest earlier piece_states) given item event new steady faithful is
      goes =
      hear_any facts files known entry rest earlier piece_states given steady item event new
      faithful is
      goes
  steady_one unstarted given item event new steady faithful is goes = absurd is
  steady_one (handed_over entry earlier handover) given item event new steady faithful is goes =
      absurd is
  steady_one (none_left earlier) given item event new steady faithful is goes = absurd is
  steady_one out_of_memory given item event new steady faithful is goes = absurd is

  genuine_all : (items given : List HistoryItem) (state : State) (owed : List HistoryItem)
      → Steady facts (given ++ owed) state → IsFaithfulAfter files given items
      → EachAnswerIs facts files (IsGenuineItem (λ attempt. None)) given
      (record { state = state; owed = owed }) items
  genuine_all [] given state owed steady faithful = tt
  genuine_all (item ∷ items) given state (order ∷ owed) steady (one, more) = (
    (λ event none is. absurd (cc)),
    λ next (same, at).
        let all : (given ++ item ∷ []) ++ owed ≡ given ++ order ∷ owed =
        append_assoc given (item ∷ []) owed ∙ ap (λ (x : HistoryItem). given ++ x ∷ owed) same in
        let holds : Steady facts ((given ++ item ∷ []) ++ owed) state = rw all steady in
        subst (λ (w : RunState).
        EachAnswerIs facts files (IsGenuineItem (λ attempt. None)) (given ++ item ∷ []) w items)
        (sym at) (genuine_all items (given ++ item ∷ []) state owed holds more),
  )
  genuine_all (item ∷ items) given state [] steady (one, more) =
      let here : Steady facts given state = rw append-nil at steady in (
        (λ event none is. genuine_one state given item event here one is),
        λ next (event, is, goes, owed_is).
            let holds : Steady facts ((given ++ item ∷ []) ++ next.owed) next.state =
            rw owed_is (steady_one state given item event next.state here one is goes) in
            genuine_all items (given ++ item ∷ []) next.state next.owed holds more,
      )

  begin_any : (begun_as : State) → StartsOrFails facts unstarted begun_as
      → Steady facts ([] ++ attempt_submissions facts begun_as) begun_as
  begin_any state (inl goes) =
      steady_new facts [] (length facts.menu.attempts) 0 state
      (new_begins facts facts.menu.attempts [] state goes)
      (λ t l. (refl, refl, λ found. refl))
  begin_any state (inr (lacks, first)) =
      subst (λ (s : State). Steady facts ([] ++ attempt_submissions facts s) s) (sym lacks) tt

  pub faithful_is_genuine : (new : List HistoryItem) → IsFaithful files new
      → IsGenuineRun facts files (λ attempt. None) [] new
  faithful_is_genuine new faithful = λ gained state same starts.
      let read : IsFaithfulAfter files [] gained =
      subst (λ (items : List HistoryItem). IsFaithfulAfter files [] items) same faithful in
      genuine_all gained [] state (attempt_submissions facts state) (begin_any state starts) read
