-- Parts of a run: what a history gained leads from one state of a run to another. Own.
use Rattle.std.specs.Prelude.{◌≡◌, ℕ, ◌+◌, List, [], ◌∷◌, ◌++◌, length, map, slice_index_or}
use Rattle.std.specs.Prelude.{Option}
use Rattle.std.specs.List.{range_with_len}
use Rattle.bl_stage.specs.Files.{File, missing, size_of}
use Rattle.bl_session.specs.session.BootSteps.{BootFacts, State, on_running}
use Rattle.bl_store.specs.History.{HistoryItem}
use Rattle.bl_session.specs.session.Submissions.{new_submissions}
use Rattle.bl_session.specs.runs.Run.{RunState, Delivers}

-- the sizes of so many files, by their index, as a run asks for them
abbrev pub asked_sizes : List File → ℕ → List (Option ℕ)
asked_sizes files count =
    map (λ file. size_of (slice_index_or files file missing)) (range_with_len 0 count)

-- these items, after this history, lead from one state of a run to another
abbrev pub LeadsOn :
    BootFacts → List File → List HistoryItem → RunState → List HistoryItem → RunState → Type 0
LeadsOn facts files given old [] new = new ≡ old
LeadsOn facts files given old (item ∷ items) new =
    (next : RunState) × Delivers facts files given old.state old.owed item next
    × LeadsOn facts files (given ++ item ∷ []) next items new

-- a history that grew so leads from one state of a run to another
pub record HistoryLeadsOn (facts : BootFacts) (files : List File) (old new : List HistoryItem)
    (start end : RunState) : Type 0 where
  pub gained : List HistoryItem
  pub given : new ≡ old ++ gained
  pub leads : LeadsOn facts files old start gained end

-- a state at which all that is to be asked for was asked for
abbrev pub all_asked : State → RunState
all_asked state = record { state = state; owed = [] }

-- the state to which an event led from an old one
abbrev pub run_state_after : BootFacts → (old new : State) → RunState
run_state_after facts old new = record {
  state = new;
  owed = new_submissions facts old new;
}

-- how many attempts are left, with the one that runs
abbrev pub attempts_left : State → ℕ
attempts_left state = on_running state 0 (λ entry rest earlier files. length rest + 1)
