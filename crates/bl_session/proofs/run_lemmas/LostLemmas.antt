-- After want of memory a boot asks for nothing and hears nothing.
use Rattle.std.proofs.Common.{◌≡◌, ◌==◌, Bool, true, false, if◌then◌else◌, List, [], ◌∷◌, refl, ap}
use Rattle.std.proofs.Common.{subst, ◌∙◌}
use Rattle.bl_stage.specs.Files.{File}
use Rattle.bl_session.specs.session.BootSteps.{BootFacts, State, out_of_memory, attempt_number}
use Rattle.bl_store.specs.History.{HistoryItem}
use Rattle.bl_session.specs.session.Submissions.{attempt_submissions, new_submissions}
use Rattle.bl_session.specs.runs.Run.{RunState, Delivers, ItemsLeadTo}

-- memory ran out, and nothing is to be asked for
abbrev pub LacksMemory : RunState → Type 0
LacksMemory run_state = (run_state.state ≡ out_of_memory) × (run_state.owed ≡ [])

owes_nothing : (facts : BootFacts) (old : State) → new_submissions facts old out_of_memory ≡ []
owes_nothing facts old = either (attempt_number out_of_memory == attempt_number old)
  where
    either : (b : Bool) → (if b then [] else attempt_submissions facts out_of_memory) ≡ []
    either true = refl
    either false = refl

-- it ran out by a step
pub lost_step : (facts : BootFacts) (old : State) (run_state : RunState) → run_state.state
    ≡ out_of_memory
    → run_state.owed ≡ new_submissions facts old run_state.state → LacksMemory run_state
lost_step facts old run_state lost owed =
    (lost, owed ∙ ap (new_submissions facts old) lost ∙ owes_nothing facts old)

pub hears_nothing : (facts : BootFacts) (files : List File) (given : List HistoryItem)
    (run_state : RunState)
    (item : HistoryItem) (next : RunState) → LacksMemory run_state
    → Delivers facts files given run_state.state run_state.owed item next → ⊥
hears_nothing facts files given run_state item next (lost, none) hears =
    let at : Delivers facts files given out_of_memory [] item next =
    subst (λ (owed : List HistoryItem). Delivers facts files given out_of_memory owed item next)
    none
    (subst (λ (s : State). Delivers facts files given s run_state.owed item next) lost hears) in
    absurd at.1

pub reads_nothing : (facts : BootFacts) (files : List File) (given : List HistoryItem)
    (run_state : RunState)
    (items : List HistoryItem) (end : State) → LacksMemory run_state
    → ItemsLeadTo facts files given run_state items end
    → items ≡ []
reads_nothing facts files given run_state [] end lost reads = refl
reads_nothing facts files given run_state (item ∷ items) end lost (next, hears, reads) =
    absurd (hears_nothing facts files given run_state item next lost hears)
