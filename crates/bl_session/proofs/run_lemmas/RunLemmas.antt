-- A run, from its parts.
use Rattle.std.proofs.Common.{◌≡◌, ◌≢◌, ◌⊎◌, ℕ, true, List, [], ◌++◌, map, slice_index_or, Option}
use Rattle.std.proofs.Common.{refl, sym, ap, subst, ◌∙◌, inl, inr}
use Rattle.std.proofs.lemmas.List.{append-nil}
use Rattle.std.specs.List.{range_with_len}
use Rattle.std.specs.declared.ops.Range.{Range}
use Rattle.bl_map.specs.MachineFacts.{MachineFacts}
use Rattle.bl_mem.specs.Memory.{HasRoom, KeepsRoom}
use Rattle.bl_stage.specs.Files.{File, missing, size_of}
use Rattle.bl_session.specs.session.BootSteps.{BootFacts, State, unstarted, out_of_memory}
use Rattle.bl_session.specs.session.BootSteps.{is_running, StartsOrFails}
use Rattle.bl_session.specs.menu.NamedFiles.{named_file_count}
use Rattle.bl_session.specs.menu.Menu.{MenuFacts}
use Rattle.bl_store.specs.History.{HistoryItem}
use Rattle.bl_session.specs.session.BootMemory.{IsMemoryAt}
use Rattle.bl_session.specs.session.Submissions.{attempt_submissions}
use Rattle.bl_session.specs.session.Phases.{PhaseFacts, not_started, state_at, is_waiting}
use Rattle.bl_session.specs.session.Phases.{boot_facts}
use Rattle.bl_session.specs.runs.Run.{RunState, run_state_of, IsRun}
use Rattle.bl_session.specs.internal.session.Submitted.{AreAskedButRest}
use Rattle.bl_session.specs.internal.runs.RunParts.{HistoryLeadsOn, all_asked}
use Rattle.bl_session.specs.internal.runs.AnswerSteps.{StopsInAttempt}
use Rattle.bl_session.proofs.run_lemmas.AlikeRuns.{run_alike, alike_listed}
use Rattle.bl_session.proofs.session_lemmas.KeptMemoryLemmas.{memory_on}
use Rattle.bl_session.proofs.run_lemmas.WentLemmas.{new_begins}
use Rattle.bl_session.proofs.run_lemmas.TurnLemmas.{heard_on, heard_asked, heard_orders, reads_to}
use Rattle.bl_session.proofs.run_lemmas.AnswerLemmas.{waiting_memory}

-- ---- one attempt more

pub heard_attempt : (facts now : BootFacts) (files those those_next : List File)
    (first mid asked last : List HistoryItem) (start : RunState) (old new : State) → now ≡ facts
    → those ≡ files → those_next ≡ files
    → HistoryLeadsOn facts files first mid start (run_state_of facts old) → asked ≡ mid
    ++ attempt_submissions now old
    → HistoryLeadsOn now those_next asked last (all_asked old) (run_state_of now new)
    → HistoryLeadsOn facts files first last start (run_state_of facts new)
heard_attempt facts now files those those_next first mid asked last start old new e f f_next so_far
    given more =
    let mine : HistoryLeadsOn facts files asked last (all_asked old) (run_state_of facts new) =
    subst (λ (b : BootFacts). HistoryLeadsOn b files asked last (all_asked old) (run_state_of b new)) e
    (subst (λ (fs : List File). HistoryLeadsOn now fs asked last (all_asked old) (run_state_of now new)) f_next
    more) in
    let orders_given : asked ≡ mid ++ attempt_submissions facts old =
    given ∙ ap (λ (b : BootFacts). mid ++ attempt_submissions b old) e in
    heard_on facts files first asked last start (all_asked old) (run_state_of facts new)
    (heard_on facts files first mid asked start (run_state_of facts old) (all_asked old) so_far
    (heard_orders facts files mid asked old orders_given)) mine

-- memory ran out while the attempt asked
pub lacks_orders : (facts now : BootFacts) (files : List File) (first mid asked : List HistoryItem)
    (start : RunState) (old : State) → now ≡ facts
    → HistoryLeadsOn facts files first mid start (run_state_of facts old)
    → (rest : List HistoryItem) × AreAskedButRest (attempt_submissions now old) rest mid asked
    → is_running old ≡ true
    → StopsInAttempt facts files first asked start
lacks_orders facts now files first mid asked start old e so_far part runs =
    let mine =
    subst (λ (b : BootFacts). AreAskedButRest (attempt_submissions b old) part.0 mid asked) e part.1 in
    let end : RunState = record { state = old; owed = part.0 } in
    record {
      stopped = end;
      heard =
          heard_on facts files first mid asked start (run_state_of facts old) end so_far
          (heard_asked facts files mid asked old (attempt_submissions facts old) part.0 mine);
      running = runs;
    }

-- memory ran out while it took answers
pub lacks_answers : (facts now : BootFacts) (files those : List File)
    (first mid asked last : List HistoryItem) (start : RunState) (old : State) → now ≡ facts → those
    ≡ files
    → HistoryLeadsOn facts files first mid start (run_state_of facts old) → asked ≡ mid
    ++ attempt_submissions now old
    → StopsInAttempt now those asked last (all_asked old)
    → StopsInAttempt facts files first last start
lacks_answers facts now files those first mid asked last start old e f so_far given more =
    let stopped = more.stopped in
    let mine : HistoryLeadsOn facts files asked last (all_asked old) stopped =
    subst (λ (b : BootFacts). HistoryLeadsOn b files asked last (all_asked old) stopped) e
    (subst (λ (fs : List File). HistoryLeadsOn now fs asked last (all_asked old) stopped) f
    more.heard) in
    let orders_given : asked ≡ mid ++ attempt_submissions facts old =
    given ∙ ap (λ (b : BootFacts). mid ++ attempt_submissions b old) e in
    record {
      stopped = stopped;
      heard =
          heard_on facts files first asked last start (all_asked old) stopped
          (heard_on facts files first mid asked start (run_state_of facts old) (all_asked old) so_far
          (heard_orders facts files mid asked old orders_given)) mine;
      running = more.running;
    }

-- ---- the whole

pub is_run : (facts now : BootFacts) (files those : List File) (old new : List HistoryItem)
    (begun end : State) (run_state : RunState) → now ≡ facts → those ≡ files
    → StartsOrFails facts unstarted begun
    → HistoryLeadsOn now those old new (run_state_of now begun) run_state
    → (end ≡ run_state.state) ⊎ ((end ≡ out_of_memory) × (is_running run_state.state ≡ true))
    → IsRun facts files old new end
is_run facts now files those old new begun end run_state e f starts heard is =
    let mine : HistoryLeadsOn facts files old new (run_state_of facts begun) run_state =
    subst (λ (b : BootFacts). HistoryLeadsOn b files old new (run_state_of b begun) run_state) e
    (subst (λ (fs : List File). HistoryLeadsOn now fs old new (run_state_of now begun) run_state) f
    heard) in
    record {
      gained = mine.gained;
      given = mine.given;
      begun = begun;
      begins = starts;
      reads = reads_to facts files old (run_state_of facts begun) run_state mine.gained end
          mine.leads is;
    }

-- the sizes of all files, one by one
pub run_started : (machine : MachineFacts) (menu : MenuFacts) (files : List File)
    (sizes : List (Option ℕ)) (boot now : BootFacts) (unbegun_phase begun : PhaseFacts)
    (before after : List ℕ) (old new : List HistoryItem) (run_state : RunState) (end : State)
    → sizes
    ≡ map (λ file. size_of (slice_index_or files file missing))
    (range_with_len 0 (named_file_count menu.entries))
    → boot ≡ boot_facts machine menu sizes → unbegun_phase ≡ not_started → now ≡ boot
    → StartsOrFails boot (state_at before unbegun_phase) (state_at after begun)
    → HistoryLeadsOn now files old new (run_state_of now (state_at after begun)) run_state
    → (end ≡ run_state.state) ⊎ ((end ≡ out_of_memory) × (is_running run_state.state ≡ true))
    → IsRun (boot_facts machine menu (map size_of files)) files old new end
run_started machine menu files sizes boot now unbegun_phase begun before after old new run_state end
    asked e first same starts heard is =
    let own = boot_facts machine menu sizes in
    let own_starts : StartsOrFails own unstarted (state_at after begun) =
    subst (λ (b : BootFacts). StartsOrFails b unstarted (state_at after begun)) e
    (subst (λ (p : PhaseFacts). StartsOrFails boot (state_at before p) (state_at after begun))
    first starts) in
    run_alike own (boot_facts machine menu (map size_of files))
    (alike_listed machine menu files sizes asked) files old new end
    (is_run own now files files old new (state_at after begun) end run_state (same ∙ e) refl
    own_starts
    heard is)

-- memory ran out before the start
pub unbegun : (facts : BootFacts) (files : List File) (old new : List HistoryItem) → new ≡ old
    → IsRun facts files old new out_of_memory
unbegun facts files old new e = record {
  gained = [];
  given = e ∙ sym (append-nil old);
  begun = out_of_memory;
  begins = inr (refl, refl);
  reads = inl refl;
}

-- the start leads on
not_unstarted : (facts : BootFacts) → StartsOrFails facts unstarted unstarted → ⊥
not_unstarted facts (inl begins) = new_begins facts facts.menu.attempts [] unstarted begins
not_unstarted facts (inr fails) = let no : unstarted ≡ out_of_memory = fails.0 in absurd cc

pub has_started : (facts : BootFacts) (old new : PhaseFacts) (before after : List ℕ)
    → old ≡ not_started → StartsOrFails facts (state_at before old) (state_at after new)
    → new ≢ not_started
has_started facts old new before after e starts = λ f.
    not_unstarted facts
    (subst (λ (p : PhaseFacts). StartsOrFails facts unstarted (state_at after p)) f
    (subst
    (λ (p : PhaseFacts). StartsOrFails facts (state_at before p) (state_at after new)) e
    starts))

-- ---- memory and its room

pub room_on : (start end : ℕ) (old new : ℕ → Type 0) → HasRoom old start end → KeepsRoom old new
    → HasRoom new start end
room_on start end old new had kept = λ a low high. kept a (had a low high)

-- after an attempt that waited
pub memory_later : (pool : Range ℕ) (old new : PhaseFacts) (first before after : List ℕ)
    → is_waiting old ≡ true → IsMemoryAt pool (state_at before old) first before
    → IsMemoryAt pool (state_at after new) before after
    → IsMemoryAt pool (state_at after new) first after
memory_later pool old new first before after w so_far more =
    memory_on pool (state_at after new) first before after
    (waiting_memory pool old before first before w so_far) more
