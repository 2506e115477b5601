-- Boots that differ only in sizes which no entry reads have the same runs.
use Rattle.std.proofs.Common.{◌≡◌, ℕ, ◌<◌, ◌≤◌, List, [], ◌∷◌, ◌++◌, map, get_or, Option, None}
use Rattle.std.proofs.Common.{refl, sym, ap, subst, ◌∙◌, arith, zero, suc}
use Rattle.std.specs.List.{range_with_len}
use Rattle.std.proofs.lemmas.List.FromFn.{get_or-map-range_with_len}
use Rattle.bl_map.specs.MachineFacts.{MachineFacts}
use Rattle.bl_stage.specs.Files.{File, missing, size_of}
use Rattle.bl_session.specs.menu.Menu.{EntryFacts, MenuFacts, entry_at, no_entry}
use Rattle.bl_session.specs.menu.NamedFiles.{index_bound, named_file_count}
use Rattle.bl_session.specs.session.BootSteps.{BootFacts, State, unstarted}
use Rattle.bl_store.specs.History.{HistoryItem}
use Rattle.bl_session.specs.runs.Run.{RunState, run_state_of, Delivers, ItemsLeadTo, IsRun}
use Rattle.bl_session.specs.session.Phases.{boot_facts}
use Rattle.bl_session.proofs.attempt_lemmas.EntryEndLemmas.{size_at}
use Rattle.bl_session.proofs.run_lemmas.AlikeLemmas.{AreAlike, orders_alike, orders_after_alike}
use Rattle.bl_session.proofs.run_lemmas.AlikeLemmas.{step_alike}
use Rattle.bl_session.proofs.run_lemmas.AlikeLemmas.{start_alike}

-- ---- a history

hears_alike : (f g : BootFacts) → AreAlike f g
    → (files : List File) (given : List HistoryItem) (state : State) (owed : List HistoryItem)
    (item : HistoryItem)
    (next : RunState) → Delivers f files given state owed item next
    → Delivers g files given state owed item next
hears_alike f g alike files given state (order ∷ owed) item next hears = hears
hears_alike f g alike files given state [] item next (event, is, steps, left) = (
  event,
  is,
  step_alike f g alike state event next.state steps,
  left ∙ orders_after_alike f g alike state next.state,
)

reads_alike : (f g : BootFacts) → AreAlike f g
    → (files : List File) (items given : List HistoryItem) (old : RunState) (new : State)
    → ItemsLeadTo f files given old items new → ItemsLeadTo g files given old items new
reads_alike f g alike files [] given old new reads = reads
reads_alike f g alike files (item ∷ items) given old new (next, hears, reads) = (
  next,
  hears_alike f g alike files given old.state old.owed item next hears,
  reads_alike f g alike files items (given ++ item ∷ []) next new reads,
)

-- a run of one is a run of the other
pub run_alike : (f g : BootFacts) → AreAlike f g
    → (files : List File) (old new : List HistoryItem) (end : State) → IsRun f files old new end
    → IsRun g files old new end
run_alike f g alike files old new end run =
    let run_state : run_state_of f run.begun ≡ run_state_of g run.begun =
    ap (λ (owed : List HistoryItem). record { state = run.begun; owed = owed })
    (orders_alike f g alike run.begun) in
    record {
      gained = run.gained;
      given = run.given;
      begun = run.begun;
      begins = start_alike f g alike unstarted run.begun run.begins;
      reads =
          subst (λ (w : RunState). ItemsLeadTo g files old w run.gained end) run_state
          (reads_alike f g alike files run.gained old (run_state_of f run.begun) end run.reads);
    }

-- ---- the sizes of the files that a menu names, and those of all files

count_first : (index : ℕ) (indices : List ℕ) → index < index_bound (index ∷ indices)
count_first index indices = omega arith

-- sizes that are these files' below a count are so for indices below it
sizes_below : (files : List File) (sizes : List (Option ℕ)) (count : ℕ)
    → ((i : ℕ) → i < count → get_or sizes i None ≡ size_of (get_or files i missing))
    → (indices : List ℕ) → index_bound indices ≤ count
    → map (λ file. get_or sizes file None) indices
    ≡ map (λ file. get_or (map size_of files) file None) indices
sizes_below files sizes count asked [] h = refl
sizes_below files sizes count asked (index ∷ indices) h =
    let first : get_or sizes index None ≡ get_or (map size_of files) index None =
    asked index (omega (arith, h)) ∙ sym (size_at files index) in
    rw (first, sizes_below files sizes count asked indices (omega (arith, h))) refl

-- no entry names a file beyond the count
named_at : (entries : List EntryFacts) (entry : ℕ)
    → index_bound (get_or entries entry no_entry).files ≤ named_file_count entries
named_at [] entry = omega arith
named_at (e ∷ entries) zero = omega arith
named_at (e ∷ entries) (suc entry) = let behind = named_at entries entry in omega arith

pub alike_asked : (machine : MachineFacts) (menu : MenuFacts) (files : List File)
    (sizes : List (Option ℕ))
    → ((i : ℕ) → i < named_file_count menu.entries
    → get_or sizes i None ≡ size_of (get_or files i missing))
    → AreAlike (boot_facts machine menu sizes) (boot_facts machine menu (map size_of files))
alike_asked machine menu files sizes asked = record {
  machine = refl;
  menu = refl;
  sizes =
      λ entry.
      sizes_below files sizes (named_file_count menu.entries) asked (entry_at menu entry).files
      (named_at menu.entries entry);
}

-- the same where each file that is named was asked once, from the first on
pub alike_listed : (machine : MachineFacts) (menu : MenuFacts) (files : List File)
    (sizes : List (Option ℕ))
    → sizes
    ≡ map (λ file. size_of (get_or files file missing))
    (range_with_len 0 (named_file_count menu.entries))
    → AreAlike (boot_facts machine menu sizes) (boot_facts machine menu (map size_of files))
alike_listed machine menu files sizes is =
    alike_asked machine menu files sizes (λ i h. ap (λ (s : List (Option ℕ)). get_or s i None) is
    ∙ get_or-map-range_with_len (λ file. size_of (get_or files file missing)) 0
    (named_file_count menu.entries) i i None h (omega arith))
