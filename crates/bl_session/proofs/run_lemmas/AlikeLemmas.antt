-- Boots that differ only in sizes which no entry reads go on alike.
use Rattle.std.proofs.Common.{◌≡◌, ℕ, ◌==◌, Bool, true, false, MatchBool, if◌then◌else◌, List, []}
use Rattle.std.proofs.Common.{◌∷◌, ◌++◌, map, length, Option, None, Some, refl, ap, subst, ◌∙◌, inl}
use Rattle.std.proofs.Common.{inr}
use Rattle.bl_map.specs.MachineFacts.{MachineFacts}
use Rattle.bl_load.specs.declared.refusal.Refusal.{Refusal}
use Rattle.bl_load.specs.declared.refusal.Refusal.TheVariants.{FileFault}
use Rattle.bl_load.specs.declared.refused_entry.RefusedEntry.{RefusedEntry}
use Rattle.bl_stage.specs.PieceStates.{PieceState, came_bytes}
use Rattle.bl_session.specs.attempt.AttemptResult.{AttemptResult, handed, refused}
use Rattle.bl_session.specs.attempt.AttemptResult.{HasWholeFilesResult}
use Rattle.bl_session.specs.attempt.AttemptResult.{size_refusal}
use Rattle.bl_session.specs.attempt.AttemptResult.{known_lengths}
use Rattle.bl_session.specs.menu.Menu.{MenuFacts, entry_at, value_with}
use Rattle.bl_session.specs.attempt.AwaitedPieces.{are_whole, waiting_files, with_piece}
use Rattle.bl_session.specs.session.BootSteps.{BootFacts, State}
use Rattle.bl_store.specs.Events.{EventFacts, piece, fault}
use Rattle.bl_session.specs.session.BootSteps.{unstarted}
use Rattle.bl_session.specs.session.BootSteps.{running}
use Rattle.bl_session.specs.session.BootSteps.{handed_over, none_left, out_of_memory, sizes_of}
use Rattle.bl_session.specs.session.BootSteps.{fresh}
use Rattle.bl_session.specs.session.BootSteps.{TextsHaveResult, RestOfBoot, AfterAttempt, Continues}
use Rattle.bl_session.specs.session.BootSteps.{BeginsUnless, Begins, is_wanted, TakesEvent, StepsTo}
use Rattle.bl_session.specs.session.BootSteps.{StepsToOrFails}
use Rattle.bl_session.specs.session.BootSteps.{Starts, StartsOrFails, attempt_number}
use Rattle.bl_store.specs.History.{HistoryItem}
use Rattle.bl_session.specs.session.Submissions.{submissions_for_files, attempt_submissions}
use Rattle.bl_session.specs.session.Submissions.{new_submissions}

-- equal machines and menus, and equal sizes wherever an entry looks
pub record AreAlike (f g : BootFacts) : Type 0 where
  pub machine : f.machine ≡ g.machine
  pub menu : f.menu ≡ g.menu
  pub sizes : (entry : ℕ) → sizes_of f entry ≡ sizes_of g entry

-- ---- what is asked for

pub orders_alike : (f g : BootFacts) → AreAlike f g → (state : State)
    → attempt_submissions f state ≡ attempt_submissions g state
orders_alike f g alike unstarted = refl
orders_alike f g alike (running entry rest earlier files) =
    ap (λ (m : MenuFacts). submissions_for_files (length earlier) 0 (entry_at m entry).files files)
    alike.menu
orders_alike f g alike (handed_over entry earlier handover) = refl
orders_alike f g alike (none_left earlier) = refl
orders_alike f g alike out_of_memory = refl

pub orders_after_alike : (f g : BootFacts) → AreAlike f g → (old new : State)
    → new_submissions f old new ≡ new_submissions g old new
orders_after_alike f g alike old new =
    ap (λ (items : List HistoryItem). if attempt_number new == attempt_number old then [] else
    items)
    (orders_alike f g alike new)

-- ---- one attempt after the other

ends_alike : (f g : BootFacts) → AreAlike f g → (entry : ℕ) (texts : List (List ℕ))
    (end : AttemptResult) → TextsHaveResult f entry texts end → TextsHaveResult g entry texts end
ends_alike f g alike entry texts end ends =
    subst (λ (m : MachineFacts). HasWholeFilesResult m (value_with (entry_at g.menu entry) texts) end)
    alike.machine
    (subst (λ (m : MenuFacts). HasWholeFilesResult f.machine (value_with (entry_at m entry) texts) end)
    alike.menu ends)

goes_alike : (next more : RestOfBoot) → ((r : List RefusedEntry) (s : State) → next r s → more r s)
    → (entry : ℕ) (earlier : List RefusedEntry) (end : AttemptResult) (new : State)
    → AfterAttempt next entry earlier end new → AfterAttempt more entry earlier end new
goes_alike next more leads entry earlier (handed handover) new goes = goes
goes_alike next more leads entry earlier (refused refusal) new goes =
    leads (earlier ++ record { entry = entry; refusal = refusal } ∷ []) new goes

continues_alike : (f g : BootFacts) → AreAlike f g → (next more : RestOfBoot)
    → ((r : List RefusedEntry) (s : State) → next r s → more r s)
    → (entry : ℕ) (rest : List ℕ) (earlier : List RefusedEntry) (files : List (List PieceState))
    (new : State)
    → Continues f next entry rest earlier files new → Continues g more entry rest earlier files new
continues_alike f g alike next more leads entry rest earlier files new goes =
    choice (are_whole files) goes
  where
    choice : (b : Bool)
        → MatchBool b
        ((end : AttemptResult) × TextsHaveResult f entry (map came_bytes files) end
        × AfterAttempt next entry earlier end new) (new ≡ running entry rest earlier files)
        → MatchBool b
        ((end : AttemptResult) × TextsHaveResult g entry (map came_bytes files) end
        × AfterAttempt more entry earlier end new) (new ≡ running entry rest earlier files)
    choice true (end, ends, on) = (
      end,
      ends_alike f g alike entry (map came_bytes files) end ends,
      goes_alike next more leads entry earlier end new on,
    )
    choice false same = same

unless_alike : (f g : BootFacts) → AreAlike f g → (next more : RestOfBoot)
    → ((r : List RefusedEntry) (s : State) → next r s → more r s)
    → (entry : ℕ) (rest : List ℕ) (earlier : List RefusedEntry) (why : Option Refusal) (new : State)
    → BeginsUnless f next entry rest earlier why new
    → BeginsUnless g more entry rest earlier why new
unless_alike f g alike next more leads entry rest earlier (Some refusal) new goes =
    goes_alike next more leads entry earlier (refused refusal) new goes
unless_alike f g alike next more leads entry rest earlier None new goes =
    continues_alike f g alike next more leads entry rest earlier (fresh g entry) new
    (subst
    (λ (sizes : List (Option ℕ)).
    Continues f next entry rest earlier (waiting_files (known_lengths sizes)) new)
    (alike.sizes entry) goes)

begins_alike : (f g : BootFacts) → AreAlike f g
    → (rest : List ℕ) (earlier : List RefusedEntry) (new : State) → Begins f rest earlier new
    → Begins g rest earlier new
begins_alike f g alike [] earlier new goes = goes
begins_alike f g alike (entry ∷ rest) earlier new goes =
    let why : size_refusal f.machine (sizes_of f entry)
    ≡ size_refusal g.machine (sizes_of g entry) =
    ap (λ (m : MachineFacts). size_refusal m (sizes_of f entry)) alike.machine
    ∙ ap (size_refusal g.machine) (alike.sizes entry) in
    subst (λ (w : Option Refusal). BeginsUnless g (Begins g rest) entry rest earlier w new) why
    (unless_alike f g alike (Begins f rest) (Begins g rest) (begins_alike f g alike rest) entry rest
    earlier (size_refusal f.machine (sizes_of f entry)) new goes)

-- ---- one event

takes_alike : (f g : BootFacts) → AreAlike f g
    → (entry : ℕ) (rest : List ℕ) (earlier : List RefusedEntry) (files : List (List PieceState))
    (event : EventFacts) (new : State)
    → TakesEvent f entry rest earlier files event new
    → TakesEvent g entry rest earlier files event new
takes_alike f g alike entry rest earlier files (piece ticket bytes) new goes =
    continues_alike f g alike (Begins f rest) (Begins g rest) (begins_alike f g alike rest) entry
    rest earlier (with_piece files ticket.file ticket.piece bytes) new goes
takes_alike f g alike entry rest earlier files (fault ticket) new goes =
    goes_alike (Begins f rest) (Begins g rest) (begins_alike f g alike rest) entry earlier
    (refused (FileFault ticket.file)) new goes

steps_alike : (f g : BootFacts) → AreAlike f g → (old : State) (event : EventFacts) (new : State)
    → StepsTo f old event new → StepsTo g old event new
steps_alike f g alike (running entry rest earlier files) event new goes =
    choice (is_wanted earlier files event) goes
  where
    choice : (b : Bool)
        → MatchBool b (TakesEvent f entry rest earlier files event new)
        (new ≡ running entry rest earlier files)
        → MatchBool b (TakesEvent g entry rest earlier files event new)
        (new ≡ running entry rest earlier files)
    choice true taken = takes_alike f g alike entry rest earlier files event new taken
    choice false same = same
steps_alike f g alike unstarted event new goes = goes
steps_alike f g alike (handed_over entry earlier handover) event new goes = goes
steps_alike f g alike (none_left earlier) event new goes = goes
steps_alike f g alike out_of_memory event new goes = goes

pub step_alike : (f g : BootFacts) → AreAlike f g → (old : State) (event : EventFacts) (new : State)
    → StepsToOrFails f old event new → StepsToOrFails g old event new
step_alike f g alike old event new (inl steps) = inl (steps_alike f g alike old event new steps)
step_alike f g alike old event new (inr fails) = inr fails

-- ---- the start

starts_alike : (f g : BootFacts) → AreAlike f g → (old new : State) → Starts f old new
    → Starts g old new
starts_alike f g alike unstarted new goes =
    subst (λ (m : MenuFacts). Begins g m.attempts [] new) alike.menu
    (begins_alike f g alike f.menu.attempts [] new goes)
starts_alike f g alike (running entry rest earlier files) new goes = goes
starts_alike f g alike (handed_over entry earlier handover) new goes = goes
starts_alike f g alike (none_left earlier) new goes = goes
starts_alike f g alike out_of_memory new goes = goes

pub start_alike : (f g : BootFacts) → AreAlike f g → (old new : State) → StartsOrFails f old new
    → StartsOrFails g old new
start_alike f g alike old new (inl starts) = inl (starts_alike f g alike old new starts)
start_alike f g alike old new (inr fails) = inr fails
