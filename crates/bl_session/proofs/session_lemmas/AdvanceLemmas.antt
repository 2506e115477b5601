-- From one attempt to the next.
use Rattle.std.proofs.Common.{◌≡◌, ℕ, ◌+◌, ◌<◌, ◌≤◌, Bool, true, false, MatchBool, MatchOption}
use Rattle.std.proofs.Common.{List, [], ◌∷◌, ◌++◌, length, drop, map, get_or, Option, None, Some}
use Rattle.std.proofs.Common.{Result, Ok, Err, IfOk, refl, sym, ap, subst, ◌∙◌}
use Rattle.std.proofs.lemmas.List.{drop_more, drop_all}
use Rattle.bl_map.specs.MachineFacts.{MachineFacts}
use Rattle.bl_load.specs.declared.refusal.Refusal.{Refusal}
use Rattle.bl_load.specs.declared.refused_entry.RefusedEntry.{RefusedEntry}
use Rattle.bl_stage.specs.PieceStates.{PieceState, piece_states}
use Rattle.bl_session.specs.declared.attempt.Attempt.{Attempt}
use Rattle.bl_session.specs.declared.attempt.Attempt.TheVariants as attempt
use Rattle.bl_session.specs.declared.attempt.AttemptEnd.TheVariants as ended
use Rattle.bl_session.specs.attempt.AttemptResult.{handed, refused, size_refusal}
use Rattle.bl_session.specs.menu.Menu.{EntryFacts, MenuFacts, entry_at}
use Rattle.bl_session.specs.attempt.AwaitedPieces.{are_whole}
use Rattle.bl_session.specs.session.BootSteps.{BootFacts, State, running, handed_over, none_left}
use Rattle.bl_session.specs.session.BootSteps.{sizes_of}
use Rattle.bl_session.specs.session.BootSteps.{fresh, Continues, BeginsUnless, Begins}
use Rattle.bl_session.specs.internal.attempt.AttemptStates.{IsAttempt, IsAttemptBegun, IsRefusedFor}
use Rattle.bl_session.specs.session.Phases.{handover_held}

-- ---- one attempt

-- the state that an attempt leads to, if the next one leads to this
abbrev pub state_by : {A : Type 0}
    → (entry : ℕ) (rest : List ℕ) (earlier : List RefusedEntry) (bytes : List ℕ) → State → Attempt A
    → State
state_by entry rest earlier bytes later (attempt.Waits stage) =
    running entry rest earlier (piece_states bytes stage)
state_by entry rest earlier bytes later (attempt.Ended (ended.HandedOver handoff)) =
    handed_over entry earlier (handover_held bytes handoff)
state_by entry rest earlier bytes later (attempt.Ended (ended.Refused refusal)) = later

-- the next one leads on, if this one is refused
abbrev pub LeadsOn : {A : Type 0} → (List RefusedEntry → State → Type 0) → ℕ → List RefusedEntry
    → State → Attempt A → Type 0
LeadsOn next entry earlier later (attempt.Waits stage) = Unit {0}
LeadsOn next entry earlier later (attempt.Ended (ended.HandedOver handoff)) = Unit {0}
LeadsOn next entry earlier later (attempt.Ended (ended.Refused refusal)) =
    next (earlier ++ record { entry = entry; refusal = refusal } ∷ []) later

by_test : (b : Bool) (tested : Bool) (P Q : Type 0) → tested ≡ b → MatchBool b P Q
    → MatchBool tested P Q
by_test b tested P Q e h = subst (λ (x : Bool). MatchBool x P Q) (sym e) h

pub continues : {A : Type 0} (facts : BootFacts) (next : List RefusedEntry → State → Type 0)
    (entry : ℕ) (rest : List ℕ) (earlier : List RefusedEntry) (files : List (List PieceState))
    (bytes : List ℕ) (later : State) (one : Attempt A)
    → IsAttempt facts.machine (entry_at facts.menu entry) files bytes one
    → LeadsOn next entry earlier later one
    → Continues facts next entry rest earlier files (state_by entry rest earlier bytes later one)
continues facts next entry rest earlier files bytes later (attempt.Waits stage) (whole, same)
    leads =
    by_test false (are_whole files) _ _ whole (ap (running entry rest earlier) same)
continues facts next entry rest earlier files bytes later (attempt.Ended (ended.HandedOver handoff))
    (whole, ends)
    leads =
    by_test true (are_whole files) _ _ whole (handed (handover_held bytes handoff), ends, refl)
continues facts next entry rest earlier files bytes later (attempt.Ended (ended.Refused refusal))
    (whole, ends)
    leads =
    by_test true (are_whole files) _ _ whole (refused refusal, ends, leads)

begins_unless : {A : Type 0} (facts : BootFacts) (next : List RefusedEntry → State → Type 0)
    (entry : ℕ) (rest : List ℕ) (earlier : List RefusedEntry) (bytes : List ℕ) (later : State)
    (one : Attempt A) (why : Option Refusal)
    → MatchOption why
    (IsAttempt facts.machine (entry_at facts.menu entry) (fresh facts entry) bytes one)
    (IsRefusedFor one) → LeadsOn next entry earlier later one
    → BeginsUnless facts next entry rest earlier why (state_by entry rest earlier bytes later one)
begins_unless facts next entry rest earlier bytes later one None is leads =
    continues facts next entry rest earlier (fresh facts entry) bytes later one is leads
begins_unless facts next entry rest earlier bytes later (attempt.Waits stage) (Some r) is leads =
    absurd is
begins_unless facts next entry rest earlier bytes later (attempt.Ended (ended.HandedOver handoff))
    (Some r) is
    leads = absurd is
begins_unless facts next entry rest earlier bytes later (attempt.Ended (ended.Refused refusal))
    (Some r) is
    leads =
    subst (λ (x : Refusal). next (earlier ++ record { entry = entry; refusal = x } ∷ []) later) is
    leads

-- the attempt of a number
pub begins_at : {A : Type 0} (facts : BootFacts) (next entry : ℕ) (offered : EntryFacts)
    (earlier : List RefusedEntry) (bytes : List ℕ) (later : State) (got one : Attempt A)
    → next < length facts.menu.attempts → ((d : ℕ) → entry ≡ get_or facts.menu.attempts next d)
    → offered ≡ entry_at facts.menu entry
    → IsAttemptBegun facts.machine offered
    (map (λ file. get_or facts.sizes file None) offered.files) bytes
    got → got ≡ one
    → LeadsOn (Begins facts (drop (next + 1) facts.menu.attempts)) entry earlier later one
    → Begins facts (drop next facts.menu.attempts) earlier
    (state_by entry (drop (next + 1) facts.menu.attempts) earlier bytes later one)
begins_at {A} facts next entry offered earlier bytes later got one h is same begun got_is leads =
    let rest = drop (next + 1) facts.menu.attempts in
    let first : drop next facts.menu.attempts ≡ entry ∷ rest =
    drop_more facts.menu.attempts next 0 h ∙ ap (λ (x : ℕ). x ∷ rest) (sym (is 0)) in
    let of_one =
    subst
    (λ (x : Attempt A).
    IsAttemptBegun facts.machine offered
    (map (λ file. get_or facts.sizes file None) offered.files) bytes x) got_is
    begun in
    let mine =
    subst
    (λ (e : EntryFacts).
    IsAttemptBegun facts.machine e (map (λ file. get_or facts.sizes file None) e.files) bytes
    one) same of_one in
    subst (λ (xs : List ℕ). Begins facts xs earlier (state_by entry rest earlier bytes later one))
    (sym first)
    (begins_unless facts (Begins facts rest) entry rest earlier bytes later one
    (size_refusal facts.machine (sizes_of facts entry)) mine leads)

-- one that is refused, where the next ones lead on
pub begins_refused : {A : Type 0} (facts : BootFacts) (next entry : ℕ) (offered : EntryFacts)
    (earlier later : List RefusedEntry) (bytes : List ℕ) (got : Attempt A) (refusal : Refusal)
    (state : State)
    → next < length facts.menu.attempts → ((d : ℕ) → entry ≡ get_or facts.menu.attempts next d)
    → offered ≡ entry_at facts.menu entry
    → IsAttemptBegun facts.machine offered
    (map (λ file. get_or facts.sizes file None) offered.files) bytes
    got → got ≡ attempt.Ended (ended.Refused refusal)
    → later ≡ earlier ++ record { entry = entry; refusal = refusal } ∷ []
    → Begins facts (drop (next + 1) facts.menu.attempts) later state
    → Begins facts (drop next facts.menu.attempts) earlier state
begins_refused facts next entry offered earlier later bytes got refusal state h is same begun got_is
    grown leads =
    begins_at facts next entry offered earlier bytes state got
    (attempt.Ended (ended.Refused refusal)) h is same begun got_is
    (subst
    (λ (r : List RefusedEntry). Begins facts (drop (next + 1) facts.menu.attempts) r state) grown
    leads)

pub begins_none : (facts : BootFacts) (next : ℕ) (earlier : List RefusedEntry)
    → length facts.menu.attempts ≤ next
    → Begins facts (drop next facts.menu.attempts) earlier (none_left earlier)
begins_none facts next earlier h =
    subst (λ (xs : List ℕ). Begins facts xs earlier (none_left earlier))
    (sym (drop_all next facts.menu.attempts h)) refl

-- an attempt that is refused, where the next ones lead on
pub continues_later : {A P E : Type 0} (facts : BootFacts)
    (next : List RefusedEntry → State → Type 0) (entry : ℕ) (rest : List ℕ)
    (earlier : List RefusedEntry) (files : List (List PieceState)) (bytes : List ℕ)
    (got : Attempt A)
    (refusal : Refusal)
    (result : Result P E) (state : P → State)
    → IsAttempt facts.machine (entry_at facts.menu entry) files bytes got
    → got ≡ attempt.Ended (ended.Refused refusal)
    → IfOk result
    (λ phase. next (earlier ++ record { entry = entry; refusal = refusal } ∷ []) (state phase))
    → IfOk result (λ phase. Continues facts next entry rest earlier files (state phase))
continues_later facts next entry rest earlier files bytes got refusal (Err e) state is got_is
    leads = tt
continues_later {A} facts next entry rest earlier files bytes got refusal (Ok phase) state is got_is
    leads =
    let mine =
    subst (λ (x : Attempt A). IsAttempt facts.machine (entry_at facts.menu entry) files bytes x)
    got_is is in
    continues {A = A} facts next entry rest earlier files bytes (state phase)
    (attempt.Ended (ended.Refused refusal)) mine leads

-- an attempt as its entry is offered
pub attempt_of_entry : {A : Type 0} (facts : MachineFacts) (menu : MenuFacts) (entry : ℕ)
    (offered : EntryFacts) (files : List (List PieceState)) (bytes : List ℕ) (got one : Attempt A)
    → offered ≡ entry_at menu entry → IsAttempt facts offered files bytes got → got ≡ one
    → IsAttempt facts (entry_at menu entry) files bytes one
attempt_of_entry {A} facts menu entry offered files bytes got one same is got_is =
    subst (λ (e : EntryFacts). IsAttempt facts e files bytes one) same
    (subst (λ (x : Attempt A). IsAttempt facts offered files bytes x) got_is is)
