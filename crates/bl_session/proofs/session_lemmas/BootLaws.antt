-- Each event leads a boot to exactly one state.
use Rattle.std.proofs.Common.{◌≡◌, ℕ, Bool, true, false, MatchBool, List, [], ◌∷◌, ◌++◌, Option}
use Rattle.std.proofs.Common.{Some, None, sym, ◌∙◌, refl, map}
use Rattle.bl_load.specs.declared.refusal.Refusal.{Refusal}
use Rattle.bl_load.specs.declared.refusal.Refusal.TheVariants.{FileFault}
use Rattle.bl_load.specs.declared.refused_entry.RefusedEntry.{RefusedEntry}
use Rattle.bl_stage.specs.PieceStates.{PieceState, came_bytes}
use Rattle.bl_session.specs.attempt.AttemptResult.{AttemptResult, handed, refused, size_refusal}
use Rattle.bl_session.specs.menu.Menu.{entry_at, value_with}
use Rattle.bl_session.specs.attempt.AwaitedPieces.{are_whole, with_piece}
use Rattle.bl_session.specs.session.BootSteps.{BootFacts, State}
use Rattle.bl_store.specs.Events.{EventFacts, piece, fault}
use Rattle.bl_session.specs.session.BootSteps.{unstarted}
use Rattle.bl_session.specs.session.BootSteps.{running}
use Rattle.bl_session.specs.session.BootSteps.{handed_over, none_left, out_of_memory, sizes_of}
use Rattle.bl_session.specs.session.BootSteps.{fresh}
use Rattle.bl_session.specs.session.BootSteps.{TextsHaveResult, AfterAttempt, Continues}
use Rattle.bl_session.specs.session.BootSteps.{BeginsUnless}
use Rattle.bl_session.specs.session.BootSteps.{Begins}
use Rattle.bl_session.specs.session.BootSteps.{is_wanted, TakesEvent, StepsTo, Starts}
use Rattle.bl_session.proofs.attempt_lemmas.EndLaws.{one_end_in, some_end_in}

abbrev pub IsOne : (State → Type 0) → Type 0
IsOne P = (a b : State) → P a → P b → a ≡ b

-- ---- at most one

one_choice : (b : Bool) (P : State → Type 0) (state : State) → IsOne P
    → IsOne (λ new. MatchBool b (P new) (new ≡ state))
one_choice true P state one = one
one_choice false P state one = λ a b p q. p ∙ sym q

pub one_goes : (next : List RefusedEntry → State → Type 0) (entry : ℕ) (earlier : List RefusedEntry)
    (e f : AttemptResult) → ((r : List RefusedEntry) → IsOne (next r)) → e ≡ f
    → (a b : State) → AfterAttempt next entry earlier e a → AfterAttempt next entry earlier f b → a
    ≡ b
one_goes next entry earlier (handed h) (handed k) one same a b p q =
    p ∙ (let e : handed_over entry earlier h ≡ handed_over entry earlier k = cc in e) ∙ sym q
one_goes next entry earlier (handed h) (refused s) one same a b p q = absurd cc
one_goes next entry earlier (refused r) (handed k) one same a b p q = absurd cc
one_goes next entry earlier (refused r) (refused s) one same a b p q =
    let e : r ≡ s = cc in
    one (earlier ++ record { entry = entry; refusal = r } ∷ []) a b p (rw e q)

one_whole : (facts : BootFacts) (next : List RefusedEntry → State → Type 0) (entry : ℕ)
    (earlier : List RefusedEntry) (texts : List (List ℕ))
    → ((r : List RefusedEntry) → IsOne (next r))
    → IsOne
    (λ new. (end : AttemptResult) × TextsHaveResult facts entry texts end
    × AfterAttempt next entry earlier end new)
one_whole facts next entry earlier texts one = λ a b (e, p, x) (f, q, y).
    one_goes next entry earlier e f one
    (one_end_in facts.machine (value_with (entry_at facts.menu entry) texts) e f p q) a b x y

one_continues : (facts : BootFacts) (next : List RefusedEntry → State → Type 0) (entry : ℕ)
    (rest : List ℕ) (earlier : List RefusedEntry) (files : List (List PieceState))
    → ((r : List RefusedEntry) → IsOne (next r))
    → IsOne (Continues facts next entry rest earlier files)
one_continues facts next entry rest earlier files one =
    one_choice (are_whole files) _ (running entry rest earlier files)
    (one_whole facts next entry earlier (map came_bytes files) one)

one_unless : (facts : BootFacts) (next : List RefusedEntry → State → Type 0) (entry : ℕ)
    (rest : List ℕ) (earlier : List RefusedEntry) (why : Option Refusal)
    → ((r : List RefusedEntry) → IsOne (next r))
    → IsOne (BeginsUnless facts next entry rest earlier why)
one_unless facts next entry rest earlier (Some r) one =
    λ a b p q. one_goes next entry earlier (refused r) (refused r) one refl a b p q
one_unless facts next entry rest earlier None one =
    one_continues facts next entry rest earlier (fresh facts entry) one

one_begins : (facts : BootFacts) (rest : List ℕ) (earlier : List RefusedEntry)
    → IsOne (Begins facts rest earlier)
one_begins facts [] earlier = λ a b p q. p ∙ sym q
one_begins facts (entry ∷ rest) earlier =
    one_unless facts (Begins facts rest) entry rest earlier
    (size_refusal facts.machine (sizes_of facts entry)) (one_begins facts rest)

one_takes : (facts : BootFacts) (entry : ℕ) (rest : List ℕ) (earlier : List RefusedEntry)
    (files : List (List PieceState)) (event : EventFacts)
    → IsOne (TakesEvent facts entry rest earlier files event)
one_takes facts entry rest earlier files (piece ticket bytes) =
    one_continues facts (Begins facts rest) entry rest earlier
    (with_piece files ticket.file ticket.piece bytes) (one_begins facts rest)
one_takes facts entry rest earlier files (fault ticket) =
    λ a b p q.
    one_goes (Begins facts rest) entry earlier (refused (FileFault ticket.file))
    (refused (FileFault ticket.file)) (one_begins facts rest) refl a b p q

pub one_step : (facts : BootFacts) (old : State) (event : EventFacts) (a b : State)
    → StepsTo facts old event a → StepsTo facts old event b → a ≡ b
one_step facts (running entry rest earlier files) event =
    one_choice (is_wanted earlier files event) (TakesEvent facts entry rest earlier files event)
    (running entry rest earlier files) (one_takes facts entry rest earlier files event)
one_step facts unstarted event = λ a b p q. p ∙ sym q
one_step facts (handed_over entry earlier handover) event = λ a b p q. p ∙ sym q
one_step facts (none_left earlier) event = λ a b p q. p ∙ sym q
one_step facts out_of_memory event = λ a b p q. p ∙ sym q

pub one_start : (facts : BootFacts) (old a b : State) → Starts facts old a → Starts facts old b
    → a ≡ b
one_start facts unstarted = one_begins facts facts.menu.attempts []
one_start facts (running entry rest earlier files) = λ a b p q. p ∙ sym q
one_start facts (handed_over entry earlier handover) = λ a b p q. p ∙ sym q
one_start facts (none_left earlier) = λ a b p q. p ∙ sym q
one_start facts out_of_memory = λ a b p q. p ∙ sym q

-- ---- at least one

abbrev pub HasOne : (State → Type 0) → Type 0
HasOne P = (new : State) × P new

some_choice : (b : Bool) (P : State → Type 0) (state : State) → HasOne P
    → HasOne (λ new. MatchBool b (P new) (new ≡ state))
some_choice true P state some = some
some_choice false P state some = (state, refl)

some_goes : (next : List RefusedEntry → State → Type 0) (entry : ℕ) (earlier : List RefusedEntry)
    (end : AttemptResult) → ((r : List RefusedEntry) → HasOne (next r))
    → HasOne (AfterAttempt next entry earlier end)
some_goes next entry earlier (handed h) some = (handed_over entry earlier h, refl)
some_goes next entry earlier (refused r) some =
    some (earlier ++ record { entry = entry; refusal = r } ∷ [])

some_whole : (facts : BootFacts) (next : List RefusedEntry → State → Type 0) (entry : ℕ)
    (earlier : List RefusedEntry) (texts : List (List ℕ))
    → ((r : List RefusedEntry) → HasOne (next r))
    → HasOne
    (λ new. (end : AttemptResult) × TextsHaveResult facts entry texts end
    × AfterAttempt next entry earlier end new)
some_whole facts next entry earlier texts some =
    let end = some_end_in facts.machine (value_with (entry_at facts.menu entry) texts) in
    let new = some_goes next entry earlier end.0 some in
    (new.0, (end.0, end.1, new.1))

some_continues : (facts : BootFacts) (next : List RefusedEntry → State → Type 0) (entry : ℕ)
    (rest : List ℕ) (earlier : List RefusedEntry) (files : List (List PieceState))
    → ((r : List RefusedEntry) → HasOne (next r))
    → HasOne (Continues facts next entry rest earlier files)
some_continues facts next entry rest earlier files some =
    some_choice (are_whole files) _ (running entry rest earlier files)
    (some_whole facts next entry earlier (map came_bytes files) some)

some_unless : (facts : BootFacts) (next : List RefusedEntry → State → Type 0) (entry : ℕ)
    (rest : List ℕ) (earlier : List RefusedEntry) (why : Option Refusal)
    → ((r : List RefusedEntry) → HasOne (next r))
    → HasOne (BeginsUnless facts next entry rest earlier why)
some_unless facts next entry rest earlier (Some r) some =
    some_goes next entry earlier (refused r) some
some_unless facts next entry rest earlier None some =
    some_continues facts next entry rest earlier (fresh facts entry) some

some_begins : (facts : BootFacts) (rest : List ℕ) (earlier : List RefusedEntry)
    → HasOne (Begins facts rest earlier)
some_begins facts [] earlier = (none_left earlier, refl)
some_begins facts (entry ∷ rest) earlier =
    some_unless facts (Begins facts rest) entry rest earlier
    (size_refusal facts.machine (sizes_of facts entry)) (some_begins facts rest)

some_takes : (facts : BootFacts) (entry : ℕ) (rest : List ℕ) (earlier : List RefusedEntry)
    (files : List (List PieceState)) (event : EventFacts)
    → HasOne (TakesEvent facts entry rest earlier files event)
some_takes facts entry rest earlier files (piece ticket bytes) =
    some_continues facts (Begins facts rest) entry rest earlier
    (with_piece files ticket.file ticket.piece bytes) (some_begins facts rest)
some_takes facts entry rest earlier files (fault ticket) =
    some_goes (Begins facts rest) entry earlier (refused (FileFault ticket.file))
    (some_begins facts rest)

pub some_step : (facts : BootFacts) (old : State) (event : EventFacts)
    → (new : State) × StepsTo facts old event new
some_step facts (running entry rest earlier files) event =
    some_choice (is_wanted earlier files event) (TakesEvent facts entry rest earlier files event)
    (running entry rest earlier files) (some_takes facts entry rest earlier files event)
some_step facts unstarted event = (unstarted, refl)
some_step facts (handed_over entry earlier handover) event =
    (handed_over entry earlier handover, refl)
some_step facts (none_left earlier) event = (none_left earlier, refl)
some_step facts out_of_memory event = (out_of_memory, refl)

pub some_start : (facts : BootFacts) (old : State) → (new : State) × Starts facts old new
some_start facts unstarted = some_begins facts facts.menu.attempts []
some_start facts (running entry rest earlier files) = (running entry rest earlier files, refl)
some_start facts (handed_over entry earlier handover) = (handed_over entry earlier handover, refl)
some_start facts (none_left earlier) = (none_left earlier, refl)
some_start facts out_of_memory = (out_of_memory, refl)
