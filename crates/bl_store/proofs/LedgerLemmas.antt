-- A ledger, as the submission at a place is answered.
use Rattle.std.proofs.Common.{◌≡◌, ℕ, ◌+◌, ◌<◌, List, [], ◌∷◌, ◌++◌, length, take, drop, Option}
use Rattle.std.proofs.Common.{Some}
use Rattle.std.proofs.Common.{Result, Ok, Err, IfOk, OnOk, OnErr, suc, get_or, refl, sym, ap, subst}
use Rattle.std.proofs.Common.{◌∙◌}
use Rattle.std.proofs.Common.{arith}
use Rattle.std.proofs.lemmas.Option.{slice_get-get_or}
use Rattle.std.proofs.Math.Seq.{split_at, take-nil, drop-nil}
use Rattle.std.proofs.Math.Numerals.{add-one}
use Rattle.std.specs.Prelude.{slice_get, option_map}
use Rattle.bl_stage.specs.Files.{File}
use Rattle.bl_store.specs.declared.store.Completion.{Completion}
use Rattle.bl_store.specs.declared.submission.Submission.{Submission}
use Rattle.bl_store.specs.Events.{EventFacts}
use Rattle.bl_store.specs.History.{HistoryItem}
use Rattle.bl_store.specs.Stores.{event_of, answer_to, item_of_event, item_of_answer}
use Rattle.bl_store.specs.Stores.{without_index}
use Rattle.bl_store.specs.internal.LedgerCounts.{IsLedgerKept}
use Rattle.bl_store.specs.Stores.{item_of_completion}
use Rattle.bl_store.specs.Ledger.{LedgerFacts, pending_answer, ledger_answered}
use Rattle.bl_store.proofs.StoreLemmas.{kept_answer, kept_nothing}
use Rattle.bl_store.proofs.ToldLemmas.{Tells, tells_taken}

-- ---- what is kept

without_any : (place : ℕ) → without_index {T = Submission} [] place ≡ []
without_any place = rw (take-nil {A = Submission} place, drop-nil {A = Submission} (place + 1)) refl

kept_place : (files : List File) (pending : List Submission) (place : ℕ) (given : List HistoryItem)
    (told : Option EventFacts) → (0 < length pending → place < length pending)
    → told ≡ option_map (answer_to files) (slice_get pending place) → IsLedgerKept files pending given
    → IsLedgerKept files (without_index pending place) (given ++ item_of_answer files given told ∷ [])
kept_place files [] place given told within is kept =
    subst
    (λ (left : List Submission).
    IsLedgerKept files left (given ++ item_of_answer files given told ∷ []))
    (sym (without_any place))
    (subst (λ (t : Option EventFacts). IsLedgerKept files [] (given ++ item_of_answer files given t ∷ []))
    (sym is) (kept_nothing files given kept))
kept_place files (first ∷ others) place given told within is kept =
    let pending : List Submission = first ∷ others in
    let inside : place < length pending = within (omega arith) in
    let submission : Submission = get_or pending place first in
    let e : told ≡ Some (answer_to files submission) =
    is ∙ ap (option_map (answer_to files)) (slice_get-get_or pending place first inside) in
    let at : IsLedgerKept files (take place pending ++ submission ∷ drop (suc place) pending) given =
    subst (λ (p : List Submission). IsLedgerKept files p given) (split_at pending place first inside)
    kept in
    subst
    (λ (t : Option EventFacts).
    IsLedgerKept files (without_index pending place) (given ++ item_of_answer files given t ∷ []))
    (sym e)
    (subst
    (λ (n : ℕ).
    IsLedgerKept files (take place pending ++ drop n pending)
    (given ++ item_of_event files given (answer_to files submission) ∷ []))
    (sym (add-one place))
    (kept_answer files (take place pending) (drop (suc place) pending) given submission at))

pub kept_at : {A : Type 0} (files : List File) (pending : List Submission) (place : ℕ)
    (given : List HistoryItem) (answer : Option (Completion A))
    → (0 < length pending → place < length pending)
    → option_map event_of answer ≡ option_map (answer_to files) (slice_get pending place)
    → IsLedgerKept files pending given
    → IsLedgerKept files (without_index pending place) (given ++ item_of_completion files given answer ∷ [])
kept_at files pending place given answer within is kept =
    kept_place files pending place given (option_map event_of answer) within is kept

-- ---- what is told

pub ledger_tells : {A E : Type 0} (old new : LedgerFacts) (place : ℕ)
    (result : Result (Option (Completion A)) E)
    → (0 < length old.pending → place < length old.pending)
    → IfOk result (λ answer. option_map event_of answer ≡ pending_answer old place)
    → OnOk result (new ≡ ledger_answered old place) → OnErr result (new ≡ old)
    → Tells old.files new.files old.given new.given (length old.pending) (length new.pending) result
ledger_tells old new place (Ok answer) within is ok unchanged =
    tells_taken (answer_to old.files) old.files new.files old.given new.given old.pending
    new.pending place answer within is (ap (λ (l : LedgerFacts). l.files) ok)
    (ap (λ (l : LedgerFacts). l.given) ok
    ∙ ap (λ (t : Option EventFacts). old.given ++ item_of_answer old.files old.given t ∷ []) (sym is))
    (ap (λ (l : LedgerFacts). l.pending) ok)
ledger_tells old new place (Err fault) within is ok unchanged = record {
  files = ap (λ (l : LedgerFacts). l.files) unchanged;
  given = tt;
  none = tt;
  fewer = tt;
  as_many = tt;
  err = (
    ap (λ (l : LedgerFacts). l.given) unchanged,
    ap (λ (l : LedgerFacts). length l.pending) unchanged,
  );
}
