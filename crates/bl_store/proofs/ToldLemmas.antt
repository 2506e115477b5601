-- What a store's contract says of an answer, by the list of what is still to be answered.
use Rattle.std.proofs.Common.{◌≡◌, ◌↔◌, ℕ, ◌+◌, ◌<◌, List, [], ◌∷◌, ◌++◌, length, Option, None}
use Rattle.std.proofs.Common.{Some, Result, Ok, Err, IfOk, OnErr, IfSome, IsNone, get_or}
use Rattle.std.proofs.Common.{length-append, length-take, length-drop, refl, ap, ◌∙◌, arith}
use Rattle.std.specs.Prelude.{slice_get, option_map}
use Rattle.std.proofs.lemmas.Option.{slice_get-get_or}
use Rattle.bl_stage.specs.Files.{File}
use Rattle.bl_store.specs.declared.store.Completion.{Completion}
use Rattle.bl_store.specs.declared.submission.Submission.{Submission}
use Rattle.bl_store.specs.declared.order.Order.{Order}
use Rattle.bl_store.specs.Events.{EventFacts}
use Rattle.bl_store.specs.History.{HistoryItem, IsItemOfAnswer}
use Rattle.bl_store.specs.Stores.{FileStoreFacts, event_of, answer_to, next_event}
use Rattle.bl_store.specs.Stores.{next_place, without_index, after_answer}
use Rattle.bl_store.specs.Stores.{item_of_completion}
use Rattle.bl_store.proofs.SubmissionLemmas.{item_is}
use Rattle.bl_store.proofs.StoreLemmas.{place_within}
use Rattle.bl_store.proofs.ListedLemmas.{length_without}

-- nothing is answered exactly if nothing is still to be answered
none_left : {A R : Type 0} (event : R → EventFacts) (pending : List R) (place : ℕ)
    (answer : Option (Completion A)) → (0 < length pending → place < length pending)
    → option_map event_of answer ≡ option_map event (slice_get pending place) → IsNone answer
    ↔ (length pending ≡ 0)
none_left event [] place None within is = (λ h. refl, λ h. refl)
none_left event [] place (Some completion) within is = cc
none_left event (first ∷ others) place None within is =
    let at : slice_get (first ∷ others) place ≡ Some (get_or (first ∷ others) place first) =
    slice_get-get_or (first ∷ others) place first (within (omega arith)) in
    let e : None ≡ Some (event (get_or (first ∷ others) place first)) =
    is ∙ ap (option_map event) at in
    cc
none_left event (first ∷ others) place (Some completion) within is =
    (λ h. cc, λ h. absurd (omega arith))

none_taken : {R : Type 0} (pending : List R) (place : ℕ) → length pending ≡ 0
    → length (without_index pending place) ≡ length pending
none_taken pending place empty = simp (length-append, length-take, length-drop) (omega arith)

fewer_left : {A R : Type 0} (event : R → EventFacts) (pending : List R) (place : ℕ)
    (answer : Option (Completion A)) → (0 < length pending → place < length pending)
    → option_map event_of answer ≡ option_map event (slice_get pending place)
    → IfSome answer (λ completion. length (without_index pending place) + 1 ≡ length pending)
fewer_left event pending place None within is = tt
fewer_left event [] place (Some completion) within is = cc
fewer_left event (first ∷ others) place (Some completion) within is =
    length_without (first ∷ others) place (within (omega arith))

-- what the contract says of an answer
pub record Tells {A E : Type 0} (files1 files2 : List File) (given1 given2 : List HistoryItem)
    (left1 left2 : ℕ) (result : Result (Option (Completion A)) E) : Type 0 where
  pub files : files2 ≡ files1
  pub given : IfOk result
      (λ answer.
      (item : HistoryItem) × IsItemOfAnswer files1 given1 answer item
      × (given2 ≡ given1 ++ item ∷ []))
  pub none : IfOk result (λ answer. IsNone answer ↔ (left1 ≡ 0))
  pub fewer : IfOk result (λ answer. IfSome answer (λ completion. left2 + 1 ≡ left1))
  pub as_many : IfOk result (λ answer. IsNone answer → left2 ≡ left1)
  pub err : OnErr result ((given2 ≡ given1) × (left2 ≡ left1))

-- an answer that takes what stands at a place
pub tells_taken : {A E R : Type 0} (event : R → EventFacts) (files1 files2 : List File)
    (given1 given2 : List HistoryItem) (pending1 pending2 : List R) (place : ℕ)
    (answer : Option (Completion A)) → (0 < length pending1 → place < length pending1)
    → option_map event_of answer ≡ option_map event (slice_get pending1 place)
    → files2 ≡ files1 → given2 ≡ given1 ++ item_of_completion files1 given1 answer ∷ []
    → pending2 ≡ without_index pending1 place
    → Tells {E = E} files1 files2 given1 given2 (length pending1) (length pending2) (Ok answer)
tells_taken event files1 files2 given1 given2 pending1 pending2 place answer within is files given
    pending = record {
      files = files;
      given = (item_of_completion files1 given1 answer, item_is files1 given1 answer, given);
      none = none_left event pending1 place answer within is;
      fewer = rw pending (fewer_left event pending1 place answer within is);
      as_many =
          λ none.
          ap length pending
          ∙ none_taken pending1 place
          ((none_left event pending1 place answer within is).0 none);
      err = tt;
    }

next_within : (order : Order) (pending : List Submission) → 0 < length pending
    → next_place order pending < length pending
next_within order [] some = absurd (omega arith)
next_within order (first ∷ others) some = place_within order first others

pub file_store_tells : {A E : Type 0} (old new : FileStoreFacts)
    (result : Result (Option (Completion A)) E)
    → IfOk result (λ answer. option_map event_of answer ≡ next_event old)
    → IfOk result (λ answer. new ≡ after_answer old (option_map event_of answer))
    → OnErr result (new ≡ old)
    → Tells old.files new.files old.given new.given (length old.pending) (length new.pending) result
file_store_tells old new (Ok answer) is ok err =
    tells_taken (answer_to old.files) old.files new.files old.given new.given old.pending
    new.pending (next_place old.order old.pending) answer (next_within old.order old.pending) is
    (ap (λ (s : FileStoreFacts). s.files) ok) (ap (λ (s : FileStoreFacts). s.given) ok)
    (ap (λ (s : FileStoreFacts). s.pending) ok)
file_store_tells old new (Err fault) is ok err = record {
  files = ap (λ (s : FileStoreFacts). s.files) err;
  given = tt;
  none = tt;
  fewer = tt;
  as_many = tt;
  err =
      (ap (λ (s : FileStoreFacts). s.given) err, ap (λ (s : FileStoreFacts). length s.pending) err);
}
