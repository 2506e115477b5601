-- A store's history and the submissions that are still to be answered, as it answers.
use Rattle.std.proofs.Common.{◌≡◌, ℕ, ◌*◌, ◌<◌, ◌≤◌, nat_lt, Bool, true, false, if◌then◌else◌, List}
use Rattle.std.proofs.Common.{[], ◌∷◌, ◌++◌, length, Option, None}
use Rattle.std.proofs.Common.{refl, sym, subst, arith}
use Rattle.std.proofs.lemmas.Bool.Decides.{Decides-ltb, not_from_Decides}
use Rattle.std.specs.Prelude.{slice_index_or}
use Rattle.bl_stage.specs.PieceStates.{piece_of}
use Rattle.bl_stage.specs.Files.{File, missing, file_bytes}
use Rattle.bl_store.specs.declared.ticket.Ticket.{Ticket}
use Rattle.bl_store.specs.declared.submission.Submission.{Submission}
use Rattle.bl_store.specs.declared.order.Order.{Order}
use Rattle.bl_store.specs.declared.order.Order.TheVariants.{Forward, Reverse}
use Rattle.bl_store.specs.Events.{EventFacts, piece, fault}
use Rattle.bl_store.specs.History.{HistoryItem, failed, nothing, is_same, file_under}
use Rattle.bl_store.specs.History.{IsPieceOf}
use Rattle.bl_store.specs.Faithful.{times_asked, times_answered, HasPiece, IsFaithfulItem}
use Rattle.bl_store.specs.Stores.{item_of_event, answer_to, next_place}
use Rattle.bl_store.specs.internal.LedgerCounts.{count_of, WasAsked, AreAskedFor}
use Rattle.bl_store.specs.internal.LedgerCounts.{IsLedgerKept}
use Rattle.bl_store.proofs.TicketLemmas.{is_same_self, asked_both, answered_both}
use Rattle.bl_store.proofs.TicketLemmas.{file_both}
use Rattle.bl_store.proofs.SubmissionLemmas.{marks, faithful_more, count_append}
use Rattle.bl_store.proofs.SubmissionLemmas.{asked_append}
use Rattle.bl_store.proofs.SubmissionLemmas.{asked_apart}

-- an answer leaves what was asked for
nothing_asked : (files : List File) (given : List HistoryItem) (event : EventFacts)
    (ticket : Ticket)
    → times_asked (given ++ item_of_event files given event ∷ []) ticket ≡ times_asked given ticket
nothing_asked files given (piece t bytes) ticket =
    let item : HistoryItem =
    item_of_event files given (piece t bytes) in
    omega (arith, asked_both given (item ∷ []) ticket)
nothing_asked files given (fault t) ticket =
    omega (arith, asked_both given ((failed t) ∷ []) ticket)

same_under : (files : List File) (given : List HistoryItem) (event : EventFacts) (ticket : Ticket)
    → file_under (given ++ item_of_event files given event ∷ []) ticket ≡ file_under given ticket
same_under files given (piece t bytes) ticket =
    file_both None given ((item_of_event files given (piece t bytes)) ∷ []) ticket
same_under files given (fault t) ticket = file_both None given ((failed t) ∷ []) ticket

same_asked : (files : List File) (given : List HistoryItem) (event : EventFacts)
    (submissions : List Submission)
    → AreAskedFor given submissions
    → AreAskedFor (given ++ item_of_event files given event ∷ []) submissions
same_asked files given event [] h = tt
same_asked files given event (submission ∷ submissions) (first, others) = (
  rw (
    nothing_asked files given event submission.ticket,
    same_under files given event submission.ticket,
  ) first,
  same_asked files given event submissions others,
)

-- the answer to a submission, by whether its file has the piece
abbrev answer_if : Bool → List ℕ → Ticket → EventFacts
answer_if has text ticket = if has then piece ticket (piece_of text ticket.piece) else fault ticket

if_answered : (files : List File) (given : List HistoryItem) (has : Bool) (text : List ℕ)
    (t ticket : Ticket)
    → times_answered (item_of_event files given (answer_if has text t) ∷ []) ticket
    ≡ (if is_same t ticket then 1 else 0)
if_answered files given true text t ticket = omega arith
if_answered files given false text t ticket = omega arith

if_faithful : (files : List File) (given : List HistoryItem) (submission : Submission) (has : Bool)
    → nat_lt (4096 * submission.ticket.piece)
    (length (file_bytes (slice_index_or files submission.file missing))) ≡ has
    → WasAsked given submission
    → times_answered given submission.ticket < times_asked given submission.ticket
    → IsFaithfulItem files given
    (item_of_event files given
    (answer_if has (file_bytes (slice_index_or files submission.file missing)) submission.ticket))
if_faithful files given submission true e (some, under) fewer =
    let index = submission.ticket.piece in
    let bytes = piece_of (file_bytes (slice_index_or files submission.file missing)) index in (
      fewer,
      λ one. (marks files (file_under given submission.ticket) index bytes).1
          (subst (λ (file : Option ℕ). IsPieceOf files file index bytes) (sym (under one)) refl),
    )
if_faithful files given submission false e (some, under) fewer =
    let index = submission.ticket.piece in (
      fewer,
      λ one has.
          not_from_Decides
          (nat_lt (4096 * index)
          (length (file_bytes (slice_index_or files submission.file missing))))
          (Decides-ltb (4096 * index)
          (length (file_bytes (slice_index_or files submission.file missing)))) e
          (subst (λ (file : Option ℕ). HasPiece files file index) (under one) has),
    )

-- ---- after an answer

-- the ticket of a submission has an answer to come
still : (front back : List Submission) (submission : Submission)
    → 1 ≤ count_of (front ++ submission ∷ back) submission.ticket
still front back submission =
    rw (count_append front (submission ∷ back) submission.ticket, is_same_self submission.ticket)
    (omega arith)

pub kept_answer : (files : List File) (front back : List Submission) (given : List HistoryItem)
    (submission : Submission) → IsLedgerKept files (front ++ submission ∷ back) given
    → IsLedgerKept files (front ++ back)
    (given ++ item_of_event files given (answer_to files submission) ∷ [])
kept_answer files front back given submission kept =
    let text = file_bytes (slice_index_or files submission.file missing) in
    let has = nat_lt (4096 * submission.ticket.piece) (length text) in
    let item : HistoryItem = item_of_event files given (answer_to files submission) in
    let apart : AreAskedFor given front × AreAskedFor given (submission ∷ back) =
    asked_apart given front (submission ∷ back) kept.asked_for in
    let fewer : times_answered given submission.ticket < times_asked given submission.ticket =
    omega (arith, kept.counts submission.ticket, still front back submission) in
    record {
      faithful =
          faithful_more files [] given item kept.faithful
          (if_faithful files given submission has refl apart.1.0 fewer);
      counts =
          λ ticket.
          omega (
            arith,
            kept.counts ticket,
            answered_both given (item ∷ []) ticket,
            if_answered files given has text submission.ticket ticket,
            nothing_asked files given (answer_to files submission) ticket,
            count_append front (submission ∷ back) ticket,
            count_append front back ticket,
          );
      asked_for =
          same_asked files given (answer_to files submission) (front ++ back)
          (asked_append given front back apart.0 apart.1.1);
    }

pub kept_nothing : (files : List File) (given : List HistoryItem) → IsLedgerKept files [] given
    → IsLedgerKept files [] (given ++ nothing ∷ [])
kept_nothing files given kept = record {
  faithful =
      faithful_more files [] given nothing kept.faithful
      (λ ticket. omega (arith, kept.counts ticket));
  counts =
      λ ticket.
      omega (
        arith,
        kept.counts ticket,
        answered_both given (nothing ∷ []) ticket,
        asked_both given (nothing ∷ []) ticket,
      );
  asked_for = tt;
}

-- ---- after what a store answers next

pub place_within : (order : Order) (first : Submission) (others : List Submission)
    → next_place order (first ∷ others) < length (first ∷ others)
place_within Forward first others = omega arith
place_within Reverse first others = omega arith
