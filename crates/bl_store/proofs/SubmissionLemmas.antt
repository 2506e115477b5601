-- A store's history and the submissions that are still to be answered, as it is asked.
use Rattle.std.proofs.Common.{◌≡◌, ◌↔◌, ℕ, ◌+◌, ◌≤◌, ◌==◌, ◌&&◌, Bool, true, false, if◌then◌else◌}
use Rattle.std.proofs.Common.{List, [], ◌∷◌, ◌++◌, Option, None, Some, refl, sym, subst, rules}
use Rattle.std.proofs.Common.{arith, append_assoc}
use Rattle.std.proofs.lemmas.List.{append-nil}
use Rattle.std.specs.Bool.{Decides}
use Rattle.std.proofs.lemmas.Bool.Decides.{Decides-like, Decides-and, Decides-eqb}
use Rattle.std.specs.Prelude.{slice_index_or}
use Rattle.bl_stage.specs.PieceStates.{piece_of}
use Rattle.bl_stage.specs.Files.{File, missing, file_bytes}
use Rattle.bl_store.specs.declared.ticket.Ticket.{Ticket}
use Rattle.bl_store.specs.declared.store.Completion.{Completion}
use Rattle.bl_store.specs.declared.store.Completion.TheVariants.{Piece, Fault}
use Rattle.bl_store.specs.declared.submission.Submission.{Submission}
use Rattle.bl_store.specs.History.{HistoryItem, submitted, is_same, file_under, IsPieceOf}
use Rattle.bl_store.specs.History.{IsItemOfAnswer}
use Rattle.bl_store.specs.Faithful.{times_asked, IsFaithfulItem, IsFaithfulAfter}
use Rattle.bl_store.specs.Stores.{are_equal, is_piece_of}
use Rattle.bl_store.specs.internal.LedgerCounts.{count_of, WasAsked}
use Rattle.bl_store.specs.Stores.{item_of_completion}
use Rattle.bl_store.specs.internal.LedgerCounts.{AreAskedFor}
use Rattle.bl_store.specs.internal.LedgerCounts.{IsLedgerKept}
use Rattle.bl_store.proofs.TicketLemmas.{is_same_self, asked_both, answered_both}
use Rattle.bl_store.proofs.TicketLemmas.{file_both}

-- ---- the mark of an answer

equal_decides : (xs ys : List ℕ) → Decides (are_equal xs ys) (xs ≡ ys)
equal_decides [] [] = (λ h. refl, λ h. refl)
equal_decides [] (y ∷ ys) = (λ h. cc, λ h. cc)
equal_decides (x ∷ xs) [] = (λ h. cc, λ h. cc)
equal_decides (x ∷ xs) (y ∷ ys) =
    Decides-like ((x == y) && are_equal xs ys)
    (λ (h : (x ≡ y) × (xs ≡ ys)). let e : x ≡ y = h.0 in let f : xs ≡ ys = h.1 in cc)
    (λ (h : x ∷ xs ≡ y ∷ ys). let e : x ≡ y = cc in let f : xs ≡ ys = cc in (e, f))
    (Decides-and (x == y) (are_equal xs ys) (Decides-eqb x y) (equal_decides xs ys))

pub marks : (files : List File) (found : Option ℕ) (index : ℕ) (bytes : List ℕ)
    → (is_piece_of files found index bytes ≡ true) ↔ IsPieceOf files found index bytes
marks files None index bytes = (λ h. cc, λ h. absurd h)
marks files (Some file) index bytes =
    equal_decides bytes (piece_of (file_bytes (slice_index_or files file missing)) index)

pub item_is : {A : Type 0} (files : List File) (given : List HistoryItem)
    (answer : Option (Completion A))
    → IsItemOfAnswer files given answer (item_of_completion files given answer)
item_is files given None = refl
item_is files given (Some (Fault ticket)) = refl
item_is files given (Some (Piece ticket bytes)) = (
  is_piece_of files (file_under given ticket) ticket.piece bytes.items,
  refl,
  marks files (file_under given ticket) ticket.piece bytes.items,
)

-- ---- one item more

pub faithful_more : (files : List File) (given items : List HistoryItem) (item : HistoryItem)
    → IsFaithfulAfter files given items → IsFaithfulItem files (given ++ items) item
    → IsFaithfulAfter files given (items ++ item ∷ [])
faithful_more files given [] item old new =
    (subst (λ (g : List HistoryItem). IsFaithfulItem files g item) (append-nil given) new, tt)
faithful_more files given (x ∷ items) item old new = (
  old.0,
  faithful_more files (given ++ x ∷ []) items item old.1
      (subst (λ (g : List HistoryItem). IsFaithfulItem files g item)
      (sym (append_assoc given (x ∷ []) items)) new),
)

-- ---- submissions

pub count_append : (front back : List Submission) (ticket : Ticket)
    → count_of (front ++ back) ticket ≡ count_of front ticket + count_of back ticket
count_append [] back ticket = search rules
count_append (submission ∷ front) back ticket = rw (count_append front back ticket) (omega arith)

-- one submission more was asked for
one_case : (b : Bool) (n : ℕ) (old new : Option ℕ) (file : ℕ) → 1 ≤ n → (n ≡ 1 → old ≡ Some file)
    → (1 ≤ n + ((if b then 1 else 0) + 0))
    × (n + ((if b then 1 else 0) + 0) ≡ 1 → (if b then new else old) ≡ Some file)
one_case true n old new file some under = (omega arith, λ e. absurd (omega arith))
one_case false n old new file some under = (omega arith, λ e. under (omega arith))

one_asked : (given : List HistoryItem) (new submission : Submission) → WasAsked given submission
    → WasAsked (given ++ submitted new.file new.ticket ∷ []) submission
one_asked given new submission (some, under) =
    let item : HistoryItem = submitted new.file new.ticket in
    rw (
      asked_both given (item ∷ []) submission.ticket,
      file_both None given (item ∷ []) submission.ticket,
    )
    (one_case (is_same new.ticket submission.ticket) (times_asked given submission.ticket)
    (file_under given submission.ticket) (Some new.file) submission.file some under)

all_asked : (given : List HistoryItem) (new : Submission) (submissions : List Submission)
    → AreAskedFor given submissions
    → AreAskedFor (given ++ submitted new.file new.ticket ∷ []) submissions
all_asked given new [] asked_for = tt
all_asked given new (submission ∷ submissions) (first, others) =
    (one_asked given new submission first, all_asked given new submissions others)

pub asked_append : (given : List HistoryItem) (front back : List Submission)
    → AreAskedFor given front
    → AreAskedFor given back → AreAskedFor given (front ++ back)
asked_append given [] back f b = b
asked_append given (submission ∷ front) back (first, f) b =
    (first, asked_append given front back f b)

pub asked_apart : (given : List HistoryItem) (front back : List Submission)
    → AreAskedFor given (front ++ back)
    → AreAskedFor given front × AreAskedFor given back
asked_apart given [] back h = (tt, h)
asked_apart given (submission ∷ front) back (first, h) =
    let apart : AreAskedFor given front × AreAskedFor given back =
    asked_apart given front back h in ((first, apart.0), apart.1)

-- the new submission itself
new_asked : (given : List HistoryItem) (new : Submission)
    → WasAsked (given ++ submitted new.file new.ticket ∷ []) new
new_asked given new =
    let item : HistoryItem = submitted new.file new.ticket in
    rw (
      asked_both given (item ∷ []) new.ticket,
      file_both None given (item ∷ []) new.ticket,
      is_same_self new.ticket,
    ) (omega arith, λ e. refl)

-- ---- what a store keeps

pub kept_submission : (files : List File) (pending : List Submission) (given : List HistoryItem)
    (new : Submission)
    → IsLedgerKept files pending given
    → IsLedgerKept files (pending ++ new ∷ []) (given ++ submitted new.file new.ticket ∷ [])
kept_submission files pending given new kept = record {
  faithful = faithful_more files [] given (submitted new.file new.ticket) kept.faithful tt;
  counts =
      λ ticket.
      rw (
        answered_both given ((submitted new.file new.ticket) ∷ []) ticket,
        asked_both given ((submitted new.file new.ticket) ∷ []) ticket,
        count_append pending (new ∷ []) ticket,
      ) (omega (arith, kept.counts ticket));
  asked_for =
      asked_append (given ++ submitted new.file new.ticket ∷ []) pending (new ∷ [])
      (all_asked given new pending kept.asked_for) (new_asked given new, tt);
}
