-- Tickets, and what a list of items says of one.
use Rattle.std.proofs.Common.{◌≡◌, ℕ, ◌+◌, ◌==◌, ◌&&◌, Bool, true, false, if◌then◌else◌, List, []}
use Rattle.std.proofs.Common.{◌∷◌, ◌++◌, Option, Some, refl, ap, ◌∙◌, arith}
use Rattle.std.proofs.lemmas.Bool.Decides.{nat_tests}
use Rattle.bl_store.specs.declared.ticket.Ticket.{Ticket}
use Rattle.bl_store.specs.History.{HistoryItem, submitted, came, failed, nothing, is_same}
use Rattle.bl_store.specs.History.{last_submitted_file}
use Rattle.bl_store.specs.Faithful.{times_asked, times_answered}

-- ---- tickets

pub both : (a b : Bool) → (a && b) ≡ true → (a ≡ true) × (b ≡ true)
both true b e = (refl, e)
both false b e = absurd cc

pub same_fields : (s t : Ticket) → is_same s t ≡ true
    → (s.attempt ≡ t.attempt) × (s.file ≡ t.file) × (s.piece ≡ t.piece)
same_fields s t e =
    let first = both (s.attempt == t.attempt) ((s.file == t.file) && (s.piece == t.piece)) e in
    let second = both (s.file == t.file) (s.piece == t.piece) first.1 in
    let a = first.0 in
    let f = second.0 in
    let p = second.1 in
    (grind (arith, nat_tests), grind (arith, nat_tests), grind (arith, nat_tests))

pub same_ticket : (s t : Ticket) → is_same s t ≡ true → s ≡ t
same_ticket s t e =
    let fields = same_fields s t e in
    parts s.attempt t.attempt s.file t.file s.piece t.piece fields.0 fields.1 fields.2
  where
    made : (attempt file piece : ℕ) → Ticket
    made attempt file piece = record { attempt = attempt; file = file; piece = piece }

    parts : (a b f g p q : ℕ) → a ≡ b → f ≡ g → p ≡ q → made a f p ≡ made b g q
    parts a b f g p q x y z = rw (x, y, z) refl

pub is_same_self : (t : Ticket) → is_same t t ≡ true
is_same_self t =
    let a : (t.attempt == t.attempt) ≡ true = grind (arith, nat_tests) in
    let f : (t.file == t.file) ≡ true = grind (arith, nat_tests) in
    let p : (t.piece == t.piece) ≡ true = grind (arith, nat_tests) in
    rw (a, f, p) refl

pub other_ticket : (s t : Ticket) → ¬ (is_same s t ≡ true) → is_same s t ≡ false
other_ticket s t differs = decided (is_same s t) differs
  where
    decided : (b : Bool) → ¬ (b ≡ true) → b ≡ false
    decided true differs = absurd (differs refl)
    decided false differs = refl

-- ---- a ticket in a list of items

abbrev pub IsUntouched : List HistoryItem → Ticket → Type 0
IsUntouched items t =
    (times_asked items t ≡ 0) × (times_answered items t ≡ 0)
    × ((found : Option ℕ) → last_submitted_file found items t ≡ found)

abbrev pub IsAskedOnce : ℕ → List HistoryItem → Ticket → Type 0
IsAskedOnce file items t =
    (times_asked items t ≡ 1) × (times_answered items t ≡ 0)
    × ((found : Option ℕ) → last_submitted_file found items t ≡ Some file)

pub asked_both : (xs ys : List HistoryItem) (t : Ticket) → times_asked (xs ++ ys) t
    ≡ times_asked xs t + times_asked ys t
asked_both [] ys t = omega arith
asked_both (submitted file s ∷ xs) ys t = let more = asked_both xs ys t in omega arith
asked_both (came s count genuine ∷ xs) ys t = asked_both xs ys t
asked_both (failed s ∷ xs) ys t = asked_both xs ys t
asked_both (nothing ∷ xs) ys t = asked_both xs ys t

pub answered_both : (xs ys : List HistoryItem) (t : Ticket)
    → times_answered (xs ++ ys) t ≡ times_answered xs t + times_answered ys t
answered_both [] ys t = omega arith
answered_both (submitted file s ∷ xs) ys t = answered_both xs ys t
answered_both (came s count genuine ∷ xs) ys t = let more = answered_both xs ys t in omega arith
answered_both (failed s ∷ xs) ys t = let more = answered_both xs ys t in omega arith
answered_both (nothing ∷ xs) ys t = answered_both xs ys t

pub file_both : (found : Option ℕ) (xs ys : List HistoryItem) (t : Ticket)
    → last_submitted_file found (xs ++ ys) t
    ≡ last_submitted_file (last_submitted_file found xs t) ys t
file_both found [] ys t = refl
file_both found (submitted file s ∷ xs) ys t =
    file_both (if is_same s t then Some file else found) xs ys t
file_both found (came s count genuine ∷ xs) ys t = file_both found xs ys t
file_both found (failed s ∷ xs) ys t = file_both found xs ys t
file_both found (nothing ∷ xs) ys t = file_both found xs ys t

pub untouched_both : (xs ys : List HistoryItem) (t : Ticket) → IsUntouched xs t → IsUntouched ys t
    → IsUntouched (xs ++ ys) t
untouched_both xs ys t (a, b, f) (c, d, g) = (
  (let e = asked_both xs ys t in omega arith),
  (let e = answered_both xs ys t in omega arith),
  λ found. file_both found xs ys t ∙ ap (λ (x : Option ℕ). last_submitted_file x ys t) (f found)
      ∙ g found,
)

pub once_first : (file : ℕ) (xs ys : List HistoryItem) (t : Ticket) → IsAskedOnce file xs t
    → IsUntouched ys t → IsAskedOnce file (xs ++ ys) t
once_first file xs ys t (a, b, f) (c, d, g) = (
  (let e = asked_both xs ys t in omega arith),
  (let e = answered_both xs ys t in omega arith),
  λ found. file_both found xs ys t ∙ g (last_submitted_file found xs t) ∙ f found,
)

pub once_last : (file : ℕ) (xs ys : List HistoryItem) (t : Ticket) → IsUntouched xs t
    → IsAskedOnce file ys t → IsAskedOnce file (xs ++ ys) t
once_last file xs ys t (a, b, f) (c, d, g) = (
  (let e = asked_both xs ys t in omega arith),
  (let e = answered_both xs ys t in omega arith),
  λ found. file_both found xs ys t ∙ g (last_submitted_file found xs t),
)
