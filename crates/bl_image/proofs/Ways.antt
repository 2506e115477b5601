-- Bytes that are taken piece after piece.
use Rattle.std.proofs.Common.{◌≡◌, ℕ, List, [], ◌++◌, Result, Ok, Err, OnErr, refl, sym, ap, ◌∙◌}
use Rattle.std.proofs.Common.{subst, append_assoc}
use Rattle.std.proofs.lemmas.List.{append-nil}
use Rattle.bl_image.specs.SinkFacts.{TookBeginning}

-- of these bytes all but the rest was taken
pub record IsOnWay (old now rest whole : List ℕ) : Type 0 where
  pub done : List ℕ
  pub now_is : now ≡ old ++ done
  pub whole_is : whole ≡ done ++ rest

-- nothing was taken yet
pub way_begins : (old whole : List ℕ) → IsOnWay old old whole whole
way_begins old whole = record { done = []; now_is = sym (append-nil old); whole_is = refl }

-- the next piece was taken
pub way_goes_on : {old mid new rest whole : List ℕ} (piece : List ℕ)
    → IsOnWay old mid (piece ++ rest) whole → new ≡ mid ++ piece → IsOnWay old new rest whole
way_goes_on {old = old} {rest = rest} piece w e = record {
  done = w.done ++ piece;
  now_is = e ∙ ap (λ (taken : List ℕ). taken ++ piece) w.now_is ∙ append_assoc old w.done piece;
  whole_is = w.whole_is ∙ sym (append_assoc w.done piece rest);
}

-- a beginning of the next piece was taken
pub way_stops : {old mid new piece whole : List ℕ} (rest : List ℕ)
    → IsOnWay old mid (piece ++ rest) whole → TookBeginning mid new piece → TookBeginning old new whole
way_stops {old = old} rest w b = record {
  begun = w.done ++ b.begun;
  rest = b.rest ++ rest;
  whole_is =
      w.whole_is
      ∙ ap (λ (piece : List ℕ). w.done ++ (piece ++ rest)) b.whole_is
      ∙ ap (λ (left : List ℕ). w.done ++ left) (append_assoc b.begun b.rest rest)
      ∙ sym (append_assoc w.done b.begun (b.rest ++ rest));
  new_is =
      b.new_is ∙ ap (λ (taken : List ℕ). taken ++ b.begun) w.now_is
      ∙ append_assoc old w.done b.begun;
}

-- nothing is left
pub way_ends : {old now whole : List ℕ} → IsOnWay old now [] whole → now ≡ old ++ whole
way_ends {old = old} w =
    w.now_is ∙ ap (λ (taken : List ℕ). old ++ taken) (sym (append-nil w.done) ∙ sym w.whole_is)

-- what is left, written in another way
pub way_as : {old now rest other whole : List ℕ} → rest ≡ other → IsOnWay old now rest whole
    → IsOnWay old now other whole
way_as {old = old} {now = now} {whole = whole} e w =
    subst (λ (left : List ℕ). IsOnWay old now left whole) e w

-- what holds holds of an error
pub on_err : {T E : Type 0} (r : Result T E) {P : Type 0} → P → OnErr r P
on_err (Ok x) p = tt
on_err (Err e) p = p
