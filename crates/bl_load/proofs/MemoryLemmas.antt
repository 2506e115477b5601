-- What calls of memory keep, one after the other.
use Rattle.std.proofs.Common.{◌≡◌, ◌∙◌, ℕ, List, length, refl, rules, arith}
use Rattle.std.proofs.lemmas.List.{same_lists, places}
use Rattle.bl_mem.specs.Memory.{overwrite, KeepsSizeAndRoom}

-- no byte is written
pub writes_none : (m : List ℕ) (at : ℕ) (part : List ℕ) → length part ≡ 0 → m ≡ overwrite m at part
writes_none m at part none =
    same_lists _ _ (search (rules, places)) (λ k d within. grind (arith, places))

-- no call keeps all
pub keeps_all : {M : Type 0} {lender : M → ℕ} {bytes : M → List ℕ} {room : M → ℕ → Type 0} {old : M}
    → KeepsSizeAndRoom lender bytes room old old
keeps_all = record { lender = refl; size = refl; room = λ a had. had }

-- a further call keeps what those before it kept
pub keeps_on : {M : Type 0} {lender : M → ℕ} {bytes : M → List ℕ} {room : M → ℕ → Type 0}
    {old middle new : M} → KeepsSizeAndRoom lender bytes room old middle
    → KeepsSizeAndRoom lender bytes room middle new → KeepsSizeAndRoom lender bytes room old new
keeps_on before further =
    record {
      lender = further.lender ∙ before.lender;
      size = further.size ∙ before.size;
      room = λ a had. further.room a (before.room a had);
    }
