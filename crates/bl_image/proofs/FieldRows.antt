-- Fields one after the other.
use Rattle.std.proofs.Common.{◌≡◌, ◌+◌, ◌-◌, ◌<◌, ℕ, zero, suc, List, [], ◌∷◌, ◌++◌}
use Rattle.std.proofs.Common.{refl, sym, ap, ◌∙◌, arith, subst, append_assoc}
use Rattle.std.specs.Prelude.{replicate}
use Rattle.bl_image.specs.declared.fault.ImageFault.{ImageFault}
use Rattle.bl_image.specs.Fields.{Field, fields_fault}
use Rattle.bl_image.specs.SourceFacts.{SourceFacts, IsInputFault}
use Rattle.bl_image.specs.internal.SourceReading.{Passes, PassAll}
use Rattle.bl_image.proofs.FieldLemmas.{field_passes, passed_refuses}
use Rattle.bl_image.proofs.Inputs.{comes_nothing, comes_more}

-- these bytes pass these fields, and leave to be judged what follows
abbrev pub Leaves : List Field → List ℕ → Type 0
Leaves fields bytes =
    (others : List Field) (more : List ℕ)
    → fields_fault (fields ++ others) (bytes ++ more) ≡ fields_fault others more

pub leaves_both : (f g : List Field) (a b : List ℕ) → Leaves f a → Leaves g b
    → Leaves (f ++ g) (a ++ b)
leaves_both f g a b first then others more =
    ap (λ (fs : List Field). fields_fault fs ((a ++ b) ++ more)) (append_assoc f g others)
    ∙ ap (fields_fault (f ++ (g ++ others))) (append_assoc a b more)
    ∙ first (g ++ others) (b ++ more) ∙ then others more

pub pass_none : (input : SourceFacts) → PassAll [] input input []
pass_none input = record { comes = comes_nothing input; on = λ others more. refl }

pub pass_both : {old mid new : SourceFacts} (f g : List Field) (a b : List ℕ) → PassAll f old mid a
    → PassAll g mid new b → PassAll (f ++ g) old new (a ++ b)
pass_both f g a b first then =
    record { comes = comes_more first.comes then.comes; on = leaves_both f g a b first.on then.on }

pub pass_one : {old new : SourceFacts} (field : Field) (a : List ℕ) → Passes field old new a
    → PassAll (field ∷ []) old new a
pass_one field a passes = record {
  comes = passes.comes;
  on = λ others more. field_passes field others a more passes.size passes.passes;
}

pub pass_as : {old new : SourceFacts} (f : List Field) (a b : List ℕ) → a ≡ b → PassAll f old new a
    → PassAll f old new b
pass_as {old} {new} f a b same passed =
    subst (λ (l : List ℕ). PassAll f old new l) same passed

-- what is refused behind fields that passed is refused
pub refused_behind : {old mid : SourceFacts} (f g : List Field) (a : List ℕ) → PassAll f old mid a
    → (new : SourceFacts) (fault : ImageFault)
    → ((others : List Field) → IsInputFault (fields_fault (g ++ others)) mid new fault)
    → (others : List Field) → IsInputFault (fields_fault ((f ++ g) ++ others)) old new fault
refused_behind {old} {mid} f g a passed new fault refused others =
    subst (λ (fs : List Field). IsInputFault (fields_fault fs) old new fault)
    (sym (append_assoc f g others))
    (passed_refuses
    record { done = a; comes = passed.comes; on = passed.on (g ++ others) } new fault
    (refused others))

-- and what is refused whatever follows is refused before others
pub refused_before : (old : SourceFacts) (f g : List Field) (new : SourceFacts) (fault : ImageFault)
    → ((others : List Field) → IsInputFault (fields_fault (f ++ others)) old new fault)
    → (others : List Field) → IsInputFault (fields_fault ((f ++ g) ++ others)) old new fault
refused_before old f g new fault refused others =
    subst (λ (fs : List Field). IsInputFault (fields_fault fs) old new fault)
    (sym (append_assoc f g others)) (refused (g ++ others))

-- ---- the same field several times

pub replicate_both : {X : Type 0} (m n : ℕ) (x : X)
    → replicate (m + n) x ≡ replicate m x ++ replicate n x
replicate_both zero n x = ap (λ (k : ℕ). replicate k x) (omega arith)
replicate_both {X} (suc m) n x =
    let next : suc m + n ≡ suc (m + n) = omega arith in
    ap (λ (k : ℕ). replicate k x) next
    ∙ ap (λ (xs : List X). x ∷ xs) (replicate_both m n x)

pub replicate_more : {X : Type 0} (n : ℕ) (x : X) → replicate (n + 1) x ≡ replicate n x ++ x ∷ []
replicate_more n x = replicate_both n 1 x

-- one that is refused after so many of it
pub refused_among : {old mid : SourceFacts} (field : Field) (i n : ℕ) (a : List ℕ) → i < n
    → PassAll (replicate i field) old mid a → (new : SourceFacts) (fault : ImageFault)
    → ((others : List Field) → IsInputFault (fields_fault (field ∷ others)) mid new fault)
    → (others : List Field) → IsInputFault (fields_fault (replicate n field ++ others)) old new fault
refused_among {old} field i n a below passed new fault refused others =
    let rest = n - (i + 1) in
    let is : replicate n field ≡ replicate i field ++ (field ∷ replicate rest field) =
    ap (λ (k : ℕ). replicate k field) (omega (arith, below))
    ∙ replicate_both i (suc rest) field in
    subst (λ (fs : List Field). IsInputFault (fields_fault (fs ++ others)) old new fault) (sym is)
    (refused_behind (replicate i field) (field ∷ replicate rest field) a passed new fault
    (λ more. refused (replicate rest field ++ more)) others)
