-- What must have held where reading gave a value.
use Rattle.std.proofs.Common.{◌≡◌, ℕ, Bool, true, false, Option, Some, None, Result, Ok, Err, refl}
use Rattle.std.proofs.Common.{option_map, is_some, cond, ◌⊎◌, inl, inr}
use Rattle.std.specs.Prelude.{option_and_then}
use Rattle.bl_mbi.specs.declared.fault.InfoFault.{InfoFault}
use Rattle.bl_mbi.specs.ReadingSteps.{◌>>=◌, or_bad}

-- a check that was passed
pub passed : {A : Type 0} (b : Bool) (e : InfoFault) (x : Result A InfoFault) (y : A)
    → cond b (Err e) x ≡ Ok y → (b ≡ false) × (x ≡ Ok y)
passed true e x y h = absurd (cc)
passed false e x y h = (refl, h)

pub passed_last : {A : Type 0} (b : Bool) (x : Result A InfoFault) (e : InfoFault) (y : A)
    → cond b x (Err e) ≡ Ok y → (b ≡ true) × (x ≡ Ok y)
passed_last true x e y h = (refl, h)
passed_last false x e y h = absurd (cc)

pub passed_some : {A : Type 0} (b : Bool) (x : Option A) (y : A) → cond b None x ≡ Some y
    → (b ≡ false) × (x ≡ Some y)
passed_some true x y h = absurd (cc)
passed_some false x y h = (refl, h)

pub is_none : {E : Type 0} (x : Option E) → is_some x ≡ false → x ≡ None
is_none (Some e) h = absurd (cc)
is_none None h = refl

-- one of two
pub chosen : {A : Type 0} (b : Bool) (x y : A) (r : A) → cond b x y ≡ r → (x ≡ r) ⊎ (y ≡ r)
chosen true x y r h = inl h
chosen false x y r h = inr h

-- a step that was made
pub made : {A B : Type 0} (x : Result A InfoFault) (f : A → Result B InfoFault) (y : B)
    → (x >>= f) ≡ Ok y → (a : A) × (x ≡ Ok a) × (f a ≡ Ok y)
made (Ok a) f y h = (a, refl, h)
made (Err e) f y h = absurd (cc)

pub not_bad : {A : Type 0} (at : ℕ) (x : Option A) (y : A) → or_bad at x ≡ Ok y → x ≡ Some y
not_bad at (Some x) y h = cc
not_bad at None y h = absurd (cc)

pub mapped : {A B : Type 0} (f : A → B) (x : Option A) (y : B) → option_map f x ≡ Some y
    → (a : A) × (x ≡ Some a) × (f a ≡ y)
mapped f (Some a) y h = (a, refl, cc)
mapped f None y h = absurd (cc)

pub then : {A B : Type 0} (f : A → Option B) (x : Option A) (y : B) → option_and_then f x ≡ Some y
    → (a : A) × (x ≡ Some a) × (f a ≡ Some y)
then f (Some a) y h = (a, refl, h)
then f None y h = absurd (cc)

pub same_ok : {A : Type 0} (x y : A) → (let r : Result A InfoFault = Ok x in r) ≡ Ok y → x ≡ y
same_ok x y h = cc

pub same_some : {A : Type 0} (x y : A) → Some x ≡ Some y → x ≡ y
same_some x y h = cc
