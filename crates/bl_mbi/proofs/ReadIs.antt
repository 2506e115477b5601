-- Tags that are read are spelled so.
use Rattle.std.proofs.Common.{◌≡◌, ℕ, zero, suc, Option, Some, None, List, [], ◌∷◌, ◌++◌, length}
use Rattle.std.proofs.Common.{Ok, arith, refl, sym, ap, ap₂, ◌∙◌, append_assoc, inl, inr}
use Rattle.std.proofs.Common.{length-append, option_map}
use Rattle.std.specs.Prelude.{nat_eq, not, All, IfSome}
use Rattle.std.specs.List.{flat_map}
use Rattle.std.proofs.lemmas.Bool.{not-false}
use Rattle.std.proofs.lemmas.Bool.Decides.{nat_tests}
use Rattle.std.proofs.lemmas.List.{drop_all, append-nil}
use Rattle.std.proofs.lemmas.List.Elements.{All-nil, All-cons}
use Rattle.bl_mbi.specs.declared.tag_types.TheConstants.{TAG_MODULE, TAG_END}
use Rattle.bl_mbi.specs.InfoToWriteFacts.{ModuleInfo, IsModule, AreBytes}
use Rattle.bl_mbi.specs.Tags.{tag, tag_if, module_body, module_tag}
use Rattle.bl_mbi.specs.Bodies.{module_of}
use Rattle.bl_mbi.specs.ReadingSteps.{RestFacts, is_next, next_info_tag, or_bad, required_at}
use Rattle.bl_mbi.specs.ReadingSteps.{optional_at}
use Rattle.bl_mbi.specs.Reading.{modules_upto, modules_at, end_at}
use Rattle.bl_mbi.proofs.Inverse.{passed, passed_last, made, not_bad, chosen, same_ok}
use Rattle.bl_mbi.proofs.TagIs.{IsRead, tag_is, empty_tag_is}
use Rattle.bl_mbi.proofs.BodyIs.{module_is}

-- nothing was read
pub nothing_read : (left : RestFacts) → AreBytes left.bytes → IsRead left [] left
nothing_read left small = record { bytes = λ _. refl; small = small }

-- one piece after another
pub both_read : (l0 l1 l2 : RestFacts) (a b : List ℕ) → IsRead l0 a l1 → IsRead l1 b l2
    → IsRead l0 (a ++ b) l2
both_read l0 l1 l2 a b first second =
    record {
      bytes = λ more.
          let after = second.bytes more in
          let len = length-append b l2.bytes in
          first.bytes (omega (arith, more, len, ap length after))
          ∙ ap (λ (xs : List ℕ). a ++ xs) after ∙ sym (append_assoc a b l2.bytes);
      small = second.small;
    }

-- ---- a tag that must stand, and one that may be missing

-- what such bodies tell is spelled so, and within its limits
abbrev pub IsInverse : {A : Type 0} → (A → Type 0) → (List ℕ → Option A) → (A → List ℕ) → Type 0
IsInverse {A = A} P of_body body_of =
    (body : List ℕ) (told : A) → AreBytes body → of_body body ≡ Some told
    → (body ≡ body_of told) × P told

pub required_is : {A : Type 0} (P : A → Type 0) (kind : ℕ) (of_body : List ℕ → Option A)
    (body_of : A → List ℕ) (left : RestFacts) (read : A × RestFacts)
    → IsInverse P of_body body_of → AreBytes left.bytes → required_at kind of_body left ≡ Ok read
    → IsRead left (tag kind (body_of read.0)) read.1 × P read.0
unfolding required_at
required_is P kind of_body body_of left read inverse small h =
    let s1 = made (next_info_tag kind left) _ read h in
    let s2 = made (or_bad left.at (of_body s1.0.0)) _ read s1.2 in
    let whole = tag_is kind left s1.0 small s1.1 in
    let told = inverse s1.0.0 s2.0 whole.1 (not_bad left.at _ _ s2.1) in
    let is : IsRead left (tag kind (body_of s2.0)) s1.0.1 × P s2.0 =
    (rw (← told.0) whole.0, told.1) in
    rw (← same_ok (s2.0, s1.0.1) read s2.2) is

pub optional_is : {A : Type 0} (P : A → Type 0) (kind : ℕ) (of_body : List ℕ → Option A)
    (body_of : A → List ℕ) (left : RestFacts) (read : Option A × RestFacts)
    → IsInverse P of_body body_of → AreBytes left.bytes → optional_at kind of_body left ≡ Ok read
    → IsRead left (tag_if kind (option_map body_of read.0)) read.1 × IfSome read.0 P
unfolding optional_at
optional_is {A = A} P kind of_body body_of left read inverse small h =
    let choice = chosen (not (is_next kind left)) _ _ (Ok read) h in
    elim choice [
      | inl none ↦
          let missing : Option A = None in
          let is : IsRead left (tag_if kind (option_map body_of missing)) left × IfSome missing P =
          (nothing_read left small, tt) in
          rw (← same_ok (missing, left) read none) is
      | inr some ↦
          let s1 = made (next_info_tag kind left) _ read some in
          let s2 = made (or_bad left.at (of_body s1.0.0)) _ read s1.2 in
          let whole = tag_is kind left s1.0 small s1.1 in
          let told = inverse s1.0.0 s2.0 whole.1 (not_bad left.at _ _ s2.1) in
          let is : IsRead left (tag_if kind (option_map body_of (Some s2.0))) s1.0.1
          × IfSome (Some s2.0) P = (rw (← told.0) whole.0, told.1) in
          rw (← same_ok (Some s2.0, s1.0.1) read s2.2) is
    ]

-- ---- modules

-- no modules, and nothing read
no_modules : (left : RestFacts) (read : List ModuleInfo × RestFacts) → AreBytes left.bytes
    → ([], left) ≡ read → IsRead left (flat_map module_tag read.0) read.1 × All IsModule read.0
no_modules left read small e =
    let is : IsRead left (flat_map module_tag []) left × All IsModule [] =
    (nothing_read left small, All-nil IsModule) in
    rw (← e) is

modules_upto_are : (n : ℕ) (left : RestFacts) (read : List ModuleInfo × RestFacts)
    → AreBytes left.bytes → modules_upto n left ≡ Ok read
    → IsRead left (flat_map module_tag read.0) read.1 × All IsModule read.0
modules_upto_are zero left read small h = no_modules left read small (same_ok _ read h)
modules_upto_are (suc n) left read small h =
    let choice = chosen (not (is_next TAG_MODULE left)) _ _ (Ok read) h in
    elim choice [
      | inl none ↦ no_modules left read small (same_ok ([], left) read none)
      | inr some ↦
          let s1 = made (required_at TAG_MODULE module_of left) _ read some in
          let s2 = made (modules_upto n s1.0.1) _ read s1.2 in
          let one =
          required_is IsModule TAG_MODULE module_of module_body left s1.0 module_is small s1.1 in
          let more = modules_upto_are n s1.0.1 s2.0 one.0.small s2.1 in
          let is : IsRead left (flat_map module_tag (s1.0.0 ∷ s2.0.0)) s2.0.1
          × All IsModule (s1.0.0 ∷ s2.0.0) = (
            both_read left s1.0.1 s2.0.1 (module_tag s1.0.0) (flat_map module_tag s2.0.0)
                one.0 more.0,
            All-cons IsModule s1.0.0 s2.0.0 one.1 more.1,
          ) in
          rw (← same_ok (s1.0.0 ∷ s2.0.0, s2.0.1) read s2.2) is
    ]

pub modules_at_are : (left : RestFacts) (read : List ModuleInfo × RestFacts) → AreBytes left.bytes
    → modules_at left ≡ Ok read
    → IsRead left (flat_map module_tag read.0) read.1 × All IsModule read.0
unfolding modules_at
modules_at_are left read small h = modules_upto_are (length left.bytes) left read small h

-- ---- the end

pub end_at_is : (left : RestFacts) → AreBytes left.bytes → end_at left ≡ Ok tt → left.bytes ≡ tag TAG_END []
unfolding end_at
end_at_is left small h =
    let s1 = made (next_info_tag TAG_END left) _ tt h in
    let s2 = passed (not (nat_eq (length s1.0.0) 0)) _ _ tt s1.2 in
    let s3 = passed_last (nat_eq (length s1.0.1.bytes) 0) _ _ tt s2.1 in
    let empty : length s1.0.0 ≡ 0 = grind (arith, nat_tests, not-false _ s2.0) in
    let no_body : s1.0.0 ≡ [] = drop_all 0 s1.0.0 (omega arith) in
    let no_rest : s1.0.1.bytes ≡ [] = drop_all 0 s1.0.1.bytes (grind (arith, nat_tests, s3.0)) in
    empty_tag_is TAG_END left s1.0 small s1.1 empty
    ∙ ap₂ (λ (body rest : List ℕ). tag TAG_END body ++ rest) no_body no_rest
    ∙ append-nil (tag TAG_END [])
