-- Each tag that is spelled is read again.
use Rattle.std.proofs.Common.{◌≡◌, ◌<◌, ◌≤◌, ◌+◌, ◌^◌, ℕ, zero, suc, true, false, Option, Some}
use Rattle.std.proofs.Common.{None, List, [], ◌∷◌, ◌++◌, length, Result, Ok, lit<, arith, refl, ap}
use Rattle.std.proofs.Common.{subst, ◌∙◌, append_assoc, length-append, option_map}
use Rattle.std.specs.Prelude.{nat_eq, All, IfSome}
use Rattle.std.specs.List.{flat_map}
use Rattle.std.proofs.lemmas.Bool.Decides.{nat_tests}
use Rattle.std.proofs.lemmas.List.{append-nil}
use Rattle.std.proofs.lemmas.List.Elements.{All-head, All-tail}
use Rattle.bl_mbi.specs.declared.fault.InfoFault.{InfoFault}
use Rattle.bl_mbi.specs.declared.tag_types.TheConstants.{TAG_MODULE, TAG_END}
use Rattle.bl_mbi.specs.InfoToWriteFacts.{ModuleInfo, IsModule}
use Rattle.bl_mbi.specs.Tags.{tag, tag_if, module_body, module_tag}
use Rattle.bl_mbi.specs.Bodies.{module_of}
use Rattle.bl_mbi.specs.FirmwareBodies.{copy_of}
use Rattle.bl_mbi.specs.ReadingSteps.{◌>>=◌, RestFacts, is_next, next_info_tag, required_at}
use Rattle.bl_mbi.specs.ReadingSteps.{optional_at}
use Rattle.bl_mbi.specs.Reading.{modules_upto, modules_at, end_at}
use Rattle.bl_mbi.proofs.Sizes.{length-tag, length-module_tag}
use Rattle.bl_mbi.proofs.ModuleLemmas.{no_more, one_more}
use Rattle.bl_mbi.proofs.TagLaws.{tag_again, next_tag}
use Rattle.bl_mbi.proofs.BodyLaws.{module_again}

-- the bytes that are left from an offset on, and what is left after a piece of them
abbrev pub from : ℕ → List ℕ → RestFacts
from at bytes = record { at = at; bytes = bytes }

abbrev pub past : ℕ → List ℕ → List ℕ → RestFacts
past at piece rest = from (at + length piece) rest

-- ---- a tag that must stand, and one that may be missing

pub required_again : {A : Type 0} (kind at : ℕ) (of_body : List ℕ → Option A) (body rest : List ℕ)
    (told : A) → kind < 2 ^ 32 → length (tag kind body) < 2 ^ 32 → of_body body ≡ Some told
    → required_at kind of_body (from at (tag kind body ++ rest))
    ≡ Ok (told, past at (tag kind body) rest)
unfolding required_at
required_again kind at of_body body rest told kind_fits fits tells =
    rw (tag_again kind at body rest kind_fits (omega (arith, length-tag kind body)), tells) refl

pub given_again : {A : Type 0} (kind at : ℕ) (of_body : List ℕ → Option A) (body rest : List ℕ)
    (told : A) → kind < 2 ^ 32 → length (tag kind body) < 2 ^ 32 → of_body body ≡ Some told
    → optional_at kind of_body (from at (tag kind body ++ rest))
    ≡ Ok (Some told, past at (tag kind body) rest)
unfolding optional_at
given_again kind at of_body body rest told kind_fits fits tells =
    let same : nat_eq kind kind ≡ true = grind (arith, nat_tests) in
    let next : is_next kind (from at (tag kind body ++ rest)) ≡ true =
    next_tag kind kind at body rest kind_fits ∙ same in
    rw (
      next,
      tag_again kind at body rest kind_fits (omega (arith, length-tag kind body)),
      tells,
    ) refl

pub missing_again : {A : Type 0} (kind at : ℕ) (of_body : List ℕ → Option A) (rest : List ℕ)
    → is_next kind (from at rest) ≡ false
    → optional_at kind of_body (from at rest) ≡ Ok (None, past at [] rest)
unfolding optional_at
missing_again kind at of_body rest last =
    let here : at ≡ at + 0 = omega arith in
    rw last (ap (λ (there : ℕ). Ok (None, from there rest)) here)

-- the body tells these facts, or both are missing
abbrev pub Tells : {A : Type 0} → (List ℕ → Option A) → Option (List ℕ) → Option A → Type 0
Tells of_body None None = Unit {0}
Tells of_body (Some body) (Some told) = of_body body ≡ Some told
Tells of_body body told = ⊥

pub tells_by : {A : Type 0} (P : A → Type 0) (of_body : List ℕ → Option A) (body_of : A → List ℕ)
    (told : Option A) → ((x : A) → P x → of_body (body_of x) ≡ Some x) → IfSome told P
    → Tells of_body (option_map body_of told) told
tells_by P of_body body_of None again is = tt
tells_by P of_body body_of (Some x) again is = again x is

pub tells_copy : (copy : Option (List ℕ)) → Tells copy_of copy copy
tells_copy None = tt
tells_copy (Some copy) = refl

-- none of these types is next
abbrev pub NoneUpTo : ℕ → List ℕ → Type 0
NoneUpTo kind rest = (k : ℕ) → 1 ≤ k → k ≤ kind → is_next k (from 0 rest) ≡ false

pub optional_again : {A : Type 0} (kind at : ℕ) (of_body : List ℕ → Option A)
    (body : Option (List ℕ)) (rest : List ℕ) (told : Option A) → 1 ≤ kind → kind < 2 ^ 32
    → length (tag_if kind body) < 2 ^ 32 → Tells of_body body told → NoneUpTo kind rest
    → optional_at kind of_body (from at (tag_if kind body ++ rest))
    ≡ Ok (told, past at (tag_if kind body) rest)
optional_again kind at of_body None rest None low kind_fits fits tells none =
    missing_again kind at of_body rest (none kind low (omega arith))
optional_again kind at of_body (Some body) rest (Some told) low kind_fits fits tells none =
    given_again kind at of_body body rest told kind_fits fits tells
optional_again kind at of_body None rest (Some told) low kind_fits fits tells none = absurd tells
optional_again kind at of_body (Some body) rest None low kind_fits fits tells none = absurd tells

next_end : (kind at : ℕ) → is_next kind (from at (tag TAG_END [])) ≡ nat_eq 0 kind
next_end kind at =
    let P : List ℕ → Type 0 = λ bytes. is_next kind (from at bytes) ≡ nat_eq 0 kind in
    subst P (append-nil (tag TAG_END [])) (next_tag kind TAG_END at [] [] (lit< tt))

other_type : (k other : ℕ) → k < other → nat_eq other k ≡ false
other_type k other less = grind (arith, nat_tests)

type_0 : (k : ℕ) → 1 ≤ k → nat_eq 0 k ≡ false
type_0 k low = grind (arith, nat_tests)

pub none_at_end : (kind : ℕ) → NoneUpTo kind (tag TAG_END [])
none_at_end kind = λ k low high. next_end k 0 ∙ type_0 k low

-- types ascend
pub none_before : (kind other : ℕ) (body : Option (List ℕ)) (rest : List ℕ) → kind < other
    → other < 2 ^ 32 → NoneUpTo other rest → NoneUpTo kind (tag_if other body ++ rest)
none_before kind other None rest less fits none = λ k low high. none k low (omega arith)
none_before kind other (Some body) rest less fits none = λ k low high.
    next_tag k other 0 body rest fits ∙ other_type k other (omega arith)

-- ---- modules

module_at_again : (at : ℕ) (m : ModuleInfo) (rest : List ℕ) → length (module_tag m) < 2 ^ 32
    → IsModule m
    → required_at TAG_MODULE module_of (from at (module_tag m ++ rest))
    ≡ Ok (m, past at (module_tag m) rest)
module_at_again at m rest fits is =
    required_again TAG_MODULE at module_of (module_body m) rest m (lit< tt) fits (module_again m is)

-- no module follows these modules
modules_upto_again : (n at : ℕ) (ms : List ModuleInfo) (rest : List ℕ) → length ms ≤ n
    → length (flat_map module_tag ms) < 2 ^ 32 → All IsModule ms
    → ((there : ℕ) → is_next TAG_MODULE (from there rest) ≡ false)
    → modules_upto n (from at (flat_map module_tag ms ++ rest))
    ≡ Ok (ms, past at (flat_map module_tag ms) rest)
modules_upto_again n at [] rest enough fits are last =
    no_more n (from at rest) (last at) ∙ ap (λ (there : ℕ). Ok ([], from there rest)) (omega arith)
modules_upto_again zero at (m ∷ ms) rest enough fits are last = absurd (omega arith)
modules_upto_again (suc n) at (m ∷ ms) rest enough fits are last =
    let more = flat_map module_tag ms in
    let there = at + length (module_tag m) in
    let all : (module_tag m ++ more) ++ rest ≡ module_tag m ++ (more ++ rest) =
    append_assoc (module_tag m) more rest in
    let len = length-append (module_tag m) more in
    let one = length-module_tag m in
    let next : is_next TAG_MODULE (from at (module_tag m ++ (more ++ rest))) ≡ true =
    next_tag TAG_MODULE TAG_MODULE at (module_body m) (more ++ rest) (lit< tt) in
    let here : required_at TAG_MODULE module_of (from at (module_tag m ++ (more ++ rest)))
    ≡ Ok (m, from there (more ++ rest)) =
    module_at_again at m (more ++ rest) (omega (arith, len, one))
    (All-head IsModule m ms are) in
    let rest_of : modules_upto n (from there (more ++ rest)) ≡ Ok (ms, past there more rest) =
    modules_upto_again n there ms rest (omega arith) (omega (arith, len))
    (All-tail IsModule m ms are) last in
    ap (λ (bytes : List ℕ). modules_upto (suc n) (from at bytes)) all
    ∙ one_more n (from at (module_tag m ++ (more ++ rest))) (from there (more ++ rest)) m next here
    ∙ ap
    (λ (read : Result (List ModuleInfo × RestFacts) InfoFault).
    read >>= (λ after. Ok (m ∷ after.0, after.1))) rest_of
    ∙ ap (λ (k : ℕ). Ok (m ∷ ms, from k rest)) (omega (arith, len))

modules_long : (ms : List ModuleInfo) → length ms ≤ length (flat_map module_tag ms)
modules_long [] = omega arith
modules_long (m ∷ ms) =
    omega (
      arith,
      modules_long ms,
      length-append (module_tag m) (flat_map module_tag ms),
      length-module_tag m,
    )

pub modules_at_again : (at : ℕ) (ms : List ModuleInfo) (rest : List ℕ)
    → length (flat_map module_tag ms) < 2 ^ 32 → All IsModule ms
    → ((there : ℕ) → is_next TAG_MODULE (from there rest) ≡ false)
    → modules_at (from at (flat_map module_tag ms ++ rest))
    ≡ Ok (ms, past at (flat_map module_tag ms) rest)
unfolding modules_at
modules_at_again at ms rest fits are last =
    modules_upto_again (length (flat_map module_tag ms ++ rest)) at ms rest
    (omega (arith, modules_long ms, length-append (flat_map module_tag ms) rest)) fits are last

-- ---- the end

pub end_at_again : (at : ℕ) → end_at (from at (tag TAG_END [])) ≡ Ok tt
unfolding end_at
end_at_again at =
    let P : List ℕ → Type 0 = λ bytes. next_info_tag TAG_END (from at bytes)
    ≡ Ok ([], past at (tag TAG_END []) []) in
    let here : next_info_tag TAG_END (from at (tag TAG_END []))
    ≡ Ok ([], past at (tag TAG_END []) []) =
    subst P (append-nil (tag TAG_END [])) (tag_again TAG_END at [] [] (lit< tt) (lit< tt)) in
    rw here refl
