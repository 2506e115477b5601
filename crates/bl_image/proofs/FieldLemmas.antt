-- Fields that came one after the other, and what is left to be judged after them.
use Rattle.std.proofs.Common.{◌≡◌, ◌+◌, ◌≤◌, ◌<◌, ◌^◌, ℕ, Bool, true, false, List, [], ◌∷◌, ◌++◌}
use Rattle.std.proofs.Common.{length, Option, Some, refl, sym, ap, ◌∙◌, subst, arith, append_assoc}
use Rattle.std.proofs.Common.{length-append}
use Rattle.std.specs.Prelude.{nat_lt}
use Rattle.std.proofs.lemmas.List.{append-nil, take_at, drop_at}
use Rattle.std.proofs.lemmas.Bool.{le-ltb}
use Rattle.std.proofs.lemmas.Bool.Decides.{nat_tests}
use Rattle.bl_mem.specs.LittleEndian.{u32_at, u64_at, u32_bytes, u64_bytes}
use Rattle.bl_mem.proofs.LittleEndianLaws.{u32_again, u64_again}
use Rattle.bl_image.specs.declared.fault.ImageFault.{ImageFault}
use Rattle.bl_image.specs.declared.fault.ImageFault.TheVariants.{BadMagic, BadVersion, BadHeader}
use Rattle.bl_image.specs.declared.fault.ImageFault.TheVariants.{BadPart, WrongLength, DeviceFault}
use Rattle.bl_image.specs.declared.fault.ImageFault.TheVariants.{NoMemory}
use Rattle.bl_image.specs.Fields.{Field, u32_field, u64_field, fields_fault}
use Rattle.bl_image.specs.SourceFacts.{SourceFacts, Comes, IsPossibleRest, ShowsFault, IsInputFault}
use Rattle.bl_image.specs.internal.SourceReading.{EndsEarly, IsCut, Passes}
use Rattle.bl_image.proofs.Inputs.{comes_nothing, comes_more}

-- a number is what its bytes spell
pub u32_alone : (n : ℕ) → n < 2 ^ 32 → u32_at (u32_bytes n) 0 ≡ n
u32_alone n fits =
    ap (λ (bytes : List ℕ). u32_at bytes 0) (sym (append-nil (u32_bytes n))) ∙ u32_again n [] fits

pub u64_alone : (n : ℕ) → n < 2 ^ 64 → u64_at (u64_bytes n) 0 ≡ n
u64_alone n fits =
    ap (λ (bytes : List ℕ). u64_at bytes 0) (sym (append-nil (u64_bytes n))) ∙ u64_again n [] fits

pub word_tells : (test : ℕ → Bool) (fault : ImageFault) (n : ℕ) (answer : Bool) → n < 2 ^ 32
    → test n ≡ answer → (u32_field test fault).passes (u32_bytes n) ≡ answer
word_tells test fault n answer fits e = ap test (u32_alone n fits) ∙ e

pub long_tells : (test : ℕ → Bool) (fault : ImageFault) (n : ℕ) (answer : Bool) → n < 2 ^ 64
    → test n ≡ answer → (u64_field test fault).passes (u64_bytes n) ≡ answer
long_tells test fault n answer fits e = ap test (u64_alone n fits) ∙ e

not_short : (a x : List ℕ) (n : ℕ) → length a ≡ n → nat_lt (length (a ++ x)) n ≡ false
not_short a x n e = let size = length-append a x in le-ltb (length (a ++ x)) n (omega arith)

-- a field that passes leaves the others to be judged
pub field_passes : (field : Field) (fields : List Field) (a x : List ℕ) → length a ≡ field.size
    → field.passes a ≡ true → fields_fault (field ∷ fields) (a ++ x) ≡ fields_fault fields x
field_passes field fields a x size passes =
    rw (
      not_short a x field.size size,
      take_at a x field.size size,
      drop_at a x field.size size,
      passes,
    ) refl

-- and one that doesn't is the first fault
pub field_fails : (field : Field) (fields : List Field) (a x : List ℕ) → length a ≡ field.size
    → field.passes a ≡ false → fields_fault (field ∷ fields) (a ++ x) ≡ Some field.fault
field_fails field fields a x size fails =
    rw (not_short a x field.size size, take_at a x field.size size, fails) refl

-- and so is one that is cut
pub field_short : (field : Field) (fields : List Field) (bytes : List ℕ) → length bytes < field.size
    → fields_fault (field ∷ fields) bytes ≡ Some WrongLength
field_short field fields bytes short =
    let e : nat_lt (length bytes) field.size ≡ true = grind (arith, nat_tests) in rw e refl

-- what shows a fault refuses
pub shown : (fault_in : List ℕ → Option ImageFault) (old new : SourceFacts) (fault : ImageFault)
    → ShowsFault fault_in old new fault → IsInputFault fault_in old new fault
shown fault_in old new BadMagic s = s
shown fault_in old new BadVersion s = s
shown fault_in old new BadHeader s = s
shown fault_in old new (BadPart index) s = s
shown fault_in old new WrongLength s = s
shown fault_in old new DeviceFault s = tt
shown fault_in old new NoMemory s = tt

nothing_follows : (rest : Option (List ℕ)) (bytes : List ℕ) → rest ≡ Some [] → IsPossibleRest rest bytes
    → bytes ≡ []
nothing_follows rest bytes e may =
    let P : Option (List ℕ) → Type 0 = λ r. IsPossibleRest r bytes in subst P e may

ended_shows : (fault_in : List ℕ → Option ImageFault) (old new : SourceFacts) (count : ℕ)
    → ((bytes : List ℕ) → length bytes < count → fault_in bytes ≡ Some WrongLength)
    → EndsEarly old new count → ShowsFault fault_in old new WrongLength
ended_shows fault_in old new count short ends = record {
  came = ends.came;
  comes = ends.comes;
  shown = λ bytes may.
      ap (λ (l : List ℕ). fault_in (ends.came ++ l)) (nothing_follows new.rest bytes ends.ended may)
      ∙ ap fault_in (append-nil ends.came)
      ∙ short ends.came ends.short;
}

-- an input that ended too early is refused where fewer bytes have the wrong length
pub cut_refuses : (fault_in : List ℕ → Option ImageFault) (old new : SourceFacts) (count : ℕ)
    (fault : ImageFault)
    → ((bytes : List ℕ) → length bytes < count → fault_in bytes ≡ Some WrongLength)
    → IsCut old new count fault → IsInputFault fault_in old new fault
cut_refuses fault_in old new count BadMagic short h = absurd h
cut_refuses fault_in old new count BadVersion short h = absurd h
cut_refuses fault_in old new count BadHeader short h = absurd h
cut_refuses fault_in old new count (BadPart index) short h = absurd h
cut_refuses fault_in old new count WrongLength short h = ended_shows fault_in old new count short h
cut_refuses fault_in old new count DeviceFault short h = tt
cut_refuses fault_in old new count NoMemory short h = tt

-- the same for a field
pub field_cut : (field : Field) (fields : List Field) (old new : SourceFacts) (fault : ImageFault)
    → IsCut old new field.size fault → IsInputFault (fields_fault (field ∷ fields)) old new fault
field_cut field fields old new fault h =
    cut_refuses (fields_fault (field ∷ fields)) old new field.size fault
    (λ bytes short. field_short field fields bytes short) h

-- a field that came and fails
pub field_shows : (field : Field) (fields : List Field) (old new : SourceFacts) (a : List ℕ)
    → Comes old new a → length a ≡ field.size → field.passes a ≡ false
    → ShowsFault (fields_fault (field ∷ fields)) old new field.fault
field_shows field fields old new a comes size fails = record {
  came = a;
  comes = comes;
  shown = λ bytes may. field_fails field fields a bytes size fails;
}

-- what came so far has no fault, and leaves what follows to be judged in another way
pub record Passed (fault_in : List ℕ → Option ImageFault) (old now : SourceFacts)
    (left : List ℕ → Option ImageFault) : Type 0 where
  pub done : List ℕ
  pub comes : Comes old now done
  pub on : (bytes : List ℕ) → fault_in (done ++ bytes) ≡ left bytes

pub passed_none : (fault_in : List ℕ → Option ImageFault) (old : SourceFacts)
    → Passed fault_in old old fault_in
passed_none fault_in old = record { done = []; comes = comes_nothing old; on = λ bytes. refl }

pub passed_more : {fault_in left rest : List ℕ → Option ImageFault} {old mid new : SourceFacts}
    (a : List ℕ) → Passed fault_in old mid left → Comes mid new a
    → ((bytes : List ℕ) → left (a ++ bytes) ≡ rest bytes) → Passed fault_in old new rest
passed_more {fault_in = fault_in} a p comes on = record {
  done = p.done ++ a;
  comes = comes_more p.comes comes;
  on = λ bytes. ap fault_in (append_assoc p.done a bytes) ∙ p.on (a ++ bytes) ∙ on bytes;
}

pub passed_field : {fault_in : List ℕ → Option ImageFault} {old mid new : SourceFacts} (field : Field)
    (fields : List Field) (a : List ℕ) → Passed fault_in old mid (fields_fault (field ∷ fields))
    → Passes field mid new a → Passed fault_in old new (fields_fault fields)
passed_field field fields a p passes =
    passed_more a p passes.comes
    (λ bytes. field_passes field fields a bytes passes.size passes.passes)

passed_shows : {fault_in left : List ℕ → Option ImageFault} {old mid new : SourceFacts}
    {fault : ImageFault} → Passed fault_in old mid left → ShowsFault left mid new fault
    → ShowsFault fault_in old new fault
passed_shows {fault_in = fault_in} p s = record {
  came = p.done ++ s.came;
  comes = comes_more p.comes s.comes;
  shown =
      λ bytes may.
      ap fault_in (append_assoc p.done s.came bytes) ∙ p.on (s.came ++ bytes)
      ∙ s.shown bytes may;
}

-- what is refused after it is refused
pub passed_refuses : {fault_in left : List ℕ → Option ImageFault} {old mid : SourceFacts}
    → Passed fault_in old mid left → (new : SourceFacts) (fault : ImageFault) → IsInputFault left mid new fault
    → IsInputFault fault_in old new fault
passed_refuses p new BadMagic s = passed_shows p s
passed_refuses p new BadVersion s = passed_shows p s
passed_refuses p new BadHeader s = passed_shows p s
passed_refuses p new (BadPart index) s = passed_shows p s
passed_refuses p new WrongLength s = passed_shows p s
passed_refuses p new DeviceFault s = tt
passed_refuses p new NoMemory s = tt

-- fewer bytes came than one piece needs, so fewer than all need
pub cut_behind : {old mid : SourceFacts} {a : List ℕ} (n count : ℕ) → Comes old mid a
    → length a + n ≤ count → (new : SourceFacts) (fault : ImageFault) → IsCut mid new n fault
    → IsCut old new count fault
cut_behind n count comes few new BadMagic h = absurd h
cut_behind n count comes few new BadVersion h = absurd h
cut_behind n count comes few new BadHeader h = absurd h
cut_behind n count comes few new (BadPart index) h = absurd h
cut_behind {a = a} n count comes few new WrongLength h =
    let size = length-append a h.came in
    let short : length h.came < n = h.short in
    record {
      came = a ++ h.came;
      comes = comes_more comes h.comes;
      short = omega arith;
      ended = h.ended;
    }
cut_behind n count comes few new DeviceFault h = tt
cut_behind n count comes few new NoMemory h = tt
