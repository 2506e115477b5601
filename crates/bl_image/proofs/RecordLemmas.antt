-- Records, one after the other.
use Rattle.std.proofs.Common.{◌≡◌, ◌+◌, ◌≤◌, ◌<◌, ◌^◌, ℕ, suc, true, List, [], ◌∷◌, ◌++◌, length}
use Rattle.std.proofs.Common.{drop, Option, Some, None, refl, ap, ◌∙◌, arith, append_assoc}
use Rattle.std.specs.Prelude.{nat_le, ◌&&◌, Bool}
use Rattle.std.proofs.lemmas.Bool.Decides.{nat_tests}
use Rattle.bl_mem.specs.LittleEndian.{number_at, u64_at, u32_bytes, u64_bytes}
use Rattle.bl_mem.proofs.LittleEndianLaws.{length-u32_bytes, length-u64_bytes, u64_again}
use Rattle.bl_plan.specs.declared.part.Role.{Role}
use Rattle.bl_plan.specs.declared.part.Place.{Place}
use Rattle.bl_plan.specs.RoleNumbers as roles
use Rattle.bl_image.specs.declared.fault.ImageFault.{ImageFault}
use Rattle.bl_image.specs.declared.fault.ImageFault.TheVariants.{BadMagic, BadVersion, BadHeader}
use Rattle.bl_image.specs.declared.fault.ImageFault.TheVariants.{BadPart, WrongLength, DeviceFault}
use Rattle.bl_image.specs.declared.fault.ImageFault.TheVariants.{NoMemory}
use Rattle.bl_load.specs.HandoffFacts.{IsRoleAllowed}
use Rattle.bl_image.specs.Layouts.{max_role}
use Rattle.bl_image.specs.internal.PlaceRecords.{place_record, IsNext}
use Rattle.bl_image.specs.Fields.{Field, fields_fault, record_fields, role_field, index_field}
use Rattle.bl_image.specs.Fields.{address_field, length_field}
use Rattle.bl_image.specs.ImageFaults.{fault_or, record_fault, RecordsBefore, with_record}
use Rattle.bl_image.specs.ImageFaults.{FaultBehind, records_fault}
use Rattle.bl_image.specs.SourceFacts.{SourceFacts, Comes, ShowsFault, IsInputFault}
use Rattle.bl_image.specs.internal.SourceReading.{Passes}
use Rattle.bl_image.proofs.NumbersAgain.{role_fits, role_between}
use Rattle.bl_image.proofs.FieldLemmas.{field_passes, word_tells, long_tells}

-- an index may be anything
pub index_passes : {old new : SourceFacts} (part n : ℕ) → Comes old new (u32_bytes n)
    → Passes (index_field part) old new (u32_bytes n)
unfolding index_field
index_passes part n comes = record { comes = comes; size = length-u32_bytes n; passes = refl }

shows_as : (fault_in other : List ℕ → Option ImageFault) (old new : SourceFacts) (fault : ImageFault)
    → ((bytes : List ℕ) → fault_in bytes ≡ Some fault → other bytes ≡ Some fault)
    → ShowsFault fault_in old new fault → ShowsFault other old new fault
shows_as fault_in other old new fault e s = record {
  came = s.came;
  comes = s.comes;
  shown = λ bytes may. e (s.came ++ bytes) (s.shown bytes may);
}

-- what refuses a beginning refuses the whole
pub refuses_as : (fault_in other : List ℕ → Option ImageFault) (old new : SourceFacts)
    (fault : ImageFault)
    → ((bytes : List ℕ) → fault_in bytes ≡ Some fault → other bytes ≡ Some fault)
    → IsInputFault fault_in old new fault → IsInputFault other old new fault
refuses_as fault_in other old new BadMagic e s = shows_as fault_in other old new BadMagic e s
refuses_as fault_in other old new BadVersion e s = shows_as fault_in other old new BadVersion e s
refuses_as fault_in other old new BadHeader e s = shows_as fault_in other old new BadHeader e s
refuses_as fault_in other old new (BadPart index) e s =
    shows_as fault_in other old new (BadPart index) e s
refuses_as fault_in other old new WrongLength e s = shows_as fault_in other old new WrongLength e s
refuses_as fault_in other old new DeviceFault e s = tt
refuses_as fault_in other old new NoMemory e s = tt

-- a fault in what comes first
pub first_refuses : (fault_in later : List ℕ → Option ImageFault) (old new : SourceFacts)
    (fault : ImageFault) → IsInputFault fault_in old new fault
    → IsInputFault (λ bytes. fault_or (fault_in bytes) (later bytes)) old new fault
first_refuses fault_in later old new fault s =
    refuses_as fault_in (λ bytes. fault_or (fault_in bytes) (later bytes)) old new fault
    (λ bytes e. ap (λ (o : Option ImageFault). fault_or o (later bytes)) e) s

-- a record's fault among the records that are left
pub record_refuses : (behind : FaultBehind) (most n : ℕ) (before : RecordsBefore)
    (old new : SourceFacts) (fault : ImageFault)
    → IsInputFault (record_fault most before.count before.end) old new fault
    → IsInputFault (records_fault behind most (suc n) before) old new fault
record_refuses behind most n before old new fault s =
    first_refuses (record_fault most before.count before.end)
    (λ bytes.
    records_fault behind most n (with_record before (u64_at bytes 8) (u64_at bytes 16))
    (drop 24 bytes))
    old new fault s

pub four_pieces : (a b c x : List ℕ) → ((a ++ b) ++ c) ++ x ≡ a ++ (b ++ (c ++ x))
four_pieces a b c x = simp append_assoc

three_pass : (fa fb fc : Field) (a b c x : List ℕ) → length a ≡ fa.size → fa.passes a ≡ true
    → length b ≡ fb.size → fb.passes b ≡ true → length c ≡ fc.size → fc.passes c ≡ true
    → fields_fault (fa ∷ fb ∷ fc ∷ []) (((a ++ b) ++ c) ++ x) ≡ None
three_pass fa fb fc a b c x la pa lb pb lc pc =
    ap (fields_fault (fa ∷ fb ∷ fc ∷ [])) (four_pieces a b c x)
    ∙ field_passes fa (fb ∷ fc ∷ []) a (b ++ (c ++ x)) la pa
    ∙ field_passes fb (fc ∷ []) b (c ++ x) lb pb
    ∙ field_passes fc [] c x lc pc

-- role, index and address, with what follows
abbrev front : Role → ℕ → ℕ → List ℕ → List ℕ
front role index address x =
    ((u32_bytes (roles.role_number role) ++ u32_bytes index) ++ u64_bytes address) ++ x

front_passes : (wide : Bool) (part before : ℕ) (role : Role) (index address : ℕ) (x : List ℕ)
    → IsRoleAllowed wide role → index < 2 ^ 32 → address < 2 ^ 64 → before ≤ address
    → fields_fault (record_fields (max_role wide) part before) (front role index address x) ≡ None
unfolding role_field index_field address_field
front_passes wide part before role index address x may hi ha above =
    three_pass (role_field (max_role wide) part) (index_field part) (address_field part before)
    (u32_bytes (roles.role_number role)) (u32_bytes index) (u64_bytes address) x
    (length-u32_bytes (roles.role_number role))
    (word_tells (λ k. nat_le 1 k && nat_le k (max_role wide)) (BadPart part)
    (roles.role_number role) true (role_fits role) (role_between wide role may))
    (length-u32_bytes index) refl
    (length-u64_bytes address)
    (long_tells (nat_le before) (BadPart part) address true ha (grind (arith, nat_tests)))

address_stands : (role : Role) (index address : ℕ) (x : List ℕ) → address < 2 ^ 64
    → u64_at (front role index address x) 8 ≡ address
unfolding number_at u32_bytes
address_stands role index address x fits = u64_again address x fits

behind_front : (role : Role) (index address : ℕ) (x : List ℕ)
    → drop 16 (front role index address x) ≡ x
unfolding u32_bytes u64_bytes
behind_front role index address x = refl

-- they leave the length to be judged
pub record_front : (wide : Bool) (part before : ℕ) (role : Role) (index address : ℕ) (x : List ℕ)
    → IsRoleAllowed wide role → index < 2 ^ 32 → address < 2 ^ 64 → before ≤ address
    → record_fault (max_role wide) part before (front role index address x)
    ≡ fields_fault (length_field part address ∷ []) x
record_front wide part before role index address x may hi ha above =
    rw (
      front_passes wide part before role index address x may hi ha above,
      address_stands role index address x ha,
      behind_front role index address x,
    ) refl

pub regroup : (r i a n x : List ℕ) → (r ++ (i ++ (a ++ n))) ++ x ≡ ((r ++ i) ++ a) ++ (n ++ x)
regroup r i a n x = simp append_assoc

record_passes : (wide : Bool) (part before : ℕ) (p : Place) (x : List ℕ) → IsRoleAllowed wide p.role
    → IsNext before p → record_fault (max_role wide) part before (place_record p ++ x) ≡ None
unfolding length_field
record_passes wide part before p x may next =
    let fits : p.address < 2 ^ 64 = omega (arith, next.below) in
    let small : p.length < 2 ^ 64 = omega (arith, next.below) in
    let filled : 1 ≤ p.length = next.filled in
    let below : p.address + p.length ≤ 2 ^ 32 = next.below in
    ap (record_fault (max_role wide) part before)
    (regroup (u32_bytes (roles.role_number p.role)) (u32_bytes p.index) (u64_bytes p.address)
    (u64_bytes p.length) x)
    ∙ record_front wide part before p.role p.index p.address (u64_bytes p.length ++ x) may
    next.index fits next.above
    ∙ field_passes (length_field part p.address) [] (u64_bytes p.length) x
    (length-u64_bytes p.length)
    (long_tells (λ count. nat_le 1 count && nat_le (p.address + count) (2 ^ 32)) (BadPart part)
    p.length true small (grind (arith, nat_tests)))

address_at : (p : Place) (x : List ℕ) → p.address < 2 ^ 64
    → u64_at (place_record p ++ x) 8 ≡ p.address
address_at p x fits =
    ap (λ (l : List ℕ). u64_at l 8)
    (regroup (u32_bytes (roles.role_number p.role)) (u32_bytes p.index) (u64_bytes p.address)
    (u64_bytes p.length) x)
    ∙ address_stands p.role p.index p.address (u64_bytes p.length ++ x) fits

length_at : (p : Place) (x : List ℕ) → p.length < 2 ^ 64
    → u64_at (place_record p ++ x) 16 ≡ p.length
unfolding number_at u32_bytes u64_bytes
length_at p x fits = u64_again p.length x fits

behind_record : (p : Place) (x : List ℕ) → drop 24 (place_record p ++ x) ≡ x
unfolding u32_bytes u64_bytes
behind_record p x = refl

-- one record leaves the others to be judged
pub parts_step : (behind : FaultBehind) (wide : Bool) (n : ℕ) (before : RecordsBefore) (p : Place)
    (x : List ℕ)
    → IsRoleAllowed wide p.role → IsNext before.end p
    → records_fault behind (max_role wide) (suc n) before (place_record p ++ x)
    ≡ records_fault behind (max_role wide) n (with_record before p.address p.length) x
parts_step behind wide n before p x may next =
    let fits : p.address < 2 ^ 64 = omega (arith, next.below) in
    let small : p.length < 2 ^ 64 = omega (arith, next.below) in
    rw (
      record_passes wide before.count before.end p x may next,
      address_at p x fits,
      length_at p x small,
      behind_record p x,
    ) refl
