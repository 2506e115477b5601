-- The registers of an image, field by field.
use Rattle.std.proofs.Common.{◌≡◌, ◌*◌, ◌≤◌, ◌<◌, ℕ, zero, suc, true, false, List, [], ◌∷◌, ◌++◌}
use Rattle.std.proofs.Common.{length, take, drop, Option, Some, None, inl, inr, refl, sym, ap, ◌∙◌}
use Rattle.std.proofs.Common.{arith, append_assoc}
use Rattle.std.specs.Prelude.{replicate}
use Rattle.std.proofs.lemmas.Bool.{cases_lt}
use Rattle.std.proofs.lemmas.List.{take-append-drop, length-take-le, length-drop, drop-drop}
use Rattle.std.specs.List.{flat_map}
use Rattle.bl_mem.specs.LittleEndian.{u32_bytes, u64_bytes}
use Rattle.bl_plan.specs.declared.protocol.Protocol.{Protocol}
use Rattle.bl_plan.specs.declared.protocol.Protocol.TheVariants.{Multiboot2, Linux, Linux64}
use Rattle.bl_plan.specs.Protocols.{protocol_number}
use Rattle.bl_load.specs.declared.registers.Registers32.{Registers32}
use Rattle.bl_load.specs.declared.registers64.Registers64.{Registers64}
use Rattle.bl_load.specs.declared.registers.Registers.{Registers}
use Rattle.bl_load.specs.declared.registers.Registers.TheVariants.{Bits32, Bits64}
use Rattle.bl_image.specs.declared.fault.ImageFault.{ImageFault}
use Rattle.bl_image.specs.declared.fault.ImageFault.TheVariants.{WrongLength}
use Rattle.bl_image.specs.declared.version.Version.{Version}
use Rattle.bl_image.specs.declared.version.Version.TheVariants.{One, Two}
use Rattle.bl_image.specs.Fields.{Field, fields_fault, register_field, wide_register_field}
use Rattle.bl_image.specs.Image.{narrow_values, wide_values, spelled_registers}
use Rattle.bl_image.specs.Layouts.{layout, registers_1, registers_2_wide}
use Rattle.bl_image.specs.SourceFacts.{SourceFacts}
use Rattle.bl_image.specs.internal.SourceReading.{PassAll}
use Rattle.bl_image.specs.Spellable.{AreRegistersOf}
use Rattle.bl_image.specs.Versions.{version_number, HasProtocol}
use Rattle.bl_image.proofs.FieldLemmas.{field_passes, field_short, Passed, passed_more}
use Rattle.bl_image.proofs.FieldRows.{Leaves}
use Rattle.bl_image.proofs.NoFaultLemmas.{field_none}
use Rattle.bl_image.proofs.NumberLemmas.{length-u32s, length-u64s}
use Rattle.bl_image.proofs.WideLemmas.{wide_pass}

-- a field that may be anything
abbrev pub IsAny : Field → Type 0
IsAny field = (bytes : List ℕ) → field.passes bytes ≡ true

pub register_any : IsAny register_field
unfolding register_field
register_any bytes = refl

pub wide_any : IsAny wide_register_field
unfolding wide_register_field
wide_any bytes = refl

-- so many of a field, and others behind them
abbrev pub any_fields : Field → ℕ → List Field → List Field
any_fields field n others = replicate n field ++ others

any_pass : (field : Field) → IsAny field → (n : ℕ) (others : List Field) (a x : List ℕ)
    → length a ≡ field.size * n
    → fields_fault (any_fields field n others) (a ++ x) ≡ fields_fault others x
any_pass field any zero others [] x size = refl
any_pass field any zero others (b ∷ a) x size = absurd (omega arith)
any_pass field any (suc n) others a x size =
    let long : field.size ≤ length a = omega arith in
    let shorter = length-drop field.size a in
    ap (fields_fault (any_fields field (suc n) others))
    (ap (λ (l : List ℕ). l ++ x) (sym (take-append-drop field.size a))
    ∙ append_assoc (take field.size a) (drop field.size a) x)
    ∙ field_passes field (any_fields field n others) (take field.size a) (drop field.size a ++ x)
    (length-take-le field.size a long) (any (take field.size a))
    ∙ any_pass field any n others (drop field.size a) x (omega arith)

-- too few bytes for them
pub any_short : (field : Field) → IsAny field → (n : ℕ) (others : List Field) (bytes : List ℕ)
    → length bytes < field.size * n
    → fields_fault (any_fields field n others) bytes ≡ Some WrongLength
any_short field any zero others bytes short = absurd (omega arith)
any_short field any (suc n) others bytes short =
    elim (cases_lt (length bytes) field.size) [
      | inl few ↦ field_short field (any_fields field n others) bytes few
      | inr long ↦
          (let shorter = length-drop field.size bytes in
          ap (fields_fault (any_fields field (suc n) others))
          (sym (take-append-drop field.size bytes))
          ∙ field_passes field (any_fields field n others) (take field.size bytes)
          (drop field.size bytes) (length-take-le field.size bytes long)
          (any (take field.size bytes))
          ∙ any_short field any n others (drop field.size bytes) (omega arith))
    ]

-- bytes in which they have no fault
pub any_none : (field : Field) (n : ℕ) (others : List Field) (bytes : List ℕ)
    → fields_fault (any_fields field n others) bytes ≡ None
    → (field.size * n ≤ length bytes) × (fields_fault others (drop (field.size * n) bytes) ≡ None)
any_none field zero others bytes none =
    let nothing : field.size * zero ≡ 0 = omega arith in
    (omega arith, ap (λ (k : ℕ). fields_fault others (drop k bytes)) nothing ∙ none)
any_none field (suc n) others bytes none =
    let here = field_none field (any_fields field n others) bytes none in
    let rest = any_none field n others (drop field.size bytes) here.rest in
    let shorter = length-drop field.size bytes in
    let long : field.size ≤ length bytes = here.long in (
      omega (arith, rest.0),
      ap (λ (k : ℕ). fields_fault others (drop k bytes)) (omega arith)
          ∙ ap (fields_fault others) (sym (drop-drop (field.size * n) field.size bytes)) ∙ rest.1,
    )

-- registers of 32 bits pass the fields of version 1
pub narrow_pass : (r : Registers32) → Leaves registers_1 (spelled_registers One (Bits32 r))
unfolding registers_1 register_field
narrow_pass r others x =
    any_pass register_field register_any 20 others (flat_map u32_bytes (narrow_values r)) x
    (length-u32s (narrow_values r))

-- and those of 64 bits the fields of version 2 under such a protocol
pub full_pass : (r : Registers64) → Leaves registers_2_wide (spelled_registers Two (Bits64 r))
unfolding registers_2_wide wide_register_field
full_pass r others x =
    any_pass wide_register_field wide_any 31 others (flat_map u64_bytes (wide_values (Bits64 r))) x
    (length-u64s (wide_values (Bits64 r)))

-- the registers of an image pass their fields
pub registers_pass : (v : Version) (p : Protocol) (r : Registers) → HasProtocol v p
    → AreRegistersOf p r
    → Leaves (layout (version_number v) (protocol_number p)).registers (spelled_registers v r)
registers_pass One p (Bits32 r) has fit = narrow_pass r
registers_pass One p (Bits64 r) has fit = let both : true ≡ false = fit.0 ∙ has in cc
registers_pass Two Multiboot2 (Bits32 r) has fit = wide_pass r fit.1
registers_pass Two Multiboot2 (Bits64 r) has fit = let both : true ≡ false = fit.0 in cc
registers_pass Two Linux (Bits32 r) has fit = wide_pass r fit.1
registers_pass Two Linux (Bits64 r) has fit = let both : true ≡ false = fit.0 in cc
registers_pass Two Linux64 (Bits32 r) has fit = let both : false ≡ true = fit.0 in cc
registers_pass Two Linux64 (Bits64 r) has fit = full_pass r

-- fields that came leave the others to be judged
pub passed_all : {fault_in : List ℕ → Option ImageFault} {old mid new : SourceFacts}
    (fields others : List Field) (a : List ℕ)
    → Passed fault_in old mid (fields_fault (fields ++ others)) → PassAll fields mid new a
    → Passed fault_in old new (fields_fault others)
passed_all fields others a p passes = passed_more a p passes.comes (passes.on others)
