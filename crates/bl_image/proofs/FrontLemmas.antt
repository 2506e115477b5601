-- A whole head, and what stands behind it.
use Rattle.std.proofs.Common.{◌≡◌, ◌≤◌, ◌<◌, ◌^◌, ℕ, true, false, List, [], ◌∷◌, ◌++◌, drop, None}
use Rattle.std.proofs.Common.{refl, sym, ap, ◌∙◌, arith, append_assoc, lit<}
use Rattle.std.specs.Prelude.{nat_le, ◌==◌}
use Rattle.std.proofs.lemmas.Bool.Decides.{nat_tests}
use Rattle.bl_mem.specs.LittleEndian.{number_at, u32_at, u32_bytes, u64_bytes}
use Rattle.bl_mem.proofs.LittleEndianLaws.{length-u32_bytes, u32_again}
use Rattle.bl_plan.specs.declared.protocol.Protocol.{Protocol}
use Rattle.bl_plan.specs.declared.protocol.Protocol.TheVariants.{Multiboot2, Linux, Linux64}
use Rattle.bl_plan.specs.Protocols.{protocol_number}
use Rattle.bl_load.specs.Protocols.{is_wide}
use Rattle.bl_load.specs.Registers.{are_wide}
use Rattle.bl_load.specs.declared.registers.Registers.{Registers}
use Rattle.bl_load.specs.declared.registers.Registers.TheVariants.{Bits32, Bits64}
use Rattle.bl_image.specs.declared.fault.ImageFault.{ImageFault}
use Rattle.bl_image.specs.declared.fault.ImageFault.TheVariants.{BadHeader}
use Rattle.bl_image.specs.declared.version.Version.{Version}
use Rattle.bl_image.specs.declared.version.Version.TheVariants.{One, Two}
use Rattle.bl_image.specs.Image.{magic, head, spelled_registers}
use Rattle.bl_image.specs.Fields.{fields_fault}
use Rattle.bl_image.specs.Fields.{count_field, zero_field}
use Rattle.bl_image.specs.ImageFaults.{FaultBehind, fault_with, head_fault, image_fault}
use Rattle.bl_image.specs.ImageFaults.{records_fault, parts_behind, no_records}
use Rattle.bl_image.specs.Layouts.{Layout, layout, layout_of, max_role}
use Rattle.bl_image.specs.SourceFacts.{SourceFacts, IsInputFault}
use Rattle.bl_image.specs.Spellable.{AreRegistersOf}
use Rattle.bl_image.specs.Versions.{version_number, HasProtocol}
use Rattle.bl_image.proofs.FieldLemmas.{field_passes, word_tells}
use Rattle.bl_image.proofs.RecordLemmas.{first_refuses}
use Rattle.bl_image.proofs.RegisterLemmas.{registers_pass}
use Rattle.bl_image.proofs.HeadLemmas.{opened, told}

six_pieces : (a b c d e f : List ℕ)
    → ((((a ++ b) ++ c) ++ d) ++ e) ++ f ≡ a ++ (b ++ (c ++ (d ++ (e ++ f))))
six_pieces a b c d e f = simp append_assoc

-- the fields of the head, one after the other
pub head_is : (v : Version) (p : Protocol) (r : Registers) (count : ℕ)
    → ((((magic ++ u32_bytes (version_number v)) ++ u32_bytes (protocol_number p))
    ++ spelled_registers v r) ++ u32_bytes count) ++ u32_bytes 0
    ≡ head v p r count
head_is v p r count =
    six_pieces magic (u32_bytes (version_number v)) (u32_bytes (protocol_number p))
    (spelled_registers v r) (u32_bytes count) (u32_bytes 0)

split_head : (a b c d e f x : List ℕ)
    → (a ++ (b ++ (c ++ (d ++ (e ++ f))))) ++ x ≡ (a ++ b) ++ (c ++ (d ++ (e ++ (f ++ x))))
split_head a b c d e f x = simp append_assoc

counted : (count : ℕ) (x : List ℕ) → count ≤ 256
    → fields_fault (count_field ∷ zero_field ∷ []) (u32_bytes count ++ (u32_bytes 0 ++ x)) ≡ None
unfolding count_field zero_field
counted count x few =
    field_passes count_field (zero_field ∷ []) (u32_bytes count) (u32_bytes 0 ++ x)
    (length-u32_bytes count)
    (word_tells (λ k. nat_le k 256) BadHeader count true (omega arith) (grind (arith, nat_tests)))
    ∙ field_passes zero_field [] (u32_bytes 0) x (length-u32_bytes 0)
    (word_tells (λ k. k == 0) BadHeader 0 true (lit< tt) refl)

-- a head has no fault
head_passes : (v : Version) (p : Protocol) (r : Registers) (count : ℕ) (x : List ℕ)
    → HasProtocol v p → AreRegistersOf p r → count ≤ 256 → head_fault (head v p r count ++ x) ≡ None
head_passes v p r count x has fit few =
    let n = version_number v in
    let m = protocol_number p in
    let rest : List ℕ = u32_bytes count ++ (u32_bytes 0 ++ x) in
    ap head_fault
    (split_head magic (u32_bytes n) (u32_bytes m) (spelled_registers v r) (u32_bytes count)
    (u32_bytes 0) x)
    ∙ opened v (u32_bytes m ++ (spelled_registers v r ++ rest))
    ∙ told v p has (spelled_registers v r ++ rest)
    ∙ registers_pass v p r has fit (count_field ∷ zero_field ∷ []) rest
    ∙ counted count x few

-- the layout is that of the version and the protocol
version_stands : (v : Version) (p : Protocol) (r : Registers) (count : ℕ) (x : List ℕ)
    → u32_at (head v p r count ++ x) 8 ≡ version_number v
unfolding number_at u32_bytes
version_stands One p r count x = refl
version_stands Two p r count x = refl

protocol_stands : (v : Version) (p : Protocol) (r : Registers) (count : ℕ) (x : List ℕ)
    → u32_at (head v p r count ++ x) 12 ≡ protocol_number p
unfolding number_at u32_bytes
protocol_stands v Multiboot2 r count x = refl
protocol_stands v Linux r count x = refl
protocol_stands v Linux64 r count x = refl

layout_told : (v : Version) (p : Protocol) (r : Registers) (count : ℕ) (x : List ℕ)
    → layout_of (head v p r count ++ x) ≡ layout (version_number v) (protocol_number p)
layout_told v p r count x =
    ap (λ (n : ℕ). layout n (u32_at (head v p r count ++ x) 12)) (version_stands v p r count x)
    ∙ ap (layout (version_number v)) (protocol_stands v p r count x)

-- its greatest number of a role
max_role_told : (v : Version) (p : Protocol) → HasProtocol v p
    → (layout (version_number v) (protocol_number p)).max_role ≡ max_role (is_wide p)
max_role_told One p has = sym (ap max_role has)
max_role_told Two Multiboot2 has = refl
max_role_told Two Linux has = refl
max_role_told Two Linux64 has = refl

-- in version 2 the number of parts and the records stand at the same places under each protocol
counted_at : (p : Protocol) → (layout 2 (protocol_number p)).count_at ≡ 264
counted_at Multiboot2 = refl
counted_at Linux = refl
counted_at Linux64 = refl

recorded_at : (p : Protocol) → (layout 2 (protocol_number p)).records_at ≡ 272
recorded_at Multiboot2 = refl
recorded_at Linux = refl
recorded_at Linux64 = refl

-- the number of parts stands where the layout says, and so do the records
count_stands : (v : Version) (p : Protocol) (r : Registers) (count : ℕ) (x : List ℕ)
    → HasProtocol v p → are_wide r ≡ is_wide p → count < 2 ^ 32
    → u32_at (head v p r count ++ x) (layout (version_number v) (protocol_number p)).count_at
    ≡ count
unfolding number_at u32_bytes u64_bytes
count_stands One p (Bits32 r) count x has width fits = u32_again count (u32_bytes 0 ++ x) fits
count_stands One p (Bits64 r) count x has width fits = let both : true ≡ false = width ∙ has in cc
count_stands Two p (Bits32 r) count x has width fits =
    ap (u32_at (head Two p (Bits32 r) count ++ x)) (counted_at p)
    ∙ u32_again count (u32_bytes 0 ++ x) fits
count_stands Two p (Bits64 r) count x has width fits =
    ap (u32_at (head Two p (Bits64 r) count ++ x)) (counted_at p)
    ∙ u32_again count (u32_bytes 0 ++ x) fits

behind_head : (v : Version) (p : Protocol) (r : Registers) (count : ℕ) (x : List ℕ)
    → HasProtocol v p → are_wide r ≡ is_wide p
    → drop (layout (version_number v) (protocol_number p)).records_at (head v p r count ++ x) ≡ x
unfolding u32_bytes u64_bytes
behind_head One p (Bits32 r) count x has width = refl
behind_head One p (Bits64 r) count x has width = let both : true ≡ false = width ∙ has in cc
behind_head Two p (Bits32 r) count x has width =
    ap (λ (at : ℕ). drop at (head Two p (Bits32 r) count ++ x)) (recorded_at p)
behind_head Two p (Bits64 r) count x has width =
    ap (λ (at : ℕ). drop at (head Two p (Bits64 r) count ++ x)) (recorded_at p)

front_by : (behind : FaultBehind) (bytes x : List ℕ) (count : ℕ) → head_fault bytes ≡ None
    → u32_at bytes (layout_of bytes).count_at ≡ count
    → drop (layout_of bytes).records_at bytes ≡ x
    → fault_with behind bytes ≡ records_fault behind (layout_of bytes).max_role count no_records x
front_by behind bytes x count sound stands is = rw (sound, stands, is) refl

-- so it leaves the records to be judged
pub head_leaves : (behind : FaultBehind) (v : Version) (p : Protocol) (r : Registers) (count : ℕ)
    (x : List ℕ) → HasProtocol v p → AreRegistersOf p r → count ≤ 256
    → fault_with behind (head v p r count ++ x)
    ≡ records_fault behind (max_role (is_wide p)) count no_records x
head_leaves behind v p r count x has fit few =
    let bytes = head v p r count ++ x in
    let is = layout_told v p r count x in
    front_by behind bytes x count (head_passes v p r count x has fit few)
    (ap (λ (l : Layout). u32_at bytes l.count_at) is
    ∙ count_stands v p r count x has fit.0 (omega arith))
    (ap (λ (l : Layout). drop l.records_at bytes) is ∙ behind_head v p r count x has fit.0)
    ∙ ap (λ (n : ℕ). records_fault behind n count no_records x)
    (ap (λ (l : Layout). l.max_role) is ∙ max_role_told v p has)

pub head_front : (v : Version) (p : Protocol) (r : Registers) (count : ℕ) (x : List ℕ)
    → HasProtocol v p → AreRegistersOf p r → count ≤ 256
    → image_fault (head v p r count ++ x)
    ≡ records_fault parts_behind (max_role (is_wide p)) count no_records x
unfolding image_fault
head_front v p r count x has fit few = head_leaves parts_behind v p r count x has fit few

-- a fault of the head is that of the whole
pub head_shows : (behind : FaultBehind) (old new : SourceFacts) (fault : ImageFault)
    → IsInputFault head_fault old new fault
    → IsInputFault (fault_with behind) old new fault
head_shows behind old new fault s =
    first_refuses head_fault
    (λ bytes.
    records_fault behind (layout_of bytes).max_role (u32_at bytes (layout_of bytes).count_at)
    no_records (drop (layout_of bytes).records_at bytes)) old new fault s

-- so it is the image's
pub head_refuses : (old new : SourceFacts) (fault : ImageFault)
    → IsInputFault head_fault old new fault
    → IsInputFault image_fault old new fault
unfolding image_fault
head_refuses old new fault s = head_shows parts_behind old new fault s
