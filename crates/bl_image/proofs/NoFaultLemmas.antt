-- Fields that have no fault, and the numbers that their bytes spell.
use Rattle.std.proofs.Common.{◌≡◌, ◌+◌, ◌*◌, ◌≤◌, ◌<◌, ◌^◌, ℕ, zero, suc, Bool, true, false, List}
use Rattle.std.proofs.Common.{[], ◌∷◌, ◌++◌, length, slice_index, take, drop, All, Option}
use Rattle.std.proofs.Common.{Some, None, refl, sym, ap, ◌∙◌, arith, append_assoc, ⊎_elim}
use Rattle.std.specs.Prelude.{nat_lt, nat_le, not, ◌&&◌, if◌then◌else◌}
use Rattle.std.specs.List.{flat_map}
use Rattle.std.proofs.lemmas.Nat.{le_bytes_4, le_bytes_8}
use Rattle.std.proofs.lemmas.Bool.{ltb-false, cases_lt}
use Rattle.std.proofs.lemmas.Bool.Decides.{nat_tests}
use Rattle.std.proofs.lemmas.List.{take-append-drop, get_or-drop, get_or-take, get_or_past}
use Rattle.std.proofs.lemmas.List.{length-take, length-take-le, length-drop, drop_all}
use Rattle.std.proofs.lemmas.List.Elements.{All-cons, All-nil}
use Rattle.std.proofs.lemmas.List.Concat.{flat_map-cons}
use Rattle.bl_mem.proofs.LittleEndianLaws.{u32_at-lt}
use Rattle.bl_mem.specs.LittleEndian.{number_at, u32_at, u64_at, u32_bytes, u64_bytes}
use Rattle.bl_plan.specs.declared.part.Role.{Role}
use Rattle.bl_plan.specs.declared.part.Role.TheVariants.{Kernel, Module, Information, BootParams}
use Rattle.bl_plan.specs.declared.part.Role.TheVariants.{CommandLine, Gdt, Initrd, PageTables}
use Rattle.bl_plan.specs.RoleNumbers as roles
use Rattle.bl_plan.specs.declared.protocol.Protocol.{Protocol}
use Rattle.bl_plan.specs.declared.protocol.Protocol.TheVariants.{Multiboot2, Linux, Linux64}
use Rattle.bl_plan.specs.Protocols as protocols
use Rattle.bl_load.specs.HandoffFacts.{IsRoleAllowed}
use Rattle.bl_image.specs.declared.fault.ImageFault.{ImageFault}
use Rattle.bl_image.specs.declared.version.Version.{Version}
use Rattle.bl_image.specs.declared.version.Version.TheVariants.{One, Two}
use Rattle.bl_image.specs.Layouts.{max_role}
use Rattle.bl_image.specs.Versions.{version_number, max_protocol, HasProtocol}
use Rattle.bl_image.specs.Fields.{Field, fields_fault}
use Rattle.bl_image.specs.ImageFaults.{fault_or}

-- each element is a byte
abbrev pub IsSmall : List ℕ → Type 0
IsSmall bytes = (k : ℕ) → slice_index bytes k < 256

pub small_drop : (n : ℕ) (bytes : List ℕ) → IsSmall bytes → IsSmall (drop n bytes)
small_drop n bytes small k = rw get_or-drop (small (n + k))

pub small_take : (n : ℕ) (bytes : List ℕ) → IsSmall bytes → IsSmall (take n bytes)
small_take n bytes small k =
    ⊎_elim (λ inside. let e = get_or-take n bytes k 0 inside in let h = small k in omega arith)
    (λ past. let size = length-take n bytes in
    let none = get_or_past (take n bytes) k 0 (omega arith) in omega arith)
    (cases_lt k n)

-- what stands in bytes, and what follows
pub u32_split : (bytes : List ℕ) → IsSmall bytes → 4 ≤ length bytes
    → u32_bytes (u32_at (take 4 bytes) 0) ++ drop 4 bytes ≡ bytes
unfolding u32_bytes number_at
u32_split bytes small long =
    ap (λ (l : List ℕ). l ++ drop 4 bytes)
    (le_bytes_4 (take 4 bytes) (u32_at (take 4 bytes) 0) (length-take-le 4 bytes long)
    (small_take 4 bytes small) (omega arith))
    ∙ take-append-drop 4 bytes

pub u64_split : (bytes : List ℕ) → IsSmall bytes → 8 ≤ length bytes
    → u64_bytes (u64_at (take 8 bytes) 0) ++ drop 8 bytes ≡ bytes
unfolding u64_bytes number_at
u64_split bytes small long =
    ap (λ (l : List ℕ). l ++ drop 8 bytes)
    (le_bytes_8 (take 8 bytes) (u64_at (take 8 bytes) 0) (length-take-le 8 bytes long)
    (small_take 8 bytes small) (omega arith))
    ∙ take-append-drop 8 bytes

pub u32_small : (bytes : List ℕ) → IsSmall bytes → u32_at (take 4 bytes) 0 < 2 ^ 32
u32_small bytes small = u32_at-lt (take 4 bytes) 0 (small_take 4 bytes small)

pub u64_small : (bytes : List ℕ) → IsSmall bytes → u64_at (take 8 bytes) 0 < 2 ^ 64
unfolding number_at
u64_small bytes small =
    let low =
    small_take 8 bytes small in
    omega (arith, low 0, low 1, low 2, low 3, low 4, low 5, low 6, low 7)

none_from : (short passes : Bool) (x y : ImageFault) (rest : Option ImageFault)
    → (if short then Some x else (if not passes then Some y else rest)) ≡ None
    → (short ≡ false) × (passes ≡ true) × (rest ≡ None)
none_from true passes x y rest e = cc
none_from false true x y rest e = (refl, refl, e)
none_from false false x y rest e = cc

pub first_none : (a b : Option ImageFault) → fault_or a b ≡ None → (a ≡ None) × (b ≡ None)
first_none None b e = (refl, e)
first_none (Some x) b e = cc

pub record Fits (field : Field) (fields : List Field) (bytes : List ℕ) : Type 0 where
  pub long : field.size ≤ length bytes
  pub passes : field.passes (take field.size bytes) ≡ true
  pub rest : fields_fault fields (drop field.size bytes) ≡ None

pub field_none : (field : Field) (fields : List Field) (bytes : List ℕ)
    → fields_fault (field ∷ fields) bytes ≡ None → Fits field fields bytes
field_none field fields bytes e =
    let f =
    none_from (nat_lt (length bytes) field.size) (field.passes (take field.size bytes))
    _ _ (fields_fault fields (drop field.size bytes)) e in
    record { long = ltb-false _ _ f.0; passes = f.1; rest = f.2 }

pub le_from : (m n : ℕ) → nat_le m n ≡ true → m ≤ n
le_from m n e = grind (arith, nat_tests)

pub both_from : (a b c d : ℕ) → nat_le a b && nat_le c d ≡ true → (a ≤ b) × (c ≤ d)
both_from a b c d e = grind (arith, nat_tests)

pub record Words (count : ℕ) (bytes : List ℕ) : Type 0 where
  pub words : List ℕ
  pub is : flat_map u32_bytes words ≡ bytes
  pub size : length words ≡ count
  pub fit : All (λ n. n < 2 ^ 32) words

pub words_split : (count : ℕ) (bytes : List ℕ) → IsSmall bytes → length bytes ≡ 4 * count
    → Words count bytes
words_split zero bytes small size =
    record {
      words = [];
      is = sym (drop_all 0 bytes (omega arith));
      size = refl;
      fit = All-nil (λ n. n < 2 ^ 32);
    }
words_split (suc count) bytes small size =
    let word = u32_at (take 4 bytes) 0 in
    let long : 4 ≤ length bytes = omega arith in
    let shorter = length-drop 4 bytes in
    let rest = words_split count (drop 4 bytes) (small_drop 4 bytes small) (omega arith) in
    record {
      words = word ∷ rest.words;
      is =
          flat_map-cons u32_bytes word rest.words ∙ ap (λ (l : List ℕ). u32_bytes word ++ l) rest.is
          ∙ u32_split bytes small long;
      size = ap suc rest.size;
      fit = All-cons (λ n. n < 2 ^ 32) word rest.words (u32_small bytes small) rest.fit;
    }

-- the version of a number
pub version_by : (n : ℕ) → 1 ≤ n → n ≤ 2 → (v : Version) × (version_number v ≡ n)
version_by zero least most = absurd (omega arith)
version_by (suc zero) least most = (One, refl)
version_by (suc (suc zero)) least most = (Two, refl)
version_by (suc (suc (suc n))) least most = absurd (omega arith)

-- the protocol of a number that a version has
pub protocol_by : (v : Version) (n : ℕ) → 1 ≤ n → n ≤ max_protocol (version_number v)
    → (p : Protocol) × HasProtocol v p × (protocols.protocol_number p ≡ n)
protocol_by One zero h k = absurd (omega arith)
protocol_by One (suc zero) h k = (Multiboot2, refl, refl)
protocol_by One (suc (suc zero)) h k = (Linux, refl, refl)
protocol_by One (suc (suc (suc n))) h k = absurd (omega arith)
protocol_by Two zero h k = absurd (omega arith)
protocol_by Two (suc zero) h k = (Multiboot2, tt, refl)
protocol_by Two (suc (suc zero)) h k = (Linux, tt, refl)
protocol_by Two (suc (suc (suc zero))) h k = (Linux64, tt, refl)
protocol_by Two (suc (suc (suc (suc n)))) h k = absurd (omega arith)

-- the role of a number that an image has
pub role_by : (wide : Bool) (n : ℕ) → 1 ≤ n → n ≤ max_role wide
    → (r : Role) × IsRoleAllowed wide r × (roles.role_number r ≡ n)
role_by wide zero h k = absurd (omega arith)
role_by wide (suc zero) h k = (Kernel, tt, refl)
role_by wide (suc (suc zero)) h k = (Module, tt, refl)
role_by wide (suc (suc (suc zero))) h k = (Information, tt, refl)
role_by wide (suc (suc (suc (suc zero)))) h k = (BootParams, tt, refl)
role_by wide (suc (suc (suc (suc (suc zero))))) h k = (CommandLine, tt, refl)
role_by wide (suc (suc (suc (suc (suc (suc zero)))))) h k = (Gdt, tt, refl)
role_by wide (suc (suc (suc (suc (suc (suc (suc zero))))))) h k = (Initrd, tt, refl)
role_by true (suc (suc (suc (suc (suc (suc (suc (suc zero)))))))) h k = (PageTables, refl, refl)
role_by true (suc (suc (suc (suc (suc (suc (suc (suc (suc n))))))))) h k = absurd (omega arith)
role_by false (suc (suc (suc (suc (suc (suc (suc (suc n)))))))) h k = absurd (omega arith)

seven_pieces : (a b c d e f x : List ℕ)
    → (((((a ++ b) ++ c) ++ d) ++ e) ++ f) ++ x ≡ a ++ (b ++ (c ++ (d ++ (e ++ (f ++ x)))))
seven_pieces a b c d e f x = simp append_assoc

pub chained : (a b c d e f x x5 x4 x3 x2 x1 w : List ℕ) → f ++ x ≡ x5 → e ++ x5 ≡ x4 → d ++ x4 ≡ x3
    → c ++ x3 ≡ x2 → b ++ x2 ≡ x1 → a ++ x1 ≡ w
    → (((((a ++ b) ++ c) ++ d) ++ e) ++ f) ++ x ≡ w
chained a b c d e f x x5 x4 x3 x2 x1 w e5 e4 e3 e2 e1 e0 =
    seven_pieces a b c d e f x
    ∙ ap (λ (l : List ℕ). a ++ (b ++ (c ++ (d ++ (e ++ l))))) e5
    ∙ ap (λ (l : List ℕ). a ++ (b ++ (c ++ (d ++ l)))) e4
    ∙ ap (λ (l : List ℕ). a ++ (b ++ (c ++ l))) e3
    ∙ ap (λ (l : List ℕ). a ++ (b ++ l)) e2
    ∙ ap (λ (l : List ℕ). a ++ l) e1
    ∙ e0
