-- An image is read again: the handover that it spells is one.
use Rattle.std.proofs.Common.{◌≡◌, ℕ, List, [], ◌∷◌, ◌++◌, length}
use Rattle.std.proofs.Common.{All, refl, sym, ap, ◌∙◌, arith, length-append}
use Rattle.std.proofs.Common.{append_assoc}
use Rattle.std.proofs.lemmas.List.Elements.{All-tail}
use Rattle.std.specs.List.{flat_map}
use Rattle.bl_plan.specs.declared.part.Role.{Role}
use Rattle.bl_plan.specs.declared.protocol.Protocol.{Protocol}
use Rattle.bl_load.specs.declared.registers.Registers.{Registers}
use Rattle.bl_load.specs.Protocols.{is_wide}
use Rattle.bl_load.specs.Registers.{are_wide}
use Rattle.bl_plan.specs.Protocols as protocols
use Rattle.bl_load.specs.Handover.{Part, Handover}
use Rattle.bl_mem.specs.LittleEndian.{u32_bytes, u64_bytes}
use Rattle.bl_mem.proofs.LittleEndianLaws.{length-u32_bytes, length-u64_bytes}
use Rattle.bl_image.specs.declared.version.Version.{Version}
use Rattle.bl_image.specs.Image.{magic, spelled_registers, head, part_record, spelling}
use Rattle.bl_image.specs.Versions.{version_number}
use Rattle.bl_image.specs.Spellable.{FitsRecord, IsSpellable}
use Rattle.bl_image.proofs.NumberLemmas.{front_same, back_same, u32_same, u64_same}
use Rattle.bl_image.proofs.RegistersAgain.{registers_alike}
use Rattle.bl_image.proofs.NumbersAgain.{role_same, protocol_same, version_same}
use Rattle.bl_image.proofs.NumbersAgain.{role_fits, version_fits, protocol_fits}

-- two parts with one record
pub record IsAlike (p q : Part) : Type 0 where
  pub role : p.role ≡ q.role
  pub index : p.index ≡ q.index
  pub address : p.address ≡ q.address
  pub count : length p.bytes ≡ length q.bytes

record_same : (p q : Part) → FitsRecord p → FitsRecord q → part_record p ≡ part_record q
    → IsAlike p q
record_same p q hp hq e =
    let u32s : (m n : ℕ) → length (u32_bytes m) ≡ length (u32_bytes n) =
    λ m n. length-u32_bytes m ∙ sym (length-u32_bytes n) in
    let u64s : (m n : ℕ) → length (u64_bytes m) ≡ length (u64_bytes n) =
    λ m n. length-u64_bytes m ∙ sym (length-u64_bytes n) in
    let behind_role = back_same _ _ _ _ (u32s _ _) e in
    let behind_index = back_same _ _ _ _ (u32s _ _) behind_role in
    record {
      role =
          role_same p.role q.role
          (u32_same _ _ (role_fits p.role) (role_fits q.role)
          (front_same _ _ _ _ (u32s _ _) e));
      index = u32_same _ _ hp.index hq.index (front_same _ _ _ _ (u32s _ _) behind_role);
      address = u64_same _ _ hp.address hq.address (front_same _ _ _ _ (u64s _ _) behind_index);
      count = u64_same _ _ hp.count hq.count (back_same _ _ _ _ (u64s _ _) behind_index);
    }

length-part_record : (p : Part) → length (part_record p) ≡ 24
length-part_record p = omega (arith, length-append {A = ℕ}, length-u32_bytes, length-u64_bytes)

part_same : (p q : Part) → IsAlike p q → p.bytes ≡ q.bytes → p ≡ q
part_same p q a e =
    let made : Role → ℕ → ℕ → List ℕ → Part =
    λ role index address bytes.
    record { role = role; index = index; address = address; bytes = bytes } in
    ap (λ (role : Role). made role p.index p.address p.bytes) a.role
    ∙ ap (λ (index : ℕ). made q.role index p.address p.bytes) a.index
    ∙ ap (λ (address : ℕ). made q.role q.index address p.bytes) a.address
    ∙ ap (λ (bytes : List ℕ). made q.role q.index q.address bytes) e

abbrev pub AreAlike : List Part → List Part → Type 0
AreAlike [] [] = Unit {0}
AreAlike [] (q ∷ qs) = ⊥
AreAlike (p ∷ ps) [] = ⊥
AreAlike (p ∷ ps) (q ∷ qs) = IsAlike p q × AreAlike ps qs

-- as many records, and what follows
pub records_same : (ps qs : List Part) → All FitsRecord ps → All FitsRecord qs → length ps ≡ length qs
    → (x y : List ℕ) → flat_map part_record ps ++ x ≡ flat_map part_record qs ++ y
    → AreAlike ps qs × (x ≡ y)
records_same [] [] hp hq l x y e = (tt, e)
records_same [] (q ∷ qs) hp hq l x y e = absurd (omega arith)
records_same (p ∷ ps) [] hp hq l x y e = absurd (omega arith)
records_same (p ∷ ps) (q ∷ qs) hp hq l x y e =
    let wide : length (part_record p) ≡ length (part_record q) =
    length-part_record p ∙ sym (length-part_record q) in
    let apart : part_record p ++ (flat_map part_record ps ++ x)
    ≡ part_record q ++ (flat_map part_record qs ++ y) =
    sym (append_assoc (part_record p) (flat_map part_record ps) x) ∙ e
    ∙ append_assoc (part_record q) (flat_map part_record qs) y in
    let first : IsAlike p q =
    record_same p q (hp 0 p (omega arith)) (hq 0 q (omega arith))
    (front_same _ _ _ _ wide apart) in
    let rest =
    records_same ps qs (All-tail FitsRecord p ps hp) (All-tail FitsRecord q qs hq) (omega arith)
    x y (back_same _ _ _ _ wide apart) in
    ((first, rest.0), rest.1)

-- parts with the same records are told apart by their bytes alone
parts_same : (ps qs : List Part) → AreAlike ps qs
    → flat_map (λ (part : Part). part.bytes) ps ≡ flat_map (λ (part : Part). part.bytes) qs
    → ps ≡ qs
parts_same [] [] alike e = refl
parts_same [] (q ∷ qs) alike e = absurd alike
parts_same (p ∷ ps) [] alike e = absurd alike
parts_same (p ∷ ps) (q ∷ qs) alike e =
    let first : p ≡ q = part_same p q alike.0 (front_same _ _ _ _ alike.0.count e) in
    let rest : ps ≡ qs = parts_same ps qs alike.1 (back_same _ _ _ _ alike.0.count e) in
    cc

-- ---- heads

pub record IsSameHead (v w : Version) (h k : Handover) (x y : List ℕ) : Type 0 where
  pub version : v ≡ w
  pub protocol : h.protocol ≡ k.protocol
  pub registers : h.registers ≡ k.registers
  pub count : length h.parts ≡ length k.parts
  pub rest : x ≡ y

six_pieces : (a b c d e f x : List ℕ)
    → (a ++ (b ++ (c ++ (d ++ (e ++ f))))) ++ x ≡ a ++ (b ++ (c ++ (d ++ (e ++ (f ++ x)))))
six_pieces a b c d e f x = simp append_assoc

head_pieces : (v : Version) (h : Handover) (x : List ℕ)
    → head v h.protocol h.registers (length h.parts) ++ x
    ≡ magic
    ++ (u32_bytes (version_number v) ++ (u32_bytes (protocols.protocol_number h.protocol)
    ++ (spelled_registers v h.registers ++ (u32_bytes (length h.parts) ++ (u32_bytes 0 ++ x)))))
head_pieces v h x =
    six_pieces magic (u32_bytes (version_number v))
    (u32_bytes (protocols.protocol_number h.protocol)) (spelled_registers v h.registers)
    (u32_bytes (length h.parts)) (u32_bytes 0) x

pub heads_same : (v w : Version) (h k : Handover) → IsSpellable h → IsSpellable k → (x y : List ℕ)
    → head v h.protocol h.registers (length h.parts) ++ x
    ≡ head w k.protocol k.registers (length k.parts) ++ y
    → IsSameHead v w h k x y
heads_same v w h k sh sk x y e =
    let u32s : (m n : ℕ) → length (u32_bytes m) ≡ length (u32_bytes n) =
    λ m n. length-u32_bytes m ∙ sym (length-u32_bytes n) in
    let pieces = sym (head_pieces v h x) ∙ e ∙ head_pieces w k y in
    let after_magic = back_same magic magic _ _ refl pieces in
    let version : v ≡ w =
    version_same v w
    (u32_same _ _ (version_fits v) (version_fits w) (front_same _ _ _ _ (u32s _ _) after_magic)) in
    let after_version = back_same _ _ _ _ (u32s _ _) after_magic in
    let after_protocol = back_same _ _ _ _ (u32s _ _) after_version in
    let protocol : h.protocol ≡ k.protocol =
    protocol_same h.protocol k.protocol
    (u32_same _ _ (protocol_fits h.protocol) (protocol_fits k.protocol)
    (front_same _ _ _ _ (u32s _ _) after_version)) in
    let width : are_wide h.registers ≡ are_wide k.registers =
    sh.registers.0 ∙ ap is_wide protocol ∙ sym sk.registers.0 in
    let end : List ℕ = u32_bytes (length k.parts) ++ (u32_bytes 0 ++ y) in
    let registers =
    registers_alike v h.registers k.registers width sh.registers.1 sk.registers.1 _ _
    (after_protocol
    ∙ ap (λ (u : Version). spelled_registers u k.registers ++ end) (sym version)) in
    record {
      version = version;
      protocol = protocol;
      registers = registers.0;
      count = u32_same _ _ sh.count sk.count (front_same _ _ _ _ (u32s _ _) registers.1);
      rest = back_same (u32_bytes 0) (u32_bytes 0) x y refl
          (back_same _ _ _ _ (u32s _ _) registers.1);
    }

handover_same : (h k : Handover) → h.protocol ≡ k.protocol → h.registers ≡ k.registers
    → h.parts ≡ k.parts → h ≡ k
handover_same h k protocol registers parts =
    let made : Protocol → Registers → List Part → Handover =
    λ p r ps. record { protocol = p; registers = r; parts = ps } in
    ap (λ (p : Protocol). made p h.registers h.parts) protocol
    ∙ ap (λ (r : Registers). made k.protocol r h.parts) registers
    ∙ ap (λ (ps : List Part). made k.protocol k.registers ps) parts

pub image_is_read_again : (v w : Version) (h k : Handover) → IsSpellable h → IsSpellable k
    → spelling v h ≡ spelling w k → (v ≡ w) × (h ≡ k)
image_is_read_again v w h k sh sk e =
    let top = heads_same v w h k sh sk _ _ e in
    let below = records_same h.parts k.parts sh.parts sk.parts top.count _ _ top.rest in (
      top.version,
      handover_same h k top.protocol top.registers (parts_same h.parts k.parts below.0 below.1),
    )
