-- In bytes that have no fault a head is found, and each record.
use Rattle.std.proofs.Common.{◌≡◌, ◌+◌, ◌≤◌, ◌^◌, ℕ, List, [], ◌∷◌, ◌++◌, take, drop, Bool}
use Rattle.std.proofs.Common.{None, append_assoc, sym, ap, ◌∙◌}
use Rattle.std.proofs.lemmas.Bool.Decides.{Decides-eqb}
use Rattle.std.proofs.lemmas.Slice.Eq.{bytes_eq-Decides}
use Rattle.std.proofs.lemmas.List.{take-append-drop}
use Rattle.bl_mem.specs.LittleEndian.{u32_at, u64_at, u32_bytes, u64_bytes}
use Rattle.bl_plan.specs.RoleNumbers as roles
use Rattle.bl_plan.specs.declared.part.Place.{Place}
use Rattle.bl_plan.specs.declared.protocol.Protocol.{Protocol}
use Rattle.bl_plan.specs.Protocols as protocols
use Rattle.bl_load.specs.declared.registers.Registers.{Registers}
use Rattle.bl_load.specs.HandoffFacts.{IsRoleAllowed}
use Rattle.bl_image.specs.Image.{magic, head, spelled_registers}
use Rattle.bl_image.specs.Layouts.{max_role}
use Rattle.bl_image.specs.Spellable.{AreRegistersOf}
use Rattle.bl_image.specs.internal.PlaceRecords.{place_record, IsNext}
use Rattle.bl_image.specs.declared.version.Version.{Version}
use Rattle.bl_image.specs.Versions.{version_number, max_protocol, HasProtocol}
use Rattle.bl_image.specs.Fields.{Field, fields_fault, magic_field, version_field, protocol_field}
use Rattle.bl_image.specs.Fields.{count_field, zero_field}
use Rattle.bl_image.specs.Fields.{role_field, index_field, address_field, length_field}
use Rattle.bl_image.specs.ImageFaults.{head_fault, record_fault}
use Rattle.bl_image.proofs.FrontLemmas.{head_is}
use Rattle.bl_image.proofs.RecordLemmas.{four_pieces, regroup, record_front}
use Rattle.bl_image.proofs.NoFaultLemmas.{IsSmall, small_drop, u32_split, u64_split}
use Rattle.bl_image.proofs.NoFaultLemmas.{u32_small, u64_small, first_none, field_none, le_from}
use Rattle.bl_image.proofs.NoFaultLemmas.{both_from, version_by, protocol_by, role_by, chained}
use Rattle.bl_image.proofs.HeadLemmas.{after_version, opened, told}
use Rattle.bl_image.proofs.RegistersFound.{registers_found}

pub record HeadFound (bytes : List ℕ) : Type 0 where
  pub version : Version
  pub protocol : Protocol
  pub registers : Registers
  pub count : ℕ
  pub rest : List ℕ
  pub is : head version protocol registers count ++ rest ≡ bytes
  pub few : count ≤ 256
  pub has : HasProtocol version protocol
  pub fit : AreRegistersOf protocol registers
  pub small : IsSmall rest

pub head_found : (bytes : List ℕ) → IsSmall bytes → head_fault bytes ≡ None → HeadFound bytes
unfolding head_fault magic_field version_field protocol_field count_field zero_field
head_found bytes small none =
    let opening = first_none _ _ none in
    let f1 = field_none magic_field (version_field ∷ []) bytes opening.0 in
    let b1 : List ℕ = drop 8 bytes in
    let s1 : IsSmall b1 = small_drop 8 bytes small in
    let f2 = field_none version_field [] b1 f1.rest in
    let b2 : List ℕ = drop 4 b1 in
    let s2 : IsSmall b2 = small_drop 4 b1 s1 in
    let m : magic ≡ take 8 bytes = (bytes_eq-Decides magic (take 8 bytes)).0 f1.passes in
    let told_version = u32_at (take 4 b1) 0 in
    let one_or_two = both_from 1 told_version told_version 2 f2.passes in
    let v = version_by told_version one_or_two.0 one_or_two.1 in
    let n = version_number v.0 in
    let e1 : u32_bytes n ++ b2 ≡ b1 =
    ap (λ (k : ℕ). u32_bytes k ++ b2) v.1 ∙ u32_split b1 s1 f2.long in
    let e0 : magic ++ b1 ≡ bytes =
    ap (λ (l : List ℕ). l ++ b1) m ∙ take-append-drop 8 bytes in
    let opened_at : (magic ++ u32_bytes n) ++ b2 ≡ bytes =
    append_assoc magic (u32_bytes n) b2 ∙ ap (λ (l : List ℕ). magic ++ l) e1 ∙ e0 in
    let after : after_version n b2 ≡ None =
    sym (opened v.0 b2) ∙ ap head_fault opened_at ∙ none in
    let f3 = field_none (protocol_field n) [] b2 (first_none _ _ after).0 in
    let b3 : List ℕ = drop 4 b2 in
    let s3 : IsSmall b3 = small_drop 4 b2 s2 in
    let told_protocol = u32_at (take 4 b2) 0 in
    let limits = both_from 1 told_protocol told_protocol (max_protocol n) f3.passes in
    let p = protocol_by v.0 told_protocol limits.0 limits.1 in
    let e2 : u32_bytes (protocols.protocol_number p.0) ++ b3 ≡ b2 =
    ap (λ (k : ℕ). u32_bytes k ++ b3) p.2 ∙ u32_split b2 s2 f3.long in
    let laid =
    sym (told v.0 p.0 p.1 b3) ∙ ap (after_version n) e2 ∙ after in
    let ends : List Field = count_field ∷ zero_field ∷ [] in
    let r = registers_found v.0 p.0 p.1 ends b3 s3 laid in
    let b4 : List ℕ = r.rest in
    let s4 : IsSmall b4 = r.small in
    let f5 = field_none count_field (zero_field ∷ []) b4 r.left in
    let b5 : List ℕ = drop 4 b4 in
    let s5 : IsSmall b5 = small_drop 4 b4 s4 in
    let f6 = field_none zero_field [] b5 f5.rest in
    let count = u32_at (take 4 b4) 0 in
    let z : u32_at (take 4 b5) 0 ≡ 0 = (Decides-eqb (u32_at (take 4 b5) 0) 0).0 f6.passes in
    let whole =
    chained magic (u32_bytes n) (u32_bytes (protocols.protocol_number p.0))
    (spelled_registers v.0 r.registers) (u32_bytes count) (u32_bytes 0) (drop 4 b5) b5
    b4 b3 b2 b1 bytes
    (ap (λ (k : ℕ). u32_bytes k ++ drop 4 b5) (sym z) ∙ u32_split b5 s5 f6.long)
    (u32_split b4 s4 f5.long) r.is e2 e1 e0 in
    record {
      version = v.0;
      protocol = p.0;
      registers = r.registers;
      count = count;
      rest = drop 4 b5;
      is =
          ap (λ (l : List ℕ). l ++ drop 4 b5) (sym (head_is v.0 p.0 r.registers count))
          ∙ whole;
      few = le_from count 256 f5.passes;
      has = p.1;
      fit = r.fit;
      small = small_drop 4 b5 s5;
    }

pub record RecordFound (wide : Bool) (end : ℕ) (bytes : List ℕ) : Type 0 where
  pub place : Place
  pub rest : List ℕ
  pub is : place_record place ++ rest ≡ bytes
  pub may : IsRoleAllowed wide place.role
  pub next : IsNext end place
  pub small : IsSmall rest

pub record_found : (wide : Bool) (part end : ℕ) (bytes : List ℕ) → IsSmall bytes
    → record_fault (max_role wide) part end bytes ≡ None
    → RecordFound wide end bytes
unfolding role_field index_field address_field length_field
record_found wide part end bytes small none =
    let front = first_none _ _ none in
    let f1 =
    field_none (role_field (max_role wide) part)
    (index_field part ∷ address_field part end ∷ []) bytes front.0 in
    let b1 : List ℕ = drop 4 bytes in
    let s1 : IsSmall b1 = small_drop 4 bytes small in
    let f2 = field_none (index_field part) (address_field part end ∷ []) b1 f1.rest in
    let b2 : List ℕ = drop 4 b1 in
    let s2 : IsSmall b2 = small_drop 4 b1 s1 in
    let f3 = field_none (address_field part end) [] b2 f2.rest in
    let b3 : List ℕ = drop 8 b2 in
    let s3 : IsSmall b3 = small_drop 8 b2 s2 in
    let n = u32_at (take 4 bytes) 0 in
    let limits = both_from 1 n n (max_role wide) f1.passes in
    let r = role_by wide n limits.0 limits.1 in
    let index = u32_at (take 4 b1) 0 in
    let address = u64_at (take 8 b2) 0 in
    let above : end ≤ address = le_from end address f3.passes in
    let e1 : u32_bytes (roles.role_number r.0) ++ b1 ≡ bytes =
    ap (λ (k : ℕ). u32_bytes k ++ b1) r.2 ∙ u32_split bytes small f1.long in
    let e2 : u32_bytes index ++ b2 ≡ b1 = u32_split b1 s1 f2.long in
    let e3 : u64_bytes address ++ b3 ≡ b2 = u64_split b2 s2 f3.long in
    let begun : ((u32_bytes (roles.role_number r.0) ++ u32_bytes index) ++ u64_bytes address) ++ b3
    ≡ bytes =
    four_pieces (u32_bytes (roles.role_number r.0)) (u32_bytes index) (u64_bytes address) b3
    ∙ ap (λ (l : List ℕ). u32_bytes (roles.role_number r.0) ++ (u32_bytes index ++ l)) e3
    ∙ ap (λ (l : List ℕ). u32_bytes (roles.role_number r.0) ++ l) e2
    ∙ e1 in
    let last : fields_fault (length_field part address ∷ []) b3 ≡ None =
    sym
    (record_front wide part end r.0 index address b3 r.1 (u32_small b1 s1) (u64_small b2 s2) above)
    ∙ ap (record_fault (max_role wide) part end) begun ∙ none in
    let f4 = field_none (length_field part address) [] b3 last in
    let count = u64_at (take 8 b3) 0 in
    let sizes = both_from 1 count (address + count) (2 ^ 32) f4.passes in
    let e4 : u64_bytes count ++ drop 8 b3 ≡ b3 = u64_split b3 s3 f4.long in
    record {
      place = record { role = r.0; index = index; address = address; length = count };
      rest = drop 8 b3;
      is =
          regroup (u32_bytes (roles.role_number r.0)) (u32_bytes index) (u64_bytes address)
          (u64_bytes count) (drop 8 b3)
          ∙ ap
          (λ (l : List ℕ).
          ((u32_bytes (roles.role_number r.0) ++ u32_bytes index) ++ u64_bytes address)
          ++ l) e4
          ∙ begun;
      may = r.1;
      next = record { index = u32_small b1 s1; above = above; filled = sizes.0; below = sizes.1 };
      small = small_drop 8 b3 s3;
    }
