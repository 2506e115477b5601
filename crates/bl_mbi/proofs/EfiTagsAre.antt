-- UEFI's two tags that are read are spelled so.
use Rattle.std.proofs.Common.{◌≡◌, ℕ, true, Option, Some, None, List, [], Ok, refl, sym, ap}
use Rattle.std.proofs.Common.{option_map, subst}
use Rattle.std.specs.Prelude.{IfSome}
use Rattle.bl_map.specs.declared.firmware.efi.EfiBits.{EfiBits}
use Rattle.bl_map.specs.FirmwareLimits.{is_system_table}
use Rattle.bl_mbi.specs.declared.tag_types.TheConstants.{TAG_EFI_MAP}
use Rattle.bl_mbi.specs.InfoToWriteFacts.{EfiTables, IsToldEfi, AreBytes}
use Rattle.bl_mbi.specs.Tags.{tag, tag_if, pointer_type, pointer_body, pointer_tag, efi_map_body}
use Rattle.bl_mbi.specs.FirmwareBodies.{pointer_of, efi_tables_of}
use Rattle.bl_mbi.specs.ReadingSteps.{RestFacts, required_at}
use Rattle.bl_mbi.specs.Reading.{next_bits, pointer_at, efi_at}
use Rattle.bl_mbi.proofs.Inverse.{made, same_ok}
use Rattle.bl_mbi.proofs.TagIs.{IsRead}
use Rattle.bl_mbi.proofs.FirmwareBodyIs.{pointer_is, efi_is, IsPointer, IsEfiMap}
use Rattle.bl_mbi.proofs.ReadIs.{nothing_read, required_is, optional_is}

-- the tag of a system table's address
abbrev pub pointed : Option (EfiBits × ℕ) → List ℕ
pointed None = []
pointed (Some pointer) = tag (pointer_type pointer.0) (pointer_body pointer.0 pointer.1)

pointed_by : (bits : EfiBits) (pointer : Option (EfiBits × ℕ)) → IfSome pointer (IsPointer bits)
    → tag_if (pointer_type bits) (option_map (λ p. pointer_body bits p.1) pointer) ≡ pointed pointer
pointed_by bits None is = refl
pointed_by bits (Some pointer) is =
    ap (λ (b : EfiBits). tag (pointer_type b) (pointer_body b pointer.1)) (sym is.told)

abbrev pub IsPointerTold : EfiBits × ℕ → Type 0
IsPointerTold pointer = is_system_table pointer.0 pointer.1 ≡ true

told_by : (bits : EfiBits) (pointer : Option (EfiBits × ℕ)) → IfSome pointer (IsPointer bits)
    → IfSome pointer IsPointerTold
told_by bits None is = tt
told_by bits (Some pointer) is = is.limit

pub pointer_at_is : (left : RestFacts) (read : Option (EfiBits × ℕ) × RestFacts)
    → AreBytes left.bytes → pointer_at left ≡ Ok read
    → IsRead left (pointed read.0) read.1 × IfSome read.0 IsPointerTold
pointer_at_is left read small h =
    let bits = next_bits left in
    let is =
    optional_is (IsPointer bits) (pointer_type bits) (pointer_of bits)
    (λ (p : EfiBits × ℕ). pointer_body bits p.1) left read (pointer_is bits) small h in
    (rw (← pointed_by bits read.0 is.1) is.0, told_by bits read.0 is.1)

efi_told : (pointer : EfiBits × ℕ) (efi : EfiTables) → IsPointerTold pointer → IsEfiMap pointer efi
    → IsToldEfi efi
efi_told pointer efi told is =
    let here : IsPointerTold (efi.bits, efi.system_table) =
    subst (λ (p : EfiBits × ℕ). IsPointerTold p) (sym is.after) told in
    record {
      system_table = here;
      descriptors = is.descriptors;
      size = is.size;
      map = is.map;
    }

-- UEFI's tables, after the address of the system table
pub record IsEfiTold (pointer : Option (EfiBits × ℕ)) (left after : RestFacts)
    (efi : Option EfiTables) : Type 0 where
  pub read : IsRead left (tag_if TAG_EFI_MAP (option_map efi_map_body efi)) after
  pub tag_is : pointer_tag efi ≡ pointed pointer
  pub told : IfSome efi IsToldEfi

pub efi_at_is : (pointer : Option (EfiBits × ℕ)) (left : RestFacts)
    (read : Option EfiTables × RestFacts) → AreBytes left.bytes → IfSome pointer IsPointerTold
    → efi_at pointer left ≡ Ok read → IsEfiTold pointer left read.1 read.0
efi_at_is None left read small told h =
    let is : IsEfiTold None left left None =
    record { read = nothing_read left small; tag_is = refl; told = tt } in
    rw (← same_ok (None, left) read h) is
efi_at_is (Some pointer) left read small told h =
    let s1 = made (required_at TAG_EFI_MAP (efi_tables_of pointer) left) _ read h in
    let all =
    required_is (IsEfiMap pointer) TAG_EFI_MAP (efi_tables_of pointer) efi_map_body left s1.0
    (efi_is pointer) small s1.1 in
    let is : IsEfiTold (Some pointer) left s1.0.1 (Some s1.0.0) = record {
      read = all.0;
      tag_is = ap (λ (p : EfiBits × ℕ). tag (pointer_type p.0) (pointer_body p.0 p.1)) all.1.after;
      told = efi_told pointer s1.0.0 told all.1;
    } in
    rw (← same_ok (Some s1.0.0, s1.0.1) read s1.2) is
