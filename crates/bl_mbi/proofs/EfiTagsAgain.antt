-- UEFI's two tags that are spelled are read again.
use Rattle.std.proofs.Common.{◌≡◌, ◌<◌, ◌+◌, ◌^◌, ℕ, true, false, Option, Some, None, List, ◌++◌}
use Rattle.std.proofs.Common.{length, Ok, lit<, arith, refl, ap, option_map}
use Rattle.std.specs.Prelude.{IfSome}
use Rattle.bl_map.specs.declared.firmware.efi.EfiBits.{EfiBits}
use Rattle.bl_map.specs.declared.firmware.efi.EfiBits.TheVariants.{Efi32, Efi64}
use Rattle.bl_map.specs.FirmwareLimits.{is_system_table}
use Rattle.bl_mbi.specs.declared.tag_types.TheConstants.{TAG_EFI32, TAG_EFI64, TAG_EFI_MAP}
use Rattle.bl_mbi.specs.InfoToWriteFacts.{EfiTables, IsToldEfi}
use Rattle.bl_mbi.specs.Tags.{tag, tag_if, pointer_type, pointer_body, pointer_tag, efi_map_body}
use Rattle.bl_mbi.specs.ReadingSteps.{is_next}
use Rattle.bl_mbi.specs.FirmwareBodies.{pointer_of, efi_tables_of}
use Rattle.bl_mbi.specs.Reading.{pointer_at, efi_at}
use Rattle.bl_mbi.proofs.TagLaws.{next_tag}
use Rattle.bl_mbi.proofs.FirmwareBodyLaws.{pointer_again, efi_again}
use Rattle.bl_mbi.proofs.TagsAgain.{from, past, required_again, given_again, missing_again}
use Rattle.bl_mbi.proofs.TagsAgain.{NoneUpTo, none_before}

abbrev pub pointer_in : EfiTables → EfiBits × ℕ
pointer_in efi = (efi.bits, efi.system_table)

given_pointer : (bits : EfiBits) (a at : ℕ) (rest : List ℕ) → is_system_table bits a ≡ true
    → length (tag (pointer_type bits) (pointer_body bits a)) < 2 ^ 32
    → pointer_at (from at (tag (pointer_type bits) (pointer_body bits a) ++ rest))
    ≡ Ok (Some (bits, a), past at (tag (pointer_type bits) (pointer_body bits a)) rest)
given_pointer Efi32 a at rest is fits =
    let next : is_next TAG_EFI32 (from at (tag TAG_EFI32 (pointer_body Efi32 a) ++ rest)) ≡ true =
    next_tag TAG_EFI32 TAG_EFI32 at (pointer_body Efi32 a) rest (lit< tt) in
    rw next (
    given_again TAG_EFI32 at (pointer_of Efi32) (pointer_body Efi32 a) rest (Efi32, a) (lit< tt)
    fits (pointer_again Efi32 a is)
    )
given_pointer Efi64 a at rest is fits =
    let next : is_next TAG_EFI32 (from at (tag TAG_EFI64 (pointer_body Efi64 a) ++ rest)) ≡ false =
    next_tag TAG_EFI32 TAG_EFI64 at (pointer_body Efi64 a) rest (lit< tt) in
    rw next (
    given_again TAG_EFI64 at (pointer_of Efi64) (pointer_body Efi64 a) rest (Efi64, a) (lit< tt)
    fits (pointer_again Efi64 a is)
    )

pub pointer_tag_again : (at : ℕ) (efi : Option EfiTables) (rest : List ℕ) → IfSome efi IsToldEfi
    → length (pointer_tag efi) < 2 ^ 32 → NoneUpTo TAG_EFI64 rest
    → pointer_at (from at (pointer_tag efi ++ rest))
    ≡ Ok (option_map pointer_in efi, past at (pointer_tag efi) rest)
pointer_tag_again at None rest is fits none =
    let next : is_next TAG_EFI32 (from at rest) ≡ false =
    none TAG_EFI32 (omega arith) (omega arith) in
    rw next (
    missing_again TAG_EFI64 at (pointer_of Efi64) rest (none TAG_EFI64 (omega arith) (omega arith))
    )
pointer_tag_again at (Some efi) rest is fits none =
    given_pointer efi.bits efi.system_table at rest is.system_table fits

pub none_before_pointer : (kind : ℕ) (efi : Option EfiTables) (rest : List ℕ) → kind < TAG_EFI32
    → NoneUpTo TAG_EFI64 rest → NoneUpTo kind (pointer_tag efi ++ rest)
none_before_pointer kind None rest less none = λ k low high. none k low (omega arith)
none_before_pointer kind (Some efi) rest less none =
    by_bits efi.bits
  where
    by_bits : (bits : EfiBits)
        → NoneUpTo kind (tag (pointer_type bits) (pointer_body bits efi.system_table) ++ rest)
    by_bits Efi32 =
        none_before kind TAG_EFI32 (Some (pointer_body Efi32 efi.system_table)) rest less (lit< tt)
        (λ k low high. none k low (omega arith))
    by_bits Efi64 =
        none_before kind TAG_EFI64 (Some (pointer_body Efi64 efi.system_table)) rest (omega arith)
        (lit< tt) none

pub efi_map_again : (at : ℕ) (efi : Option EfiTables) (rest : List ℕ) → IfSome efi IsToldEfi
    → length (tag_if TAG_EFI_MAP (option_map efi_map_body efi)) < 2 ^ 32
    → efi_at (option_map pointer_in efi)
    (from at (tag_if TAG_EFI_MAP (option_map efi_map_body efi) ++ rest))
    ≡ Ok (efi, past at (tag_if TAG_EFI_MAP (option_map efi_map_body efi)) rest)
efi_map_again at None rest is fits =
    let here : at ≡ at + 0 = omega arith in ap (λ (there : ℕ). Ok (None, from there rest)) here
efi_map_again at (Some efi) rest is fits =
    let map =
    required_again TAG_EFI_MAP at (efi_tables_of (pointer_in efi)) (efi_map_body efi) rest efi (lit< tt)
    fits (efi_again efi is) in
    rw map refl
