-- A body of firmware's tags that is read is spelled so, and what it tells is within its limits.
use Rattle.std.proofs.Common.{◌≡◌, ◌≤◌, ◌+◌, ℕ, zero, suc, true, Some, None, List, [], ◌∷◌}
use Rattle.std.proofs.Common.{◌++◌, length, get_or, drop, replicate, arith, rules, refl, sym}
use Rattle.std.proofs.Common.{ap, ap₂, ◌∙◌, length-drop}
use Rattle.std.specs.Prelude.{is_some, nat_eq, nat_lt, not, slice_range}
use Rattle.std.specs.List.{list_all}
use Rattle.std.proofs.lemmas.Bool.{not-false}
use Rattle.std.proofs.lemmas.Bool.Decides.{nat_tests}
use Rattle.std.proofs.lemmas.List.{drop-drop, drop_all, places, take-append-drop, append-nil}
use Rattle.std.proofs.Math.Seq.{drop-cons}
use Rattle.bl_map.specs.declared.firmware.efi.EfiBits.{EfiBits}
use Rattle.bl_map.specs.declared.firmware.efi.EfiBits.TheVariants.{Efi32, Efi64}
use Rattle.bl_map.specs.declared.firmware.screen.Screen.{Screen}
use Rattle.bl_map.specs.Firmware.{SmbiosFacts}
use Rattle.bl_map.specs.FirmwareLimits.{screen_fault, is_system_table, are_descriptors}
use Rattle.bl_map.specs.FirmwareLimits.{is_efi_map_size, is_smbios_size}
use Rattle.bl_mem.specs.LittleEndian.{u32_bytes, u64_bytes}
use Rattle.bl_mbi.specs.InfoToWriteFacts.{EfiTables, IsToldSmbios, AreBytes}
use Rattle.bl_mbi.specs.Tags.{screen_body, pointer_body, smbios_body, efi_map_body}
use Rattle.bl_mbi.specs.ReadingSteps.{first_u32, first_u64}
use Rattle.bl_mbi.specs.FirmwareBodies.{framebuffer_in, framebuffer_of}
use Rattle.bl_mbi.specs.FirmwareBodies.{pointer_of, smbios_of, efi_tables_of}
use Rattle.bl_mbi.proofs.Inverse.{passed_some, same_some, is_none}
use Rattle.bl_mbi.proofs.WordLaws.{small_at, word_then, long_then}
use Rattle.bl_mbi.proofs.TagIs.{drop_small, all_zero}

-- so many bytes from a place on
abbrev bytes_from : ℕ → ℕ → List ℕ → List ℕ
bytes_from zero n xs = []
bytes_from (suc k) n xs = get_or xs n 0 ∷ bytes_from k (suc n) xs

listed : (k n : ℕ) (xs : List ℕ) → length xs ≡ n + k → drop n xs ≡ bytes_from k n xs
listed zero n xs len = drop_all n xs (omega arith)
listed (suc k) n xs len =
    drop-cons xs n 0 (omega arith)
    ∙ ap (λ (ys : List ℕ). get_or xs n 0 ∷ ys) (listed k (suc n) xs (omega arith))

screen_bytes : (body : List ℕ) → AreBytes body → length body ≡ 30 → get_or body 21 0 ≡ 1
    → get_or body 22 0 ≡ 0 → get_or body 23 0 ≡ 0 → body ≡ screen_body (framebuffer_in body)
screen_bytes body small len type_is low high =
    let first : u64_bytes (first_u64 body) ++ drop 8 body ≡ body =
    long_then body small (omega arith) in
    let second : u32_bytes (first_u32 (drop 8 body)) ++ drop 4 (drop 8 body) ≡ drop 8 body =
    word_then (drop 8 body) (drop_small 8 body small) (omega (arith, length-drop 8 body)) in
    let third : u32_bytes (first_u32 (drop 12 body)) ++ drop 4 (drop 12 body) ≡ drop 12 body =
    word_then (drop 12 body) (drop_small 12 body small) (omega (arith, length-drop 12 body)) in
    let fourth : u32_bytes (first_u32 (drop 16 body)) ++ drop 4 (drop 16 body) ≡ drop 16 body =
    word_then (drop 16 body) (drop_small 16 body small) (omega (arith, length-drop 16 body)) in
    let pixels : drop 20 body
    ≡ get_or body 20 0 ∷ 1 ∷ 0 ∷ 0 ∷ bytes_from 6 24 body =
    listed 10 20 body (omega arith) ∙ rw (type_is, low, high) refl in
    let from_16 : drop 4 (drop 12 body)
    ≡ u32_bytes (first_u32 (drop 16 body))
    ++ (get_or body 20 0 ∷ 1 ∷ 0 ∷ 0 ∷ bytes_from 6 24 body) =
    drop-drop 4 12 body ∙ sym fourth
    ∙ ap (λ (xs : List ℕ). u32_bytes (first_u32 (drop 16 body)) ++ xs)
    (drop-drop 4 16 body ∙ pixels) in
    let from_12 =
    drop-drop 4 8 body ∙ sym third
    ∙ ap (λ (xs : List ℕ). u32_bytes (first_u32 (drop 12 body)) ++ xs) from_16 in
    let from_8 =
    sym second ∙ ap (λ (xs : List ℕ). u32_bytes (first_u32 (drop 8 body)) ++ xs) from_12 in
    sym first ∙ ap (λ (xs : List ℕ). u64_bytes (first_u64 body) ++ xs) from_8

pub screen_is : (body : List ℕ) (screen : Screen) → AreBytes body → framebuffer_of body ≡ Some screen
    → (body ≡ screen_body screen) × (screen_fault screen ≡ None)
unfolding framebuffer_of
screen_is body screen small h =
    let s1 = passed_some (not (nat_eq (length body) 30)) _ screen h in
    let s2 = passed_some (not (nat_eq (get_or body 21 0) 1)) _ screen s1.1 in
    let s3 = passed_some (not (nat_eq (get_or body 22 0) 0)) _ screen s2.1 in
    let s4 = passed_some (not (nat_eq (get_or body 23 0) 0)) _ screen s3.1 in
    let s5 = passed_some (is_some (screen_fault (framebuffer_in body))) _ screen s4.1 in
    let read = same_some (framebuffer_in body) screen s5.1 in
    let len : length body ≡ 30 = grind (arith, nat_tests, not-false _ s1.0) in
    let type_is : get_or body 21 0 ≡ 1 = grind (arith, nat_tests, not-false _ s2.0) in
    let low : get_or body 22 0 ≡ 0 = grind (arith, nat_tests, not-false _ s3.0) in
    let high : get_or body 23 0 ≡ 0 = grind (arith, nat_tests, not-false _ s4.0) in (
      screen_bytes body small len type_is low high ∙ ap screen_body read,
      ap screen_fault (sym read) ∙ is_none _ s5.0,
    )

-- the address of a system table that is told with these bits
pub record IsPointer (bits : EfiBits) (pointer : EfiBits × ℕ) : Type 0 where
  pub told : pointer.0 ≡ bits
  pub limit : is_system_table pointer.0 pointer.1 ≡ true

pub pointer_is : (bits : EfiBits) (body : List ℕ) (pointer : EfiBits × ℕ) → AreBytes body
    → pointer_of bits body ≡ Some pointer
    → (body ≡ pointer_body bits pointer.1) × IsPointer bits pointer
unfolding pointer_of
pointer_is Efi32 body pointer small h =
    let s1 = passed_some (not (nat_eq (length body) 4)) _ pointer h in
    let s2 = passed_some (not (is_system_table Efi32 (first_u32 body))) _ pointer s1.1 in
    let read = same_some (Efi32, first_u32 body) pointer s2.1 in
    let len : length body ≡ 4 = grind (arith, nat_tests, not-false _ s1.0) in
    let front : u32_bytes (first_u32 body) ++ drop 4 body ≡ body =
    word_then body small (omega arith) in
    let spelled : body ≡ u32_bytes (first_u32 body) =
    sym front
    ∙ ap (λ (xs : List ℕ). u32_bytes (first_u32 body) ++ xs) (drop_all 4 body (omega arith))
    ∙ append-nil (u32_bytes (first_u32 body)) in
    let told : IsPointer Efi32 (Efi32, first_u32 body) =
    record { told = refl; limit = not-false _ s2.0 } in
    let is : (body ≡ pointer_body Efi32 (first_u32 body))
    × IsPointer Efi32 (Efi32, first_u32 body) =
    (spelled, told) in
    rw (← read) is
pointer_is Efi64 body pointer small h =
    let s1 = passed_some (not (nat_eq (length body) 8)) _ pointer h in
    let s2 = passed_some (not (is_system_table Efi64 (first_u64 body))) _ pointer s1.1 in
    let read = same_some (Efi64, first_u64 body) pointer s2.1 in
    let len : length body ≡ 8 = grind (arith, nat_tests, not-false _ s1.0) in
    let front : u64_bytes (first_u64 body) ++ drop 8 body ≡ body =
    long_then body small (omega arith) in
    let spelled : body ≡ u64_bytes (first_u64 body) =
    sym front
    ∙ ap (λ (xs : List ℕ). u64_bytes (first_u64 body) ++ xs) (drop_all 8 body (omega arith))
    ∙ append-nil (u64_bytes (first_u64 body)) in
    let told : IsPointer Efi64 (Efi64, first_u64 body) =
    record { told = refl; limit = not-false _ s2.0 } in
    let is : (body ≡ pointer_body Efi64 (first_u64 body))
    × IsPointer Efi64 (Efi64, first_u64 body) =
    (spelled, told) in
    rw (← read) is

pub smbios_is : (body : List ℕ) (smbios : SmbiosFacts) → AreBytes body
    → smbios_of body ≡ Some smbios → (body ≡ smbios_body smbios) × IsToldSmbios smbios
unfolding smbios_of
smbios_is body smbios small h =
    let s1 = passed_some (nat_lt (length body) 8) _ smbios h in
    let s2 = passed_some (not (list_all (λ b. nat_eq b 0) (slice_range body 2 8))) _ _ s1.1 in
    let s3 = passed_some (not (is_smbios_size (length (drop 8 body)))) _ smbios s2.1 in
    let enough : 8 ≤ length body = grind (arith, nat_tests, s1.0) in
    let six : length (slice_range body 2 8) ≡ 6 = search (rules, places) in
    let zeros : slice_range body 2 8 ≡ replicate 6 0 =
    all_zero (slice_range body 2 8) (not-false _ s2.0)
    ∙ ap (λ (n : ℕ). replicate n 0) six in
    let from_2 : drop 2 body ≡ replicate 6 0 ++ drop 8 body =
    sym (take-append-drop 6 (drop 2 body))
    ∙ ap₂ (λ (xs ys : List ℕ). xs ++ ys) zeros (drop-drop 6 2 body) in
    let read : SmbiosFacts =
    record { major = get_or body 0 0; minor = get_or body 1 0; tables = drop 8 body } in
    let spelled : body ≡ smbios_body read =
    drop-cons body 0 0 (omega arith)
    ∙ ap (λ (xs : List ℕ). get_or body 0 0 ∷ xs)
    (drop-cons body 1 0 (omega arith)
    ∙ ap (λ (xs : List ℕ). get_or body 1 0 ∷ xs) from_2) in
    let is : (body ≡ smbios_body read) × IsToldSmbios read = (
      spelled,
      record {
        size = not-false _ s3.0;
        fields = record {
          major = small_at body 0 small;
          minor = small_at body 1 small;
          tables = drop_small 8 body small;
        };
      },
    ) in
    rw (← same_some read smbios s3.1) is

-- UEFI's memory map that is told after this address of its system table
pub record IsEfiMap (pointer : EfiBits × ℕ) (efi : EfiTables) : Type 0 where
  pub after : (efi.bits, efi.system_table) ≡ pointer
  pub descriptors : are_descriptors efi.descriptor_size efi.descriptor_version ≡ true
  pub size : is_efi_map_size efi.descriptor_size (length efi.map) ≡ true
  pub map : AreBytes efi.map

pub efi_is : (pointer : EfiBits × ℕ) (body : List ℕ) (efi : EfiTables) → AreBytes body
    → efi_tables_of pointer body ≡ Some efi → (body ≡ efi_map_body efi) × IsEfiMap pointer efi
unfolding efi_tables_of
efi_is pointer body efi small h =
    let size = first_u32 body in
    let version = first_u32 (drop 4 body) in
    let s1 = passed_some (nat_lt (length body) 8) _ efi h in
    let s2 = passed_some (not (are_descriptors size version)) _ efi s1.1 in
    let s3 = passed_some (not (is_efi_map_size size (length (drop 8 body)))) _ efi s2.1 in
    let enough : 8 ≤ length body = grind (arith, nat_tests, s1.0) in
    let front : u32_bytes size ++ drop 4 body ≡ body = word_then body small (omega arith) in
    let second : u32_bytes version ++ drop 4 (drop 4 body) ≡ drop 4 body =
    word_then (drop 4 body) (drop_small 4 body small) (omega (arith, length-drop 4 body)) in
    let read : EfiTables = record {
      bits = pointer.0;
      system_table = pointer.1;
      descriptor_size = size;
      descriptor_version = version;
      map = drop 8 body;
    } in
    let spelled : body ≡ efi_map_body read =
    sym front
    ∙ ap (λ (xs : List ℕ). u32_bytes size ++ xs)
    (sym second ∙ ap (λ (xs : List ℕ). u32_bytes version ++ xs) (drop-drop 4 4 body)) in
    let told : IsEfiMap pointer read = record {
      after = refl;
      descriptors = not-false _ s2.0;
      size = not-false _ s3.0;
      map = drop_small 8 body small;
    } in
    let is : (body ≡ efi_map_body read) × IsEfiMap pointer read = (spelled, told) in
    rw (← same_some read efi s3.1) is
