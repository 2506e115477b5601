-- Fields that are written one after the other are boot parameters.
use Rattle.std.proofs.Common.{◌≡◌, ◌∙◌, ℕ, zero, suc, replicate, slice_index, ap, List, [], ◌∷◌}
use Rattle.std.proofs.Common.{length, refl}
use Rattle.std.proofs.lemmas.List.FromFn.{fill_by_all}
use Rattle.std.specs.Prelude.{unwrap_or}
use Rattle.std.specs.List.{flat_map}
use Rattle.bl_map.specs.declared.region.Region.{Region}
use Rattle.bl_params.specs.BootParams.{boot_params, fields_of, e820_entry_bytes}
use Rattle.bl_params.specs.ParamsToWriteFacts.{ParamsToWriteFacts}
use Rattle.bl_params.specs.FieldBytes.{byte_over, byte_of_fields, number_bytes}
use Rattle.bl_params.specs.ScreenInfo.{screen_info}
use Rattle.bl_params.specs.EfiInfo.{efi_info_bytes, secure_boot_byte}
use Rattle.bl_params.proofs.OverLemmas.{over_same}

zero_at : (n k : ℕ) → slice_index (replicate n 0) k ≡ 0
zero_at zero k = refl
zero_at (suc n) zero = refl
zero_at (suc n) (suc k) = zero_at n k

-- these bytes are those with a field over them
abbrev pub IsPut : List ℕ → ℕ → List ℕ → List ℕ → Type 0
IsPut old at field new = (k : ℕ) → slice_index new k ≡ byte_over at field (λ j. slice_index old j) k

next : (old new : List ℕ) (at : ℕ) (field same : List ℕ) (fields : List (ℕ × List ℕ))
    → IsPut old at field new → field ≡ same
    → ((k : ℕ) → slice_index old k ≡ byte_of_fields fields k) → (k : ℕ)
    → slice_index new k ≡ byte_of_fields ((at, same) ∷ fields) k
next old new at field same fields put e so_far k =
    put k ∙ over_same at field (λ j. slice_index old j) (byte_of_fields fields) so_far k
    ∙ ap (λ (x : List ℕ). byte_over at x (byte_of_fields fields) k) e

pub written : (header h : List ℕ) (facts : ParamsToWriteFacts) (runs : List Region)
    (n count safe root : ℕ)
    (efi screen o0 o1 o2 o3 o4 o5 o6 o7 o8 o9 o10 o11 o12 o13 o14 : List ℕ)
    → h ≡ header → runs ≡ facts.runs → count ≡ length facts.runs
    → safe ≡ secure_boot_byte facts.efi → efi ≡ efi_info_bytes facts.efi
    → root ≡ unwrap_or facts.rsdp 0 → screen ≡ screen_info facts.screen
    → o0 ≡ replicate n 0
    → IsPut o0 0x1F1 h o1
    → IsPut o1 0x2D0 (flat_map e820_entry_bytes runs) o2
    → IsPut o2 0x250 (number_bytes 8 0) o3
    → IsPut o3 0x228 (number_bytes 4 facts.cmd_line_ptr) o4
    → IsPut o4 0x21C (number_bytes 4 facts.ramdisk_size) o5
    → IsPut o5 0x218 (number_bytes 4 facts.ramdisk_image) o6
    → IsPut o6 0x214 (number_bytes 4 facts.code32_start) o7
    → IsPut o7 0x210 (0xFF ∷ []) o8
    → IsPut o8 0x1FA (number_bytes 2 0xFFFF) o9
    → IsPut o9 0x1EC (safe ∷ []) o10
    → IsPut o10 0x1E8 (count ∷ []) o11
    → IsPut o11 0x1C0 efi o12
    → IsPut o12 0x070 (number_bytes 8 root) o13
    → IsPut o13 0x000 screen o14
    → length o14 ≡ 4096
    → o14 ≡ boot_params header facts
unfolding boot_params
written header h facts runs n count safe root efi screen o0 o1 o2 o3 o4 o5 o6 o7 o8 o9 o10 o11 o12
    o13 o14 same_header same_runs same_count same_safe same_efi same_root same_screen clear p1 p2 p3
    p4 p5 p6 p7 p8 p9 p10 p11 p12 p13 p14 long =
    let l1 : List (ℕ × List ℕ) = (0x1F1, header) ∷ [] in
    let l2 : List (ℕ × List ℕ) = (0x2D0, flat_map e820_entry_bytes facts.runs) ∷ l1 in
    let l3 : List (ℕ × List ℕ) = (0x250, number_bytes 8 0) ∷ l2 in
    let l4 : List (ℕ × List ℕ) = (0x228, number_bytes 4 facts.cmd_line_ptr) ∷ l3 in
    let l5 : List (ℕ × List ℕ) = (0x21C, number_bytes 4 facts.ramdisk_size) ∷ l4 in
    let l6 : List (ℕ × List ℕ) = (0x218, number_bytes 4 facts.ramdisk_image) ∷ l5 in
    let l7 : List (ℕ × List ℕ) = (0x214, number_bytes 4 facts.code32_start) ∷ l6 in
    let l8 : List (ℕ × List ℕ) = (0x210, 0xFF ∷ []) ∷ l7 in
    let l9 : List (ℕ × List ℕ) = (0x1FA, number_bytes 2 0xFFFF) ∷ l8 in
    let l10 : List (ℕ × List ℕ) = (0x1EC, secure_boot_byte facts.efi ∷ []) ∷ l9 in
    let l11 : List (ℕ × List ℕ) = (0x1E8, length facts.runs ∷ []) ∷ l10 in
    let l12 : List (ℕ × List ℕ) = (0x1C0, efi_info_bytes facts.efi) ∷ l11 in
    let l13 : List (ℕ × List ℕ) = (0x070, number_bytes 8 (unwrap_or facts.rsdp 0)) ∷ l12 in
    let f0 : (k : ℕ) → slice_index o0 k ≡ byte_of_fields [] k =
    λ k. ap (λ (xs : List ℕ). slice_index xs k) clear ∙ zero_at n k in
    let f1 = next o0 o1 0x1F1 h header [] p1 same_header f0 in
    let f2 =
    next o1 o2 0x2D0 (flat_map e820_entry_bytes runs) (flat_map e820_entry_bytes facts.runs) l1 p2
    (ap (λ (rs : List Region). flat_map e820_entry_bytes rs) same_runs) f1 in
    let f3 = next o2 o3 0x250 (number_bytes 8 0) (number_bytes 8 0) l2 p3 refl f2 in
    let f4 =
    next o3 o4 0x228 (number_bytes 4 facts.cmd_line_ptr) (number_bytes 4 facts.cmd_line_ptr) l3
    p4 refl f3 in
    let f5 =
    next o4 o5 0x21C (number_bytes 4 facts.ramdisk_size) (number_bytes 4 facts.ramdisk_size) l4
    p5 refl f4 in
    let f6 =
    next o5 o6 0x218 (number_bytes 4 facts.ramdisk_image) (number_bytes 4 facts.ramdisk_image)
    l5 p6 refl f5 in
    let f7 =
    next o6 o7 0x214 (number_bytes 4 facts.code32_start) (number_bytes 4 facts.code32_start) l6
    p7 refl f6 in
    let f8 = next o7 o8 0x210 (0xFF ∷ []) (0xFF ∷ []) l7 p8 refl f7 in
    let f9 = next o8 o9 0x1FA (number_bytes 2 0xFFFF) (number_bytes 2 0xFFFF) l8 p9 refl f8 in
    let f10 =
    next o9 o10 0x1EC (safe ∷ []) (secure_boot_byte facts.efi ∷ []) l9 p10
    (ap (λ (x : ℕ). x ∷ []) same_safe) f9 in
    let f11 =
    next o10 o11 0x1E8 (count ∷ []) (length facts.runs ∷ []) l10 p11
    (ap (λ (x : ℕ). x ∷ []) same_count) f10 in
    let f12 = next o11 o12 0x1C0 efi (efi_info_bytes facts.efi) l11 p12 same_efi f11 in
    let f13 =
    next o12 o13 0x070 (number_bytes 8 root) (number_bytes 8 (unwrap_or facts.rsdp 0)) l12 p13
    (ap (λ (x : ℕ). number_bytes 8 x) same_root) f12 in
    let f14 = next o13 o14 0x000 screen (screen_info facts.screen) l13 p14 same_screen f13 in
    fill_by_all (byte_of_fields (fields_of header facts)) o14 4096 0 long (λ k within. f14 k)
