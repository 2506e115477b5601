-- The fields of parameters, the lowest of them first, and how long they are.
use Rattle.std.proofs.Common.{◌≡◌, ◌<◌, ◌*◌, ℕ, List, [], ◌∷◌, length, slice_index, arith}
use Rattle.std.specs.Prelude.{unwrap_or}
use Rattle.std.specs.List.{flat_map}
use Rattle.std.proofs.lemmas.List.FromFn.{get_or-map-range_with_len, length-map-range_with_len}
use Rattle.bl_params.specs.ParamsToWriteFacts.{ParamsToWriteFacts}
use Rattle.bl_params.specs.BootParams.{boot_params, fields_of, e820_entry_bytes}
use Rattle.bl_params.specs.FieldBytes.{byte_of_fields, number_bytes}
use Rattle.bl_params.specs.ScreenInfo.{screen_fields, screen_info}
use Rattle.bl_params.specs.EfiInfo.{efi_fields, efi_info_bytes, secure_boot_byte}
use Rattle.bl_params.proofs.EntryLemmas.{length-number_bytes, length-entries}

module _ (header : List ℕ) (facts : ParamsToWriteFacts) where
  abbrev pub params : List ℕ
  params = boot_params header facts

  pub is_at : (k : ℕ) → k < 4096 → slice_index params k ≡ byte_of_fields (fields_of header facts) k
  unfolding boot_params
  is_at k within =
      get_or-map-range_with_len (byte_of_fields (fields_of header facts)) 0 4096 k k 0 within
      (omega arith)

  pub screen_len : length (screen_info facts.screen) ≡ 0x40
  unfolding screen_info
  screen_len = length-map-range_with_len (byte_of_fields (screen_fields facts.screen)) 0 0x40

  pub rsdp_len : length (number_bytes 8 (unwrap_or facts.rsdp 0)) ≡ 8
  rsdp_len = length-number_bytes 8 (unwrap_or facts.rsdp 0)

  pub efi_len : length (efi_info_bytes facts.efi) ≡ 0x20
  unfolding efi_info_bytes
  efi_len = length-map-range_with_len (byte_of_fields (efi_fields facts.efi)) 0 0x20

  pub vid_len : length (number_bytes 2 0xFFFF) ≡ 2
  vid_len = length-number_bytes 2 0xFFFF

  pub load_len : length (number_bytes 4 facts.code32_start) ≡ 4
  load_len = length-number_bytes 4 facts.code32_start

  pub image_len : length (number_bytes 4 facts.ramdisk_image) ≡ 4
  image_len = length-number_bytes 4 facts.ramdisk_image

  pub size_len : length (number_bytes 4 facts.ramdisk_size) ≡ 4
  size_len = length-number_bytes 4 facts.ramdisk_size

  pub line_len : length (number_bytes 4 facts.cmd_line_ptr) ≡ 4
  line_len = length-number_bytes 4 facts.cmd_line_ptr

  pub data_len : length (number_bytes 8 0) ≡ 8
  data_len = length-number_bytes 8 0

  pub map_len : length (flat_map e820_entry_bytes facts.runs) ≡ 20 * length facts.runs
  map_len = length-entries facts.runs

  abbrev pub l1 : List (ℕ × List ℕ)
  l1 = (0x1F1, header) ∷ []

  abbrev pub l2 : List (ℕ × List ℕ)
  l2 = (0x2D0, flat_map e820_entry_bytes facts.runs) ∷ l1

  abbrev pub l3 : List (ℕ × List ℕ)
  l3 = (0x250, number_bytes 8 0) ∷ l2

  abbrev pub l4 : List (ℕ × List ℕ)
  l4 = (0x228, number_bytes 4 facts.cmd_line_ptr) ∷ l3

  abbrev pub l5 : List (ℕ × List ℕ)
  l5 = (0x21C, number_bytes 4 facts.ramdisk_size) ∷ l4

  abbrev pub l6 : List (ℕ × List ℕ)
  l6 = (0x218, number_bytes 4 facts.ramdisk_image) ∷ l5

  abbrev pub l7 : List (ℕ × List ℕ)
  l7 = (0x214, number_bytes 4 facts.code32_start) ∷ l6

  abbrev pub l8 : List (ℕ × List ℕ)
  l8 = (0x210, 0xFF ∷ []) ∷ l7

  abbrev pub l9 : List (ℕ × List ℕ)
  l9 = (0x1FA, number_bytes 2 0xFFFF) ∷ l8

  abbrev pub l10 : List (ℕ × List ℕ)
  l10 = (0x1EC, secure_boot_byte facts.efi ∷ []) ∷ l9

  abbrev pub l11 : List (ℕ × List ℕ)
  l11 = (0x1E8, length facts.runs ∷ []) ∷ l10

  abbrev pub l12 : List (ℕ × List ℕ)
  l12 = (0x1C0, efi_info_bytes facts.efi) ∷ l11

  abbrev pub l13 : List (ℕ × List ℕ)
  l13 = (0x070, number_bytes 8 (unwrap_or facts.rsdp 0)) ∷ l12

  -- all of them
  abbrev pub l14 : List (ℕ × List ℕ)
  l14 = fields_of header facts
