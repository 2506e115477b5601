-- The fields that lie over a byte of the parameters: those that stand above it and below it.
use Rattle.std.proofs.Common.{◌≡◌, ◌≤◌, ◌<◌, ◌+◌, ◌*◌, ℕ, List, [], ◌∷◌, length, arith, ◌∙◌}
use Rattle.std.specs.Prelude.{unwrap_or}
use Rattle.std.specs.List.{flat_map}
use Rattle.bl_params.specs.ParamsToWriteFacts.{ParamsToWriteFacts}
use Rattle.bl_params.specs.BootParams.{e820_entry_bytes}
use Rattle.bl_params.specs.FieldBytes.{byte_of_fields, number_bytes}
use Rattle.bl_params.specs.ScreenInfo.{screen_info}
use Rattle.bl_params.specs.EfiInfo.{efi_info_bytes, secure_boot_byte}
use Rattle.bl_params.proofs.OverLemmas.{over_below, over_above}
use Rattle.bl_params.proofs.FieldLists.{screen_len, rsdp_len, efi_len, vid_len, load_len, image_len}
use Rattle.bl_params.proofs.FieldLists.{size_len, line_len, data_len, map_len, l1, l2, l3, l4, l5}
use Rattle.bl_params.proofs.FieldLists.{l6, l7, l8, l9, l10, l11, l12, l13, l14}

module _ (header : List ℕ) (facts : ParamsToWriteFacts) where
  pub above_13 : (k : ℕ) → 0x40 ≤ k → byte_of_fields (l14 header facts) k
      ≡ byte_of_fields (l13 header facts) k
  above_13 k from =
      over_above 0x000 (screen_info facts.screen) (byte_of_fields (l13 header facts)) k
      (omega (arith, screen_len header facts))

  pub above_12 : (k : ℕ) → 0x78 ≤ k → byte_of_fields (l14 header facts) k
      ≡ byte_of_fields (l12 header facts) k
  above_12 k from =
      above_13 k (omega arith)
      ∙ over_above 0x070 (number_bytes 8 (unwrap_or facts.rsdp 0))
      (byte_of_fields (l12 header facts)) k (omega (arith, rsdp_len header facts))

  pub above_11 : (k : ℕ) → 0x1E0 ≤ k → byte_of_fields (l14 header facts) k
      ≡ byte_of_fields (l11 header facts) k
  above_11 k from =
      above_12 k (omega arith)
      ∙ over_above 0x1C0 (efi_info_bytes facts.efi) (byte_of_fields (l11 header facts)) k
      (omega (arith, efi_len header facts))

  pub above_10 : (k : ℕ) → 0x1E9 ≤ k → byte_of_fields (l14 header facts) k
      ≡ byte_of_fields (l10 header facts) k
  above_10 k from =
      above_11 k (omega arith)
      ∙ over_above 0x1E8 (length facts.runs ∷ []) (byte_of_fields (l10 header facts)) k from

  pub above_9 : (k : ℕ) → 0x1ED ≤ k → byte_of_fields (l14 header facts) k
      ≡ byte_of_fields (l9 header facts) k
  above_9 k from =
      above_10 k (omega arith)
      ∙ over_above 0x1EC (secure_boot_byte facts.efi ∷ []) (byte_of_fields (l9 header facts)) k from

  pub above_8 : (k : ℕ) → 0x1FC ≤ k → byte_of_fields (l14 header facts) k
      ≡ byte_of_fields (l8 header facts) k
  above_8 k from =
      above_9 k (omega arith)
      ∙ over_above 0x1FA (number_bytes 2 0xFFFF)
      (byte_of_fields (l8 header facts)) k (omega (arith, vid_len header facts))

  pub above_7 : (k : ℕ) → 0x211 ≤ k → byte_of_fields (l14 header facts) k
      ≡ byte_of_fields (l7 header facts) k
  above_7 k from = above_8 k (omega arith) ∙ over_above 0x210 (0xFF ∷ [])
      (byte_of_fields (l7 header facts)) k from

  pub above_6 : (k : ℕ) → 0x218 ≤ k → byte_of_fields (l14 header facts) k
      ≡ byte_of_fields (l6 header facts) k
  above_6 k from =
      above_7 k (omega arith)
      ∙ over_above 0x214 (number_bytes 4 facts.code32_start) (byte_of_fields (l6 header facts)) k
      (omega (arith, load_len header facts))

  pub above_5 : (k : ℕ) → 0x21C ≤ k → byte_of_fields (l14 header facts) k
      ≡ byte_of_fields (l5 header facts) k
  above_5 k from =
      above_6 k (omega arith)
      ∙ over_above 0x218 (number_bytes 4 facts.ramdisk_image) (byte_of_fields (l5 header facts)) k
      (omega (arith, image_len header facts))

  pub above_4 : (k : ℕ) → 0x220 ≤ k → byte_of_fields (l14 header facts) k
      ≡ byte_of_fields (l4 header facts) k
  above_4 k from =
      above_5 k (omega arith)
      ∙ over_above 0x21C (number_bytes 4 facts.ramdisk_size) (byte_of_fields (l4 header facts)) k
      (omega (arith, size_len header facts))

  pub above_3 : (k : ℕ) → 0x22C ≤ k → byte_of_fields (l14 header facts) k
      ≡ byte_of_fields (l3 header facts) k
  above_3 k from =
      above_4 k (omega arith)
      ∙ over_above 0x228 (number_bytes 4 facts.cmd_line_ptr) (byte_of_fields (l3 header facts)) k
      (omega (arith, line_len header facts))

  pub above_2 : (k : ℕ) → 0x258 ≤ k → byte_of_fields (l14 header facts) k
      ≡ byte_of_fields (l2 header facts) k
  above_2 k from =
      above_3 k (omega arith)
      ∙ over_above 0x250 (number_bytes 8 0)
      (byte_of_fields (l2 header facts)) k (omega (arith, data_len header facts))

  pub above_1 : (k : ℕ) → 0x2D0 + 20 * length facts.runs ≤ k → byte_of_fields (l14 header facts) k
      ≡ byte_of_fields (l1 header facts) k
  above_1 k from =
      above_2 k (omega arith)
      ∙ over_above 0x2D0 (flat_map e820_entry_bytes facts.runs) (byte_of_fields (l1 header facts)) k
      (omega (arith, map_len header facts))

  pub below_2 : (k : ℕ) → k < 0x2D0 → byte_of_fields (l2 header facts) k
      ≡ byte_of_fields (l1 header facts) k
  below_2 k below = over_below 0x2D0 (flat_map e820_entry_bytes facts.runs)
      (byte_of_fields (l1 header facts)) k below

  pub below_3 : (k : ℕ) → k < 0x250 → byte_of_fields (l3 header facts) k
      ≡ byte_of_fields (l1 header facts) k
  below_3 k below =
      over_below 0x250 (number_bytes 8 0)
      (byte_of_fields (l2 header facts)) k below ∙ below_2 k (omega arith)

  below_4 : (k : ℕ) → k < 0x228 → byte_of_fields (l4 header facts) k
      ≡ byte_of_fields (l1 header facts) k
  below_4 k below =
      over_below 0x228 (number_bytes 4 facts.cmd_line_ptr)
      (byte_of_fields (l3 header facts)) k below
      ∙ below_3 k (omega arith)

  below_5 : (k : ℕ) → k < 0x21C → byte_of_fields (l5 header facts) k
      ≡ byte_of_fields (l1 header facts) k
  below_5 k below =
      over_below 0x21C (number_bytes 4 facts.ramdisk_size)
      (byte_of_fields (l4 header facts)) k below
      ∙ below_4 k (omega arith)

  below_6 : (k : ℕ) → k < 0x218 → byte_of_fields (l6 header facts) k
      ≡ byte_of_fields (l1 header facts) k
  below_6 k below =
      over_below 0x218 (number_bytes 4 facts.ramdisk_image)
      (byte_of_fields (l5 header facts)) k below
      ∙ below_5 k (omega arith)

  pub below_7 : (k : ℕ) → k < 0x214 → byte_of_fields (l7 header facts) k
      ≡ byte_of_fields (l1 header facts) k
  below_7 k below =
      over_below 0x214 (number_bytes 4 facts.code32_start)
      (byte_of_fields (l6 header facts)) k below
      ∙ below_6 k (omega arith)

  pub below_8 : (k : ℕ) → k < 0x210 → byte_of_fields (l8 header facts) k
      ≡ byte_of_fields (l1 header facts) k
  below_8 k below = over_below 0x210 (0xFF ∷ []) (byte_of_fields (l7 header facts)) k below
      ∙ below_7 k (omega arith)

  pub below_9 : (k : ℕ) → k < 0x1FA → byte_of_fields (l9 header facts) k
      ≡ byte_of_fields (l1 header facts) k
  below_9 k below =
      over_below 0x1FA (number_bytes 2 0xFFFF)
      (byte_of_fields (l8 header facts)) k below ∙ below_8 k (omega arith)

  pub below_10 : (k : ℕ) → k < 0x1EC → byte_of_fields (l10 header facts) k
      ≡ byte_of_fields (l1 header facts) k
  below_10 k below =
      over_below 0x1EC (secure_boot_byte facts.efi ∷ []) (byte_of_fields (l9 header facts)) k below
      ∙ below_9 k (omega arith)

  pub below_11 : (k : ℕ) → k < 0x1E8 → byte_of_fields (l11 header facts) k
      ≡ byte_of_fields (l1 header facts) k
  below_11 k below =
      over_below 0x1E8 (length facts.runs ∷ []) (byte_of_fields (l10 header facts)) k below
      ∙ below_10 k (omega arith)

  pub below_12 : (k : ℕ) → k < 0x1C0 → byte_of_fields (l12 header facts) k
      ≡ byte_of_fields (l1 header facts) k
  below_12 k below =
      over_below 0x1C0 (efi_info_bytes facts.efi) (byte_of_fields (l11 header facts)) k below
      ∙ below_11 k (omega arith)

  pub below_13 : (k : ℕ) → k < 0x70 → byte_of_fields (l13 header facts) k
      ≡ byte_of_fields (l1 header facts) k
  below_13 k below =
      over_below 0x070 (number_bytes 8 (unwrap_or facts.rsdp 0))
      (byte_of_fields (l12 header facts)) k below ∙ below_12 k (omega arith)

  pub below_1 : (k : ℕ) → k < 0x1F1 → byte_of_fields (l1 header facts) k ≡ 0
  below_1 k below = over_below 0x1F1 header (byte_of_fields []) k below
