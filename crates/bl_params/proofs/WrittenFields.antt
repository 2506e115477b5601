-- What the bytes and the fields of parameters are that were written.
use Rattle.std.proofs.Common.{◌≡◌, ◌≤◌, ◌<◌, ◌+◌, ◌-◌, ◌*◌, ◌^◌, ℕ, List, [], ◌∷◌, length}
use Rattle.std.proofs.Common.{slice_index, arith, ap, ◌∙◌}
use Rattle.std.specs.Prelude.{min}
use Rattle.std.specs.List.{flat_map}
use Rattle.bl_mem.specs.LittleEndian.{number_at, u16_at, u32_at, u64_at}
use Rattle.bl_bzimage.specs.Setup.{header_end}
use Rattle.bl_params.specs.ParamsToWriteFacts.{ParamsToWriteFacts, AreE820Runs}
use Rattle.bl_params.specs.BootParams.{e820_entry_bytes}
use Rattle.bl_params.specs.FieldBytes.{byte_of_fields, number_bytes}
use Rattle.bl_params.specs.BootParamsForm.{e820_entry_count}
use Rattle.bl_params.specs.Reading.{AreE820Entries}
use Rattle.bl_params.proofs.OverLemmas.{over_in, over_above}
use Rattle.bl_params.proofs.EntriesTold.{number_same, all_low, Stand, stand_number, entries_told}
use Rattle.bl_params.proofs.FieldLists.{params, is_at, vid_len, load_len, image_len, size_len}
use Rattle.bl_params.proofs.FieldLists.{line_len, data_len, map_len, l1, l2, l3, l4, l5, l6, l7}
use Rattle.bl_params.proofs.FieldLists.{l8, l10}
use Rattle.bl_params.proofs.RegionLemmas.{above_11, above_9, above_8, above_7, above_6, above_5}
use Rattle.bl_params.proofs.RegionLemmas.{above_4, above_3, above_2, above_1, below_2, below_3}
use Rattle.bl_params.proofs.RegionLemmas.{below_7, below_8}

module _ (file header : List ℕ) (end : ℕ) (facts : ParamsToWriteFacts)
    (long : 0x1F1 + length header ≡ end) (low : 0x264 ≤ end) (high : end ≤ 0x290)
    (same : (k : ℕ) → 0x1F1 ≤ k → k < end → slice_index header (k - 0x1F1) ≡ slice_index file k)
    (told : AreE820Runs facts.runs) where
  above_0 : (k : ℕ) → end ≤ k → byte_of_fields (l1 header facts) k ≡ 0
  above_0 k from = over_above 0x1F1 header (byte_of_fields []) k (omega (arith, long))

  header_byte : (k : ℕ) → 0x1F1 ≤ k → k < end → byte_of_fields (l1 header facts) k
      ≡ slice_index file k
  header_byte k from below =
      over_in 0x1F1 header (byte_of_fields []) k from (omega (arith, long)) ∙ same k from below

  copied_1 : (k : ℕ) → 0x1FC ≤ k → k < 0x210
      → slice_index (params header facts) k ≡ slice_index file k
  copied_1 k from below =
      is_at header facts k (omega arith) ∙ above_8 header facts k from
      ∙ below_8 header facts k below
      ∙ header_byte k (omega arith) (omega (arith, low))

  pub copied_2 : (k : ℕ) → 0x211 ≤ k → k < 0x214
      → slice_index (params header facts) k ≡ slice_index file k
  copied_2 k from below =
      is_at header facts k (omega arith) ∙ above_7 header facts k from
      ∙ below_7 header facts k below
      ∙ header_byte k (omega arith) (omega (arith, low))

  pub copied_3 : (k : ℕ) → 0x22C ≤ k → k < 0x250
      → slice_index (params header facts) k ≡ slice_index file k
  copied_3 k from below =
      is_at header facts k (omega arith) ∙ above_3 header facts k from
      ∙ below_3 header facts k below
      ∙ header_byte k (omega arith) (omega (arith, low))

  copied_4 : (k : ℕ) → 0x258 ≤ k → k < 0x264
      → slice_index (params header facts) k ≡ slice_index file k
  copied_4 k from below =
      is_at header facts k (omega arith) ∙ above_2 header facts k from
      ∙ below_2 header facts k (omega arith)
      ∙ header_byte k (omega arith) (omega (arith, low))

  pub zero_behind : (k : ℕ) → end ≤ k → k < 0x2D0 → slice_index (params header facts) k ≡ 0
  zero_behind k from below =
      is_at header facts k (omega arith) ∙ above_2 header facts k (omega (arith, low))
      ∙ below_2 header facts k below ∙ above_0 k from

  pub zero_end : (k : ℕ) → 0x2D0 + 20 * length facts.runs ≤ k → k < 4096
      → slice_index (params header facts) k ≡ 0
  zero_end k from below =
      is_at header facts k below ∙ above_1 header facts k from ∙ above_0 k (omega (arith, high))

  pub vid_mode : u16_at (params header facts) 0x1FA ≡ 0xFFFF
  vid_mode = stand_number 2 0x1FA 0xFFFF (params header facts) (omega arith) (λ k from below.
      is_at header facts k (omega (arith, vid_len header facts))
      ∙ above_9 header facts k (omega arith)
      ∙ over_in 0x1FA (number_bytes 2 0xFFFF) (byte_of_fields (l8 header facts)) k from below)

  pub loader : slice_index (params header facts) 0x210 ≡ 0xFF
  loader =
      is_at header facts 0x210 (omega arith) ∙ above_8 header facts 0x210 (omega arith)
      ∙ over_in 0x210 (0xFF
      ∷ []) (byte_of_fields (l7 header facts)) 0x210 (omega arith) (omega arith)

  pub code32_start : facts.code32_start < 2 ^ 32
      → u32_at (params header facts) 0x214 ≡ facts.code32_start
  code32_start fits =
      stand_number 4 0x214 facts.code32_start (params header facts) (omega arith) (λ k from below.
      is_at header facts k (omega (arith, load_len header facts))
      ∙ above_7 header facts k (omega arith)
      ∙ over_in 0x214 (number_bytes 4 facts.code32_start) (byte_of_fields
      (l6 header facts)) k from below)

  pub ramdisk_image : facts.ramdisk_image < 2 ^ 32
      → u32_at (params header facts) 0x218 ≡ facts.ramdisk_image
  ramdisk_image fits =
      stand_number 4 0x218 facts.ramdisk_image (params header facts) (omega arith) (λ k from below.
      is_at header facts k (omega (arith, image_len header facts))
      ∙ above_6 header facts k (omega arith)
      ∙ over_in 0x218 (number_bytes 4 facts.ramdisk_image) (byte_of_fields
      (l5 header facts)) k from below)

  pub ramdisk_size : facts.ramdisk_size < 2 ^ 32
      → u32_at (params header facts) 0x21C ≡ facts.ramdisk_size
  ramdisk_size fits =
      stand_number 4 0x21C facts.ramdisk_size (params header facts) (omega arith) (λ k from below.
      is_at header facts k (omega (arith, size_len header facts))
      ∙ above_5 header facts k (omega arith)
      ∙ over_in 0x21C (number_bytes 4 facts.ramdisk_size) (byte_of_fields
      (l4 header facts)) k from below)

  pub cmd_line_ptr : facts.cmd_line_ptr < 2 ^ 32
      → u32_at (params header facts) 0x228 ≡ facts.cmd_line_ptr
  cmd_line_ptr fits =
      stand_number 4 0x228 facts.cmd_line_ptr (params header facts) (omega arith) (λ k from below.
      is_at header facts k (omega (arith, line_len header facts))
      ∙ above_4 header facts k (omega arith)
      ∙ over_in 0x228 (number_bytes 4 facts.cmd_line_ptr) (byte_of_fields
      (l3 header facts)) k from below)

  pub setup_data : u64_at (params header facts) 0x250 ≡ 0
  setup_data = stand_number 8 0x250 0 (params header facts) (omega arith) (λ k from below.
      is_at header facts k (omega (arith, data_len header facts))
      ∙ above_3 header facts k (omega arith)
      ∙ over_in 0x250 (number_bytes 8 0) (byte_of_fields (l2 header facts)) k from below)

  pub count : e820_entry_count (params header facts) ≡ length facts.runs
  count =
      is_at header facts 0x1E8 (omega arith) ∙ above_11 header facts 0x1E8 (omega arith)
      ∙ over_in 0x1E8 (length facts.runs
      ∷ []) (byte_of_fields (l10 header facts)) 0x1E8 (omega arith)
      (omega arith)

  runs_stand : Stand (params header facts) 0x2D0 (flat_map e820_entry_bytes facts.runs)
  runs_stand = λ k from below.
      is_at header facts k (omega (arith, map_len header facts, told.few))
      ∙ above_2 header facts k (omega arith)
      ∙ over_in 0x2D0 (flat_map e820_entry_bytes facts.runs) (byte_of_fields
      (l1 header facts)) k from below

  pub runs_are : AreE820Entries (params header facts) 0x2D0 facts.runs
  runs_are =
      entries_told (params header facts) 0x2D0 facts.runs (all_low facts.runs told.low) runs_stand

  pub number_1 : (n at : ℕ) → 0x1FC ≤ at → at + n ≤ 0x210
      → number_at n (params header facts) at ≡ number_at n file at
  number_1 n at from below =
      number_same n at (params header facts) file (λ k a b. copied_1 k (omega arith) (omega arith))

  pub number_3 : (n at : ℕ) → 0x22C ≤ at → at + n ≤ 0x250
      → number_at n (params header facts) at ≡ number_at n file at
  number_3 n at from below =
      number_same n at (params header facts) file (λ k a b. copied_3 k (omega arith) (omega arith))

  pub number_4 : (n at : ℕ) → 0x258 ≤ at → at + n ≤ 0x264
      → number_at n (params header facts) at ≡ number_at n file at
  number_4 n at from below =
      number_same n at (params header facts) file (λ k a b. copied_4 k (omega arith) (omega arith))

  pub end_is_same : header_end (params header facts) ≡ header_end file
  end_is_same = ap (λ (b : ℕ). min (0x202 + b) 0x290) (copied_1 0x201 (omega arith) (omega arith))
