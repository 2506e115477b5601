-- Boot parameters that were written have the form, and tell their reader what they were made of.
use Rattle.std.proofs.Common.{◌≡◌, ◌≤◌, ◌<◌, ◌+◌, ◌-◌, ◌*◌, ℕ, false, not, ◌&&◌, nat_lt, List}
use Rattle.std.proofs.Common.{length, slice_index, arith, refl, sym, subst, ◌∙◌, ⊎_elim}
use Rattle.std.specs.Prelude.{◌==◌}
use Rattle.std.proofs.lemmas.Bool.{cases_lt, cases_eq, and_right}
use Rattle.bl_mem.specs.LittleEndian.{u16_at, u32_at, u64_at}
use Rattle.bl_bzimage.specs.declared.setup.Setup.{Setup}
use Rattle.bl_bzimage.specs.Setup.{IsSetup, header_end}
use Rattle.bl_bzimage.proofs.SetupLaws.{IsSoundFile, setup_sound, fields_are, header_long}
use Rattle.bl_bzimage.proofs.SetupLaws.{header_high, header_same}
use Rattle.bl_params.specs.ParamsToWriteFacts.{ParamsToWriteFacts, AreE820Runs}
use Rattle.bl_params.specs.BootParams.{boot_params}
use Rattle.bl_params.specs.BootParamsForm.{breaks_at, breaks_header}
use Rattle.bl_params.specs.FieldBytes.{is_nonzero_at}
use Rattle.bl_params.specs.BootParamsForm.{e820_entry_count}
use Rattle.bl_params.specs.Reading.{IsParams}
use Rattle.bl_params.specs.WrittenParams.{params_of, FitParamFields}
use Rattle.bl_params.proofs.Lengths.{length-boot_params}
use Rattle.bl_params.proofs.FormLemmas.{lt_no, count_is, header_is, behind_is}
use Rattle.bl_params.proofs.FormLemmas.{entries_are, end_is}
use Rattle.bl_params.proofs.EntriesTold.{all_low, entries_sound}
use Rattle.bl_params.proofs.FieldLists.{params}
use Rattle.bl_params.proofs.WrittenFront.{front_sound, gap_sound, screen_told, rsdp_told, efi_told}
use Rattle.bl_params.proofs.WrittenFields.{copied_2, copied_3, zero_behind}
use Rattle.bl_params.proofs.WrittenFields.{zero_end, vid_mode, loader, code32_start, ramdisk_image}
use Rattle.bl_params.proofs.WrittenFields.{ramdisk_size, cmd_line_ptr, setup_data, count, runs_are}
use Rattle.bl_params.proofs.WrittenFields.{number_1, number_3, number_4, end_is_same}

module _ (file header : List ℕ) (end : ℕ) (facts : ParamsToWriteFacts)
    (long : 0x1F1 + length header ≡ end) (low : 0x264 ≤ end) (high : end ≤ 0x290)
    (same : (k : ℕ) → 0x1F1 ≤ k → k < end → slice_index header (k - 0x1F1) ≡ slice_index file k)
    (told : AreE820Runs facts.runs) where
  unfilled : (k : ℕ) → slice_index (params header facts) k ≡ 0
      → is_nonzero_at (params header facts) k ≡ false
  unfilled k zero_there = rw zero_there refl

  -- the fields of the header break nothing
  header_sound : IsSoundFile file → header_end file ≡ end → (k : ℕ)
      → breaks_header (params header facts) k ≡ false
  header_sound sound e k =
      let boot =
      number_1 file header end facts long low high same told 2 0x1FE (omega arith) (omega arith)
      ∙ sound.boot_flag in
      let hdrs =
      number_1 file header end facts long low high same told 4 0x202 (omega arith) (omega arith)
      ∙ sound.magic in
      let ver =
      number_1 file header end facts long low high same told 2 0x206 (omega arith)
      (omega arith) in
      let t1 : (k == 0x1FA && not (u16_at (params header facts) 0x1FA == 0xFFFF)) ≡ false =
      and_right (k == 0x1FA) (not (u16_at (params header facts) 0x1FA == 0xFFFF))
      (rw (vid_mode file header end facts long low high same told) refl) in
      let t2 : (k == 0x1FE && not (u16_at (params header facts) 0x1FE == 0xAA55)) ≡ false =
      and_right (k == 0x1FE) (not (u16_at (params header facts) 0x1FE == 0xAA55)) (rw boot refl) in
      let t3 : (k == 0x201 && nat_lt (header_end (params header facts)) 0x264) ≡ false =
      and_right (k == 0x201) (nat_lt (header_end (params header facts)) 0x264)
      (lt_no (header_end (params header facts)) 0x264
      (omega (arith, end_is_same file header end facts long low high same told, e, low))) in
      let t4 : (k == 0x202 && not (u32_at (params header facts) 0x202 == 0x53726448)) ≡ false =
      and_right (k == 0x202) (not (u32_at (params header facts) 0x202 == 0x53726448))
      (rw hdrs refl) in
      let t5 : (k == 0x206 && nat_lt (u16_at (params header facts) 0x206) 0x020A) ≡ false =
      and_right (k == 0x206) (nat_lt (u16_at (params header facts) 0x206) 0x020A)
      (lt_no (u16_at (params header facts) 0x206) 0x020A (rw ver sound.version)) in
      let t6 : (k == 0x210 && not (slice_index (params header facts) 0x210 == 0xFF)) ≡ false =
      and_right (k == 0x210) (not (slice_index (params header facts) 0x210 == 0xFF))
      (rw (loader file header end facts long low high same told) refl) in
      let t7 : (k == 0x250 && not (u64_at (params header facts) 0x250 == 0)) ≡ false =
      and_right (k == 0x250) (not (u64_at (params header facts) 0x250 == 0))
      (rw (setup_data file header end facts long low high same told) refl) in
      rw (t1, t2, t3, t4, t5, t6, t7) refl

  -- nothing breaks the form
  form : FitParamFields facts → IsSoundFile file → header_end file ≡ end → (k : ℕ) → k < 4096
      → breaks_at (params header facts) k ≡ false
  form words sound e k within =
      let stop : header_end (params header facts) ≡ end =
      end_is_same file header end facts long low high same told ∙ e in
      ⊎_elim
      (λ front. front_sound header facts words k front)
      (λ past_front.
      ⊎_elim
      (λ at_count.
      subst (λ (n : ℕ). breaks_at (params header facts) n ≡ false) (sym at_count)
      (count_is (params header facts)
      ∙ lt_no 128 (e820_entry_count (params header facts))
      (omega (arith, count file header end facts long low high same told, told.few))))
      (λ not_count.
      ⊎_elim
      (λ gap. gap_sound header facts words k (omega arith) gap)
      (λ past_gap.
      ⊎_elim
      (λ in_header.
      header_is (params header facts) k past_gap (omega (arith, stop)) ∙ header_sound sound e k)
      (λ past_header.
      ⊎_elim
      (λ behind.
      behind_is (params header facts) k (omega (arith, stop)) behind
      ∙ unfilled k (zero_behind file header end facts long low high same told k past_header behind))
      (λ past_behind.
      ⊎_elim
      (λ in_map.
      entries_are (params header facts) k past_behind
      (omega (arith, count file header end facts long low high same told))
      ∙ entries_sound (params header facts) facts.runs k (all_low facts.runs told.low)
      (runs_are file header end facts long low high same told) past_behind
      in_map)
      (λ past_map.
      end_is (params header facts) k past_behind
      (omega (arith, count file header end facts long low high same told))
      ∙ unfilled k (zero_end file header end facts long low high same told k past_map within))
      (cases_lt k (0x2D0 + 20 * length facts.runs)))
      (cases_lt k 0x2D0)) (cases_lt k end)) (cases_lt k 0x1F1)) (cases_eq k 0x1E8))
      (cases_lt k 0x1E8)

pub written_is_read : (file : List ℕ) (setup : Setup) (facts : ParamsToWriteFacts) → IsSetup file setup
    → AreE820Runs facts.runs → FitParamFields facts
    → IsParams (boot_params setup.header facts) (params_of setup facts)
written_is_read file setup facts is told words =
    let sound = setup_sound file is.sound in
    let fields = fields_are file setup is in
    let e = header_end file in
    let long = header_long file setup is in
    let low = sound.end in
    let high = header_high file in
    let same = header_same file setup is in
    record {
      size = length-boot_params setup.header facts;
      sound = form file setup.header e facts long low high same told words sound refl;
      version =
          fields.version
          ∙ sym
          (number_1 file setup.header e facts long low high same told 2 0x206 (omega arith)
          (omega arith));
      loadflags =
          fields.loadflags
          ∙ sym
          (copied_2 file setup.header e facts long low high same told 0x211 (omega arith)
          (omega arith));
      code32_start =
          sym (code32_start file setup.header e facts long low high same told words.code32_start);
      ramdisk_image =
          sym (ramdisk_image file setup.header e facts long low high same told words.ramdisk_image);
      ramdisk_size =
          sym (ramdisk_size file setup.header e facts long low high same told words.ramdisk_size);
      cmd_line_ptr =
          sym (cmd_line_ptr file setup.header e facts long low high same told words.cmd_line_ptr);
      initrd_addr_max =
          fields.initrd_addr_max
          ∙ sym
          (number_3 file setup.header e facts long low high same told 4 0x22C (omega arith)
          (omega arith));
      kernel_alignment =
          fields.kernel_alignment
          ∙ sym
          (number_3 file setup.header e facts long low high same told 4 0x230 (omega arith)
          (omega arith));
      relocatable_kernel =
          fields.relocatable_kernel
          ∙ sym
          (copied_3 file setup.header e facts long low high same told 0x234 (omega arith)
          (omega arith));
      xloadflags =
          fields.xloadflags
          ∙ sym
          (number_3 file setup.header e facts long low high same told 2 0x236 (omega arith)
          (omega arith));
      cmdline_size =
          fields.cmdline_size
          ∙ sym
          (number_3 file setup.header e facts long low high same told 4 0x238 (omega arith)
          (omega arith));
      pref_address =
          fields.pref_address
          ∙ sym
          (number_4 file setup.header e facts long low high same told 8 0x258 (omega arith)
          (omega arith));
      init_size =
          fields.init_size
          ∙ sym
          (number_4 file setup.header e facts long low high same told 4 0x260 (omega arith)
          (omega arith));
      count = sym (count file setup.header e facts long low high same told);
      runs = runs_are file setup.header e facts long low high same told;
      screen = sym (screen_told setup.header facts words);
      rsdp = sym (rsdp_told setup.header facts words);
      efi = sym (efi_told setup.header facts words);
    }
