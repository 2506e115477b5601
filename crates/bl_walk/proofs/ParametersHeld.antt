-- What a Linux kernel is told stands in the image of the entry's handover.
use Rattle.std.proofs.Common.{◌≡◌, ◌+◌, ◌≤◌, ◌∷◌, ℕ, true, List, [], length, take, get_or, Option}
use Rattle.std.proofs.Common.{Some, None, option_map, refl, sym, ap, ◌∙◌, arith, subst, All}
use Rattle.std.proofs.Common.{AllPairs}
use Rattle.std.specs.List.{list_any}
use Rattle.std.proofs.lemmas.Bool.{eqb-true}
use Rattle.std.proofs.lemmas.List.Elements.{All-head}
use Rattle.std.proofs.Math.Seq.{take-length}
use Rattle.bl_map.specs.MachineFacts.{MachineFacts, IsWellFormedMachine}
use Rattle.bl_mbi.specs.InfoToWriteFacts.{AreBytes}
use Rattle.bl_bzimage.specs.declared.setup.Setup.{Setup}
use Rattle.bl_params.specs.BootParams.{boot_params}
use Rattle.bl_params.specs.ParamsToWriteFacts.{ParamsToWriteFacts, AreE820Runs}
use Rattle.bl_params.specs.ParamsFacts.{ParamsFacts}
use Rattle.bl_params.specs.WrittenParams.{FitParamFields, params_of}
use Rattle.bl_params.proofs.Lengths.{length-boot_params}
use Rattle.bl_params.proofs.MachineTold.{machine_told, machine_rsdp_small}
use Rattle.bl_params.proofs.WrittenIsRead.{written_is_read}
use Rattle.bl_plan.specs.Placed.{ArePlaced}
use Rattle.bl_plan.specs.declared.part.Place.{Place}
use Rattle.bl_plan.specs.declared.part.Role.{Role}
use Rattle.bl_plan.specs.declared.part.Role.TheVariants.{Kernel, BootParams, CommandLine, Initrd}
use Rattle.bl_load.specs.Addresses.{address_of}
use Rattle.bl_load.specs.Handover.{Handover, end_of, zero_padded}
use Rattle.bl_load.specs.LinuxKernel.{IsLinuxKernel}
use Rattle.bl_load.specs.LinuxRows.{linux_kernel_row, boot_params_facts}
use Rattle.bl_load.specs.WellFormedEntry.{IsWellFormedValue}
use Rattle.bl_load.specs.Parts.{content_of, handover_of}
use Rattle.bl_load.specs.internal.Placing.{HasLength}
use Rattle.bl_load.specs.Protocols.{has_params}
use Rattle.bl_load.specs.KernelReading.{linux}
use Rattle.bl_load.specs.Registers.{params_in}
use Rattle.bl_load.specs.Rows.{rows_of}
use Rattle.bl_load.specs.EntryValue.{EntryValue, kernel_file, initrd_file, line_fault, lines_fault}
use Rattle.bl_load.specs.EntryValue.{lines_of}
use Rattle.bl_load.proofs.EntryLemmas.{small_address}
use Rattle.bl_load.proofs.LineLemmas.{sound_text, sound_short, first_sound}
use Rattle.bl_load.proofs.LinuxKernelLemmas.{setup_is, few_runs}
use Rattle.bl_load.proofs.LinuxLemmas.{linux_rows_are_rows, linux_rowed}
use Rattle.bl_load.proofs.LinuxToldLemmas.{initrd_fits}
use Rattle.bl_load.proofs.PlaceBoundLemmas.{are_below}
use Rattle.bl_walk.specs.PartBytes.{bytes_in}
use Rattle.bl_walk.specs.Seen.{HasParameters, IsLine, IsInitrd}
use Rattle.bl_walk.specs.SeenFacts.{SeenFileFacts}
use Rattle.bl_walk.specs.EntryShown.{some_bytes}
use Rattle.bl_walk.proofs.InformationLemmas.{is_row, row_held, behind}
use Rattle.bl_walk.proofs.LineLemmas.{IsLong, held_rest, line_shown}
use Rattle.bl_walk.proofs.PartLemmas.{is_of, both_true, same_role, held_front}
use Rattle.bl_walk.proofs.ParametersLemmas.{params_rows, ramdisk_row}
use Rattle.bl_walk.proofs.RegisterLemmas.{params_from}

-- ---- what a Linux kernel sees

module _ (facts : MachineFacts) (value : EntryValue) (setup : Setup) (places : List Place) where
  abbrev pub initrd : List ℕ
  initrd = initrd_file value.files

  abbrev pub content : Role → ℕ → List ℕ
  content = content_of facts value (linux setup) places

  abbrev pub handover : Handover
  handover = handover_of facts value (linux setup) places

  abbrev told : ParamsToWriteFacts
  told = boot_params_facts facts value places

  abbrev pub params : ParamsFacts
  params = params_of setup told

module _ (facts : MachineFacts) (value : EntryValue) (setup : Setup) (places : List Place)
    (machine : IsWellFormedMachine facts) (offered : IsWellFormedValue value)
    (lines : lines_fault (lines_of value) ≡ None) (handed : has_params value.protocol ≡ true)
    (is_kernel : IsLinuxKernel value.protocol facts.runs value.line (kernel_file value) setup)
    (placed : ArePlaced facts [] (rows_of facts value (linux setup)) places)
    (apart : AllPairs (λ p q. end_of p ≤ q.address)
    (handover_of facts value (linux setup) places).parts) where
  pub held : (role : Role) (index n : ℕ) → list_any (is_of role index) places ≡ true
      → n ≤ length (content facts value setup places role index)
      → bytes_in (handover facts value setup places).parts (address_of role index places) n
      ≡ Some (take n (content facts value setup places role index))
  held = held_front places (content facts value setup places) apart

  low : All (λ p. p.address + p.length ≤ 0xFFFFF000) places
  low =
      are_below facts [] (rows_of facts value (linux setup)) places placed
      (linux_rows_are_rows value.protocol (kernel_file value) setup
      (initrd facts value setup places) (setup_is is_kernel))

  small : (role : Role) → address_of role 0 places ≤ 0xFFFFF000
  small role = small_address role 0 places 0xFFFFF000 low

  fit : FitParamFields (told facts value setup places)
  fit =
      let kernel = small Kernel in
      let ramdisk = small Initrd in
      let line = small CommandLine in
      record {
        code32_start = omega arith;
        ramdisk_image = omega arith;
        ramdisk_size =
            initrd_fits facts value.protocol setup (initrd facts value setup places) places placed
            low;
        cmd_line_ptr = omega arith;
        told = machine_told facts machine;
        rsdp = machine_rsdp_small facts machine;
      }

  are_told : AreE820Runs (told facts value setup places).runs
  are_told = record { few = few_runs is_kernel; low = machine.runs.low }

  -- each row after the kernel's has a place
  pub placed_row : (role : Role)
      → list_any (is_row role 0)
      (params_rows value.protocol setup (initrd facts value setup places)) ≡ true
      → list_any (is_of role 0) places ≡ true
  unfolding params_rows
  placed_row role among =
      row_held facts role 0 [] (rows_of facts value (linux setup)) places placed
      (behind role 0 (linux_kernel_row setup ∷ [])
      (params_rows value.protocol setup (initrd facts value setup places)) among)

  params_held : bytes_in (handover facts value setup places).parts
      (params_in (handover facts value setup places).registers) 4096
      ≡ Some (boot_params setup.header (told facts value setup places))
  unfolding params_rows
  params_held =
      let size = length-boot_params setup.header (told facts value setup places) in
      ap
      (λ (a : ℕ). bytes_in (handover facts value setup places).parts a 4096)
      (params_from (linux setup) places value.protocol handed)
      ∙ held BootParams 0 4096 (placed_row BootParams refl) (omega arith)
      ∙ ap Some
      (ap (λ (n : ℕ). take n (boot_params setup.header (told facts value setup places))) (sym size)
      ∙ take-length (boot_params setup.header (told facts value setup places)))

  pub say : HasParameters (handover facts value setup places) (params facts value setup places)
  say = record {
    bytes = boot_params setup.header (told facts value setup places);
    parameters = record { handed = handed; whole = params_held };
    told =
        written_is_read (kernel_file value) setup (told facts value setup places)
        (setup_is is_kernel) are_told fit;
  }

  -- ---- the line

  line_long : All (IsLong CommandLine 0 4096) places
  line_long k d within = λ is.
      let p = get_or places k d in
      let rowed = linux_rowed facts value setup [] places placed k d within in
      let names = both_true _ _ is in
      let role = same_role p.role CommandLine (eqb-true _ _ names.0) in
      subst (λ (r : Role). HasLength facts value (linux setup) r p.index p.length) role rowed

  pub line_seen : IsLine (handover facts value setup places).parts
      (params facts value setup places).cmd_line_ptr value.line
  unfolding params_rows
  line_seen =
      let sound = (first_sound (line_fault value.line) (lines_fault value.module_lines) lines).0 in
      let text =
      sound_text value.line sound (All-head AreBytes value.line value.module_lines offered.lines) in
      let short = sound_short value.line sound in
      record {
        rest = zero_padded 4096 value.line;
        from =
            held_rest places (content facts value setup places) apart CommandLine 0 4096
            (placed_row CommandLine refl)
            line_long (omega arith);
        text = line_shown value.line 4096 text (omega arith);
      }

  -- ---- the initial ramdisk

  -- the file of this entry, which has a byte or none
  pub ramdisk : (file : List ℕ) → initrd facts value setup places ≡ file
      → (seen : Option SeenFileFacts)
      × IsInitrd (handover facts value setup places).parts (params facts value setup places)
      seen
      × (option_map (λ f. f.bytes) seen ≡ some_bytes file)
  unfolding params_rows
  ramdisk [] is = (None, ap length is, refl)
  ramdisk (byte ∷ bytes) is =
      let some = ap length is in
      let row =
      subst
      (λ (f : List ℕ). list_any (is_row Initrd 0) (params_rows value.protocol setup f) ≡ true)
      (sym is) (ramdisk_row value.protocol setup byte bytes) in
      let there =
      held Initrd 0 (length (initrd facts value setup places)) (placed_row Initrd row) (omega arith)
      ∙ ap Some (take-length (initrd facts value setup places)) in (
        Some
            record {
              address = address_of Initrd 0 places;
              bytes = initrd facts value setup places;
            },
        (omega arith, refl, there),
        ap Some is,
      )
