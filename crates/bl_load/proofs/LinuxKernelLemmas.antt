-- What a Linux kernel's file without a fault has.
use Rattle.std.proofs.Common.{◌≡◌, ◌≤◌, ◌<◌, ℕ, List, length, Bool, true, false, Option, Some, None}
use Rattle.std.proofs.Common.{cond}
use Rattle.std.proofs.Common.{option_map, nat_lt, nat_le, refl, ap, ◌∙◌, arith}
use Rattle.std.specs.Prelude.{not}
use Rattle.std.proofs.lemmas.Bool.Decides.{nat_tests}
use Rattle.bl_map.specs.declared.region.Region.{Region}
use Rattle.bl_bzimage.specs.Setup.{IsSetup, setup_fault, setup_of}
use Rattle.bl_bzimage.specs.declared.fault.SetupFault.{SetupFault}
use Rattle.bl_bzimage.specs.declared.setup.Setup.{Setup}
use Rattle.bl_plan.specs.declared.protocol.Protocol.{Protocol}
use Rattle.bl_plan.specs.declared.protocol.Protocol.TheVariants.{Linux64}
use Rattle.bl_load.specs.declared.refusal.Refusal.{Refusal}
use Rattle.bl_load.specs.declared.refusal.Refusal.TheVariants as refusal
use Rattle.bl_load.specs.LinuxKernel.{IsLinuxKernel, setup_refusal, entering_fault, telling_fault}
use Rattle.bl_load.specs.LinuxKernel.{has_64_bit_entry, entry_64}
use Rattle.bl_load.proofs.LineLemmas.{first_sound}

none_mapped : (fault : Option SetupFault) → option_map setup_refusal fault ≡ None → fault ≡ None
none_mapped None h = refl
none_mapped (Some fault) h = absurd cc

neither : (a b : Bool) (x y : Refusal) → cond a (Some x) (cond b (Some y) None) ≡ None
    → (a ≡ false) × (b ≡ false)
neither true b x y h = absurd cc
neither false true x y h = absurd cc
neither false false x y h = (refl, refl)

-- a 64-bit entry lies in what is loaded
pub entry_loaded : (setup : Setup) → entering_fault Linux64 setup ≡ None
    → entry_64 < setup.payload_size
entry_loaded setup sound =
    let inside =
    (neither (not (has_64_bit_entry setup)) (nat_le setup.payload_size entry_64)
    refusal.No64Entry refusal.EntryOutside sound).1 in
    grind (arith, nat_tests)

module _ {protocol : Protocol} {runs : List Region} {line file : List ℕ} {setup : Setup}
    (is : IsLinuxKernel protocol runs line file setup) where
  -- its setup
  pub setup_is : IsSetup file setup
  setup_is =
      let setup_sound = (first_sound (option_map setup_refusal (setup_fault file)) _ is.sound).0 in
      record { sound = none_mapped (setup_fault file) setup_sound; is = is.is }

  -- that it can be entered
  pub entering_is : entering_fault protocol setup ≡ None
  entering_is =
      let later = (first_sound (option_map setup_refusal (setup_fault file)) _ is.sound).1 in
      ap (entering_fault protocol) is.is
      ∙ (first_sound (entering_fault protocol (setup_of file)) _ later).0

  -- what it can be told
  pub told_is : telling_fault runs line setup ≡ None
  told_is =
      let later = (first_sound (option_map setup_refusal (setup_fault file)) _ is.sound).1 in
      let told = (first_sound (entering_fault protocol (setup_of file)) _ later).1 in
      ap (telling_fault runs line) is.is ∙ told

  -- so boot parameters have room for these runs
  pub few_runs : length runs ≤ 128
  few_runs =
      let few =
      (neither (nat_lt setup.cmdline_size (length line)) (nat_lt 128 (length runs))
      refusal.LineTooLong refusal.MapTooLong told_is).1 in
      grind (arith, nat_tests)
