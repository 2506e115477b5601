-- What is told and placed of files depends on their lengths alone.
use Rattle.std.proofs.Common.{◌≡◌, ◌+◌, ◌-◌, ℕ, zero, suc, List, [], ◌∷◌, ◌++◌, length, map, take}
use Rattle.std.proofs.Common.{Option, arith, refl, ap, ap₂}
use Rattle.std.specs.Prelude.{max, option_map}
use Rattle.std.proofs.lemmas.List.{length-replicate, take_all}
use Rattle.bl_bzimage.specs.declared.setup.Setup.{Setup}
use Rattle.bl_map.specs.Firmware.{efi_info}
use Rattle.bl_map.specs.Limits.{frame_size, first_usable, max_size, high_start}
use Rattle.bl_map.specs.MachineFacts.{MachineFacts}
use Rattle.bl_map.specs.NormalMap.{low_kib, high_kib}
use Rattle.bl_map.specs.PoolFrames.{round_up_to_frames}
use Rattle.bl_mb2head.specs.declared.relocation.Relocation.{Relocation}
use Rattle.bl_mbi.specs.InfoToWriteFacts.{ModuleInfo, InfoToWriteFacts, efi_tables, info_size}
use Rattle.bl_mem.specs.FileSet.{nth_file}
use Rattle.bl_params.specs.ParamsToWriteFacts.{ParamsToWriteFacts}
use Rattle.bl_plan.specs.declared.part.Choice.TheVariants.{Lowest, Highest}
use Rattle.bl_plan.specs.declared.part.Place.{Place}
use Rattle.bl_plan.specs.declared.part.Role.TheVariants.{Kernel, Module, Information}
use Rattle.bl_plan.specs.declared.part.Role.TheVariants.{CommandLine, Initrd}
use Rattle.bl_plan.specs.declared.part.Row.{Row}
use Rattle.bl_load.specs.Addresses.{address_of}
use Rattle.bl_load.specs.EntryValue.{EntryValue, initrd_file}
use Rattle.bl_load.specs.KernelReading.{KernelReading, multiboot2, linux}
use Rattle.bl_load.specs.LinuxRows.{front_rows, initrd_rows, boot_params_facts}
use Rattle.bl_load.specs.Loadable.{lengths_of}
use Rattle.bl_load.specs.Rows.{kernel_rows, module_rows, told_modules, information_of}
use Rattle.bl_load.specs.Rows.{information_row, rows_of}
use Rattle.bl_load.specs.internal.KnownFiles.{blank_file}
use Rattle.bl_load.proofs.ModuleLemmas.{told_by}

-- a value with other files
abbrev pub with_files : List (List ℕ) → EntryValue → EntryValue
with_files texts value = record {
  protocol = value.protocol;
  line = value.line;
  files = texts;
  module_lines = value.module_lines;
  rsdp_old = value.rsdp_old;
  rsdp_new = value.rsdp_new;
}

-- each file is as long as that of the same number
abbrev pub AreAsLong : List (List ℕ) → List (List ℕ) → Type 0
AreAsLong xs ys = (k : ℕ) → length (nth_file xs k) ≡ length (nth_file ys k)

pub as_long : (xs ys : List (List ℕ)) → lengths_of xs ≡ lengths_of ys → AreAsLong xs ys
as_long [] [] is k = refl
as_long [] (y ∷ ys) is k = absurd cc
as_long (x ∷ xs) [] is k = absurd cc
as_long (x ∷ xs) (y ∷ ys) is zero = cc
as_long (x ∷ xs) (y ∷ ys) is (suc k) =
    let rest : lengths_of xs ≡ lengths_of ys = cc in as_long xs ys rest k

pub blank_lengths : (sizes : List ℕ) → lengths_of (map blank_file sizes) ≡ sizes
blank_lengths [] = refl
blank_lengths (n ∷ sizes) =
    ap₂ (λ (m : ℕ) (rest : List ℕ). m ∷ rest) (length-replicate n 0) (blank_lengths sizes)

-- as many bytes of a file as another one has are the whole file, if it is as long
pub whole_file : (xs : List ℕ) (n : ℕ) → length xs ≡ n → take ((0 + n) - 0) xs ≡ xs
whole_file xs n is = take_all ((0 + n) - 0) xs (omega (arith, is))

-- ---- the rows of files

module_row : ℕ → ℕ → Row
module_row k size = record {
  role = Module;
  index = k;
  length = round_up_to_frames (max size 1);
  choice = Lowest frame_size high_start max_size;
}

same_module_rows : (xs ys : List (List ℕ)) → AreAsLong xs ys → (k : ℕ) (lines : List (List ℕ))
    → module_rows xs k lines ≡ module_rows ys k lines
unfolding module_row
same_module_rows xs ys long k [] = refl
same_module_rows xs ys long k (line ∷ lines) =
    ap₂ (λ (size : ℕ) (rest : List Row). module_row k size ∷ rest) (long (k + 1))
    (same_module_rows xs ys long (suc k) lines)

initrd_row : Setup → ℕ → Row
initrd_row setup size = record {
  role = Initrd;
  index = 0;
  length = round_up_to_frames size;
  choice = Highest frame_size first_usable (setup.initrd_addr_max + 1);
}

same_initrd_rows : (setup : Setup) (xs ys : List ℕ) → length xs ≡ length ys
    → initrd_rows setup xs ≡ initrd_rows setup ys
unfolding initrd_row
same_initrd_rows setup [] [] is = refl
same_initrd_rows setup [] (y ∷ ys) is = absurd (omega (arith, is))
same_initrd_rows setup (x ∷ xs) [] is = absurd (omega (arith, is))
same_initrd_rows setup (x ∷ xs) (y ∷ ys) is =
    ap (λ (size : ℕ). initrd_row setup size ∷ []) is

-- ---- what is told of files

same_told : (xs ys : List (List ℕ)) → AreAsLong xs ys → (places : List Place) (k : ℕ)
    (lines : List (List ℕ)) → told_modules xs places k lines ≡ told_modules ys places k lines
same_told xs ys long places k [] = refl
same_told xs ys long places k (line ∷ lines) =
    ap₂ (λ (size : ℕ) (rest : List ModuleInfo).
    told_by (address_of Module k places) size line ∷ rest) (long (k + 1))
    (same_told xs ys long places (suc k) lines)

info_by : MachineFacts → EntryValue → Option Relocation → List Place → List ModuleInfo
    → InfoToWriteFacts
info_by facts value relocation places modules = record {
  line = value.line;
  modules = modules;
  mem_lower = low_kib facts.runs;
  mem_upper = high_kib facts.runs;
  runs = facts.runs;
  screen = facts.firmware.screen;
  efi = option_map efi_tables facts.firmware.efi;
  smbios = facts.firmware.smbios;
  rsdp_old = value.rsdp_old;
  rsdp_new = value.rsdp_new;
  load_base = option_map (λ r. address_of Kernel 0 places) relocation;
}

params_by : MachineFacts → List Place → ℕ → ParamsToWriteFacts
params_by facts places size = record {
  code32_start = address_of Kernel 0 places;
  ramdisk_image = address_of Initrd 0 places;
  ramdisk_size = size;
  cmd_line_ptr = address_of CommandLine 0 places;
  runs = facts.runs;
  screen = facts.firmware.screen;
  rsdp = facts.firmware.rsdp;
  efi = option_map efi_info facts.firmware.efi;
}

module _ (facts : MachineFacts) (value : EntryValue) (texts : List (List ℕ))
    (long : AreAsLong texts value.files) where
  pub same_information : (relocation : Option Relocation) (places : List Place)
      → information_of facts (with_files texts value) relocation places
      ≡ information_of facts value relocation places
  unfolding info_by
  same_information relocation places =
      ap (info_by facts value relocation places)
      (same_told texts value.files long places 0 value.module_lines)

  pub same_params : (places : List Place)
      → boot_params_facts facts (with_files texts value) places
      ≡ boot_params_facts facts value places
  unfolding params_by
  same_params places = ap (params_by facts places) (long 1)

  -- ---- all rows

  same_information_row : (relocation : Option Relocation)
      → information_row facts (with_files texts value) relocation
      ≡ information_row facts value relocation
  same_information_row relocation =
      ap (λ (told : InfoToWriteFacts). record {
        role = Information;
        index = 0;
        length = round_up_to_frames (info_size told);
        choice = Lowest frame_size first_usable max_size;
      }) (same_information relocation [])

  pub same_rows : (reading : KernelReading)
      → rows_of facts (with_files texts value) reading ≡ rows_of facts value reading
  same_rows (multiboot2 kernel) =
      ap₂ (λ (modules : List Row) (information : Row).
      kernel_rows kernel.segments kernel.relocation ++ (modules ++ information ∷ []))
      (same_module_rows texts value.files long 0 value.module_lines)
      (same_information_row kernel.relocation)
  same_rows (linux setup) =
      ap (λ (rows : List Row). front_rows value.protocol setup ++ rows)
      (same_initrd_rows setup (initrd_file texts) (initrd_file value.files) (long 1))
