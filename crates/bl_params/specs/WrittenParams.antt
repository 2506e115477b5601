-- What boot parameters tell their reader that were written for a kernel.
use Rattle.std.specs.Prelude.{◌^◌, ◌<◌, IfSome}
use Rattle.bl_bzimage.specs.declared.setup.Setup.{Setup}
use Rattle.bl_params.specs.ParamsToWriteFacts.{ParamsToWriteFacts, IsToldFirmware}
use Rattle.bl_params.specs.ParamsFacts.{ParamsFacts}

-- the kernel's own numbers, and what it is told beside them
abbrev pub params_of : Setup → ParamsToWriteFacts → ParamsFacts
params_of setup facts = record {
  version = setup.version;
  loadflags = setup.loadflags;
  code32_start = facts.code32_start;
  ramdisk_image = facts.ramdisk_image;
  ramdisk_size = facts.ramdisk_size;
  cmd_line_ptr = facts.cmd_line_ptr;
  initrd_addr_max = setup.initrd_addr_max;
  kernel_alignment = setup.kernel_alignment;
  relocatable_kernel = setup.relocatable_kernel;
  xloadflags = setup.xloadflags;
  cmdline_size = setup.cmdline_size;
  pref_address = setup.pref_address;
  init_size = setup.init_size;
  runs = facts.runs;
  screen = facts.screen;
  rsdp = facts.rsdp;
  efi = facts.efi;
}

-- addresses and lengths that fit their fields, and what firmware tells is within its limits
pub record FitParamFields (facts : ParamsToWriteFacts) : Type 0 where
  pub code32_start : facts.code32_start < 2 ^ 32
  pub ramdisk_image : facts.ramdisk_image < 2 ^ 32
  pub ramdisk_size : facts.ramdisk_size < 2 ^ 32
  pub cmd_line_ptr : facts.cmd_line_ptr < 2 ^ 32
  pub told : IsToldFirmware facts.screen facts.rsdp facts.efi
  pub rsdp : IfSome facts.rsdp (λ a. a < 2 ^ 64)
