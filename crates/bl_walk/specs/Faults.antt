-- Why a walk of an image is refused. Own.
use Rattle.std.specs.Prelude.{◌≡◌, ◌-◌, ◌*◌, ◌<◌, ◌≤◌, ℕ, List, length, Some, None, Err, true}
use Rattle.std.specs.Prelude.{false}
use Rattle.std.specs.List.{Contains}
use Rattle.bl_mbi.specs.InfoToWriteFacts.{ModuleInfo}
use Rattle.bl_mbi.specs.InfoFacts.{InfoFacts}
use Rattle.bl_mbi.specs.Reading.{info_of}
use Rattle.bl_mbi.specs.declared.fault.InfoFault.{InfoFault}
use Rattle.bl_params.specs.ParamsFacts.{ParamsFacts}
use Rattle.bl_params.specs.Reading.{HasFirstParamFault}
use Rattle.bl_params.specs.Translation.{translation}
use Rattle.bl_params.specs.declared.fault.ParamFault.{ParamFault}
use Rattle.bl_params.specs.declared.fault.ParamFault.TheVariants as param_fault
use Rattle.bl_plan.specs.declared.protocol.Protocol.TheVariants.{Multiboot2}
use Rattle.bl_load.specs.Handover.{Handover}
use Rattle.bl_load.specs.Protocols.{has_params, descriptors_of, is_wide}
use Rattle.bl_load.specs.Registers.{entry_in, information_in, params_in, gdt_in, page_tables_in}
use Rattle.bl_walk.specs.declared.fault.WalkFault.{WalkFault}
use Rattle.bl_walk.specs.declared.fault.WalkFault.TheVariants.{OutsideImage, BadInfo, BadState}
use Rattle.bl_walk.specs.declared.fault.WalkFault.TheVariants.{NoMemory}
use Rattle.bl_walk.specs.PartBytes.{bytes_in, rest_in}
use Rattle.bl_walk.specs.State.{entry_registers, is_in_kernel}
use Rattle.bl_walk.specs.Seen.{HasTotalSize, IsInformation, HasInformation, AreParameters}
use Rattle.bl_walk.specs.Seen.{HasParameters, text_to_zero}
use Rattle.bl_mbi.specs.Size.{min_info_size}
use Rattle.bl_params.specs.SizesAndOffsets.{params_size, page_tables_size, page_size}
use Rattle.bl_params.specs.SizesAndOffsets.{mapped_page_count}

abbrev pub walk_fault_number : WalkFault → ℕ
-- >>> tools/refusals: number cases of WalkFault
walk_fault_number OutsideImage = 81
walk_fault_number BadInfo = 82
walk_fault_number BadState = 83
walk_fault_number NoMemory = 84

-- <<<

-- the ranges that a kernel follows, each an address and a number of bytes
pub data IsFollowed (h : Handover) : ℕ → ℕ → Type 0 where
  -- Multiboot2: the word total_size; as many bytes, if they are enough for the fixed part and the
  -- tag that ends the information; each module
  size_word : h.protocol ≡ Multiboot2 → IsFollowed h (information_in h.registers) 4
  information : (size : ℕ) → HasTotalSize h size → min_info_size ≤ size
      → IsFollowed h (information_in h.registers) size
  loaded_module : (info : InfoFacts) (m : ModuleInfo) → HasInformation h info
      → Contains info.facts.modules m → IsFollowed h m.mod_start (m.mod_end - m.mod_start)
  -- the descriptors, where a kernel is handed them
  descriptors : (gdt : List ℕ) → descriptors_of h.protocol ≡ Some gdt
      → IsFollowed h (gdt_in h.registers) (length gdt)
  -- Linux: the boot parameters, the line's first byte, the initial ramdisk
  boot_params : has_params h.protocol ≡ true → IsFollowed h (params_in h.registers) params_size
  command_line : (params : ParamsFacts) → HasParameters h params
      → IsFollowed h params.cmd_line_ptr 1
  initrd : (params : ParamsFacts) → HasParameters h params
      → IsFollowed h params.ramdisk_image params.ramdisk_size
  -- the page tables, where a kernel is entered with paging
  page_tables : is_wide h.protocol ≡ true
      → IsFollowed h (page_tables_in h.registers) page_tables_size

-- 81: the kernel is entered outside of its parts, or a range that it follows lies in no one part
pub data IsOutside (h : Handover) : Type 0 where
  outside_kernel : is_in_kernel h.parts (entry_in h.registers) ≡ false → IsOutside h
  outside_parts : (address count : ℕ) → IsFollowed h address count
      → bytes_in h.parts address count ≡ None → IsOutside h

-- 82: the information or the boot parameters are refused by their reader, or no zero ends the line
pub data HasBadInfo (h : Handover) : Type 0 where
  short_information : (size : ℕ) → HasTotalSize h size → size < min_info_size
      → HasBadInfo h
  other_information : (bytes : List ℕ) (fault : InfoFault) → IsInformation h bytes
      → info_of bytes ≡ Err fault → HasBadInfo h
  other_parameters : (bytes : List ℕ) (fault : ParamFault) → AreParameters h bytes
      → ¬ (fault ≡ param_fault.NoMemory) → HasFirstParamFault bytes fault → HasBadInfo h
  endless_line : (params : ParamsFacts) (rest : List ℕ) → HasParameters h params
      → rest_in h.parts params.cmd_line_ptr ≡ Some rest → text_to_zero rest ≡ None → HasBadInfo h

-- 83: a register that does not hold an address has another number, or the kernel is handed other
-- descriptors than its protocol gives it, or page tables that do not translate an address to itself
pub data HasBadState (h : Handover) : Type 0 where
  other_registers : ¬ (h.registers ≡ entry_registers h.protocol h.registers) → HasBadState h
  other_descriptors : (gdt bytes : List ℕ) → descriptors_of h.protocol ≡ Some gdt
      → bytes_in h.parts (gdt_in h.registers) (length gdt) ≡ Some bytes → ¬ (bytes ≡ gdt)
      → HasBadState h
  other_translation : (tables : List ℕ) (page : ℕ) → is_wide h.protocol ≡ true
      → bytes_in h.parts (page_tables_in h.registers) page_tables_size ≡ Some tables
      → page < mapped_page_count
      → ¬ (translation tables (page_tables_in h.registers) (page * page_size)
      ≡ Some (page * page_size))
      → HasBadState h

-- this fault stands; want of memory says nothing of the image
abbrev pub HasWalkFault : Handover → WalkFault → Type 0
HasWalkFault h OutsideImage = IsOutside h
HasWalkFault h BadInfo = HasBadInfo h
HasWalkFault h BadState = HasBadState h
HasWalkFault h NoMemory = Unit {0}

-- none of the three stands
pub record IsSound (h : Handover) : Type 0 where
  pub inside : ¬ IsOutside h
  pub info : ¬ HasBadInfo h
  pub state : ¬ HasBadState h
