-- What the code keeps as it looks for a part and tells what is seen, and the faults of others as it
-- answers them.
use Rattle.std.specs.Prelude.{ℕ, ◌-◌, nat_le, Bool, List, [], None, Result, IfOk, IfErr}
use Rattle.bl_map.specs.declared.region.Region.{Region}
use Rattle.bl_mbi.specs.InfoToWriteFacts.{ModuleInfo}
use Rattle.bl_mbi.specs.declared.fault.InfoFault.{InfoFault}
use Rattle.bl_mbi.specs.declared.fault.InfoFault.TheVariants as info_fault
use Rattle.bl_params.specs.declared.fault.ParamFault.{ParamFault}
use Rattle.bl_params.specs.declared.fault.ParamFault.TheVariants as param_fault
use Rattle.bl_load.specs.Handover.{Part, Handover}
use Rattle.bl_load.specs.Registers.{entry_in}
use Rattle.bl_walk.specs.Faults.{IsFollowed, HasWalkFault}
use Rattle.bl_walk.specs.Seen.{kernel_in}
use Rattle.bl_walk.specs.SeenFacts.{SeenFirmwareFacts, SeenFacts}
use Rattle.bl_walk.specs.declared.fault.WalkFault.{WalkFault}
use Rattle.bl_walk.specs.declared.fault.WalkFault.TheVariants.{BadInfo, NoMemory}

-- what was found in an image is so, or a fault of it stands
pub record FindsOrFaults {X : Type 0} (h : Handover) (is_so : X → Type 0)
    (result : Result X WalkFault) : Type 0 where
  pub ok : IfOk result is_so
  pub fault : IfErr result (HasWalkFault h)

-- a kernel follows the range of a module
abbrev pub IsModuleFollowed : Handover → ModuleInfo → Type 0
IsModuleFollowed h m = IsFollowed h m.mod_start (m.mod_end - m.mod_start)

-- whether a part begins at an address or below it
abbrev pub begins_upto : ℕ → Part → Bool
begins_upto address part = nat_le part.address address

-- what a kernel sees that is told this line, these runs and this of firmware, and of no file and no
-- copy of an RSDP beside them
abbrev pub seen_without_files : Handover → List ℕ → List Region → SeenFirmwareFacts → SeenFacts
seen_without_files h line runs firmware = record {
  protocol = h.protocol;
  entry = entry_in h.registers;
  line = line;
  kernel = kernel_in h.parts;
  modules = [];
  initrd = None;
  map = runs;
  rsdp_old = None;
  rsdp_new = None;
  firmware = firmware;
}

-- how a fault of the information, or of the boot parameters, is answered
abbrev pub information_refusal : InfoFault → WalkFault
information_refusal info_fault.WrongLength = BadInfo
information_refusal info_fault.BadReserved = BadInfo
information_refusal (info_fault.BadTag at) = BadInfo
information_refusal (info_fault.BadOrder at) = BadInfo
information_refusal info_fault.NoMemory = NoMemory

abbrev pub parameters_refusal : ParamFault → WalkFault
parameters_refusal param_fault.WrongLength = BadInfo
parameters_refusal (param_fault.BadParams at) = BadInfo
parameters_refusal param_fault.NoMemory = NoMemory
