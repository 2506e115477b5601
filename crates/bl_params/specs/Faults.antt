-- The numbers of faults of boot parameters. Own.
use Rattle.std.specs.Prelude.{ℕ}
use Rattle.bl_params.specs.declared.fault.ParamFault.{ParamFault}
use Rattle.bl_params.specs.declared.fault.ParamFault.TheVariants.{WrongLength, BadParams, NoMemory}

abbrev pub param_fault_number : ParamFault → ℕ
-- >>> tools/refusals: number cases of ParamFault
param_fault_number WrongLength = 66
param_fault_number (BadParams offset) = 67
param_fault_number NoMemory = 68

-- <<<
