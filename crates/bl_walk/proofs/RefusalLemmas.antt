-- A fault of the information or of the boot parameters, as it is answered.
use Rattle.std.proofs.Common.{◌≡◌, ℕ, List, Ok, Err, Result, sym, subst}
use Rattle.std.specs.Prelude.{IsErrAnd}
use Rattle.bl_mbi.specs.declared.fault.InfoFault.{InfoFault}
use Rattle.bl_mbi.specs.declared.fault.InfoFault.TheVariants as info_fault
use Rattle.bl_mbi.specs.ReadingSteps.{MatchesFault}
use Rattle.bl_mbi.specs.Reading.{info_of}
use Rattle.bl_params.specs.declared.fault.ParamFault.{ParamFault}
use Rattle.bl_params.specs.declared.fault.ParamFault.TheVariants as param_fault
use Rattle.bl_params.specs.Reading.{HasFirstParamFault}
use Rattle.bl_load.specs.Handover.{Handover}
use Rattle.bl_walk.specs.declared.fault.WalkFault.{WalkFault}
use Rattle.bl_walk.specs.Faults.{HasWalkFault, other_information, other_parameters}
use Rattle.bl_walk.specs.internal.Walking.{FindsOrFaults, information_refusal, parameters_refusal}
use Rattle.bl_walk.specs.Seen.{IsInformation, AreParameters}

pub refused_information : (h : Handover) (bytes : List ℕ) (fault : InfoFault)
    → IsInformation h bytes → MatchesFault fault (info_of bytes)
    → HasWalkFault h (information_refusal fault)
refused_information h bytes info_fault.WrongLength is fails =
    other_information bytes info_fault.WrongLength is fails
refused_information h bytes info_fault.BadReserved is fails =
    other_information bytes info_fault.BadReserved is fails
refused_information h bytes (info_fault.BadTag at) is fails =
    other_information bytes (info_fault.BadTag at) is fails
refused_information h bytes (info_fault.BadOrder at) is fails =
    other_information bytes (info_fault.BadOrder at) is fails
refused_information h bytes info_fault.NoMemory is fails = tt

pub refused_parameters : (h : Handover) (bytes : List ℕ) (fault : ParamFault)
    → AreParameters h bytes → HasFirstParamFault bytes fault
    → HasWalkFault h (parameters_refusal fault)
refused_parameters h bytes param_fault.WrongLength are first =
    other_parameters bytes param_fault.WrongLength are (λ same. absurd (cc)) first
refused_parameters h bytes (param_fault.BadParams at) are first =
    other_parameters bytes (param_fault.BadParams at) are (λ same. absurd (cc)) first
refused_parameters h bytes param_fault.NoMemory are first = tt

-- where a fault of the reader is answered
pub answered : {X : Type 0} (h : Handover) (is_so : X → Type 0) (result : Result X WalkFault)
    (refusal : WalkFault) → IsErrAnd result (λ fault. fault ≡ refusal) → HasWalkFault h refusal
    → FindsOrFaults h is_so result
answered h is_so (Ok x) refusal is stands = absurd is
answered h is_so (Err fault) refusal is stands =
    record { ok = tt; fault = subst (HasWalkFault h) (sym is) stands }
