use Rattle.bl_walk.specs.Faults.{boot_params}
use Rattle.bl_walk.specs.internal.Walking.{parameters_refusal}
use Rattle.bl_walk.specs.Seen.{AreParameters, HasParameters}
use Rattle.bl_walk.proofs.RefusalLemmas.{refused_parameters, answered}
use Rattle.bl_walk.proofs.parameters.parameters.Goals as goal

pub follow-requires : goal.follow-requires
follow-requires g c = rw (c.params.ensures, c.registers.ensures) (boot_params c.requires)

pub returns-in_err-read_params : goal.returns-in_err-read_params
returns-in_err-read_params g c =
    let h = c.args.image.now in
    let bytes = c.in_ok-bytes.bytes.now in
    let fault = c.in_err-read_params.field-0.0 in
    let whole = rw (c.params.ensures, c.registers.ensures) at c.in_ok-bytes.ensures.bytes.ok in
    let are : AreParameters h bytes = record { handed = c.requires; whole = whole } in
    answered h (HasParameters h) c.from_residual-in_err-read_params.result (parameters_refusal fault)
    c.from_residual-in_err-read_params.ensures.1
    (refused_parameters h bytes fault are c.in_err-read_params.ensures.first_fault)
