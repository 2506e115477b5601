use Rattle.bl_walk.specs.Faults.{information}
use Rattle.bl_walk.specs.internal.Walking.{information_refusal}
use Rattle.bl_walk.specs.Seen.{IsInformation, HasInformation}
use Rattle.bl_walk.proofs.RefusalLemmas.{refused_information, answered}
use Rattle.bl_walk.proofs.information.information.Goals as goal

pub follow-requires : goal.follow-requires
follow-requires g c =
    rw (c.information.ensures, c.registers.ensures)
    (information c.in_ok-size.size c.in_ok-size.ensures.size.ok c.in_ok-size.ensures.least)

pub returns-in_err-read_info : goal.returns-in_err-read_info
returns-in_err-read_info g c =
    let h = c.args.image.now in
    let bytes = c.in_ok-bytes.bytes.now in
    let fault = c.in_err-read_info.field-0.0 in
    let whole = rw (c.information.ensures, c.registers.ensures) at c.in_ok-bytes.ensures.bytes.ok in
    let is : IsInformation h bytes = record {
      size = c.in_ok-size.size;
      total_size = c.in_ok-size.ensures.size.ok;
      least = c.in_ok-size.ensures.least;
      whole = whole;
    } in
    answered h (HasInformation h) c.from_residual-in_err-read_info.result (information_refusal fault)
    c.from_residual-in_err-read_info.ensures.1
    (refused_information h bytes fault is c.in_err-read_info.ensures.first_fault)
