use Rattle.std.proofs.Common.{◌≡◌, sym, ap}
use Rattle.bl_params.specs.ParamsFacts.{ParamsFacts}
use Rattle.bl_walk.specs.Faults.{command_line, outside_parts, endless_line}
use Rattle.bl_walk.proofs.RangeLemmas.{rest_is_outside}
use Rattle.bl_walk.proofs.parameters.line.Goals as goal

pub returns-in_default : goal.returns-in_default
returns-in_default g c =
    let pointer : c.params.inside.cmd_line_ptr ≡ c.args.params.now.cmd_line_ptr =
    ap (λ (p : ParamsFacts). p.cmd_line_ptr) c.params.view_is in
    let none = rw pointer at (sym c.in_default.ensures) in
    record {
      ok = tt;
      fault = outside_parts c.args.params.now.cmd_line_ptr 1 (command_line c.args.params.now c.requires) (rest_is_outside c.args.image.now.parts c.args.params.now.cmd_line_ptr none);
    }

pub returns-in-None : goal.returns-in-None
returns-in-None g c =
    let pointer : c.params.inside.cmd_line_ptr ≡ c.args.params.now.cmd_line_ptr =
    ap (λ (p : ParamsFacts). p.cmd_line_ptr) c.params.view_is in
    let from = rw pointer at (sym c.in-Some.ensures) in
    record {
      ok = tt;
      fault = endless_line c.args.params.now c.in-Some.rest.now c.requires from (sym c.in-None.ensures);
    }
