use Rattle.std.proofs.Common.{◌-◌, Some, sym, ap, ◌∙◌}
use Rattle.std.specs.Option.{option_copied}
use Rattle.bl_walk.proofs.RangeLemmas.{no_rest_in, some_rest_in, all_of}
use Rattle.bl_walk.proofs.part_bytes.rest_at.Goals as goal

pub returns-in_err-part : goal.returns-in_err-part
returns-in_err-part g c =
    ap option_copied c.from_residual.ensures
    ∙ sym (no_rest_in c.args.image.now.parts c.args.address (sym c.in_err-part.ensures.exact))

pub returns : goal.returns
returns g c =
    let part = c.in_ok-part.part.now in
    rw (c.address.ensures, c.bytes.ensures)
    (ap Some (all_of part.bytes (c.args.address - part.address))
    ∙ sym
    (some_rest_in c.args.image.now.parts c.args.address part (sym c.in_ok-part.ensures.exact)))
