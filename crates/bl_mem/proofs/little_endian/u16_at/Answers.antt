use Rattle.std.proofs.Common.{◌∙◌}
use Rattle.bl_mem.proofs.ReadLemmas.{number_at_read}
use Rattle.bl_mem.proofs.little_endian.u16_at.Goals as goal

pub returns : goal.returns
returns g c =
    c.read_u16.ensures
    ∙ number_at_read 2 c.args.at (g.V.ByteView.bytes c.args.view.now) c.read.new.out
    c.read.ensures
