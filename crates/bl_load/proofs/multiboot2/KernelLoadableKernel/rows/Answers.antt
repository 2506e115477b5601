use Rattle.std.proofs.Common.{arith}
use Rattle.std.proofs.lemmas.List.{length-map}
use Rattle.bl_load.proofs.multiboot2.KernelLoadableKernel.rows.Goals as goal

pub multiboot2_rows-requires-clause-files : goal.multiboot2_rows-requires-clause-files
multiboot2_rows-requires-clause-files g c =
    omega (arith, c.requires.files.0, length-map c.args.entry.now.files.now g.V.ByteView.bytes)
