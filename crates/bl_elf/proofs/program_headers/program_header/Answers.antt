-- Program header i stands within the file, whose length is a 64-bit number.
use Rattle.std.proofs.Common.{arith}
use Rattle.bl_elf.proofs.HeaderLemmas.{within_file}
use Rattle.bl_elf.proofs.program_headers.program_header.Goals as goal

pub overflow_add-place : goal.overflow_add-place
overflow_add-place g c =
    omega (
      arith,
      within_file (g.V.ByteView.bytes c.args.view.now) c.args.header c.args.i
          c.requires.header c.requires.within,
    )

pub program_header_32-requires-clause-inside : goal.program_header_32-requires-clause-inside
program_header_32-requires-clause-inside g c =
    rw c.in-Elf32.is at
    (within_file (g.V.ByteView.bytes c.args.view.now) c.args.header c.args.i c.requires.header
    c.requires.within)

pub program_header_64-requires-clause-inside : goal.program_header_64-requires-clause-inside
program_header_64-requires-clause-inside g c =
    rw c.in-Elf64.is at
    (within_file (g.V.ByteView.bytes c.args.view.now) c.args.header c.args.i c.requires.header
    c.requires.within)
