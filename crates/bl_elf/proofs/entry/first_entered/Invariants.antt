use Rattle.std.proofs.Common.{◌≡◌, ◌-◌}
use Rattle.std.specs.Prelude.{find}
use Rattle.bl_elf.specs.ProgramHeaders.{program_headers_from, program_headers, is_entered}
use Rattle.bl_elf.proofs.entry.first_entered.Given as goal

-- the first of the program headers that are left is the first of all
abbrev pub invariant-loop-i : goal.invariant-loop-i
invariant-loop-i g l =
    let bytes = g.V.ByteView.bytes l.view in
    find (is_entered l.header.e_entry) (program_headers_from bytes l.i (l.i-end - l.i))
    ≡ find (is_entered l.header.e_entry) (program_headers bytes)
