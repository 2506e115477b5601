-- A program header that holds the entry is the first, and one that does not leaves those after it.
use Rattle.std.proofs.Common.{◌≡◌, length, true, false, None, sym, ◌∙◌}
use Rattle.bl_elf.specs.ProgramHeaders.{is_entered, program_header, program_fault}
use Rattle.bl_elf.specs.Elf.{IsProgramHeaderIndex}
use Rattle.bl_elf.proofs.ProgramLemmas.{find_here, find_behind, entered_below}
use Rattle.bl_elf.proofs.entry.first_entered.Goals as goal

pub returns-then-is_entered-clause-first : goal.returns-then-is_entered-clause-first
returns-then-is_entered-clause-first g c =
    let bytes = g.V.ByteView.bytes c.args.view.now in
    let entered : is_entered c.args.header.e_entry (program_header bytes c.loop-i.i) ≡ true =
    rw (← c.program_header-program.ensures) (sym c.if-is_entered.ensures) in
    rw c.program_header-program.ensures
    (sym
    (find_here bytes c.args.header.e_entry c.loop-i.i c.args.header.e_phnum
    c.loop-i-test.true entered) ∙ c.loop-i.invariant)

pub returns-then-is_entered-clause-inside : goal.returns-then-is_entered-clause-inside
returns-then-is_entered-clause-inside g c =
    let bytes = g.V.ByteView.bytes c.args.view.now in
    let within : IsProgramHeaderIndex bytes c.loop-i.i =
    rw (← c.requires.header.is) c.loop-i-test.true in
    let sound : program_fault (length bytes) c.loop-i.i c.program_header-program.result ≡ None =
    rw c.program_header-program.ensures (c.requires.sound c.loop-i.i within) in
    let low =
    entered_below (length bytes) c.loop-i.i c.args.header.e_entry
    c.program_header-program.result sound (sym c.if-is_entered.ensures) in
    (low.above, low.below)

pub loop-i-preserved : goal.loop-i-preserved
loop-i-preserved g c =
    let bytes = g.V.ByteView.bytes c.args.view.now in
    let entered : is_entered c.args.header.e_entry (program_header bytes c.loop-i.i) ≡ false =
    rw (← c.program_header-program.ensures) (sym c.if-is_entered.ensures) in
    sym
    (find_behind bytes c.args.header.e_entry c.loop-i.i c.args.header.e_phnum c.loop-i-test.true
    entered) ∙ c.loop-i.invariant
