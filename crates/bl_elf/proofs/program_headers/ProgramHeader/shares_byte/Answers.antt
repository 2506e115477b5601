use Rattle.std.proofs.Common.{◌≡◌, ◌+◌, nat_lt, rules}
use Rattle.bl_elf.specs.ProgramHeaders.{segments_overlap}
use Rattle.bl_elf.proofs.program_headers.ProgramHeader.shares_byte.Goals as goal

pub returns : goal.returns
unfolding segments_overlap
returns c =
    let p = c.args.self in
    let begins : c.is_before_end-2.result ≡ nat_lt c.args.other.p_paddr (p.p_paddr + p.p_memsz) =
    c.is_before_end-2.ensures in
    search rules
