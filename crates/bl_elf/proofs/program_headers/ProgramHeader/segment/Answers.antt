use Rattle.std.proofs.Common.{refl}
use Rattle.bl_elf.proofs.program_headers.ProgramHeader.segment.Goals as goal

pub returns : goal.returns
returns c = refl
