use Rattle.bl_elf.proofs.ElfLaws as laws
use Rattle.bl_elf.proofs.laws.overlap_is_shared.Goals as goal

pub returns : goal.returns
returns c = laws.overlap_is_shared
