use Rattle.bl_elf.proofs.ElfLaws.{elf_is_determined, fault_is_determined, elf_not_fault}
use Rattle.bl_elf.proofs.TotalLaws.{elf_or_fault}
use Rattle.bl_elf.proofs.laws.elf_is_determined.Goals as goal

pub returns-clause-total : goal.returns-clause-total
returns-clause-total c = elf_or_fault

pub returns-clause-one_reading : goal.returns-clause-one_reading
returns-clause-one_reading c = elf_is_determined

pub returns-clause-one_fault : goal.returns-clause-one_fault
returns-clause-one_fault c = fault_is_determined

pub returns-clause-not_both : goal.returns-clause-not_both
returns-clause-not_both c = elf_not_fault
