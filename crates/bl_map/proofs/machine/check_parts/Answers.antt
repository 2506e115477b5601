use Rattle.std.proofs.Common.{rules}
use Rattle.bl_map.proofs.machine.check_parts.Goals as goal

pub returns-then-regions-gt-MAX_REGIONS-clause-first_fault :
    goal.returns-then-regions-gt-MAX_REGIONS-clause-first_fault
returns-then-regions-gt-MAX_REGIONS-clause-first_fault c = search rules
