use Rattle.bl_mb2head.proofs.HeaderLaws.{one_header, one_fault, not_both}
use Rattle.bl_mb2head.proofs.TotalLaws.{header_or_fault}
use Rattle.bl_mb2head.proofs.laws.headers_are_determined.Goals as goal

pub returns-clause-total : goal.returns-clause-total
returns-clause-total c = header_or_fault

pub returns-clause-one_header : goal.returns-clause-one_header
returns-clause-one_header c = one_header

pub returns-clause-one_fault : goal.returns-clause-one_fault
returns-clause-one_fault c = one_fault

pub returns-clause-not_both : goal.returns-clause-not_both
returns-clause-not_both c = not_both
