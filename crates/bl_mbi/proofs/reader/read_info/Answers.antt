use Rattle.std.proofs.Common.{arith, rules, sym, subst, Result}
use Rattle.bl_mbi.specs.declared.fault.InfoFault.{InfoFault}
use Rattle.bl_mbi.specs.InfoFacts.{InfoFacts}
use Rattle.bl_mbi.specs.ReadingSteps.{MatchesReading}
use Rattle.bl_mbi.proofs.ReadLaws.{are_bytes, spelling_by, accepted_by}
use Rattle.bl_mbi.proofs.reader.read_info.Goals as goal

pub returns-in_err-rest-clause-accepts : goal.returns-in_err-rest-clause-accepts
returns-in_err-rest-clause-accepts g c = λ info is.
    accepted_by c.from_residual.result c.args.bytes.now info (search rules) is

pub returns-clause-spelled : goal.returns-clause-spelled
returns-clause-spelled g c =
    spelling_by c.info_of_tags.result c.args.bytes.now
    (are_bytes c.args.bytes.now (λ i. omega (arith, c.type_inv.bytes i)))
    (subst (λ (read : Result InfoFacts InfoFault). MatchesReading (λ info. info) c.info_of_tags.result read)
    (sym c.in_ok-rest.ensures.tags) c.info_of_tags.ensures)

pub returns-clause-accepts : goal.returns-clause-accepts
returns-clause-accepts g c = λ info is.
    accepted_by c.info_of_tags.result c.args.bytes.now info
    (subst (λ (read : Result InfoFacts InfoFault). MatchesReading (λ info. info) c.info_of_tags.result read)
    (sym c.in_ok-rest.ensures.tags) c.info_of_tags.ensures) is
