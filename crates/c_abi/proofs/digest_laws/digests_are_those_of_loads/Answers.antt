use Rattle.std.proofs.Common.{◌∙◌, ap, refl, subst, sym}
use Rattle.bl_map.specs.MachineFacts.{MachineFacts}
use Rattle.bl_digest.specs.Digests.{digests_of}
use Rattle.bl_digest.specs.PlanInSteps.{DigestingFacts, handover_in_steps}
use Rattle.bl_load.specs.Parts.{IsHandover}
use Rattle.bl_load.specs.PlanContents.{handover_in}
use Rattle.bl_load.proofs.HandoverLaws as handovers
use Rattle.c_abi.specs.Digest.{AreDigestsFed}
use Rattle.c_records.specs.Given.{texts_given, value_given}
use Rattle.c_abi.proofs.MachineLaws.{one_machine}
use Rattle.c_abi.proofs.digest_laws.digests_are_those_of_loads.Goals as goal

pub returns-clause-fed : goal.returns-clause-fed
returns-clause-fed c = λ machine entry made fed digests m files is told.
    let told = subst (λ (d : DigestingFacts). AreDigestsFed d digests) is told in record {
      facts = m.facts;
      machine_is = m.machine_is;
      machine_sound = m.machine_sound;
      entry_sound = m.entry_sound;
      handover = handover_in_steps (texts_given entry) made.plan;
      handed = m.handed (texts_given entry) files;
      digests_are = told.files (texts_given entry) refl;
    }

pub returns-clause-loaded : goal.returns-clause-loaded
returns-clause-loaded c = λ machine entry room base old new handoff digests d l.
    let held = handover_in new handoff.protocol handoff.registers handoff.places in
    let moved : IsHandover d.facts (value_given entry) held =
    subst (λ (f : MachineFacts). IsHandover f (value_given entry) held)
    (one_machine machine l.facts d.facts l.machine_is d.machine_is)
    l.handed.handover in
    d.digests_are
    ∙ ap digests_of
    (sym (handovers.one_handover d.facts (value_given entry) held d.handover moved d.handed))
