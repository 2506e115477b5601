use Rattle.std.proofs.Common.{◌≡◌, ◌∙◌, List, ap, refl, sym, rules}
use Rattle.bl_digest.specs.declared.image_digest.ImageDigest.{ImageDigest}
use Rattle.bl_digest.specs.declared.part_digest.PartDigest.{PartDigest}
use Rattle.bl_load.specs.Handover.{Handover}
use Rattle.bl_digest.specs.Digests.{digests_of, image_digest}
use Rattle.bl_digest.specs.PlanInSteps.{handover_in_steps, handover_fed}
use Rattle.c_abi.specs.DigestTold.{tells_digests}
use Rattle.c_abi.specs.internal.Tellings.{digests_facts}
use Rattle.c_abi.proofs.digest_telling.fed_digests_told.Goals as goal

pub returns-in-None : goal.returns-in-None
returns-in-None g c =
    let image = c.image.result in
    let parts = c.parts.result.now in
    let both : (h : Handover) → image ≡ image_digest h → parts ≡ (digests_of h).parts
    → digests_facts image parts ≡ digests_of h =
    λ h first rest.
    ap (λ (i : ImageDigest). digests_facts i parts) first
    ∙ ap (λ (ps : List PartDigest). digests_facts (image_digest h) ps) rest in
    tells_digests (sym c.wanted.ensures ∙ c.in-None.is) (digests_facts image parts)
    (record {
      came = both (handover_fed c.args.digest.now) c.image.ensures.fed c.parts.ensures.fed;
      files = λ texts fed.
          both (handover_in_steps texts c.args.digest.now.plan) (c.image.ensures.files texts fed)
          (c.parts.ensures.files texts fed);
    })
    refl c.tell_digests.ensures

pub returns-in-Some : goal.returns-in-Some
returns-in-Some g c = search rules
