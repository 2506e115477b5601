use Rattle.std.proofs.Common.{sym, ap, ◌∙◌}
use Rattle.bl_load.specs.HandoffFacts.{HandoffFacts}
use Rattle.bl_image.specs.internal.PlaceRecords.{image_front}
use Rattle.bl_image.proofs.PartLemmas.{front_by_places}
use Rattle.bl_image.proofs.front.front_bytes.Goals as goal

pub returns-clause-front : goal.returns-clause-front
returns-clause-front g c = λ h is.
    c.put_front.ensures.front
    ∙ sym (ap (λ (k : HandoffFacts). image_front k.protocol k.registers k.places) is)
    ∙ sym (front_by_places h)
