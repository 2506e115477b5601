use Rattle.std.proofs.Common.{arith, ◌∙◌, List, length, map, slice_index, ap, sym, refl}
use Rattle.bl_load.specs.Handover.{Part, Handover}
use Rattle.bl_load.specs.PlanContents.{handover_by}
use Rattle.bl_load.proofs.HeldLemmas.{all_end_within}
use Rattle.bl_load.proofs.WrittenLemmas.{written_elsewhere}
use Rattle.bl_stage.specs.Staged.{staged_texts}
use Rattle.bl_session.proofs.attempt_lemmas.AfterLemmas.{ranges_are, after_scrub, held_on}
use Rattle.bl_session.proofs.session_lemmas.KeptMemoryLemmas.{keeps_on}
use Rattle.bl_session.proofs.attempt.handing_over.hand_over.Goals as goal

pub returns-clause-loaded : goal.returns-clause-loaded
returns-clause-loaded g c =
    let old = g.M.PhysMem.bytes c.args.memory.now in
    let loaded = g.M.PhysMem.bytes c.load-handoff.new.memory in
    let new = g.M.PhysMem.bytes c.scrub.new.memory in
    let handoff = c.load-handoff.result in
    let pool = c.args.machine.now.pool in
    let texts = staged_texts old c.args.stage.now in
    let plan = c.args.plan in
    let loadable = c.requires.loadable in
    let parts = (handover_by texts plan).parts in
    let at_places = rw (c.ranges-2.ensures) at c.scrub.ensures.after in
    let same =
    held_on pool handoff.places loaded new c.scrub.ensures.kept.size at_places
    (rw (c.load-handoff.ensures.places, c.load-handoff.ensures.kept.size) loadable.inside) in
    let ranges = ranges_are texts plan.parts.items loadable.backed in
    let kept = c.ranges-2.ensures ∙ ap (map _) c.load-handoff.ensures.places ∙ sym ranges in
    let at_parts = rw kept at c.scrub.ensures.after in
    record {
      places = c.load-handoff.ensures.places;
      held =
          ap (λ (ps : List Part).
          let h : Handover =
          record { protocol = handoff.protocol; registers = handoff.registers; parts = ps } in h)
          same
          ∙ c.load-handoff.ensures.handed;
      memory =
          after_scrub pool parts old loaded new c.load-handoff.ensures.in_parts
          (λ a out.
          ap (λ m. slice_index m a) c.load-handoff.ensures.after
          ∙ written_elsewhere (length old) parts old a refl
          (all_end_within texts (length old) plan loadable) out)
          at_parts;
    }

pub returns-clause-kept : goal.returns-clause-kept
returns-clause-kept g c = keeps_on c.load-handoff.ensures.kept c.scrub.ensures.kept

pub scrub-requires-clause-room : goal.scrub-requires-clause-room
scrub-requires-clause-room g c =
    λ a from to. c.load-handoff.ensures.kept.room a (c.requires.pool_room a from to)

pub load-handoff-requires-clause-held : goal.load-handoff-requires-clause-held
load-handoff-requires-clause-held g c = c.requires.held

pub load-handoff-requires-clause-loadable : goal.load-handoff-requires-clause-loadable
load-handoff-requires-clause-loadable g c = c.requires.loadable

pub load-handoff-requires-clause-room : goal.load-handoff-requires-clause-room
load-handoff-requires-clause-room g c = c.requires.room

pub load-handoff-requires-clause-beside : goal.load-handoff-requires-clause-beside
load-handoff-requires-clause-beside g c = c.requires.beside

pub scrub-requires-clause-inside : goal.scrub-requires-clause-inside
scrub-requires-clause-inside g c =
    λ some. let end = c.requires.inside some in omega (arith, end, c.load-handoff.ensures.kept.size)
