use Rattle.std.proofs.Common.{arith}
use Rattle.std.proofs.lemmas.Grind.{common_steps}
use Rattle.bl_session.proofs.menu_lemmas.MenuLemmas.{few_files}
use Rattle.std.proofs.Common.{◌≡◌, drop, length, rules, ap}
use Rattle.bl_session.specs.menu.Menu.{EntryFacts, files_of}
use Rattle.bl_session.specs.session.Phases.{boot_facts, phase_facts}
use Rattle.bl_session.proofs.session_lemmas.AskFileLemmas.{asked_in}
use Rattle.bl_session.proofs.session_lemmas.AwaitingLemmas.{waits_somewhere}
use Rattle.bl_session.proofs.session.SessionOver.submit_attempt.Goals as goal

pub returns-clause-asked : goal.returns-clause-asked
returns-clause-asked g c =
    let s = c.self.inside in
    let w = c.in-Waits.waiting in
    let attempts = c.menu-menu.result.now.attempts in
    let given = g.S.Store.given in
    let number : c.len.result ≡ length w.earlier.items = search rules in
    rw (← c.self.view_is, ← c.menu-menu.ensures)
    (asked_in c.submit_files.result
    (boot_facts (g.H.BootHolder.machine s.holder) c.menu-menu.result.now s.sizes.items)
    (phase_facts attempts s.phase) w.entry (drop w.next attempts) w.earlier.items w.stage
    c.len.result (files_of c.entry-entry.result.now) (given c.args.store.now)
    (given c.submit_files.new.store) (ap (phase_facts attempts) c.in-Waits.is) number
    (ap (λ (e : EntryFacts). e.files) c.entry-entry.ensures.entry)
    c.submit_files.ensures.asked)

pub unreachable-requires : goal.unreachable-requires
unreachable-requires g c =
    waits_somewhere _ c.self.inside.phase (rw (← c.self.view_is) at c.requires)
    c.in_default.not-Waits

pub submit_files-requires-clause-countable : goal.submit_files-requires-clause-countable
submit_files-requires-clause-countable g c =
    let few = few_files c.entry-entry.result.now c.entry-entry.ensures.limits in
    let stands = rw c.in-Waits.is at c.self.invariant in
    record { few = grind (arith, common_steps, few); small = stands.0.small }
