use Rattle.std.proofs.Common.{◌≡◌, arith, drop, length, rules, ap, None}
use Rattle.std.proofs.lemmas.Grind.{common_steps}
use Rattle.bl_session.specs.menu.Menu.{EntryFacts, files_of}
use Rattle.bl_session.specs.session.Phases.{boot_facts, phase_facts}
use Rattle.bl_session.proofs.menu_lemmas.MenuLemmas.{few_files}
use Rattle.bl_session.proofs.attempt_lemmas.RequestLemmas.{request_after_is}
use Rattle.bl_session.proofs.session_lemmas.AwaitingLemmas.{unless_waiting}
use Rattle.bl_session.proofs.session.SessionOver.missing_after.Goals as goal

pub next_missing-found-requires : goal.next_missing-found-requires
next_missing-found-requires g c =
    let few = few_files c.entry-entry.result.now c.entry-entry.ensures.limits in
    let stands = rw c.in-Waits.is at c.self.invariant in
    record { few = grind (arith, common_steps, few); small = stands.0.small }

pub returns : goal.returns
returns g c = λ bytes.
    let s = c.self.inside in
    let w = c.in-Waits.waiting in
    let attempts = c.menu-menu.result.now.attempts in
    let number : c.len.result ≡ length w.earlier.items = search rules in
    rw (← c.self.view_is, ← c.menu-menu.ensures)
    (request_after_is (boot_facts (g.H.BootHolder.machine s.holder) c.menu-menu.result.now s.sizes.items)
    (phase_facts attempts s.phase) w.entry (drop w.next attempts) w.earlier.items w.stage
    c.len.result (files_of c.entry-entry.result.now) c.next_missing-found.result
    c.request_of.result c.args.ticket bytes (ap (phase_facts attempts) c.in-Waits.is) number
    (ap (λ (e : EntryFacts). e.files) c.entry-entry.ensures.entry)
    (c.next_missing-found.ensures.first bytes) (c.request_of.ensures bytes))

pub returns-in_default : goal.returns-in_default
returns-in_default g c = λ bytes.
    rw (← c.self.view_is) (unless_waiting _ bytes c.self.inside.phase None _ c.in_default.not-Waits)
