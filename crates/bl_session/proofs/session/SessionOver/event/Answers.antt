use Rattle.std.proofs.Common.{◌≡◌, ap, refl, subst, sym}
use Rattle.bl_store.specs.Events.{event_facts}
use Rattle.bl_session.specs.session.BootSteps.{BootFacts}
use Rattle.bl_session.specs.session.Phases.{boot_facts}
use Rattle.bl_session.specs.declared.session.phase.BootContext.{BootContext}
use Rattle.bl_session.specs.declared.session.phase.Phase.{Phase}
use Rattle.bl_session.specs.internal.session.KeptPhases.{IsPhaseKept, facts_of_boot}
use Rattle.bl_session.specs.internal.attempt.AttemptStates.{HasPoolRoom}
use Rattle.bl_session.proofs.attempt_lemmas.EarlyReturnLemmas.{keeps_same}
use Rattle.bl_session.proofs.session_lemmas.TakenLemmas.{HasTakenEvent, goes_on, goes_to_kept}
use Rattle.bl_session.proofs.session_lemmas.TakenLemmas.{stays}
use Rattle.bl_session.proofs.session.SessionOver.event.Goals.{After-progress_of, in-Waits, in_default}
use Rattle.bl_session.proofs.session.SessionOver.event.Goals as goal

-- what is kept by a boot's facts is kept by the boot
kept_by : {A : Type 0} (boot : BootContext A) (facts : BootFacts) (p : Phase A)
    → facts_of_boot boot ≡ facts → IsPhaseKept facts.machine facts.menu p
    → IsPhaseKept boot.machine.now boot.menu.now p
kept_by boot facts p is kept =
    subst (λ (f : BootFacts). IsPhaseKept f.machine f.menu p) (sym is) kept

-- whether an attempt waited or not
taken : (g : _) (c : After-progress_of g)
    → HasTakenEvent
    (boot_facts (g.H.BootHolder.machine c.self.inside.holder)
    (g.H.BootHolder.menu c.self.inside.holder) c.self.inside.sizes.items)
    (event_facts c.args.event) c.self.inside.phase c.match-self.self-inside.1.1.1.1.0
    (g.M.PhysMem.bytes c.args.memory.now) (g.M.PhysMem.bytes c.match-self.memory)
    c.progress_of.result
taken g c =
    let boot = c.over-boot.result in
    let event = event_facts c.args.event in
    let p = c.self.inside.phase in
    let q = c.match-self.self-inside.1.1.1.1.0 in
    let told = c.progress_of.result in
    let number = c.number_of-attempt.result in
    let bytes = g.M.PhysMem.bytes in
    let old = bytes c.args.memory.now in
    let new = bytes c.match-self.memory in
    let counts = c.number_of-attempt.ensures boot.menu.now.attempts old in
    let is = c.progress_of.ensures.progress new in
    subst (λ (f : BootFacts). HasTakenEvent f event p q old new told) c.over-boot.ensures
    (elim c.match-self.branch [
      | in-Waits w ↦
          goes_on boot event p q w.in-Waits.running w.take_in_attempt-ended.new.running old
          (bytes w.take_in_attempt-ended.new.memory) new w.take_in_attempt-ended.result number told
          w.in-Waits.is (rw w.self-inside-is w.go_on.ensures) (ap bytes w.memory-is) counts is
          w.take_in_attempt-ended.ensures.taken
      | in_default w ↦
          stays boot event p q old new number told w.in_default.not-Waits
          (rw w.self-inside-is refl) (ap bytes w.memory-is) counts is
          (kept_by boot _ p c.over-boot.ensures c.self.invariant)
    ])

pub returns-clause-step : goal.returns-clause-step
returns-clause-step g c = rw (← c.self.view_is) (taken g c).step

pub returns-clause-progress : goal.returns-clause-progress
returns-clause-progress g c = rw (← c.self.view_is) (taken g c).progress

pub returns-clause-memory : goal.returns-clause-memory
returns-clause-memory g c = rw (← c.self.view_is) (taken g c).memory

pub returns-clause-kept : goal.returns-clause-kept
returns-clause-kept g c =
    elim c.match-self.branch [
      | in-Waits w ↦ rw w.memory-is w.take_in_attempt-ended.ensures.kept
      | in_default w ↦ rw w.memory-is keeps_same
    ]

pub take_in_attempt-ended-requires-clause-kept : goal.take_in_attempt-ended-requires-clause-kept
take_in_attempt-ended-requires-clause-kept g c =
    rw c.in-Waits.is at
    (kept_by c.over-boot.result _ c.self.inside.phase c.over-boot.ensures c.self.invariant)

pub take_in_attempt-ended-requires-clause-memory : goal.take_in_attempt-ended-requires-clause-memory
take_in_attempt-ended-requires-clause-memory g c =
    subst
    (λ (f : BootFacts).
    HasPoolRoom f.machine (g.M.PhysMem.bytes c.args.memory.now)
    (g.M.PhysMem.room c.args.memory.now))
    (sym c.over-boot.ensures)
    (record {
      size = rw (← c.self.view_is) at c.requires.size;
      room = (rw (← c.self.view_is) at c.requires.room) (rw c.in-Waits.is refl);
    })

pub progress_of-requires : goal.progress_of-requires
progress_of-requires g c =
    elim c.match-self.branch [
      | in-Waits w ↦
          rw (w.self-inside-is, w.go_on.ensures)
          (goes_to_kept c.over-boot.result (event_facts c.args.event) w.in-Waits.running
          w.take_in_attempt-ended.new.running (g.M.PhysMem.bytes c.args.memory.now)
          (g.M.PhysMem.bytes w.take_in_attempt-ended.new.memory) w.take_in_attempt-ended.result
          w.take_in_attempt-ended.ensures.taken)
      | in_default w ↦
          rw w.self-inside-is
          (kept_by c.over-boot.result _ c.self.inside.phase c.over-boot.ensures c.self.invariant)
    ]
