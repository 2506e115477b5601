use Rattle.std.proofs.Common.{◌≡◌, ◌++◌, ◌∷◌, [], List, drop, refl, rules, subst}
use Rattle.bl_load.specs.declared.refused_entry.RefusedEntry.{RefusedEntry}
use Rattle.bl_session.specs.session.BootSteps.{Begins}
use Rattle.bl_session.specs.internal.session.KeptPhases.{facts_of_boot, state_in}
use Rattle.bl_session.proofs.attempt_lemmas.EarlyReturnLemmas.{keeps_same}
use Rattle.bl_session.proofs.session_lemmas.BootCallLemmas.{lacks_memory}
use Rattle.bl_session.proofs.session.falling_back.refuse.Goals as goal

pub returns-in_err-push-clause-phase : goal.returns-in_err-push-clause-phase
returns-in_err-push-clause-phase g c =
    lacks_memory _ _ _ _ _ _ c.from_residual.result c.from_residual.ensures.1 (λ a out. refl)

pub returns-in_err-push-clause-kept : goal.returns-in_err-push-clause-kept
returns-in_err-push-clause-kept g c = keeps_same

pub begin-requires-clause-memory : goal.begin-requires-clause-memory
begin-requires-clause-memory g c = c.requires.memory

pub returns-in_err-begin-clause-phase : goal.returns-in_err-begin-clause-phase
returns-in_err-begin-clause-phase g c =
    lacks_memory _ _ _ _ _ _ c.from_residual-in_err-begin.result
    c.from_residual-in_err-begin.ensures.1 c.in_err-begin.ensures.phase.err

pub returns-in_err-begin-clause-kept : goal.returns-in_err-begin-clause-kept
returns-in_err-begin-clause-kept g c = c.begin.ensures.kept

pub returns-clause-phase : goal.returns-clause-phase
returns-clause-phase g c =
    let boot = c.args.boot.now in
    let running = c.args.running.now in
    let led = c.in_ok-begin.ensures.phase in
    let refused : c.push.new.self.items
    ≡ running.earlier.items ++ record { entry = running.entry; refusal = c.args.refusal } ∷ [] =
    search rules in
    record {
      state =
          subst
          (λ (earlier : List RefusedEntry).
          Begins (facts_of_boot boot) (drop running.next boot.menu.now.attempts) earlier
          (state_in boot (g.M.PhysMem.bytes c.begin.new.memory) c.in_ok-begin.field-0)) refused
          led.state;
      memory = led.memory;
      stands = led.stands;
      err = tt;
    }

pub returns-clause-kept : goal.returns-clause-kept
returns-clause-kept g c = c.begin.ensures.kept
