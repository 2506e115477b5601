use Rattle.std.proofs.Common.{◌≡◌, ◌∙◌, map, refl, ap, sym, subst, inl, inr}
use Rattle.bl_mem.specs.Memory.{HasRoom}
use Rattle.std.proofs.lemmas.Result.{err_from_is_err_and}
use Rattle.bl_stage.specs.Ranges.{IsSameOutside}
use Rattle.bl_stage.specs.Files.{size_of}
use Rattle.bl_session.specs.session.BootSteps.{BootFacts, out_of_memory}
use Rattle.bl_session.specs.session.BootMemory.{IsMemoryAt}
use Rattle.bl_session.specs.session.Phases.{SessionFacts, boot_facts, state_at}
use Rattle.bl_session.specs.runs.Run.{run_state_of}
use Rattle.bl_session.specs.internal.runs.RunParts.{asked_sizes}
use Rattle.bl_session.proofs.run_lemmas.RunLemmas.{unbegun, has_started, run_started}
use Rattle.bl_session.proofs.session_lemmas.KeptMemoryLemmas.{keeps_on}
use Rattle.bl_session.proofs.attempt_lemmas.EarlyReturnLemmas.{keeps_same}
use Rattle.bl_session.proofs.runs.run_session.Goals as goal

pub returns-in_err-sizes-clause-files : goal.returns-in_err-sizes-clause-files
returns-in_err-sizes-clause-files g c = refl

pub returns-in_err-sizes-clause-kept : goal.returns-in_err-sizes-clause-kept
returns-in_err-sizes-clause-kept g c = keeps_same

pub returns-in_err-session-clause-files : goal.returns-in_err-session-clause-files
returns-in_err-session-clause-files g c = refl

pub returns-in_err-session-clause-kept : goal.returns-in_err-session-clause-kept
returns-in_err-session-clause-kept g c = keeps_same

pub returns-in_err-drive-clause-files : goal.returns-in_err-drive-clause-files
returns-in_err-drive-clause-files g c = c.drive.ensures.files

pub returns-in_err-drive-clause-kept : goal.returns-in_err-drive-clause-kept
returns-in_err-drive-clause-kept g c = keeps_on c.start.ensures.kept c.drive.ensures.kept

pub returns-clause-files : goal.returns-clause-files
returns-clause-files g c = c.drive.ensures.files

pub returns-clause-kept : goal.returns-clause-kept
returns-clause-kept g c = keeps_on c.start.ensures.kept c.drive.ensures.kept

pub returns-in_err-sizes-clause-run : goal.returns-in_err-sizes-clause-run
returns-in_err-sizes-clause-run g c =
    let files = g.S.Store.files c.args.store.now in
    let given = g.S.Store.given c.args.store.now in
    let p = err_from_is_err_and c.from_residual.result c.from_residual.ensures.1 in
    rw p.1 (
      unbegun (boot_facts c.args.machine.now c.args.menu.now (map size_of files)) files given
          given refl,
      λ a out. refl,
    )

pub returns-in_err-session-clause-run : goal.returns-in_err-session-clause-run
returns-in_err-session-clause-run g c =
    let files = g.S.Store.files c.args.store.now in
    let given = g.S.Store.given c.args.store.now in
    let p =
    err_from_is_err_and c.from_residual-in_err-session.result
    c.from_residual-in_err-session.ensures.1 in
    rw p.1 (
      unbegun (boot_facts c.args.machine.now c.args.menu.now (map size_of files)) files given
          given refl,
      λ a out. refl,
    )

pub drive-requires : goal.drive-requires
drive-requires g c =
    let bytes = g.M.PhysMem.bytes in
    let room = g.M.PhysMem.room c.start.new.memory in
    let unbegun = ap (λ (s : SessionFacts). s.phase) c.in_ok-session.ensures in
    record {
      started =
          has_started c.in_ok-session.session.boot c.in_ok-session.session.phase
          c.start.new.self.phase (bytes c.args.memory.now) (bytes c.start.new.memory) unbegun
          c.start.ensures.step;
      size =
          c.start.ensures.kept.size ∙ c.requires
          ∙ sym (ap (λ (s : SessionFacts). s.boot.machine.size) c.in_ok-session.ensures)
          ∙ sym (ap (λ (b : BootFacts). b.machine.size) c.start.ensures.boot);
      room =
          λ waits.
          subst (λ (b : BootFacts). HasRoom room b.machine.pool.start b.machine.pool.end)
          (sym c.start.ensures.boot) (c.start.ensures.room unbegun waits);
    }

pub returns-in_err-drive-clause-run : goal.returns-in_err-drive-clause-run
returns-in_err-drive-clause-run g c =
    let bytes = g.M.PhysMem.bytes in
    let files = g.S.Store.files c.args.store.now in
    let given = g.S.Store.given in
    let menu = c.args.menu.now in
    let lacking = c.in_err-drive.ensures.ended.0 in
    let sizes =
    c.deref.ensures.value ∙ c.in_ok-sizes.ensures
    ∙ ap (asked_sizes files) c.files.ensures.count in
    let p =
    err_from_is_err_and c.from_residual-in_err-drive.result
    c.from_residual-in_err-drive.ensures.1 in
    let first = bytes c.args.memory.now in
    let begun = state_at (bytes c.start.new.memory) c.start.new.self.phase in
    let e : c.start.new.self.boot
    ≡ boot_facts c.args.machine.now c.args.menu.now c.deref.result.now =
    c.start.ensures.boot ∙ ap (λ (s : SessionFacts). s.boot) c.in_ok-session.ensures in
    let memory =
    c.start.ensures.memory (ap (λ (s : SessionFacts). s.phase) c.in_ok-session.ensures) in
    rw p.1 (
      run_started c.args.machine.now menu files c.deref.result.now c.in_ok-session.session.boot
          c.start.new.self.boot c.in_ok-session.session.phase c.start.new.self.phase
          (bytes c.args.memory.now) (bytes c.start.new.memory)
          (given c.args.store.now) (given c.drive.new.store) lacking.stopped out_of_memory sizes
          (ap (λ (s : SessionFacts). s.boot) c.in_ok-session.ensures)
          (ap (λ (s : SessionFacts). s.phase) c.in_ok-session.ensures) c.start.ensures.boot
          c.start.ensures.step lacking.heard (inr (refl, lacking.running)),
      subst (λ (b : BootFacts). IsSameOutside b.machine.pool first (bytes c.drive.new.memory)) e
          (c.in_err-drive.ensures.ended.1 first
          (subst (λ (b : BootFacts). IsMemoryAt b.machine.pool begun first (bytes c.start.new.memory))
          (sym c.start.ensures.boot) memory)),
    )

pub returns-clause-run : goal.returns-clause-run
returns-clause-run g c =
    let bytes = g.M.PhysMem.bytes in
    let files = g.S.Store.files c.args.store.now in
    let given = g.S.Store.given in
    let menu = c.args.menu.now in
    let first = bytes c.args.memory.now in
    let new = bytes c.drive.new.memory in
    let begun = state_at (bytes c.start.new.memory) c.start.new.self.phase in
    let end = state_at new c.drive.new.session.phase in
    let ended = c.in_ok-drive.ensures.ended in
    let unbegun = ap (λ (s : SessionFacts). s.phase) c.in_ok-session.ensures in
    let boot_is : c.start.new.self.boot
    ≡ boot_facts c.args.machine.now menu c.deref.result.now =
    c.start.ensures.boot ∙ ap (λ (s : SessionFacts). s.boot) c.in_ok-session.ensures in
    let sizes =
    c.deref.ensures.value ∙ c.in_ok-sizes.ensures
    ∙ ap (asked_sizes files) c.files.ensures.count in
    record {
      run =
          run_started c.args.machine.now menu files c.deref.result.now
          c.in_ok-session.session.boot
          c.start.new.self.boot c.in_ok-session.session.phase c.start.new.self.phase
          first (bytes c.start.new.memory)
          (given c.args.store.now) (given c.drive.new.store)
          (run_state_of c.start.new.self.boot end) end sizes
          (ap (λ (s : SessionFacts). s.boot) c.in_ok-session.ensures) unbegun
          c.start.ensures.boot c.start.ensures.step ended.heard (inl refl);
      on_machine = ap (λ (b : BootFacts). b.machine) (ended.boot ∙ boot_is);
      started = ended.started;
      ended = ended.ended;
      memory =
          subst (λ (b : BootFacts). IsMemoryAt b.machine.pool end first new) boot_is
          (ended.memory first
          (subst
          (λ (b : BootFacts). IsMemoryAt b.machine.pool begun first (bytes c.start.new.memory))
          (sym c.start.ensures.boot) (c.start.ensures.memory unbegun)));
    }
