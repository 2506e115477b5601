use Rattle.std.proofs.Common.{ℕ, arith, refl, subst}
use Rattle.std.proofs.lemmas.List.{length-append, length-replicate}
use Rattle.bl_mem.specs.Memory.{memory_from}
use Rattle.bl_session.specs.menu.Menu.{MenuFacts}
use Rattle.bl_session.specs.session.Phases.{final_phase}
use Rattle.c_abi.specs.Boot.{few_places, bad_machine, bad_memory, bad_menu}
use Rattle.c_abi.specs.Boot.{HasBootEnded, given_files}
use Rattle.c_abi.proofs.MachineLaws.{given_size}
use Rattle.c_abi.proofs.booting.boot.Goals as goal

pub returns-then-room-lt-MAX_PARTS-clause-end : goal.returns-then-room-lt-MAX_PARTS-clause-end
returns-then-room-lt-MAX_PARTS-clause-end g c = (few_places (omega arith), refl)

pub returns-in-Err-clause-end : goal.returns-in-Err-clause-end
returns-in-Err-clause-end g c =
    let many = c.if-room-lt-MAX_PARTS.false in
    (bad_machine (omega (arith, many)) c.in-Err.fault c.in-Err.ensures.fault, refl)

pub returns-then-end-size-clause-end : goal.returns-then-end-size-clause-end
returns-then-end-size-clause-end g c =
    let size = given_size c.args.machine.now c.in-Ok.made c.in-Ok.ensures.machine in
    let told = c.size.ensures.size in
    let many = c.if-room-lt-MAX_PARTS.false in
    let differ = c.if-end-size.true in (
      bad_memory (omega (arith, many)) c.in-Ok.ensures.sound (λ same.
          omega (
            arith,
            length-append {A = ℕ},
            length-replicate {A = ℕ},
            size,
            told,
            differ,
            same,
          )),
      refl,
    )

pub returns-in-Err-menu_of-clause-end : goal.returns-in-Err-menu_of-clause-end
returns-in-Err-menu_of-clause-end g c =
    let size = given_size c.args.machine.now c.in-Ok.made c.in-Ok.ensures.machine in
    let told = c.size.ensures.size in
    let many = c.if-room-lt-MAX_PARTS.false in
    let same = c.if-end-size.false in (
      bad_menu (omega (arith, many)) c.in-Ok.ensures.sound
          (omega (arith, length-append {A = ℕ}, length-replicate {A = ℕ}, size, told, same))
          c.in-Err-menu_of.fault c.in-Err-menu_of.ensures.fault,
      refl,
    )

pub returns-clause-end : goal.returns-clause-end
returns-clause-end g c =
    let size = given_size c.args.machine.now c.in-Ok.made c.in-Ok.ensures.machine in
    let told = c.size.ensures.size in
    let many = c.if-room-lt-MAX_PARTS.false in
    let same = c.if-end-size.false in
    record {
      has_room = omega (arith, many);
      facts = c.in-Ok.made;
      machine_is = c.in-Ok.ensures.machine;
      machine_sound = c.in-Ok.ensures.sound;
      has_memory =
          omega (arith, length-append {A = ℕ}, length-replicate {A = ℕ}, size, told, same);
      allowed = c.in-Ok-menu_of.ensures.allowed;
      booted =
          let files = given_files c.args.entries.now in
          let old = memory_from c.args.base c.args.memory.now in
          let new = memory_from c.args.base c.boot_given.new.memory in
          subst
          (λ (menu : MenuFacts).
          HasBootEnded c.in-Ok.made menu files old new (final_phase c.boot_given.result))
          c.in-Ok-menu_of.ensures.menu c.boot_given.ensures;
    }
