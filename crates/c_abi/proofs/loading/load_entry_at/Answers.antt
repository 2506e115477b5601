use Rattle.std.proofs.Common.{ℕ, arith, length, refl, subst, sym}
use Rattle.std.proofs.lemmas.List.{length-append, length-replicate}
use Rattle.bl_mem.specs.Memory.{memory_from}
use Rattle.c_records.specs.declared.load_fault.LoadFault.{LoadFault}
use Rattle.c_records.specs.Given.{texts_given}
use Rattle.c_abi.specs.Load.{few_places, bad_machine, bad_memory, IsNotLoaded}
use Rattle.c_abi.proofs.MachineLaws.{given_size}
use Rattle.c_abi.proofs.LoadLemmas.{given_end}
use Rattle.c_abi.proofs.ResultLemmas.{on_ok}
use Rattle.c_abi.proofs.loading.load_entry_at.Goals as goal

pub returns-then-room-lt-MAX_PARTS-clause-end : goal.returns-then-room-lt-MAX_PARTS-clause-end
returns-then-room-lt-MAX_PARTS-clause-end g c = (few_places (omega arith), refl)

pub returns-in-Err-clause-end : goal.returns-in-Err-clause-end
returns-in-Err-clause-end g c =
    let many = c.if-room-lt-MAX_PARTS.false in
    let end = length (memory_from c.args.base c.args.memory.now) in (
      subst
          (λ (f : LoadFault).
          IsNotLoaded c.args.machine.now c.args.entry.now (texts_given c.args.entry.now) c.args.room
          c.args.base end f)
          (sym c.load_fault_of_given.ensures)
          (bad_machine (omega (arith, many)) c.in-Err.fault c.in-Err.ensures.fault),
      refl,
    )

pub returns-then-end-size-clause-end : goal.returns-then-end-size-clause-end
returns-then-end-size-clause-end g c =
    let size = given_size c.args.machine.now c.in-Ok.made c.in-Ok.ensures.machine in
    let told = c.size.ensures.size in
    let many = c.if-room-lt-MAX_PARTS.false in
    let below = c.if-end-size.true in (
      bad_memory (omega (arith, many)) c.in-Ok.ensures.sound
          (omega (arith, length-append {A = ℕ}, length-replicate {A = ℕ}, size, told, below)),
      refl,
    )

pub returns-clause-end : goal.returns-clause-end
returns-clause-end g c =
    let size = given_size c.args.machine.now c.in-Ok.made c.in-Ok.ensures.machine in
    let told = c.size.ensures.size in
    let many = c.if-room-lt-MAX_PARTS.false in
    let reaches = c.if-end-size.false in
    given_end c.args.machine.now c.args.entry.now c.args.room c.args.base
    (memory_from c.args.base c.args.memory.now) (memory_from c.args.base c.load_given.new.memory) c.in-Ok.made c.load_given.result
    (omega (arith, many)) c.in-Ok.ensures.machine c.in-Ok.ensures.sound
    (omega (arith, length-append {A = ℕ}, length-replicate {A = ℕ}, size, told, reaches))
    c.load_given.ensures.sound c.load_given.ensures.handed c.load_given.ensures.fault
    c.load_given.ensures.unchanged

pub returns-clause-room : goal.returns-clause-room
returns-clause-room g c =
    let many = c.if-room-lt-MAX_PARTS.false in on_ok c.load_given.result (omega (arith, many))
