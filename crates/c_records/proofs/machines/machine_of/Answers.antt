use Rattle.std.proofs.Common.{◌∙◌, ℕ, ap, inl, inr}
use Rattle.std.specs.declared.ops.Range.{Range}
use Rattle.std.proofs.lemmas.Result.{err_from_is_err_and}
use Rattle.bl_map.specs.Firmware.{FirmwareFacts}
use Rattle.bl_map.specs.MachineFacts.{MachineFacts}
use Rattle.c_records.specs.Machines.{pool_given}
use Rattle.c_records.proofs.machines.machine_of.Goals as goal

-- a machine that is not taken
pub returns-in_err-typed-clause-machine : goal.returns-in_err-typed-clause-machine
returns-in_err-typed-clause-machine g c =
    let p = err_from_is_err_and c.from_residual-in_err-typed.result c.from_residual-in_err-typed.ensures.1 in
    rw p.1 tt

pub returns-in_err-typed-clause-sound : goal.returns-in_err-typed-clause-sound
returns-in_err-typed-clause-sound g c =
    let p = err_from_is_err_and c.from_residual-in_err-typed.result c.from_residual-in_err-typed.ensures.1 in
    rw p.1 tt

pub returns-in_err-typed-clause-fault : goal.returns-in_err-typed-clause-fault
returns-in_err-typed-clause-fault g c =
    let p = err_from_is_err_and c.from_residual-in_err-typed.result c.from_residual-in_err-typed.ensures.1 in
    rw p.1 (inr (inl p.2))

pub returns-in-Ok-clause-machine : goal.returns-in-Ok-clause-machine
returns-in-Ok-clause-machine g c =
    let typed = c.deref-2.ensures.value ∙ c.in_ok-typed.ensures in
    let facts : ℕ → Range ℕ → FirmwareFacts → MachineFacts =
    λ size pool firmware. record {
      size = size;
      runs = c.in-Ok.made.runs;
      pool = pool;
      firmware = firmware;
    } in
    record {
      is =
          ap (λ (size : ℕ). facts size c.in-Ok.made.pool c.in-Ok.made.firmware)
          c.in-Ok.ensures.size
          ∙ ap (λ (pool : Range ℕ). facts c.args.machine.now.size pool c.in-Ok.made.firmware)
          (c.in-Ok.ensures.pool ∙ c.pool_of.ensures)
          ∙ ap (λ (firmware : FirmwareFacts).
          facts c.args.machine.now.size (pool_given c.args.machine.now) firmware)
          (c.in-Ok.ensures.firmware ∙ c.firmware_of-told.ensures);
      runs = rw typed at c.in-Ok.ensures.runs;
    }

pub returns-in-Ok-clause-sound : goal.returns-in-Ok-clause-sound
returns-in-Ok-clause-sound g c =
    let typed = c.deref-2.ensures.value ∙ c.in_ok-typed.ensures in
    record {
      numbers = c.in_ok-check_machine.ensures;
      accepted = rw (typed, c.pool_of.ensures) at c.in-Ok.ensures.accepted;
      told =
          rw (typed, c.pool_of.ensures, c.firmware_of-told.ensures) at c.in-Ok.ensures.told;
    }

pub returns-clause-fault : goal.returns-clause-fault
returns-clause-fault g c =
    let typed = c.deref-2.ensures.value ∙ c.in_ok-typed.ensures in
    inr (inr (record {
      numbers = c.in_ok-check_machine.ensures;
      found = c.in-Err.fault;
      first =
          rw (typed, c.pool_of.ensures, c.firmware_of-told.ensures)
          at c.in-Err.ensures.first_fault;
      is = c.given_fault_of_map.ensures;
    }))
