use Rattle.std.proofs.Common.{◌≡◌, ℕ, List, Some, inl, inr}
use Rattle.std.proofs.lemmas.Result.{err_from_is_err_and}
use Rattle.program_desc.specs.declared.desc.Description.{Description}
use Rattle.program_desc.specs.Described.{described}
use Rattle.program_desc.specs.Views.{IsReaderFault, view}
use Rattle.program_desc.specs.declared.fault.DescFault.{DescFault}
use Rattle.program_desc.specs.declared.fault.DescFault.TheVariants.{BadDescription, NoMemory}
use Rattle.program_boots.specs.described.DescribedMachine.{IsMachineFault}
use Rattle.program_commands.specs.internal.Readings.{IsReadingFault}
use Rattle.program_commands.proofs.described.machine.read_machine.Goals as goal

undescribed : (desc : List ℕ) (fault : DescFault) → IsReaderFault fault (described desc)
    → IsReadingFault desc fault
undescribed desc BadDescription none = inl none
undescribed desc NoMemory given = tt

without_machine : {A : Type 0} (desc : List ℕ) (d : Description A)
    → described desc ≡ Some (view d) → (fault : DescFault) → IsMachineFault (view d) fault
    → IsReadingFault desc fault
without_machine desc d is BadDescription bad = inr (view d, is, bad)
without_machine desc d is NoMemory given = tt

pub returns-in_err-description-clause-fault : goal.returns-in_err-description-clause-fault
returns-in_err-description-clause-fault g c =
    let p =
    err_from_is_err_and c.from_residual.result
    c.from_residual.ensures.1 in
    rw (p.1, p.2)
    (undescribed c.args.desc.now _ c.in_err-description.ensures.given)

pub returns-in_err-machine-clause-fault : goal.returns-in_err-machine-clause-fault
returns-in_err-machine-clause-fault g c =
    let p =
    err_from_is_err_and c.from_residual-in_err-machine.result
    c.from_residual-in_err-machine.ensures.1 in
    rw (p.1, p.2)
    (without_machine c.args.desc.now c.in_ok-description.description
    c.in_ok-description.ensures.given _ c.in_err-machine.ensures.fault)

pub returns-clause-read : goal.returns-clause-read
returns-clause-read g c =
    record {
      given = c.in_ok-description.ensures.given;
      menu = c.in_ok-description.ensures.menu;
      machine = c.in_ok-machine.ensures.machine;
    }
