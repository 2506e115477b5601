use Rattle.std.proofs.Common.{inl, inr, refl}
use Rattle.c_records.specs.declared.given_fault.GivenFault.TheVariants.{NoMemory}
use Rattle.c_abi.specs.Sessions.{of_machine, of_menu}
use Rattle.c_abi.proofs.sessions.session_given.Goals as goal

pub returns-in-Err : goal.returns-in-Err
returns-in-Err g c = of_machine c.in-Err.fault c.in-Err.ensures.fault

pub returns-in-Err-menu_of : goal.returns-in-Err-menu_of
returns-in-Err-menu_of g c =
    of_menu c.in-Ok.made c.in-Ok.ensures.machine c.in-Ok.ensures.sound
    c.in-Err-menu_of.fault c.in-Err-menu_of.ensures.fault

pub returns-in_default : goal.returns-in_default
returns-in_default g c = of_machine NoMemory (inr (inl refl))
