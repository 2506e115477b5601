use Rattle.std.proofs.Common.{ℕ, List, Err, refl, arith}
use Rattle.std.proofs.lemmas.Result.{err_from_is_err_and}
use Rattle.program_desc.specs.declared.fault.DescFault.{DescFault}
use Rattle.program_desc.specs.declared.fault.DescFault.TheVariants as desc_fault
use Rattle.program_commands.specs.internal.Readings.{IsReadingFault}
use Rattle.program_commands.specs.internal.CallEnds.{MapEnds, end_fault_of_desc_fault}
use Rattle.program_commands.proofs.machine_map.run_map.Goals as goal

-- no machine is described, or memory ran out
unread : (desc said : List ℕ) (fault : DescFault) → IsReadingFault desc fault
    → MapEnds desc said said (Err (end_fault_of_desc_fault fault))
unread desc said desc_fault.BadDescription bad = (bad, refl)
unread desc said desc_fault.NoMemory given = refl

pub returns-in_err-read : goal.returns-in_err-read
returns-in_err-read g c =
    let p =
    err_from_is_err_and c.from_residual.result
    c.from_residual.ensures.1 in
    rw (p.1, p.2)
    (unread c.args.desc.now c.args.say.now.items _ c.in_err-read.ensures.fault)

pub say_map-requires : goal.say_map-requires
say_map-requires g c =
    let low = c.normal.ensures.facts.runs.low in
    rw c.normal.ensures.runs (λ k d below. let end = low k d below in omega (arith, end))
