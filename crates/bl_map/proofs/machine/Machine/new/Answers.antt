use Rattle.std.proofs.Common.{rules}
use Rattle.bl_map.proofs.FirmwareLemmas.{no_firmware_is, no_firmware_fits}
use Rattle.bl_map.proofs.machine.Machine.new.Goals as goal

pub returns-clause-runs : goal.returns-clause-runs
returns-clause-runs g c = search rules

pub invariant_of-result : goal.invariant_of-result
invariant_of-result g c = search (rules, no_firmware_is, no_firmware_fits)
