use Rattle.program_commands.proofs.described.machine.make_machine.Goals as goal

pub returns-clause-machine : goal.returns-clause-machine
returns-clause-machine g c =
    let regions = c.as_slice-regions.ensures.value in
    let lent = c.lend-firmware.ensures in
    let made = c.in_ok-machine.ensures in
    record {
      accepted = rw regions at made.accepted;
      told = rw (regions, lent) at made.told;
      fits = rw (made.firmware, lent) at c.size-size.ensures.facts.fits;
      size = made.size;
      runs = rw regions at made.runs;
      pool = made.pool;
      firmware = rw lent at made.firmware;
    }
