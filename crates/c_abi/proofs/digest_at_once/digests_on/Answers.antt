use Rattle.c_abi.proofs.LoadLemmas.{entry_sound, taken}
use Rattle.c_abi.proofs.ResultLemmas.{on_ok}
use Rattle.c_abi.proofs.digest_at_once.digests_on.Goals as goal

pub digests_of_entry-requires : goal.digests_of_entry-requires
digests_of_entry-requires g c =
    taken c.args.row.now c.in-Ok.entry c.in-Ok.ensures.value c.in-Ok.ensures.count
    c.in-Ok.ensures.limits c.in-Ok.ensures.sound

pub returns-in-Ok-clause-sound : goal.returns-in-Ok-clause-sound
returns-in-Ok-clause-sound g c =
    on_ok c.digests_of_entry.result
    (entry_sound c.args.row.now c.in-Ok.entry c.in-Ok.ensures.value c.in-Ok.ensures.sound
    c.in-Ok.ensures.limits)
