use Rattle.std.proofs.Common.{length}
use Rattle.program_say.proofs.blame.bad_key.+say_keys.Given as goal

abbrev pub decreases-say_keys : goal.decreases-say_keys
decreases-say_keys g l = length l.keys.now
