use Rattle.std.proofs.Common.{length}
use Rattle.program_say.proofs.blame.word_hints.+say_near_key.Given as goal

abbrev pub decreases-say_near_key : goal.decreases-say_near_key
decreases-say_near_key g l = length l.keys.now
