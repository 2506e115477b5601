use Rattle.std.proofs.Common.{length}
use Rattle.program_say.proofs.blame.word_hints.+say_near.Given as goal

abbrev pub decreases-say_near : goal.decreases-say_near
decreases-say_near g l = length l.words.now
