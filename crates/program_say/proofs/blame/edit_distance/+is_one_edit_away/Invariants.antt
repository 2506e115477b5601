use Rattle.std.proofs.Common.{length}
use Rattle.program_say.proofs.blame.edit_distance.+is_one_edit_away.Given as goal

abbrev pub decreases-is_one_edit_away : goal.decreases-is_one_edit_away
decreases-is_one_edit_away l = length l.word.now
