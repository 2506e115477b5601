use Rattle.program_commands.proofs.ConvertLaws.{one_handover, said_alike, not_refused, not_walked}
use Rattle.program_commands.proofs.laws.converted_images_are_walked_alike.Goals as goal

pub returns-clause-handover : goal.returns-clause-handover
returns-clause-handover c = λ image converted done. one_handover image converted done

pub returns-clause-said : goal.returns-clause-said
returns-clause-said c = λ image converted a b done one two.
    said_alike image converted done a b one two

pub returns-clause-sound : goal.returns-clause-sound
returns-clause-sound c = λ image converted a number done one bad.
    not_refused image converted done a number one bad

pub returns-clause-refused : goal.returns-clause-refused
returns-clause-refused c = λ image converted b number done bad two.
    not_walked image converted done b number bad two
