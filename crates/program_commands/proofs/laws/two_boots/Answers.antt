use Rattle.program_commands.proofs.EndLaws.{one_image, one_end_at, same_facts}
use Rattle.program_commands.proofs.laws.two_boots.Goals as goal

pub returns-clause-one_image : goal.returns-clause-one_image
returns-clause-one_image g c =
    λ desc other before after began ended a b machine value. one_image a b machine value

pub returns-clause-ends : goal.returns-clause-ends
returns-clause-ends g c =
    λ desc other before after began ended a b machine entry index sizes value e f x y.
    one_end_at a b machine entry index sizes value e f x y

pub returns-clause-same_facts : goal.returns-clause-same_facts
returns-clause-same_facts g c = same_facts
