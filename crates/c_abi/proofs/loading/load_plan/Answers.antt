use Rattle.std.proofs.Common.{◌≡◌, arith, rules}
use Rattle.std.proofs.lemmas.Grind.{common_steps}
use Rattle.bl_load.specs.PlanContents.{places_of}
use Rattle.c_abi.proofs.LoadLemmas.{have_room}
use Rattle.c_abi.proofs.loading.load_plan.Goals as goal

pub load-requires-clause-room : goal.load-requires-clause-room
load-requires-clause-room g c =
    rw c.from_base-own.ensures.base
    (have_room c.args.base (places_of c.args.plan) c.requires.above)

pub returns-clause-put : goal.returns-clause-put
returns-clause-put g c =
    let base : c.load.new.memory.base ≡ c.args.base = grind (arith, common_steps) in
    let handed = rw base at c.load.ensures.handed in
    let after =
    rw (base, c.from_base-own.ensures.base, c.from_base-own.ensures.bytes)
    at c.load.ensures.after in
    record { after = search rules; handed = search rules }
