use Rattle.bl_stage.proofs.TextLemmas.{table_in_pool}
use Rattle.bl_stage.proofs.stage.Stage.view.Goals as goal

pub lies_in-requires-clause-inside : goal.lies_in-requires-clause-inside
lies_in-requires-clause-inside g c =
    table_in_pool c.args.self.now c.args.file (g.M.PhysMem.bytes c.args.memory.now)
    c.are_staged.ensures c.requires.file c.requires.inside
