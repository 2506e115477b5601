-- The modules, one more after those that are there.
use Rattle.std.proofs.Common.{List, [], ◌∷◌, ◌++◌}
use Rattle.bl_mbi.specs.InfoToWriteFacts.{ModuleInfo}
use Rattle.bl_load.specs.Handover.{Part}
use Rattle.bl_walk.specs.SeenFacts.{SeenModuleFacts}
use Rattle.bl_walk.specs.Seen.{IsSeenModule, AreSeenModules}

pub one_more : (parts : List Part) (ms : List ModuleInfo) (ss : List SeenModuleFacts)
    (m : ModuleInfo) (s : SeenModuleFacts)
    → AreSeenModules parts ms ss → IsSeenModule parts m s
    → AreSeenModules parts (ms ++ m ∷ []) (ss ++ s ∷ [])
one_more parts [] [] m s are is = (is, tt)
one_more parts [] (t ∷ ss) m s are is = absurd are
one_more parts (n ∷ ms) [] m s are is = absurd are
one_more parts (n ∷ ms) (t ∷ ss) m s are is = (are.0, one_more parts ms ss m s are.1 is)
