use Rattle.std.proofs.Common.{◌≡◌, ◌-◌, ◌*◌, drop}
use Rattle.bl_mbi.specs.Bodies.{runs_of}
use Rattle.bl_mbi.proofs.RunLemmas.{behind}
use Rattle.bl_mbi.proofs.body_reader.runs_of.Given as goal

-- the entries so far, and those that are still to be read, are all of them
abbrev pub invariant-loop-i : goal.invariant-loop-i
invariant-loop-i g l =
    behind l.runs.items (runs_of (l.count - l.i) (drop (24 * l.i) l.bytes))
    ≡ runs_of l.count l.bytes
