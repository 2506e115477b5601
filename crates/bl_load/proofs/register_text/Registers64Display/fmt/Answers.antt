use Rattle.std.proofs.Common.{List, ℕ, Some, subst}
use Rattle.std.specs.Fmt.{DisplaysOnOk}
use Rattle.bl_load.specs.NamedRegisters.{registers_text}
use Rattle.bl_load.proofs.register_text.Registers64Display.fmt.Goals as goal

pub returns-clause-writes : goal.returns-clause-writes
returns-clause-writes g c =
    subst (λ (list : List (List ℕ × ℕ)). DisplaysOnOk g.W.Write.write_str_gives c.args.f.now
    c.write_registers.result (Some (registers_text list)) c.write_registers.new.f)
    c.named.ensures c.write_registers.ensures
