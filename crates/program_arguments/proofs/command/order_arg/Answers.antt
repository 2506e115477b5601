use Rattle.std.proofs.Common.{◌∙◌, refl, rules}
use Rattle.program_arguments.proofs.CommandLemmas.{rule_with}
use Rattle.program_arguments.proofs.command.order_arg.Goals as goal

pub returns : goal.returns
returns c =
    let given = c.value_parser.ensures.given in
    record {
      local = search rules;
      is = rule_with c.new.result c.long.result c.value_parser.result _ _ _ c.new.ensures.rule
          c.long.ensures c.value_parser.ensures.others (given.1 ∙ rw given.2 refl);
    }
