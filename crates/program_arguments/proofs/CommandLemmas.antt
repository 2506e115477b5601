-- What a command says after one more argument or subcommand.
use Rattle.std.proofs.Common.{◌≡◌, Some, Result, Bor, refl, ap, ◌∙◌}
use Rattle.std.specs.Prelude.{IfOk}
use Rattle.std.proofs.lemmas.Result.{IfOk-weaker}
use Rattle.clap.specs.Words.{AddsArg, AddsSubcommand, App, Rule, Text, app_of, new_rule, rule_of}
use Rattle.clap.specs.Words.{with_rule, with_subcommand}
use Rattle.clap.specs.declared.builder.arg.Arg.{Arg}
use Rattle.clap.specs.declared.builder.command.Command.{Command}
use Rattle.clap.specs.declared.builder.value_parser.ValueParser.{ValueParser}
use Rattle.program_arguments.specs.internal.CommandParts.{HasRule, IsApp}

pub arg_added : {E : Type 0} (old : Command) (arg : Arg) (made : Result Command E) (app : App)
    (rule : Rule)
    → IsApp app old → HasRule rule arg → IfOk made (AddsArg old arg)
    → IfOk made (IsApp (with_rule app rule))
arg_added old arg made app rule says has adds =
    IfOk-weaker made (AddsArg old arg) (IsApp (with_rule app rule))
    (λ new added. record {
      local = added.globals ∙ rw (says.local, has.local) refl;
      is = added.shape has.local ∙ ap (λ (a : App). with_rule a (rule_of arg)) says.is
          ∙ ap (λ (r : Rule). with_rule app r) has.is;
    })
    adds

pub subcommand_added : {E : Type 0} (old sub : Command) (made : Result Command E)
    (app sub_app : App)
    → IsApp app old → IsApp sub_app sub → IfOk made (AddsSubcommand old sub)
    → IfOk made (IsApp (with_subcommand app sub_app.top))
subcommand_added old sub made app sub_app says sub_says adds =
    IfOk-weaker made (AddsSubcommand old sub) (IsApp (with_subcommand app sub_app.top))
    (λ new added. record {
      local = added.globals ∙ rw (says.local, sub_says.local) refl;
      is = added.shape sub_says.local
          ∙ ap (λ (a : App). with_subcommand a (app_of sub).top) says.is
          ∙ ap (λ (a : App). with_subcommand app a.top) sub_says.is;
    })
    adds

-- an argument that is new but for its name and its parser
pub rule_with : (new long made : Arg) (id : Text) (name : Bor Text)
    (parser : ValueParser)
    → rule_of new ≡ new_rule id → long ≡ record new { long = Some name }
    → made ≡ record long { value_parser = made.value_parser } → made.value_parser ≡ Some parser
    → rule_of made ≡ record (new_rule id) { long = Some name.now; parser = Some parser }
rule_with new long made id name parser is named given parses =
    let same : made ≡ record new { long = Some name; value_parser = Some parser } =
    given ∙ rw (parses, named) refl in
    ap rule_of same
    ∙ ap (λ (r : Rule). record r { long = Some name.now; parser = Some parser }) is
