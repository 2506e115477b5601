-- What the parts of the command that clap is given say. Own.
use Rattle.std.specs.Prelude.{◌≡◌, false}
use Rattle.clap.specs.Words.{App, Rule, app_of, rule_of}
use Rattle.clap.specs.declared.builder.arg.Arg.{Arg}
use Rattle.clap.specs.declared.builder.command.Command.{Command}
use Rattle.clap.specs.declared.builder.command.Command.TheViews.{out-Command as fields_of}

-- the argument has this rule, for one command alone
pub record HasRule (rule : Rule) (arg : Arg) : Type 0 where
  pub local : arg.global ≡ false
  pub is : rule_of arg ≡ rule

-- the command is this one, and each of its arguments is for one command alone
pub record IsApp (app : App) (command : Command) : Type 0 where
  pub local : (fields_of command).has_globals ≡ false
  pub is : app_of command ≡ app
