-- The command that clap is given. Own.
use Rattle.std.specs.Prelude.{◌≡◌, true, List, [], ◌∷◌, map, Some, codes}
use Rattle.std.specs.Borrow.{Bor}
use Rattle.clap.specs.Words.{App, Rule, Text, new_app, new_rule, with_rule, with_subcommand}
use Rattle.clap.specs.Simple.{new_shape}
use Rattle.clap.specs.declared.builder.action.ArgAction.TheVariants.{SetTrue}
use Rattle.clap.specs.declared.builder.value_parser.ValueParser.{ValueParser}
use Rattle.clap.specs.declared.builder.value_parser.ValueParser.TheVariants.{Names}

-- boot DESC --out IMAGE [--order forward|reverse], map DESC, walk IMAGE,
-- convert IMAGE --out NEW, explain DESC [--order forward|reverse], or digest DESC,
-- digest --image IMAGE

-- the parser takes the two orders by name
abbrev pub IsOrderParser : ValueParser → Type 0
IsOrderParser parser = (names : Bor (List (Bor Text))) × (parser ≡ Names names)
    × (map (λ name. name.now) names.now ≡ codes "forward" ∷ codes "reverse" ∷ [])

-- for such a parser
abbrev pub HasOrderParser : (ValueParser → Type 0) → Type 0
HasOrderParser P = (parser : ValueParser) × IsOrderParser parser × P parser

-- the description, which must be given
abbrev pub desc_rule : Rule
desc_rule = record (new_rule (codes "desc")) { required = true }

abbrev pub out_rule : Rule
out_rule = record (new_rule (codes "out")) { long = Some (codes "out"); required = true }

abbrev pub order_rule : ValueParser → Rule
order_rule parser =
    record (new_rule (codes "order")) { long = Some (codes "order"); parser = Some parser }

abbrev pub boot_app : ValueParser → App
boot_app parser =
    with_rule (with_rule (with_rule (new_app (codes "boot")) desc_rule) out_rule)
    (order_rule parser)

abbrev pub map_app : App
map_app = with_rule (new_app (codes "map")) desc_rule

-- the image, which must be given
abbrev pub image_rule : Rule
image_rule = record (new_rule (codes "image")) { required = true }

abbrev pub walk_app : App
walk_app = with_rule (new_app (codes "walk")) image_rule

abbrev pub convert_app : App
convert_app = with_rule (with_rule (new_app (codes "convert")) image_rule) out_rule

abbrev pub explain_app : ValueParser → App
explain_app parser = with_rule (with_rule (new_app (codes "explain")) desc_rule) (order_rule parser)

-- the description or the image, which must be given
abbrev pub desc_or_image_rule : Rule
desc_or_image_rule = record (new_rule (codes "file")) { required = true }

-- that it is an image: a flag, without a value
abbrev pub image_flag_rule : Rule
image_flag_rule =
    record (new_rule (codes "image")) { long = Some (codes "image"); action = Some SetTrue }

abbrev pub digest_app : App
digest_app = with_rule (with_rule (new_app (codes "digest")) desc_or_image_rule) image_flag_rule

-- a subcommand must be given, and `help` is none
abbrev pub top_app : App
top_app = record {
  top = record (new_shape (codes "bootcore")) {
    subcommand_required = true;
    disable_help_subcommand = true;
  };
  subs = [];
}

abbrev pub line_app : ValueParser → App
line_app parser =
    with_subcommand
    (with_subcommand
    (with_subcommand
    (with_subcommand (with_subcommand (with_subcommand top_app (boot_app parser).top) map_app.top)
    walk_app.top)
    convert_app.top)
    (explain_app parser).top)
    digest_app.top
