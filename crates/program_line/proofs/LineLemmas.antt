-- What a parse by the program's command tells.
use Rattle.std.proofs.Common.{◌≡◌, Bool, true, false, List, [], ◌∷◌, Option, Some, None, Bor, Box}
use Rattle.std.proofs.Common.{map, codes, is_some, option_map, refl, sym, ap, ◌∙◌, inl, inr, rules}
use Rattle.std.specs.Box.{box_value}
use Rattle.std.specs.List.{list_any}
use Rattle.std.specs.Option.{ok_or}
use Rattle.std.specs.Prelude.{find, IfOk, IfErr, MatchOption, Result}
use Rattle.std.specs.Str.{bytes_eq}
use Rattle.std.proofs.Math.Bool.{or-true, true≢false}
use Rattle.std.proofs.lemmas.Bool.{cases_Bool}
use Rattle.std.proofs.lemmas.Option.{same_Some}
use Rattle.std.proofs.lemmas.Slice.Eq.{bytes_eq-Decides}
use Rattle.clap.specs.Words.{Kinds, HasKind, kind_of, fault_of, first_value, first_of, rows_of, App}
use Rattle.clap.specs.Words.{Shape, Text, Row, is_simple, is_simple_and_free, built, HasMatchesOf}
use Rattle.clap.specs.Words.{IsParsedFrom, app_of, shape_of, subcommand_name_of, subcommand_of}
use Rattle.clap.specs.Words.{subcommand_rows, subcommand_rows_of}
use Rattle.clap.specs.Simple.{argument_words, entered, names_of, rows_at}
use Rattle.clap.specs.Walk.{stop_after}
use Rattle.clap.specs.declared.parser.matches.ArgMatches.{ArgMatches}
use Rattle.clap.specs.declared.builder.value_parser.ValueParser.{ValueParser}
use Rattle.clap.specs.declared.parser.matches.ArgMatches.TheViews.{out-ArgMatches, out-SubCommand}
use Rattle.clap.specs.declared.parser.matches.Found.{Found}
use Rattle.clap.specs.declared.parser.matches.SubCommand.{SubCommand}
use Rattle.clap.specs.declared.builder.command.Command.{Command}
use Rattle.clap.specs.declared.builder.command.Command.TheViews.{out-Command as fields_of}
use Rattle.clap.proofs.CallerLemmas.{subcommand_required}
use Rattle.clap.proofs.OnLiterals.{clap_on_literals}
use Rattle.clap.proofs.WalkLemmas.{first_value-rows}
use Rattle.clap.specs.declared.error.Error.{Error}
use Rattle.clap.specs.declared.error.kind.ErrorKind.{ErrorKind}
use Rattle.program_line.specs.declared.fault.LineFault.{LineFault}
use Rattle.program_line.specs.CommandLineJobs.{RefusesLine, fault_of_kind}
use Rattle.program_arguments.specs.CommandLine.{IsOrderParser, line_app}
use Rattle.program_line.specs.CommandLineJobs.{IsJobOf, IsJobOfWords, argument_text}
use Rattle.program_line.specs.declared.fault.LineFault.TheVariants.{Refused}
use Rattle.program_line.specs.declared.job.Job.{Job}
use Rattle.program_line.specs.internal.ChosenNames.{HasJob, IsOfNone}

-- clap's definition gives the matches of this command
pub line_is_simple : (parser : ValueParser) → is_simple (line_app parser) ≡ true
unfolding clap_on_literals
line_is_simple parser = refl

-- and the kinds of its errors
pub line_is_free : (parser : ValueParser) → is_simple_and_free (line_app parser) ≡ true
unfolding clap_on_literals
line_is_free parser = refl

-- what `get_str` finds is the first value of the rows
found : (f : Found) (id : Text) (got : Option (Bor Text)) (what : Option (Bor Text))
    → option_map (λ s. s.now) got ≡ first_value f id → got ≡ what
    → option_map (λ s. s.now) what ≡ first_of id (rows_of f)
found f id got what is given = sym (ap (option_map (λ s. s.now)) given) ∙ is ∙ first_value-rows f id

pub text_given : (f : Found) (id : Text) (got : Option (Bor Text)) (text : Bor Text)
    → option_map (λ s. s.now) got ≡ first_value f id → got ≡ Some text
    → text.now ≡ argument_text id (rows_of f)
text_given f id got text is given =
    let first : Some text.now ≡ first_of id (rows_of f) = found f id got (Some text) is given in
    rw (← first) refl

pub no_text : (f : Found) (id : Text) (got : Option (Bor Text))
    → option_map (λ s. s.now) got ≡ first_value f id → got ≡ None
    → argument_text id (rows_of f) ≡ []
no_text f id got is given =
    let first : None ≡ first_of id (rows_of f) = found f id got None is given in
    rw (← first) refl

-- the name and the matches of the subcommand that was met, as one
pub subcommand_is : {Z : Type 0} (met : Option (Box SubCommand Z)) (name : Text) (rows : List Row)
    → Some name ≡ option_map (λ b. (out-SubCommand (box_value b)).name.now) met
    → Some rows ≡ option_map (λ chosen. chosen.1) (subcommand_rows met)
    → subcommand_rows met ≡ Some (name, rows)
subcommand_is None name rows name_is rows_are = absurd cc
subcommand_is (Some b) name rows name_is rows_are =
    rw (same_Some _ _ name_is, same_Some _ _ rows_are) refl

-- the same as the words of a command say it that is the program's
pub chosen_by : (words : List Text) (parser : ValueParser) (a : App) (m : ArgMatches)
    (chosen : Text × List Row)
    → a ≡ line_app parser → HasMatchesOf a words m → subcommand_rows_of m ≡ Some chosen
    → subcommand_of (line_app parser) words ≡ Some chosen
chosen_by words parser a m chosen same told is =
    ap (λ (b : App). subcommand_of b words) (sym same)
    ∙ sym (told (ap is_simple same ∙ line_is_simple parser)).1 ∙ is

-- what is found among some commands has the name of one
found_name : (test : Shape → Bool) (rest : List Text) (subs : List Shape) (chosen : Text × List Row)
    → option_map (λ s. rows_at s rest) (find test subs) ≡ Some chosen
    → list_any (bytes_eq chosen.0) (map (λ s. s.name) subs) ≡ true
found_name test rest [] chosen is = absurd cc
found_name test rest (s ∷ subs) chosen is =
    elim (cases_Bool (test s)) [
      | inl met ↦
          let same : chosen.0 ≡ s.name =
          sym (ap (λ (p : Text × List Row). p.0) (same_Some _ _ (rw met at is))) in
          rw ((bytes_eq-Decides chosen.0 s.name).1 same) refl
      | inr other ↦
          rw (found_name test rest subs chosen (rw other at is))
          (or-true (bytes_eq chosen.0 s.name))
    ]

entered_name : (a : App) (stop : Option (Text × List Text)) (chosen : Text × List Row)
    → entered a stop ≡ Some chosen → list_any (bytes_eq chosen.0) (map (λ s. s.name) a.subs) ≡ true
entered_name a None chosen is = absurd cc
entered_name a (Some p) chosen is = found_name _ p.1 a.subs chosen is

-- the names of the program's subcommands
abbrev six_names : List Text
six_names =
    codes "boot" ∷ codes "map" ∷ codes "walk" ∷ codes "convert" ∷ codes "explain"
    ∷ codes "digest" ∷ []

one_of_six : (a : App) (stop : Option (Text × List Text)) (chosen : Text × List Row)
    → map (λ s. s.name) a.subs ≡ six_names
    → entered a stop ≡ Some chosen
    → IsOfNone chosen.0 → ⊥
one_of_six a stop chosen names is others =
    let found = entered_name a stop chosen is in
    let among : list_any (bytes_eq chosen.0) six_names ≡ true = rw names at found in
    let no : list_any (bytes_eq chosen.0) six_names ≡ false =
    rw (others.0, others.1, others.2, others.3, others.4, others.5) refl in
    true≢false (sym among ∙ no)

names_are : (parser : ValueParser)
    → map (λ s. s.name) (built (line_app parser)).subs ≡ six_names
unfolding clap_on_literals
names_are parser = refl

-- a subcommand that the words name is one of the program's six
pub no_other_name : (words : List Text) (parser : ValueParser) (chosen : Text × List Row)
    → subcommand_of (line_app parser) words ≡ Some chosen
    → IsOfNone chosen.0 → ⊥
no_other_name words parser chosen is others =
    let a = built (line_app parser) in
    one_of_six a (stop_after a.top.rules (names_of a) (argument_words (line_app parser) words))
    chosen (names_are parser) is others

-- the program's command has no argument for all of its subcommands
is_local : (c : Command) → (shape_of c).is_plain ≡ true → (fields_of c).has_globals ≡ false
is_local c plain = search rules

-- a subcommand was met
some_rows : {Z : Type 0} (met : Option (Box SubCommand Z)) → is_some met ≡ true
    → (chosen : Text × List Row) × (subcommand_rows met ≡ Some chosen)
some_rows None is = absurd cc
some_rows (Some b) is = (_, refl)

-- the matches of the program's command have the job of one of its subcommands
pub no_job_missing : (words : List Text) (parser : ValueParser) (c : Command) (m : ArgMatches)
    → app_of c ≡ line_app parser → IsParsedFrom c m → HasMatchesOf (app_of c) words m
    → HasJob m None → ⊥
no_job_missing words parser c m same parsed told none =
    let local = is_local c (ap (λ (a : App). a.top.is_plain) same) in
    let needs = ap (λ (a : App). a.top.subcommand_required) same in
    let met = subcommand_required c m parsed local needs in
    let chosen = some_rows (out-ArgMatches m).subcommand met in
    no_other_name words parser chosen.0
    (chosen_by words parser (app_of c) m chosen.0 same told chosen.1) (none chosen.0 chosen.1)

-- the job of a subcommand that was met is that of the matches
pub has_job : (m : ArgMatches) (name : Text) (rows : List Row) (got : Option Job)
    → Some name ≡ subcommand_name_of m
    → Some rows ≡ option_map (λ chosen. chosen.1) (subcommand_rows_of m)
    → MatchOption got (IsOfNone name) (IsJobOf (name, rows)) → HasJob m got
has_job m name rows None name_is rows_are none =
    λ chosen is.
    let same : (name, rows) ≡ chosen =
    same_Some _ _ (sym (subcommand_is (out-ArgMatches m).subcommand name rows name_is rows_are) ∙ is)
    in
    rw (← same) none
has_job m name rows (Some job) name_is rows_are is =
    ((name, rows), subcommand_is (out-ArgMatches m).subcommand name rows name_is rows_are, is)

-- without a subcommand there is no job
pub has_no_job : {Z : Type 0} (met : Option (Box SubCommand Z)) (chosen : Text × List Row)
    → false ≡ is_some met → subcommand_rows met ≡ Some chosen → ⊥
has_no_job None chosen none is = cc
has_no_job (Some b) chosen none is = cc

-- the job of the matches is that of the words
pub job_read : (words : List Text) (parser : ValueParser) (a : App) (m : ArgMatches)
    (got : Option Job) (made : Result Job LineFault)
    → IsOrderParser parser → a ≡ line_app parser → fault_of a words ≡ [] → HasMatchesOf a words m
    → HasJob m got → made ≡ ok_or got Refused → IfOk made (IsJobOfWords words)
job_read words parser a m None made orders same free told job is = rw is tt
job_read words parser a m (Some it) made orders same free told job is =
    let free_line : fault_of (line_app parser) words ≡ [] =
    ap (λ (b : App). fault_of b words) (sym same) ∙ free in
    rw is (
      parser,
      orders,
      (
        free_line,
        (job.0, chosen_by words parser a m job.0 same told job.1, job.2),
      ),
    )

-- where the matches have a job, no fault is read
pub no_fault_read : (m : ArgMatches) (got : Option Job) (made : Result Job LineFault)
    (P : LineFault → Type 0)
    → (HasJob m None → ⊥) → HasJob m got → made ≡ ok_or got Refused → IfErr made P
no_fault_read m None made P some job is = absurd (some job)
no_fault_read m (Some it) made P some job is = rw is tt

-- the fault of an error is one that clap's definition has for the words, unless memory ran out
pub refused_for : (words : List Text) (parser : ValueParser) (kinds : Kinds) (error : Error)
    (kind : ErrorKind) (fault : LineFault)
    → IsOrderParser parser → kinds ≡ fault_of (line_app parser) words → HasKind kinds error
    → kind ≡ kind_of error → fault ≡ fault_of_kind kind → RefusesLine words fault
refused_for words parser kinds error kind fault orders same (inl memory) is gives =
    inl (gives ∙ ap fault_of_kind (is ∙ memory))
refused_for words parser kinds error kind fault orders same (inr among) is gives =
    inr (parser, orders, (kind, rw (is, ← same) among, gives))
