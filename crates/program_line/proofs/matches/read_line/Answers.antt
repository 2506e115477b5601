use Rattle.std.proofs.Common.{◌∙◌, ap, map, Bor, List, ℕ}
use Rattle.clap.specs.Words.{App, Text, app_of, fault_of, is_simple_and_free, takes}
use Rattle.program_line.specs.CommandLineJobs.{fault_of_kind}
use Rattle.program_line.proofs.LineLemmas.{job_read, line_is_free, no_fault_read, no_job_missing}
use Rattle.program_line.proofs.LineLemmas.{refused_for}
use Rattle.program_line.proofs.matches.read_line.Goals as goal

abbrev texts : List (Bor (List ℕ)) → List Text
texts words = map (λ (w : Bor (List ℕ)). w.now) words

pub returns-in-Ok-clause-job : goal.returns-in-Ok-clause-job
returns-in-Ok-clause-job c =
    let made = c.in_ok-command.ensures in
    job_read (texts c.args.words.now) made.0 (app_of c.in_ok-command.command) c.in-Ok.matches
    c.job_in.result c.ok_or.result made.1 made.2
    (c.in-Ok.ensures.kinds (ap is_simple_and_free made.2 ∙ line_is_free made.0))
    c.in-Ok.ensures.matches c.job_in.ensures c.ok_or.ensures.value

pub returns-in-Ok-clause-fault : goal.returns-in-Ok-clause-fault
returns-in-Ok-clause-fault c =
    let made = c.in_ok-command.ensures in
    no_fault_read c.in-Ok.matches c.job_in.result c.ok_or.result _
    (no_job_missing (texts c.args.words.now) made.0 c.in_ok-command.command c.in-Ok.matches made.2
    c.in-Ok.ensures.parsed c.in-Ok.ensures.matches)
    c.job_in.ensures c.ok_or.ensures.value

pub returns-in-Ok-clause-taken : goal.returns-in-Ok-clause-taken
returns-in-Ok-clause-taken c =
    let made = c.in_ok-command.ensures in
    no_fault_read c.in-Ok.matches c.job_in.result c.ok_or.result _
    (no_job_missing (texts c.args.words.now) made.0 c.in_ok-command.command c.in-Ok.matches made.2
    c.in-Ok.ensures.parsed c.in-Ok.ensures.matches)
    c.job_in.ensures c.ok_or.ensures.value

pub returns-in-Err-clause-fault : goal.returns-in-Err-clause-fault
returns-in-Err-clause-fault c =
    let made = c.in_ok-command.ensures in
    let words = texts c.args.words.now in
    let kinds = c.in-Err.ensures.kinds (ap is_simple_and_free made.2 ∙ line_is_free made.0) in
    refused_for words made.0 _ c.in-Err.error c.kind.result c.fault_of.result made.1
    (ap (λ (a : App). fault_of a words) made.2) kinds
    c.kind.ensures c.fault_of.ensures

pub returns-in-Err-clause-taken : goal.returns-in-Err-clause-taken
returns-in-Err-clause-taken c =
    let made = c.in_ok-command.ensures in
    let words = texts c.args.words.now in
    λ taken.
    let takes_all = ap (λ (a : App). takes a words) made.2 ∙ taken made.0 made.1 in
    c.fault_of.ensures ∙ ap fault_of_kind (c.kind.ensures ∙ c.in-Err.ensures.passes takes_all)
