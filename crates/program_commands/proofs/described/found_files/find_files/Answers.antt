use Rattle.std.proofs.Common.{◌∙◌, ◌+◌, arith, map, get_or, take, IsSome}
use Rattle.std.proofs.lemmas.List.{map-append, take_all}
use Rattle.bl_stage.specs.Files.{file_of}
use Rattle.program_desc.specs.Described.{file_named}
use Rattle.program_desc.specs.Views.{view}
use Rattle.program_boots.proofs.described_lemmas.FileLemmas.{no_name, one_more_found}
use Rattle.program_boots.proofs.described_lemmas.FileLemmas.{one_more_asked, asks_first}
use Rattle.program_boots.proofs.described_lemmas.FileLemmas.{stands_at, names_grow}
use Rattle.program_commands.proofs.described.found_files.find_files.Goals as goal

pub loop-name-preserved : goal.loop-name-preserved
loop-name-preserved g c =
    let i = c.loop-name.name-index in
    let names = c.args.names.now in
    let here = get_or names i no_name in
    let inline = (view c.args.description.now).files in
    let so_far = c.loop-name.invariant in
    let found =
    one_more_found g.F.Files.answers g.F.Files.faults inline (map (λ n. n.now) (take i names))
    here.now
    (map file_of c.loop-name.found.items) (file_of c.in_ok-answer.answer) c.args.files.now
    c.loop-name.files c.find_file.new.files
    so_far.found c.in_ok-answer.ensures.found in
    let more = names_grow names i c.loop-name-test.true in
    let missing = c.in_ok-answer.ensures.sought.missing in
    record {
      found = rw (more, c.in_ok-push.ensures.items, map-append) found;
      asked =
          one_more_asked inline names i _ _ _ c.loop-name-test.true so_far.asked
          c.in_ok-answer.ensures.sought.asked;
      inline =
          λ all.
          c.in_ok-answer.ensures.sought.inline
          (stands_at (λ name. IsSome (file_named name inline)) names i all
          c.loop-name-test.true)
          ∙ so_far.inline all;
      same =
          λ file answer told.
          so_far.same file answer (c.in_ok-answer.ensures.sought.same file answer told);
      least = omega (arith, so_far.least, missing.0);
      most = omega (arith, so_far.most, missing.1);
    }

pub returns-clause-asked_first : goal.returns-clause-asked_first
returns-clause-asked_first g c =
    asks_first (view c.args.description.now).files c.args.names.now c.loop-name.name-index _ _
    c.loop-name.invariant.asked

pub returns-in_err-answer-clause-asked_first : goal.returns-in_err-answer-clause-asked_first
returns-in_err-answer-clause-asked_first g c =
    let i = c.loop-name.name-index in
    let inline = (view c.args.description.now).files in
    asks_first inline c.args.names.now (i + 1) _ _
    (one_more_asked inline c.args.names.now i _ _ _ c.loop-name-test.true
    c.loop-name.invariant.asked c.in_err-answer.ensures.sought.asked)

pub returns-in_err-push-clause-asked_first : goal.returns-in_err-push-clause-asked_first
returns-in_err-push-clause-asked_first g c =
    let i = c.loop-name.name-index in
    let inline = (view c.args.description.now).files in
    asks_first inline c.args.names.now (i + 1) _ _
    (one_more_asked inline c.args.names.now i _ _ _ c.loop-name-test.true
    c.loop-name.invariant.asked c.in_ok-answer.ensures.sought.asked)

pub returns-in_err-answer-clause-inline : goal.returns-in_err-answer-clause-inline
returns-in_err-answer-clause-inline g c =
    λ all.
    c.in_err-answer.ensures.sought.inline
    (stands_at (λ name. IsSome (file_named name (view c.args.description.now).files))
    c.args.names.now c.loop-name.name-index all c.loop-name-test.true)
    ∙ c.loop-name.invariant.inline all

pub returns-in_err-answer-clause-same : goal.returns-in_err-answer-clause-same
returns-in_err-answer-clause-same g c =
    λ file answer told.
    c.loop-name.invariant.same file answer (c.in_err-answer.ensures.sought.same file answer told)

pub returns-in_err-push-clause-inline : goal.returns-in_err-push-clause-inline
returns-in_err-push-clause-inline g c =
    λ all.
    c.in_ok-answer.ensures.sought.inline
    (stands_at (λ name. IsSome (file_named name (view c.args.description.now).files))
    c.args.names.now c.loop-name.name-index all c.loop-name-test.true)
    ∙ c.loop-name.invariant.inline all

pub returns-in_err-push-clause-same : goal.returns-in_err-push-clause-same
returns-in_err-push-clause-same g c =
    λ file answer told.
    c.loop-name.invariant.same file answer (c.in_ok-answer.ensures.sought.same file answer told)

pub returns-clause-found : goal.returns-clause-found
returns-clause-found g c =
    rw (take_all c.loop-name.name-index c.args.names.now c.loop-name-test.false)
    at c.loop-name.invariant.found

pub returns-clause-asked : goal.returns-clause-asked
returns-clause-asked g c =
    rw (take_all c.loop-name.name-index c.args.names.now c.loop-name-test.false)
    at c.loop-name.invariant.asked

pub returns-clause-inline : goal.returns-clause-inline
returns-clause-inline g c = c.loop-name.invariant.inline

pub returns-clause-same : goal.returns-clause-same
returns-clause-same g c = c.loop-name.invariant.same

pub returns-clause-missing : goal.returns-clause-missing
returns-clause-missing g c =
    let so_far = c.loop-name.invariant in
    (so_far.least, omega (arith, so_far.most, c.loop-name.auto.name-index-end))

pub returns-in_err-answer-clause-missing : goal.returns-in_err-answer-clause-missing
returns-in_err-answer-clause-missing g c =
    let so_far = c.loop-name.invariant in
    let missing = c.in_err-answer.ensures.sought.missing in (
      omega (arith, so_far.least, missing.0),
      omega (arith, so_far.most, missing.1, c.loop-name-test.true),
    )

pub returns-in_err-push-clause-missing : goal.returns-in_err-push-clause-missing
returns-in_err-push-clause-missing g c =
    let so_far = c.loop-name.invariant in
    let missing = c.in_ok-answer.ensures.sought.missing in (
      omega (arith, so_far.least, missing.0),
      omega (arith, so_far.most, missing.1, c.loop-name-test.true),
    )
