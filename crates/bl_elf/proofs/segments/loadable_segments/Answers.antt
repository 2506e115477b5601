-- Each program header that is sound gives its segment or none; the first that is not is the file's
-- first fault.
use Rattle.std.proofs.Common.{◌≡◌, below_more, sym, ◌∙◌}
use Rattle.std.proofs.lemmas.Result.{err_from_is_err_and}
use Rattle.bl_elf.specs.ProgramHeaders.{is_loadable, program_header}
use Rattle.bl_elf.proofs.ProgramLemmas.{takes, skips}
use Rattle.bl_elf.proofs.FaultLemmas.{program_first}
use Rattle.bl_elf.proofs.segments.loadable_segments.Goals as goal
use Rattle.bl_elf.proofs.segments.loadable_segments.Goals.{then-is_loadable+in_ok-push}
use Rattle.bl_elf.proofs.segments.loadable_segments.Goals.{else-is_loadable}

pub returns-in_err-check-clause-first_fault : goal.returns-in_err-check-clause-first_fault
returns-in_err-check-clause-first_fault g c =
    let bytes = g.V.ByteView.bytes c.args.view.now in
    let p = err_from_is_err_and c.from_residual.result c.from_residual.ensures.1 in
    rw (p.1, p.2)
    (program_first bytes c.loop-i.i
    _ record {
      header = c.requires.sound;
      within = rw (← c.requires.is) c.loop-i-test.true;
      faulty =
          rw (
            ← c.len-size.ensures,
            ← c.program_header-program.ensures,
          ) c.in_err-check.ensures;
      sound_before = c.loop-i.invariant.sound;
    })

pub loop-i-preserved : goal.loop-i-preserved
loop-i-preserved g c =
    let bytes = g.V.ByteView.bytes c.args.view.now in
    let is = c.program_header-program.ensures in
    let told : is_loadable (program_header bytes c.loop-i.i) ≡ c.is_loadable.result =
    rw (← is) (sym c.is_loadable.ensures) in
    record {
      sound =
          below_more _ _ c.loop-i.invariant.sound
          (rw (← c.len-size.ensures, ← is) c.in_ok-check.ensures);
      so_far = elim c.if-is_loadable.branch [
        | then-is_loadable+in_ok-push w ↦
            rw (w.segments-is, w.in_ok-push.ensures.items, w.segment.ensures, is)
            (takes bytes c.loop-i.segments.items _ c.loop-i.i c.args.header.e_phnum
            c.loop-i-test.true (told ∙ w.if-is_loadable.true) c.loop-i.invariant.so_far)
        | else-is_loadable w ↦
            rw w.segments-is
            (skips bytes c.loop-i.segments.items _ c.loop-i.i c.args.header.e_phnum
            c.loop-i-test.true (told ∙ w.if-is_loadable.false) c.loop-i.invariant.so_far)
      ];
    }
