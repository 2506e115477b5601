-- The first fault of the header, and what follows from the definition of an executable alone.
use Rattle.std.proofs.lemmas.Result.{err_from_is_err_and}
use Rattle.bl_elf.specs.Elf.{ElfFacts, IsElf}
use Rattle.bl_elf.proofs.FaultLemmas.{header_first}
use Rattle.bl_elf.proofs.ElfLaws.{elf_loadable, elf_few, elf_apart}
use Rattle.bl_elf.proofs.elf.read_elf.Given.{Over}
use Rattle.bl_elf.proofs.elf.read_elf.Goals as goal

pub returns-in_err-header-clause-first_fault : goal.returns-in_err-header-clause-first_fault
returns-in_err-header-clause-first_fault g c =
    let p = err_from_is_err_and c.from_residual.result c.from_residual.ensures.1 in
    rw (p.1, p.2) (header_first _ _ c.in_err-header.ensures.exact)

abbrev facts_read : (g : Over) → goal.After-find_entry-entry g → ElfFacts
facts_read g c =
    record { segments = c.in_ok-segments.segments.items; entry = c.find_entry-entry.result }

is_elf : (g : Over) (c : goal.After-find_entry-entry g)
    → IsElf (g.V.ByteView.bytes c.args.view.now) (facts_read g c)
is_elf g c = record {
  header = c.in_ok-header.ensures.exact;
  sound = c.in_ok-segments.ensures.sound;
  apart = c.in_ok-check_overlaps.ensures;
  segments = c.in_ok-segments.ensures.segments;
  entry = c.find_entry-entry.ensures;
}

pub returns-clause-segments : goal.returns-clause-segments
returns-clause-segments g c =
    elf_loadable (g.V.ByteView.bytes c.args.view.now) (facts_read g c) (is_elf g c)

pub returns-clause-few : goal.returns-clause-few
returns-clause-few g c = elf_few (g.V.ByteView.bytes c.args.view.now) (facts_read g c) (is_elf g c)

pub returns-clause-apart : goal.returns-clause-apart
returns-clause-apart g c =
    elf_apart (g.V.ByteView.bytes c.args.view.now) (facts_read g c) (is_elf g c)
