use Rattle.std.proofs.Common.{ap, ◌∙◌, subst, refl, inl, inr, arith, rules, List, None, Some, ◌≡◌}
use Rattle.std.specs.Option.{option_or}
use Rattle.std.proofs.lemmas.Result.{err_from_is_err_and}
use Rattle.bl_mem.specs.declared.segment.Segment.{Segment}
use Rattle.bl_load.specs.Multiboot2Kernel.{entry_point_fault}
use Rattle.bl_load.specs.internal.ReadMultiboot2Kernels.{executable_facts}
use Rattle.bl_load.proofs.KernelLaws.{kernel_loadable, load_refused}
use Rattle.bl_load.proofs.multiboot2.kernel.read_kernel.Goals as goal

pub returns-in_err-header-clause-fault : goal.returns-in_err-header-clause-fault
returns-in_err-header-clause-fault g c =
    let p = err_from_is_err_and c.from_residual.result c.from_residual.ensures.1 in
    rw (p.1, p.2) (inl (c.in_err-header.field-0.0, c.in_err-header.ensures.first_fault, refl))

pub returns-in_err-executable-clause-fault : goal.returns-in_err-executable-clause-fault
returns-in_err-executable-clause-fault g c =
    let p =
    err_from_is_err_and c.from_residual-in_err-executable.result
    c.from_residual-in_err-executable.ensures.1 in
    rw (p.1, p.2)
    (load_refused _ c.in_ok-header.header c.in_err-executable.field-0.0
    c.in_ok-header.ensures.found c.in_err-executable.ensures.fault)

pub returns-in_err-entry-clause-fault : goal.returns-in_err-entry-clause-fault
returns-in_err-entry-clause-fault g c =
    let p =
    err_from_is_err_and c.from_residual-in_err-entry.result
    c.from_residual-in_err-entry.ensures.1 in
    let facts = executable_facts c.in_ok-executable.executable in
    let header = c.in_ok-header.header in
    let counted : c.or-counted.result ≡ option_or header.entry facts.entry =
    c.or-counted.ensures ∙ ap (option_or header.entry) c.entry.ensures in
    let faulty : entry_point_fault facts.segments (option_or header.entry facts.entry)
    ≡ Some c.in_err-entry.field-0.0 =
    rw (← counted, ← c.segments.ensures) c.in_err-entry.ensures in
    rw (p.1, p.2)
    (inr
    (inr (
      header,
      facts,
      c.in_ok-header.ensures.found,
      c.in_ok-executable.ensures.loaded,
      faulty,
    )))

pub returns-clause-ok : goal.returns-clause-ok
returns-clause-ok g c =
    let facts = executable_facts c.in_ok-executable.executable in
    let sound : entry_point_fault facts.segments c.or-counted.result ≡ None =
    subst (λ (ss : List Segment). entry_point_fault ss c.or-counted.result ≡ None) c.segments.ensures
    c.in_ok-entry.ensures.1 in
    record {
      is = search rules;
      loadable =
          kernel_loadable _ c.in_ok-header.header.segment facts c.or-counted.result
          c.in_ok-header.ensures.segment c.in_ok-executable.ensures.loaded sound
          (omega (arith, c.len-len.ensures));
    }
