use Rattle.std.proofs.Common.{List, ℕ, get_or, arith, subst}
use Rattle.std.proofs.lemmas.List.{length-map}
use Rattle.std.proofs.lemmas.Result.{IfOk-weaker, IfErr-weaker}
use Rattle.bl_load.specs.LinuxKernel.{IsLinuxKernel}
use Rattle.bl_load.specs.internal.CheckedEntries.{value_of_files}
use Rattle.bl_load.specs.internal.ReadKernels.{IsLinuxFault}
use Rattle.bl_load.proofs.PrepareLemmas.{first_text, linux_fault}
use Rattle.bl_load.proofs.linux.read_linux_kernel.Goals as goal

pub returns-clause-read : goal.returns-clause-read
returns-clause-read g c =
    let entry = c.args.entry.now in
    let facts = entry.machine.now in
    let file =
    first_text g.V.ByteView.bytes entry.files.now c.index-entry-0.result c.requires.files in
    IfOk-weaker c.read_linux.result
    _ _ (λ setup h.
    record {
      read = (
        c.requires.params,
        subst (λ (f : List ℕ). IsLinuxKernel entry.protocol facts.runs entry.line.now f setup) file
            (subst (λ rs. IsLinuxKernel entry.protocol rs entry.line.now (g.V.ByteView.bytes (get_or entry.files.now 0 c.index-entry-0.result)) setup)
            c.normal.ensures.runs h),
      );
      files = omega (arith, c.requires.files, length-map entry.files.now g.V.ByteView.bytes);
    }) c.read_linux.ensures.kernel

pub returns-clause-fault : goal.returns-clause-fault
returns-clause-fault g c =
    let entry = c.args.entry.now in
    let facts = entry.machine.now in
    let file =
    first_text g.V.ByteView.bytes entry.files.now c.index-entry-0.result c.requires.files in
    IfErr-weaker c.read_linux.result
    _ _ (λ fault h.
    linux_fault facts (value_of_files entry) c.requires.params fault
    (subst (λ (f : List ℕ). IsLinuxFault entry.protocol facts.runs entry.line.now f fault) file
    (subst (λ rs. IsLinuxFault entry.protocol rs entry.line.now (g.V.ByteView.bytes (get_or entry.files.now 0 c.index-entry-0.result)) fault)
    c.normal.ensures.runs h))) c.read_linux.ensures.fault
