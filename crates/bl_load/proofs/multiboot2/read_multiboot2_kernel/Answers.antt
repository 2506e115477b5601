use Rattle.std.proofs.Common.{◌≡◌, ◌≤◌, Bool, List, ℕ, length, get_or, arith, subst, ap, ◌∙◌}
use Rattle.std.specs.Prelude.{is_some}
use Rattle.std.proofs.lemmas.List.{length-map}
use Rattle.std.proofs.lemmas.Result.{IfOk-weaker, IfErr-weaker}
use Rattle.bl_map.specs.Firmware.{FirmwareFacts}
use Rattle.bl_load.specs.KernelReading.{has_screen}
use Rattle.bl_load.specs.internal.CheckedEntries.{value_of_files}
use Rattle.bl_load.specs.internal.ReadMultiboot2Kernels.{kernel_by, IsKernelOf, IsMultiboot2Fault}
use Rattle.bl_load.proofs.PrepareLemmas.{first_text, multiboot2_fault}
use Rattle.bl_load.proofs.multiboot2.read_multiboot2_kernel.Goals as goal

pub returns-clause-read : goal.returns-clause-read
returns-clause-read g c =
    let entry = c.args.entry.now in
    let some : 1 ≤ length entry.files.now = omega (arith, c.requires.files) in
    let file =
    first_text g.V.ByteView.bytes entry.files.now c.index-entry-0.result some in
    let screen : c.is_some.result ≡ has_screen entry.machine.now =
    c.is_some.ensures
    ∙ ap (λ (f : FirmwareFacts). is_some f.screen)
    (c.firmware.view_is ∙ c.firmware-firmware.ensures.firmware) in
    IfOk-weaker c.read_kernel.result
    _ _ (λ kernel h.
    let is =
    subst (λ (f : List ℕ). IsKernelOf (has_screen entry.machine.now) f (kernel_by kernel)) file
    (subst (λ (b : Bool). IsKernelOf b (g.V.ByteView.bytes (get_or entry.files.now 0 c.index-entry-0.result)) (kernel_by kernel))
    screen h) in
    record {
      read = (c.requires.protocol, is.is);
      files = (
        omega (arith, c.requires.files, length-map entry.files.now g.V.ByteView.bytes),
        is.loadable,
      );
    }) c.read_kernel.ensures.ok

pub returns-clause-fault : goal.returns-clause-fault
returns-clause-fault g c =
    let entry = c.args.entry.now in
    let some : 1 ≤ length entry.files.now = omega (arith, c.requires.files) in
    let file =
    first_text g.V.ByteView.bytes entry.files.now c.index-entry-0.result some in
    let screen : c.is_some.result ≡ has_screen entry.machine.now =
    c.is_some.ensures
    ∙ ap (λ (f : FirmwareFacts). is_some f.screen)
    (c.firmware.view_is ∙ c.firmware-firmware.ensures.firmware) in
    IfErr-weaker c.read_kernel.result
    _ _ (λ fault h.
    multiboot2_fault entry.machine.now (value_of_files entry) c.requires.protocol fault
    (subst (λ (f : List ℕ). IsMultiboot2Fault (has_screen entry.machine.now) f fault) file
    (subst (λ (b : Bool). IsMultiboot2Fault b (g.V.ByteView.bytes (get_or entry.files.now 0 c.index-entry-0.result)) fault)
    screen h))) c.read_kernel.ensures.fault
