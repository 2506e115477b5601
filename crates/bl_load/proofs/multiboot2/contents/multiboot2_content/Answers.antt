use Rattle.std.proofs.Common.{◌≡◌, ◌⊎◌, ℕ, List, [], length, arith, ap, subst, inl, inr}
use Rattle.std.proofs.lemmas.List.{length-map}
use Rattle.std.proofs.lemmas.Result.{err_from_is_err_and}
use Rattle.bl_mbi.specs.InfoToWriteFacts.{info_size}
use Rattle.bl_map.specs.MachineFacts.{MachineFacts}
use Rattle.bl_plan.specs.declared.part.Role.{Role}
use Rattle.bl_plan.specs.declared.part.Role.TheVariants.{BootParams, CommandLine, Gdt, Initrd}
use Rattle.bl_plan.specs.declared.part.Role.TheVariants.{PageTables}
use Rattle.bl_load.specs.EntryValue.{EntryValue}
use Rattle.bl_load.specs.Multiboot2Kernel.{Multiboot2KernelFacts}
use Rattle.bl_load.specs.KernelReading.{multiboot2}
use Rattle.bl_load.specs.internal.ReadMultiboot2Kernels.{kernel_by}
use Rattle.bl_map.specs.PoolFrames.{round_up_to_frames}
use Rattle.bl_load.specs.Origins.{made}
use Rattle.bl_load.specs.Rows.{information_of}
use Rattle.bl_load.specs.internal.Placing.{HasLength}
use Rattle.bl_load.specs.internal.CheckedEntries.{texts_in, value_of_files}
use Rattle.bl_load.specs.declared.entry.Module.{Module}
use Rattle.bl_load.proofs.InformationLemmas.{information_short}
use Rattle.bl_load.proofs.ReadingLemmas.{modules_fit}
use Rattle.bl_load.proofs.multiboot2.contents.multiboot2_content.Goals as goal

pub kernel_content-requires : goal.kernel_content-requires
kernel_content-requires g c =
    let files = c.args.entry.now.files.now in
    let place = c.args.place.now in
    record {
      file = omega (arith, c.requires.ready.files.0, length-map files g.V.ByteView.bytes);
      loadable = c.requires.ready.files.1;
      long =
          subst
          (λ (role : Role).
          HasLength c.args.entry.now.machine.now (value_of_files c.args.entry.now)
          (multiboot2 (kernel_by c.args.kernel.now)) role place.index place.length)
          c.in-Kernel.is c.requires.rowed;
      small = c.requires.small;
    }

pub information-requires : goal.information-requires
information-requires g c =
    let entry = c.args.entry.now in
    record {
      files =
          omega (arith, c.requires.ready.files.0, length-map entry.files.now g.V.ByteView.bytes);
      low = c.requires.low;
      ends = modules_fit entry.modules.now (texts_in entry) c.args.places.now c.requires.fits;
    }

pub returns-in_ok-bytes-in-Information : goal.returns-in_ok-bytes-in-Information
returns-in_ok-bytes-in-Information g c =
    let facts = c.args.entry.now.machine.now in
    let kernel = c.args.kernel.now in
    let value = value_of_files c.args.entry.now in
    let place = c.args.place.now in
    let places = c.args.places.now in
    let long : place.length
    ≡ round_up_to_frames (info_size (information_of facts value kernel.relocation [])) =
    subst
    (λ (role : Role).
    HasLength facts value (multiboot2 (kernel_by kernel)) role place.index
    place.length) c.in-Information.is c.requires.rowed in
    let short = information_short facts value kernel.relocation places place.length long in
    let is = c.in_ok-bytes-in-Information.ensures in
    rw c.in-Information.is
    (record {
      is = is;
      comes = ap made is;
      there = tt;
      short = omega (arith, short, ap (λ (bytes : List ℕ). length bytes) is);
      lean = tt;
    })

pub returns-in-Kernel : goal.returns-in-Kernel
returns-in-Kernel g c = rw c.in-Kernel.is c.kernel_content.ensures

pub returns-in-Module : goal.returns-in-Module
returns-in-Module g c = rw c.in-Module.is c.module_content.ensures

-- there is no such part
no_part : (facts : MachineFacts) (value : EntryValue) (kernel : Multiboot2KernelFacts) (r : Role)
    (i n : ℕ) → HasLength facts value (multiboot2 kernel) r i n
    → (r ≡ BootParams) ⊎ ((r ≡ CommandLine) ⊎ ((r ≡ Gdt) ⊎ ((r ≡ Initrd) ⊎ (r ≡ PageTables)))) → ⊥
no_part facts value kernel r i n has (inl e) =
    subst (λ (x : Role). HasLength facts value (multiboot2 kernel) x i n) e has
no_part facts value kernel r i n has (inr (inl e)) =
    subst (λ (x : Role). HasLength facts value (multiboot2 kernel) x i n) e has
no_part facts value kernel r i n has (inr (inr (inl e))) =
    subst (λ (x : Role). HasLength facts value (multiboot2 kernel) x i n) e has
no_part facts value kernel r i n has (inr (inr (inr (inl e)))) =
    subst (λ (x : Role). HasLength facts value (multiboot2 kernel) x i n) e has
no_part facts value kernel r i n has (inr (inr (inr (inr e)))) =
    subst (λ (x : Role). HasLength facts value (multiboot2 kernel) x i n) e has

pub returns-in-BootParams : goal.returns-in-BootParams
returns-in-BootParams g c =
    let entry = c.args.entry.now in
    let place = c.args.place.now in
    absurd
    (no_part entry.machine.now (value_of_files entry) (kernel_by c.args.kernel.now) place.role
    place.index place.length c.requires.rowed c.in-BootParams.is)

pub module_content-requires-clause-within : goal.module_content-requires-clause-within
module_content-requires-clause-within g c =
    let entry = c.args.entry.now in
    let place = c.args.place.now in
    let has =
    subst
    (λ (role : Role).
    HasLength entry.machine.now (value_of_files entry) (multiboot2 (kernel_by c.args.kernel.now))
    role place.index place.length)
    c.in-Module.is c.requires.rowed in
    omega (
      arith,
      has.0,
      c.requires.ready.files.0,
      length-map entry.files.now g.V.ByteView.bytes,
      length-map entry.modules.now (λ (m : Module g.row.A.Denot). m.line),
    )

pub returns-in_err-bytes-in-Information : goal.returns-in_err-bytes-in-Information
returns-in_err-bytes-in-Information g c =
    let p = err_from_is_err_and c.from_residual.result c.from_residual.ensures.1 in
    rw p.1 tt
