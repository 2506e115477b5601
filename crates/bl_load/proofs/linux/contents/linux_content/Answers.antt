use Rattle.std.proofs.Common.{◌≡◌, ℕ, true, List, length, arith, ap, subst, rules, refl}
use Rattle.std.proofs.lemmas.List.{length-map}
use Rattle.bl_bzimage.proofs.SetupLaws.{payload_is_tail}
use Rattle.bl_mem.specs.FileSet.{nth_file}
use Rattle.bl_plan.specs.declared.part.Role.{Role}
use Rattle.bl_params.proofs.Lengths.{length-boot_params}
use Rattle.bl_params.proofs.PagingLemmas.{length-paging}
use Rattle.bl_plan.specs.declared.part.Role.TheVariants.{PageTables}
use Rattle.bl_load.specs.Addresses.{address_of}
use Rattle.bl_load.specs.Origins.{made}
use Rattle.bl_load.specs.Protocols.{is_wide}
use Rattle.bl_load.specs.LinuxRows.{boot_params_facts}
use Rattle.bl_load.specs.KernelReading.{linux}
use Rattle.bl_load.specs.internal.Placing.{HasLength}
use Rattle.bl_load.specs.internal.CheckedEntries.{texts_in, value_of_files}
use Rattle.bl_load.proofs.HeldLemmas.{length_at}
use Rattle.bl_load.proofs.LinuxKernelLemmas.{setup_is, few_runs}
use Rattle.bl_load.proofs.linux.contents.linux_content.Goals as goal

pub returns-in-Kernel : goal.returns-in-Kernel
returns-in-Kernel g c =
    let texts = texts_in c.args.entry.now in
    let setup = c.args.setup.now in
    let some = c.requires.ready.files in
    let tail = (payload_is_tail (nth_file texts 0) setup (setup_is c.requires.ready.read.1)).0 in
    rw c.in-Kernel.is
    (record {
      is = search rules;
      comes = refl;
      there = (
        omega (arith, some, length-map texts (λ (text : List ℕ). length text)),
        rw (length_at texts 0) (λ _. omega (arith, tail)),
      );
      short = search rules;
      lean = tt;
    })

pub boot_params-requires-clause-few : goal.boot_params-requires-clause-few
boot_params-requires-clause-few g c = few_runs c.requires.ready.read.1

pub returns-in_ok-boot_params-in-BootParams : goal.returns-in_ok-boot_params-in-BootParams
returns-in_ok-boot_params-in-BootParams g c =
    let facts = c.args.entry.now.machine.now in
    let setup = c.args.setup.now in
    let value = value_of_files c.args.entry.now in
    let place = c.args.place.now in
    let long : place.length ≡ 4096 =
    subst (λ (role : Role). HasLength facts value (linux setup) role place.index place.length)
    c.in-BootParams.is c.requires.rowed in
    let is = c.in_ok-boot_params-in-BootParams.ensures in
    rw c.in-BootParams.is
    (record {
      is = is;
      comes = ap made is;
      there = tt;
      short =
          omega (
            arith,
            long,
            length-boot_params setup.header (boot_params_facts facts value c.args.places.now),
            ap (λ (bytes : List ℕ). length bytes) is,
          );
      lean = tt;
    })

pub returns-in_ok-page_tables_at-in-PageTables : goal.returns-in_ok-page_tables_at-in-PageTables
returns-in_ok-page_tables_at-in-PageTables g c =
    let facts = c.args.entry.now.machine.now in
    let setup = c.args.setup.now in
    let value = value_of_files c.args.entry.now in
    let place = c.args.place.now in
    let has : (is_wide value.protocol ≡ true) × (place.length ≡ 0x6000) =
    subst (λ (role : Role). HasLength facts value (linux setup) role place.index place.length)
    c.in-PageTables.is c.requires.rowed in
    let long = has.1 in
    let is = c.in_ok-page_tables_at-in-PageTables.ensures in
    rw c.in-PageTables.is
    (record {
      is = is;
      comes = ap made is;
      there = tt;
      short =
          omega (
            arith,
            long,
            length-paging (address_of PageTables 0 c.args.places.now),
            ap (λ (bytes : List ℕ). length bytes) is,
          );
      lean = tt;
    })
