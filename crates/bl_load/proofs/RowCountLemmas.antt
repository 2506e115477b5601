-- How many steps and own bytes the rows of an entry lead to, one by one.
use Rattle.std.proofs.Common.{◌≡◌, ◌≤◌, ◌+◌, ℕ, suc, List, [], ◌∷◌, ◌++◌, length, All}
use Rattle.std.proofs.Common.{None, Some, Option, arith}
use Rattle.std.specs.Prelude.{sum_by, unwrap_or}
use Rattle.std.proofs.lemmas.List.Sums.{sum_by-cons, sum_by-append, sum_by-le}
use Rattle.std.proofs.lemmas.List.Elements.{All-nil, All-cons}
use Rattle.bl_bzimage.specs.declared.setup.Setup.{Setup}
use Rattle.bl_map.specs.MachineFacts.{MachineFacts}
use Rattle.bl_mb2head.specs.declared.relocation.Relocation.{Relocation}
use Rattle.bl_mem.specs.declared.segment.Segment.{Segment}
use Rattle.bl_params.proofs.Lengths.{length-boot_params}
use Rattle.bl_params.proofs.PagingLemmas.{length-paging}
use Rattle.bl_plan.specs.AddressOrder.{segment_key}
use Rattle.bl_plan.specs.declared.part.Place.{Place}
use Rattle.bl_plan.specs.declared.part.Role.{Role}
use Rattle.bl_plan.specs.declared.part.Role.TheVariants.{Kernel, Module, Information, BootParams}
use Rattle.bl_plan.specs.declared.part.Role.TheVariants.{CommandLine, Gdt, Initrd, PageTables}
use Rattle.bl_plan.specs.declared.protocol.Protocol.{Protocol}
use Rattle.bl_plan.specs.declared.protocol.Protocol.TheVariants as protocols
use Rattle.bl_plan.proofs.OrderCountLemmas.{length-in_order}
use Rattle.bl_load.specs.Addresses.{address_of}
use Rattle.bl_load.specs.EntryValue.{EntryValue}
use Rattle.bl_load.specs.KernelReading.{multiboot2, linux}
use Rattle.bl_load.specs.LinuxRows.{boot_params_facts}
use Rattle.bl_load.specs.Multiboot2Kernel.{Multiboot2KernelFacts}
use Rattle.bl_load.specs.Origins.{kernel_origin, origin_from}
use Rattle.bl_load.specs.Protocols.{descriptors_of}
use Rattle.bl_load.specs.Rows.{rows_of, kernel_rows, segment_rows, module_rows, information_row}
use Rattle.bl_load.specs.StepsByOrigins.{own_of_origin}
use Rattle.bl_load.proofs.PartCountLemmas.{most_steps, by_row}
use Rattle.bl_load.proofs.RowLemmas.{length-segment_rows}

-- ---- the rows of a Multiboot2 entry

module _ (w : Role → ℕ → ℕ) where
  each_segment : (m k : ℕ) (segments : List Segment) → ((i : ℕ) → w Kernel i ≤ m)
      → All (λ row. by_row w row ≤ m) (segment_rows k segments)
  each_segment m k [] few = All-nil (λ row. by_row w row ≤ m)
  each_segment m k (s ∷ segments) few =
      All-cons (λ row. by_row w row ≤ m) _ (segment_rows (suc k) segments) (few k)
      (each_segment m (suc k) segments few)

  pub each_module : (m : ℕ) (files : List (List ℕ)) (k : ℕ) (lines : List (List ℕ))
      → ((i : ℕ) → w Module i ≤ m) → All (λ row. by_row w row ≤ m) (module_rows files k lines)
  each_module m files k [] few = All-nil (λ row. by_row w row ≤ m)
  each_module m files k (line ∷ lines) few =
      All-cons (λ row. by_row w row ≤ m) _ (module_rows files (suc k) lines) (few k)
      (each_module m files (suc k) lines few)

  -- the kernel's rows, then those of the modules, then one
  pub sum_rows : (facts : MachineFacts) (value : EntryValue) (kernel : Multiboot2KernelFacts)
      → sum_by (by_row w) (rows_of facts value (multiboot2 kernel))
      ≡ sum_by (by_row w) (kernel_rows kernel.segments kernel.relocation)
      + (sum_by (by_row w) (module_rows value.files 0 value.module_lines) + w Information 0)
  sum_rows facts value kernel =
      let last = information_row facts value kernel.relocation in
      let modules = module_rows value.files 0 value.module_lines in
      omega (
        arith,
        sum_by-append (by_row w) (kernel_rows kernel.segments kernel.relocation)
            (modules ++ last ∷ []),
        sum_by-append (by_row w) modules (last ∷ []),
        sum_by-cons (by_row w) last [],
      )

  pub kernel_steps : (segments : List Segment) (relocation : Option Relocation)
      → length segments ≤ 128
      → ((i : ℕ) → w Kernel i ≡ most_steps (kernel_origin segments relocation i) + 1)
      → sum_by (by_row w) (kernel_rows segments relocation) ≤ 385
  kernel_steps segments None few are =
      let most =
      sum_by-le (by_row w) 2 (segment_rows 0 segments)
      (each_segment 2 0 segments (λ i. omega (arith, are i))) in
      omega (arith, most, length-segment_rows 0 segments, few)
  kernel_steps segments (Some r) few are =
      omega (arith, are 0, length-in_order segment_key segments, few)

  pub kernel_own : (segments : List Segment) (relocation : Option Relocation)
      → ((i : ℕ) → w Kernel i ≡ length (own_of_origin (kernel_origin segments relocation i)))
      → sum_by (by_row w) (kernel_rows segments relocation) ≡ 0
  kernel_own segments None are =
      let most =
      sum_by-le (by_row w) 0 (segment_rows 0 segments)
      (each_segment 0 0 segments (λ i. omega (arith, are i))) in
      omega (arith, most)
  kernel_own segments (Some r) are = omega (arith, are 0)

-- ---- the rows of a Linux entry

descriptors_short : (protocol : Protocol) → length (unwrap_or (descriptors_of protocol) []) ≤ 24576
descriptors_short protocols.Multiboot2 = omega arith
descriptors_short protocols.Linux = omega arith
descriptors_short protocols.Linux64 = omega arith

module _ (facts : MachineFacts) (value : EntryValue) (setup : Setup) (places : List Place) where
  pub linux_steps : (role : Role) (i : ℕ)
      → most_steps (origin_from facts value (linux setup) places role i) + 1 ≤ 2
  linux_steps Kernel i = omega arith
  linux_steps Module i = omega arith
  linux_steps Information i = omega arith
  linux_steps BootParams i = omega arith
  linux_steps CommandLine i = omega arith
  linux_steps Gdt i = omega arith
  linux_steps Initrd i = omega arith
  linux_steps PageTables i = omega arith

  pub linux_own : (role : Role) (i : ℕ) → length value.line ≤ 4095
      → length (own_of_origin (origin_from facts value (linux setup) places role i)) ≤ 24576
  linux_own Kernel i short = omega arith
  linux_own Module i short = omega arith
  linux_own Information i short = omega arith
  linux_own BootParams i short =
      let size = length-boot_params setup.header (boot_params_facts facts value places) in
      omega (arith, size)
  linux_own CommandLine i short = omega (arith, short)
  linux_own Gdt i short = descriptors_short value.protocol
  linux_own Initrd i short = omega arith
  linux_own PageTables i short =
      let size = length-paging (address_of PageTables 0 places) in omega (arith, size)
