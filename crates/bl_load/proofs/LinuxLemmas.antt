-- What the rows of a Linux entry have, and their places.
use Rattle.std.proofs.Common.{◌≡◌, ◌≤◌, ◌+◌, ℕ, Bool, true, false, List, [], ◌∷◌, length}
use Rattle.std.proofs.Common.{ap, cond, arith, refl, sym, subst, All, inl, inr}
use Rattle.std.proofs.Common.{nat_eq, ◌++◌, length-append, Option, Some, None}
use Rattle.std.specs.Prelude.{option_to_list}
use Rattle.std.proofs.lemmas.Bool.{cond_both}
use Rattle.std.proofs.lemmas.List.Elements.{All-nil, All-cons, All-append}
use Rattle.std.specs.declared.ops.Range.{Range}
use Rattle.bl_map.specs.Limits.{max_size, high_start}
use Rattle.bl_map.specs.MachineFacts.{MachineFacts}
use Rattle.bl_map.specs.PoolFrames.{round_up_to_frames}
use Rattle.bl_bzimage.specs.declared.setup.Setup.{Setup}
use Rattle.bl_bzimage.specs.Setup.{IsSetup}
use Rattle.bl_bzimage.proofs.CheckLaws.{some_alignment}
use Rattle.bl_bzimage.proofs.SetupLaws.{payload_is_tail}
use Rattle.bl_mem.specs.Memory.{IsIn}
use Rattle.bl_plan.specs.Permitted.{AreUntaken}
use Rattle.bl_plan.specs.Placed.{ArePlaced, IsWellFormedRow, IsFirstPlaceFault, HasChoiceFault}
use Rattle.bl_plan.specs.declared.fault.PlanFault.TheVariants.{Overlap}
use Rattle.bl_plan.specs.declared.part.Place.{Place}
use Rattle.bl_plan.specs.declared.part.Role.{Role}
use Rattle.bl_plan.specs.declared.part.Role.TheVariants.{Kernel, BootParams, CommandLine, Gdt}
use Rattle.bl_plan.specs.declared.part.Row.{Row}
use Rattle.bl_plan.specs.declared.protocol.Protocol.{Protocol}
use Rattle.bl_plan.specs.declared.protocol.Protocol.TheVariants as protocols
use Rattle.bl_plan.proofs.PlaceLaws.{as_many}
use Rattle.bl_load.specs.LinuxRows.{relocatable_kernel_row, fixed_kernel_row, linux_kernel_row}
use Rattle.bl_load.specs.LinuxRows.{frame_row}
use Rattle.bl_load.specs.LinuxRows.{line_end_limit, paging_row, front_rows, initrd_rows, linux_rows}
use Rattle.bl_load.specs.internal.Placing.{HasLength, HasRowLength}
use Rattle.bl_load.specs.Protocols.{is_wide}
use Rattle.bl_load.specs.KernelReading.{linux}
use Rattle.bl_load.specs.Rows.{rows_of}
use Rattle.bl_load.specs.EntryValue.{EntryValue, initrd_file}
use Rattle.bl_load.proofs.RowLemmas.{some_frames}
use Rattle.bl_load.proofs.RowPlaceLemmas.{Anywhere, each_place}

-- ---- they are rows

pub kernel_row_is : (file : List ℕ) (setup : Setup) → IsSetup file setup
    → IsWellFormedRow (linux_kernel_row setup)
kernel_row_is file setup is =
    let payload = (payload_is_tail file setup is).1 in
    cond_both (nat_eq setup.relocatable_kernel 0) (fixed_kernel_row setup) (relocatable_kernel_row setup) IsWellFormedRow
    (λ _. record { filled = omega arith; choice = tt })
    (λ moved. record { filled = omega arith; choice = some_alignment file setup is moved })

frame_row_is : (role : Role) (high : ℕ) → IsWellFormedRow (frame_row role high)
frame_row_is role high = record { filled = omega arith; choice = omega arith }

initrd_rows_are : (setup : Setup) (initrd : List ℕ) → All IsWellFormedRow (initrd_rows setup initrd)
initrd_rows_are setup [] = All-nil IsWellFormedRow
initrd_rows_are setup (byte ∷ bytes) =
    let frames = some_frames (length (byte ∷ bytes)) (omega arith) in
    All-cons IsWellFormedRow _ [] (record { filled = omega arith; choice = omega arith }) (All-nil IsWellFormedRow)

-- a protocol's page tables have some bytes and a choice
paging_row_is : (protocol : Protocol) → All IsWellFormedRow (option_to_list (paging_row protocol))
paging_row_is protocols.Multiboot2 = All-nil IsWellFormedRow
paging_row_is protocols.Linux = All-nil IsWellFormedRow
paging_row_is protocols.Linux64 =
    All-cons IsWellFormedRow _ [] (record { filled = omega arith; choice = omega arith }) (All-nil IsWellFormedRow)

-- what holds of each row before the initrd's holds of all
pub each_front : (P : Row → Type 0) (protocol : Protocol) (setup : Setup)
    → P (linux_kernel_row setup)
    → P (frame_row BootParams max_size) → P (frame_row CommandLine line_end_limit)
    → P (frame_row Gdt max_size)
    → All P (option_to_list (paging_row protocol)) → All P (front_rows protocol setup)
each_front P protocol setup kernel params line gdt paging =
    let tables = option_to_list (paging_row protocol) in
    All-cons P (linux_kernel_row setup)
    (frame_row BootParams max_size ∷ frame_row CommandLine line_end_limit ∷ frame_row Gdt max_size
    ∷ tables) kernel
    (All-cons P (frame_row BootParams max_size)
    (frame_row CommandLine line_end_limit ∷ frame_row Gdt max_size ∷ tables) params
    (All-cons P (frame_row CommandLine line_end_limit) (frame_row Gdt max_size ∷ tables) line
    (All-cons P (frame_row Gdt max_size) tables gdt paging)))

-- the rows of a setup have some bytes and a choice
pub front_rows_are_rows : (protocol : Protocol) (file : List ℕ) (setup : Setup) → IsSetup file setup
    → All IsWellFormedRow (front_rows protocol setup)
front_rows_are_rows protocol file setup is =
    each_front IsWellFormedRow protocol setup (kernel_row_is file setup is)
    (frame_row_is BootParams max_size)
    (frame_row_is CommandLine line_end_limit) (frame_row_is Gdt max_size) (paging_row_is protocol)

pub linux_rows_are_rows : (protocol : Protocol) (file : List ℕ) (setup : Setup) (initrd : List ℕ)
    → IsSetup file setup → All IsWellFormedRow (linux_rows protocol setup initrd)
linux_rows_are_rows protocol file setup initrd is =
    All-append IsWellFormedRow (front_rows protocol setup) (initrd_rows setup initrd)
    (front_rows_are_rows protocol file setup is) (initrd_rows_are setup initrd)

-- ---- how many they are

at_most_one : (row : Option Row) → length (option_to_list row) ≤ 1
at_most_one None = omega arith
at_most_one (Some row) = omega arith

few_initrd_rows : (setup : Setup) (initrd : List ℕ) → length (initrd_rows setup initrd) ≤ 1
few_initrd_rows setup [] = omega arith
few_initrd_rows setup (byte ∷ bytes) = omega arith

-- there are at most six rows, and as many places
pub linux_few : (facts : MachineFacts) (protocol : Protocol) (setup : Setup) (initrd : List ℕ)
    (taken : List (Range ℕ)) (places : List Place)
    → ArePlaced facts taken (linux_rows protocol setup initrd) places → length places ≤ 6
linux_few facts protocol setup initrd taken places placed =
    let tables = option_to_list (paging_row protocol) in
    let one = at_most_one (paging_row protocol) in
    let few = few_initrd_rows setup initrd in
    let both = length-append tables (initrd_rows setup initrd) in
    let same = as_many facts taken (linux_rows protocol setup initrd) places placed in
    omega (arith, one, few, both, same)

-- ---- each place has the length that its role and its index ask for

pub kernel_role : (fixed : Bool) (setup : Setup)
    → (cond fixed (fixed_kernel_row setup) (relocatable_kernel_row setup)).role ≡ Kernel
kernel_role true setup = refl
kernel_role false setup = refl

module _ (facts : MachineFacts) (value : EntryValue) (setup : Setup) where
  kernel_row_rowed : Anywhere (HasRowLength facts value (linux setup)) (linux_kernel_row setup)
  kernel_row_rowed a =
      let row = linux_kernel_row setup in
      subst (λ (r : Role). HasLength facts value (linux setup) r row.index row.length)
      (sym (kernel_role (nat_eq setup.relocatable_kernel 0) setup)) refl

  initrd_rows_rowed : (initrd : List ℕ) → initrd_file value.files ≡ initrd
      → All (Anywhere (HasRowLength facts value (linux setup))) (initrd_rows setup initrd)
  initrd_rows_rowed [] is = All-nil (Anywhere (HasRowLength facts value (linux setup)))
  initrd_rows_rowed (byte ∷ bytes) is =
      All-cons (Anywhere (HasRowLength facts value (linux setup))) _ []
      (λ a.
      subst
      (λ (all : List ℕ).
      (1 ≤ length all)
      × (round_up_to_frames (length (byte ∷ bytes)) ≡ round_up_to_frames (length all))) (sym is)
      (omega arith, refl))
      (All-nil (Anywhere (HasRowLength facts value (linux setup))))

  paging_rowed : (protocol : Protocol) → protocol ≡ value.protocol
      → All (Anywhere (HasRowLength facts value (linux setup))) (option_to_list (paging_row protocol))
  paging_rowed protocols.Multiboot2 is = All-nil (Anywhere (HasRowLength facts value (linux setup)))
  paging_rowed protocols.Linux is = All-nil (Anywhere (HasRowLength facts value (linux setup)))
  paging_rowed protocols.Linux64 is =
      All-cons (Anywhere (HasRowLength facts value (linux setup))) _ []
      (λ a. (sym (ap is_wide is), refl))
      (All-nil (Anywhere (HasRowLength facts value (linux setup))))

  pub linux_rowed : (taken : List (Range ℕ)) (places : List Place)
      → ArePlaced facts taken (rows_of facts value (linux setup)) places
      → All (HasRowLength facts value (linux setup)) places
  linux_rowed taken places placed =
      each_place facts (HasRowLength facts value (linux setup)) taken (rows_of facts value (linux setup))
      places
      (All-append (Anywhere (HasRowLength facts value (linux setup))) (front_rows value.protocol setup)
      (initrd_rows setup (initrd_file value.files))
      (each_front (Anywhere (HasRowLength facts value (linux setup))) value.protocol setup
      kernel_row_rowed (λ a. refl) (λ a. refl) (λ a. refl) (paging_rowed value.protocol refl))
      (initrd_rows_rowed (initrd_file value.files) refl))
      placed

-- ---- none overlaps another: the first alone has a fixed place

nothing_taken : (start end : ℕ) → AreUntaken [] start end
nothing_taken start end a low high = All-nil (λ (range : Range ℕ). ¬ IsIn range a)

kernel_no_overlap : (facts : MachineFacts) (setup : Setup)
    → HasChoiceFault facts [] (linux_kernel_row setup).length
    (linux_kernel_row setup).choice Overlap → ⊥
kernel_no_overlap facts setup =
    cond_both (nat_eq setup.relocatable_kernel 0) (fixed_kernel_row setup) (relocatable_kernel_row setup)
    (λ row. HasChoiceFault facts [] row.length row.choice Overlap → ⊥)
    (λ _ here. here.2 (nothing_taken high_start (high_start + (fixed_kernel_row setup).length)))
    (λ _ here. here)

initrd_no_overlap : (facts : MachineFacts) (taken : List (Range ℕ)) (setup : Setup)
    (initrd : List ℕ) → IsFirstPlaceFault facts taken (initrd_rows setup initrd) Overlap → ⊥
initrd_no_overlap facts taken setup [] has = has
initrd_no_overlap facts taken setup (byte ∷ bytes) (inl here) = here
initrd_no_overlap facts taken setup (byte ∷ bytes) (inr later) = later.2

-- nor do page tables
paging_no_overlap : (facts : MachineFacts) (taken : List (Range ℕ)) (protocol : Protocol)
    (setup : Setup) (initrd : List ℕ)
    → IsFirstPlaceFault facts taken
    (option_to_list (paging_row protocol) ++ initrd_rows setup initrd)
    Overlap → ⊥
paging_no_overlap facts taken protocols.Multiboot2 setup initrd has =
    initrd_no_overlap facts taken setup initrd has
paging_no_overlap facts taken protocols.Linux setup initrd has =
    initrd_no_overlap facts taken setup initrd has
paging_no_overlap facts taken protocols.Linux64 setup initrd (inl here) = here
paging_no_overlap facts taken protocols.Linux64 setup initrd (inr (a, _, later)) =
    initrd_no_overlap facts _ setup initrd later

rows_no_overlap : (facts : MachineFacts) (protocol : Protocol) (setup : Setup) (initrd : List ℕ)
    → IsFirstPlaceFault facts [] (linux_rows protocol setup initrd) Overlap → ⊥
rows_no_overlap facts p setup initrd (inl here) = kernel_no_overlap facts setup here
rows_no_overlap facts p setup initrd (inr (a, _, inl here)) = here
rows_no_overlap facts p setup initrd (inr (a, _, inr (b, _, inl here))) = here
rows_no_overlap facts p setup initrd (inr (a, _, inr (b, _, inr (c, _, inl here)))) = here
rows_no_overlap facts p setup initrd (inr (a, _, inr (b, _, inr (c, _, inr (d, _, later))))) =
    paging_no_overlap facts _ p setup initrd later

pub linux_no_overlap : (facts : MachineFacts) (value : EntryValue) (setup : Setup)
    → IsFirstPlaceFault facts [] (rows_of facts value (linux setup)) Overlap → ⊥
linux_no_overlap facts value setup has =
    rows_no_overlap facts value.protocol setup (initrd_file value.files) has
