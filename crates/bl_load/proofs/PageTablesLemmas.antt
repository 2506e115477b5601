-- Where the page tables of an entry stand, if it has any.
use Rattle.std.proofs.Common.{◌≡◌, ◌≤◌, ◌+◌, ◌%◌, ◌^◌, ℕ, Bool, true, false, List, [], ◌∷◌}
use Rattle.std.proofs.Common.{arith, refl, ap, subst, All, nat_eq}
use Rattle.std.specs.Prelude.{◌&&◌, option_to_list}
use Rattle.std.proofs.lemmas.Bool.{cond_both}
use Rattle.std.proofs.lemmas.List.Elements.{All-nil, All-cons, All-head, All-tail, All-append}
use Rattle.std.specs.declared.ops.Range.{Range}
use Rattle.bl_map.specs.MachineFacts.{MachineFacts}
use Rattle.bl_map.specs.Limits.{frame_size}
use Rattle.bl_bzimage.specs.declared.setup.Setup.{Setup}
use Rattle.bl_plan.specs.PlannerFacts.{put_in}
use Rattle.bl_plan.specs.Placed.{ArePlaced, IsChosen, place_range}
use Rattle.bl_plan.specs.RoleNumbers.{role_number}
use Rattle.bl_plan.specs.declared.part.Row.{Row}
use Rattle.bl_plan.specs.declared.part.Place.{Place}
use Rattle.bl_plan.specs.declared.part.Role.{Role}
use Rattle.bl_plan.specs.declared.part.Role.TheVariants.{PageTables}
use Rattle.bl_plan.specs.declared.protocol.Protocol.{Protocol}
use Rattle.bl_plan.specs.declared.protocol.Protocol.TheVariants as protocols
use Rattle.bl_load.specs.Addresses.{address_of}
use Rattle.bl_load.specs.LinuxRows.{linux_kernel_row, paging_row}
use Rattle.bl_load.specs.LinuxRows.{front_rows, initrd_rows, linux_rows}
use Rattle.bl_load.specs.internal.ReadKernels.{TablesFit}
use Rattle.bl_load.proofs.LinuxLemmas.{each_front, kernel_role}

-- page tables may stand here
abbrev MayTable : ℕ → Type 0
MayTable a = (a % frame_size ≡ 0) × (a + 0x6000 ≤ 2 ^ 32)

-- wherever the row of page tables is placed, they may stand
abbrev TablesRow : Row → Type 0
TablesRow row =
    role_number row.role ≡ role_number PageTables
    → (facts : MachineFacts) (taken : List (Range ℕ)) (a : ℕ)
    → IsChosen facts taken row.length row.choice a → MayTable a

paging_tables : (protocol : Protocol) → All TablesRow (option_to_list (paging_row protocol))
paging_tables protocols.Multiboot2 = All-nil TablesRow
paging_tables protocols.Linux = All-nil TablesRow
paging_tables protocols.Linux64 =
    All-cons TablesRow _ []
    (λ is facts taken a chosen.
    let permitted = chosen.holds in (permitted.aligned, permitted.below))
    (All-nil TablesRow)

initrd_tables : (setup : Setup) (initrd : List ℕ) → All TablesRow (initrd_rows setup initrd)
initrd_tables setup [] = All-nil TablesRow
initrd_tables setup (byte ∷ bytes) =
    All-cons TablesRow _ [] (λ is. absurd (omega (arith, is))) (All-nil TablesRow)

kernel_tables : (setup : Setup) → TablesRow (linux_kernel_row setup)
kernel_tables setup is =
    let role = ap role_number (kernel_role (nat_eq setup.relocatable_kernel 0) setup) in
    absurd (omega (arith, is, role))

rows_tables : (protocol : Protocol) (setup : Setup) (initrd : List ℕ)
    → All TablesRow (linux_rows protocol setup initrd)
rows_tables protocol setup initrd =
    All-append TablesRow (front_rows protocol setup) (initrd_rows setup initrd)
    (each_front TablesRow protocol setup (kernel_tables setup)
    (λ is. absurd (omega (arith, is))) (λ is. absurd (omega (arith, is)))
    (λ is. absurd (omega (arith, is))) (paging_tables protocol))
    (initrd_tables setup initrd)

both : (s t : Bool) → (s && t) ≡ true → s ≡ true
both true t is = refl
both false t is = is

placed_tables : (facts : MachineFacts) (taken : List (Range ℕ)) (rows : List Row)
    (places : List Place) → All TablesRow rows → ArePlaced facts taken rows places
    → MayTable (address_of PageTables 0 places)
placed_tables facts taken [] [] each placed = (refl, omega arith)
placed_tables facts taken [] (p ∷ places) each placed = absurd placed
placed_tables facts taken (row ∷ rows) [] each placed = absurd placed
placed_tables facts taken (row ∷ rows) (p ∷ places) each placed =
    let is = nat_eq (role_number p.role) (role_number PageTables) in
    let first = nat_eq p.index 0 in
    let role : p.role ≡ row.role = ap (λ (q : Place). q.role) placed.1 in
    cond_both (is && first) p.address (address_of PageTables 0 places) MayTable
    (λ yes.
    let same : nat_eq (role_number p.role) (role_number PageTables) ≡ true = both is first yes in
    All-head TablesRow row rows each
    (subst (λ (r : Role). role_number r ≡ role_number PageTables) role (grind (arith, same)))
    facts taken p.address placed.0)
    (λ no.
    placed_tables facts (put_in (place_range p) taken) rows places
    (All-tail TablesRow row rows each) placed.2)

-- the page tables of a Linux entry stand in whole frames below 4 GiB, as far as there are any
pub tables_fit : (facts : MachineFacts) (protocol : Protocol) (setup : Setup) (initrd : List ℕ)
    (places : List Place) → ArePlaced facts [] (linux_rows protocol setup initrd) places
    → TablesFit places
tables_fit facts protocol setup initrd places placed =
    placed_tables facts [] (linux_rows protocol setup initrd) places
    (rows_tables protocol setup initrd) placed
