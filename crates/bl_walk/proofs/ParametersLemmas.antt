-- The rows of a Linux entry, as its kernel sees their parts.
use Rattle.std.proofs.Common.{◌≡◌, ◌<◌, ◌+◌, ◌∷◌, ◌++◌, ℕ, true, List, [], map}
use Rattle.std.proofs.Common.{refl, sym, ap, ◌∙◌, arith, All, nat_eq}
use Rattle.std.specs.List.{list_any}
use Rattle.std.proofs.lemmas.Bool.{cond_both}
use Rattle.std.specs.Prelude.{option_to_list}
use Rattle.std.proofs.lemmas.List.Elements.{All-append, All-cons, All-nil}
use Rattle.bl_map.specs.MachineFacts.{MachineFacts}
use Rattle.bl_map.specs.declared.region.Region.{Region}
use Rattle.bl_map.specs.Limits.{max_size}
use Rattle.bl_bzimage.specs.declared.setup.Setup.{Setup}
use Rattle.bl_plan.specs.AddressOrder.{places_in_order}
use Rattle.bl_plan.specs.Placed.{ArePlaced, row_place}
use Rattle.bl_plan.specs.declared.part.Place.{Place}
use Rattle.bl_plan.specs.declared.part.Role.TheVariants.{Kernel, BootParams, CommandLine, Gdt}
use Rattle.bl_plan.specs.declared.part.Role.TheVariants.{Initrd, PageTables}
use Rattle.bl_plan.specs.declared.protocol.Protocol.{Protocol}
use Rattle.bl_plan.specs.declared.protocol.Protocol.TheVariants as protocols
use Rattle.bl_plan.specs.declared.part.Row.{Row}
use Rattle.bl_load.specs.Addresses.{address_of}
use Rattle.bl_load.specs.LinuxKernel.{IsLinuxKernel}
use Rattle.bl_load.specs.LinuxRows.{fixed_kernel_row, relocatable_kernel_row, linux_kernel_row}
use Rattle.bl_load.specs.LinuxRows.{frame_row}
use Rattle.bl_load.specs.LinuxRows.{line_end_limit}
use Rattle.bl_load.specs.LinuxRows.{paging_row, initrd_rows, linux_rows}
use Rattle.bl_load.specs.Protocols.{is_wide}
use Rattle.bl_load.proofs.LinuxKernelLemmas.{setup_is, entering_is, entry_loaded}
use Rattle.bl_load.proofs.LinuxLemmas.{kernel_row_is}
use Rattle.bl_load.proofs.ReadingLaws.{payload_fits}
use Rattle.bl_load.proofs.RowPlaceLemmas.{Anywhere}
use Rattle.bl_walk.proofs.InformationLemmas.{is_row}
use Rattle.bl_walk.proofs.KernelLemmas.{IsOfKernel, IsOther, seen_place}
use Rattle.bl_walk.proofs.EntryPartLemmas.{kernel_holds, holds_by}
use Rattle.bl_walk.proofs.RegisterLemmas.{entry_offset}

-- ---- the rows

unfoldable pub params_rows : Protocol → Setup → List ℕ → List Row
params_rows protocol setup initrd =
    frame_row BootParams max_size ∷ frame_row CommandLine line_end_limit ∷ frame_row Gdt max_size
    ∷ (option_to_list (paging_row protocol) ++ initrd_rows setup initrd)

pub kernel_of_kernel : (setup : Setup) → All (Anywhere IsOfKernel) (linux_kernel_row setup ∷ [])
kernel_of_kernel setup =
    All-cons (Anywhere IsOfKernel) (linux_kernel_row setup) []
    (cond_both (nat_eq setup.relocatable_kernel 0) (fixed_kernel_row setup) (relocatable_kernel_row setup)
    (Anywhere IsOfKernel) (λ _ a. refl) (λ _ a. refl))
    (All-nil (Anywhere IsOfKernel))

initrd_other : (setup : Setup) (initrd : List ℕ) → All (Anywhere IsOther) (initrd_rows setup initrd)
initrd_other setup [] = All-nil (Anywhere IsOther)
initrd_other setup (byte ∷ bytes) =
    All-cons (Anywhere IsOther) _ [] (λ a. refl) (All-nil (Anywhere IsOther))

paging_other : (protocol : Protocol)
    → All (Anywhere IsOther) (option_to_list (paging_row protocol))
paging_other protocols.Multiboot2 = All-nil (Anywhere IsOther)
paging_other protocols.Linux = All-nil (Anywhere IsOther)
paging_other protocols.Linux64 =
    All-cons (Anywhere IsOther) _ [] (λ a. refl) (All-nil (Anywhere IsOther))

pub params_other : (protocol : Protocol) (setup : Setup) (initrd : List ℕ)
    → All (Anywhere IsOther) (params_rows protocol setup initrd)
unfolding params_rows
params_other protocol setup initrd =
    let paging = option_to_list (paging_row protocol) in
    All-cons (Anywhere IsOther) (frame_row BootParams max_size)
    (frame_row CommandLine line_end_limit ∷ frame_row Gdt max_size
    ∷ (paging ++ initrd_rows setup initrd)) (λ a. refl)
    (All-cons (Anywhere IsOther) (frame_row CommandLine line_end_limit)
    (frame_row Gdt max_size ∷ (paging ++ initrd_rows setup initrd)) (λ a. refl)
    (All-cons (Anywhere IsOther) (frame_row Gdt max_size) (paging ++ initrd_rows setup initrd)
    (λ a. refl)
    (All-append (Anywhere IsOther) paging (initrd_rows setup initrd) (paging_other protocol)
    (initrd_other setup initrd))))

-- an initial ramdisk that has a byte has a row
pub ramdisk_row : (protocol : Protocol) (setup : Setup) (byte : ℕ) (bytes : List ℕ)
    → list_any (is_row Initrd 0) (params_rows protocol setup (byte ∷ bytes)) ≡ true
unfolding params_rows
ramdisk_row protocols.Multiboot2 setup byte bytes = refl
ramdisk_row protocols.Linux setup byte bytes = refl
ramdisk_row protocols.Linux64 setup byte bytes = refl

-- and so have the page tables of a kernel that is entered with paging
pub tables_row : (protocol : Protocol) (setup : Setup) (initrd : List ℕ) → is_wide protocol ≡ true
    → list_any (is_row PageTables 0) (params_rows protocol setup initrd) ≡ true
unfolding params_rows
tables_row protocols.Multiboot2 setup initrd wide = absurd (cc)
tables_row protocols.Linux setup initrd wide = absurd (cc)
tables_row protocols.Linux64 setup initrd wide = refl

-- ---- the kernel's place

-- its row names it
kernel_named : (setup : Setup)
    → ((linux_kernel_row setup).role ≡ Kernel) × ((linux_kernel_row setup).index ≡ 0)
kernel_named setup =
    cond_both (nat_eq setup.relocatable_kernel 0) (fixed_kernel_row setup) (relocatable_kernel_row setup)
    (λ (row : Row). (row.role ≡ Kernel) × (row.index ≡ 0))
    (λ _. (refl, refl)) (λ _. (refl, refl))

first_address : (setup : Setup) (p : Place) (others : List Place)
    → p ≡ row_place (linux_kernel_row setup) p.address → address_of Kernel 0 (p ∷ others)
    ≡ p.address
first_address setup p others is =
    let named = kernel_named setup in
    let role : p.role ≡ Kernel = ap (λ (q : Place). q.role) is ∙ named.0 in
    let index : p.index ≡ 0 = ap (λ (q : Place). q.index) is ∙ named.1 in
    rw (role, index) refl

pub payload_at : (facts : MachineFacts) (setup : Setup) (first others : List Place)
    → ArePlaced facts [] (linux_kernel_row setup ∷ []) first
    → map seen_place (places_in_order first)
    ≡ record {
      address = address_of Kernel 0 (first ++ others);
      length = (linux_kernel_row setup).length;
    } ∷ []
payload_at facts setup [] others placed = absurd placed
payload_at facts setup (p ∷ q ∷ first) others placed = absurd placed.2
payload_at facts setup (p ∷ []) others placed =
    let address = first_address setup p others placed.1 in
    let size : p.length ≡ (linux_kernel_row setup).length = ap (λ (q : Place). q.length) placed.1 in
    λ i. record { address = sym address i; length = size i } ∷ []

-- it is entered there: at its first byte, or as many bytes after it as its payload has
entry_inside : (protocol : Protocol) (runs : List Region) (line file : List ℕ) (setup : Setup)
    → IsLinuxKernel protocol runs line file setup
    → entry_offset protocol < (linux_kernel_row setup).length
entry_inside protocols.Multiboot2 runs line file setup is =
    let row = kernel_row_is file setup (setup_is is) in omega (arith, row.filled)
entry_inside protocols.Linux runs line file setup is =
    let row = kernel_row_is file setup (setup_is is) in omega (arith, row.filled)
entry_inside protocols.Linux64 runs line file setup is =
    let loaded = entry_loaded setup (entering_is is) in
    let fits = payload_fits setup in omega arith

pub kernel_entered : (facts : MachineFacts) (protocol : Protocol) (runs : List Region)
    (line file : List ℕ) (setup : Setup) (initrd : List ℕ) (places : List Place)
    → IsLinuxKernel protocol runs line file setup
    → ArePlaced facts [] (linux_rows protocol setup initrd) places
    → list_any (kernel_holds (address_of Kernel 0 places + entry_offset protocol)) places ≡ true
kernel_entered facts protocol runs line file setup initrd [] is placed = absurd placed
kernel_entered facts protocol runs line file setup initrd (p ∷ places) is placed =
    let at = address_of Kernel 0 (p ∷ places) + entry_offset protocol in
    let address = first_address setup p places placed.1 in
    let role : p.role ≡ Kernel = ap (λ (q : Place). q.role) placed.1 ∙ (kernel_named setup).0 in
    let size : p.length ≡ (linux_kernel_row setup).length = ap (λ (q : Place). q.length) placed.1 in
    let inside = entry_inside protocol runs line file setup is in
    let here = holds_by at p role (omega arith) (omega arith) in
    rw here refl
