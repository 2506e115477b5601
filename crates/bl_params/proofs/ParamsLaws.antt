-- Bytes are boot parameters of one reading or have one first fault.
use Rattle.std.proofs.Common.{◌≡◌, ◌+◌, ℕ, List, [], ◌∷◌, length, arith, refl, sym, ap, ap₂, ◌∙◌}
use Rattle.bl_map.specs.declared.kind.Kind.{Kind}
use Rattle.bl_map.specs.declared.region.Region.{Region}
use Rattle.bl_map.proofs.MapLaws.{same_kind}
use Rattle.bl_params.specs.declared.fault.ParamFault.{ParamFault}
use Rattle.bl_params.specs.declared.fault.ParamFault.TheVariants.{WrongLength, BadParams, NoMemory}
use Rattle.bl_params.specs.ParamsFacts.{ParamsFacts}
use Rattle.bl_params.specs.Reading.{IsE820Entry, AreE820Entries, IsParams, HasFirstParamFault}

region_of : ℕ → ℕ → Kind → Region
region_of base size kind = record { base = base; length = size; kind = kind }

same_region : (base base' size size' : ℕ) (kind kind' : Kind) → base ≡ base' → size ≡ size'
    → kind ≡ kind' → region_of base size kind ≡ region_of base' size' kind'
same_region base base' size size' kind kind' e f g = cc

same_entry : (bytes : List ℕ) (at : ℕ) (r s : Region) → IsE820Entry bytes at r → IsE820Entry bytes at s
    → r ≡ s
unfolding region_of
same_entry bytes at r s a b =
    same_region r.base s.base r.length s.length r.kind s.kind (a.base ∙ sym b.base)
    (a.size ∙ sym b.size) (same_kind r.kind s.kind (a.kind ∙ sym b.kind))

same_entries : (bytes : List ℕ) (at : ℕ) (rs ss : List Region) → length rs ≡ length ss
    → AreE820Entries bytes at rs → AreE820Entries bytes at ss → rs ≡ ss
same_entries bytes at [] [] e a b = refl
same_entries bytes at [] (s ∷ ss) e a b = absurd (omega arith)
same_entries bytes at (r ∷ rs) [] e a b = absurd (omega arith)
same_entries bytes at (r ∷ rs) (s ∷ ss) e a b =
    ap₂ (λ (x : Region) (xs : List Region). x ∷ xs) (same_entry bytes at r s a.0 b.0)
    (same_entries bytes (at + 20) rs ss (omega arith) a.1 b.1)

pub one_reading : (bytes : List ℕ) (p q : ParamsFacts) → IsParams bytes p → IsParams bytes q → p ≡ q
one_reading bytes p q a b =
    let version = a.version ∙ sym b.version in
    let loadflags = a.loadflags ∙ sym b.loadflags in
    let code32_start = a.code32_start ∙ sym b.code32_start in
    let ramdisk_image = a.ramdisk_image ∙ sym b.ramdisk_image in
    let ramdisk_size = a.ramdisk_size ∙ sym b.ramdisk_size in
    let cmd_line_ptr = a.cmd_line_ptr ∙ sym b.cmd_line_ptr in
    let initrd_addr_max = a.initrd_addr_max ∙ sym b.initrd_addr_max in
    let kernel_alignment = a.kernel_alignment ∙ sym b.kernel_alignment in
    let relocatable_kernel = a.relocatable_kernel ∙ sym b.relocatable_kernel in
    let xloadflags = a.xloadflags ∙ sym b.xloadflags in
    let cmdline_size = a.cmdline_size ∙ sym b.cmdline_size in
    let pref_address = a.pref_address ∙ sym b.pref_address in
    let init_size = a.init_size ∙ sym b.init_size in
    let runs = same_entries bytes 0x2D0 p.runs q.runs (a.count ∙ sym b.count) a.runs b.runs in
    let screen = a.screen ∙ sym b.screen in
    let rsdp = a.rsdp ∙ sym b.rsdp in
    let efi = a.efi ∙ sym b.efi in
    λ i. record {
      version = version i;
      loadflags = loadflags i;
      code32_start = code32_start i;
      ramdisk_image = ramdisk_image i;
      ramdisk_size = ramdisk_size i;
      cmd_line_ptr = cmd_line_ptr i;
      initrd_addr_max = initrd_addr_max i;
      kernel_alignment = kernel_alignment i;
      relocatable_kernel = relocatable_kernel i;
      xloadflags = xloadflags i;
      cmdline_size = cmdline_size i;
      pref_address = pref_address i;
      init_size = init_size i;
      runs = runs i;
      screen = screen i;
      rsdp = rsdp i;
      efi = efi i;
    }

pub one_fault : (bytes : List ℕ) (f g : ParamFault) → ¬ (f ≡ NoMemory) → ¬ (g ≡ NoMemory)
    → HasFirstParamFault bytes f → HasFirstParamFault bytes g → f ≡ g
one_fault bytes WrongLength WrongLength nf ng a b = refl
one_fault bytes WrongLength (BadParams j) nf ng a b = absurd (a b.0)
one_fault bytes (BadParams i) WrongLength nf ng a b = absurd (b a.0)
one_fault bytes (BadParams i) (BadParams j) nf ng a b =
    let below = a.1.least j b.1.holds in
    let above = b.1.least i a.1.holds in
    let same : i ≡ j = omega arith in
    ap BadParams same
one_fault bytes NoMemory g nf ng a b = absurd (nf refl)
one_fault bytes WrongLength NoMemory nf ng a b = absurd (ng refl)
one_fault bytes (BadParams i) NoMemory nf ng a b = absurd (ng refl)

pub not_both : (bytes : List ℕ) (params : ParamsFacts) (fault : ParamFault) → ¬ (fault ≡ NoMemory)
    → IsParams bytes params → HasFirstParamFault bytes fault → ⊥
not_both bytes params WrongLength other is has = has is.size
not_both bytes params (BadParams k) other is has =
    let sound = is.sound k has.1.holds.0 in
    let broken = has.1.holds.1 in
    cc
not_both bytes params NoMemory other is has = other refl
