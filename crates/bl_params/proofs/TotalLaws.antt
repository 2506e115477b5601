-- Bytes are boot parameters or have a first fault that is not want of memory.
use Rattle.std.proofs.Common.{◌≡◌, ◌≤◌, ◌<◌, ◌+◌, ◌*◌, ◌⊎◌, inl, inr, ℕ, zero, suc, true, false}
use Rattle.std.proofs.Common.{not}
use Rattle.std.proofs.Common.{◌&&◌, nat_lt, nat_le, List, [], ◌∷◌, ◌++◌, length, slice_index, arith}
use Rattle.std.proofs.Common.{refl, sym, subst, ◌∙◌}
use Rattle.std.proofs.lemmas.Bool.{cases_lt, cases_Bool, false_from_ne_true}
use Rattle.std.proofs.lemmas.Bool.Decides.{nat_tests}
use Rattle.std.proofs.lemmas.List.{length-append}
use Rattle.bl_mem.specs.LittleEndian.{u16_at, u32_at, u64_at}
use Rattle.bl_mem.proofs.LeastLaws.{least_below}
use Rattle.bl_map.specs.declared.kind.Kind.{Kind}
use Rattle.bl_map.specs.declared.kind.Kind.TheVariants.{Usable, Reserved, Acpi, Nvs, Bad}
use Rattle.bl_map.specs.declared.region.Region.{Region}
use Rattle.bl_map.specs.Kinds.{kind_number}
use Rattle.bl_params.specs.declared.fault.ParamFault.{ParamFault}
use Rattle.bl_params.specs.declared.fault.ParamFault.TheVariants.{WrongLength, BadParams, NoMemory}
use Rattle.bl_params.specs.BootParamsForm.{breaks_at, e820_entry_count, e820_entry_offset}
use Rattle.bl_params.specs.ParamsFacts.{ParamsFacts}
use Rattle.bl_params.specs.Reading.{IsE820Entry, AreE820Entries, IsParams, HasFirstParamFault}
use Rattle.bl_params.specs.Reading.{rsdp_of}
use Rattle.bl_params.specs.ScreenInfo.{screen_of}
use Rattle.bl_params.specs.EfiInfo.{efi_of}
use Rattle.bl_params.proofs.FormLemmas.{count_is, kind_is}
use Rattle.bl_params.proofs.EntriesRead.{entries_push}

-- no offset breaks the form
abbrev IsSound : List ℕ → Type 0
IsSound bytes = (k : ℕ) → k < 4096 → breaks_at bytes k ≡ false

at_most_five : (n : ℕ) → not (nat_le 1 n && nat_le n 5) ≡ false → n ≤ 5
at_most_five n test = grind (arith, nat_tests)

-- a kind has each number that an entry may have
kind_numbered : (n : ℕ) → not (nat_le 1 n && nat_le n 5) ≡ false
    → (kind : Kind) × (kind_number kind ≡ n)
kind_numbered zero test = absurd cc
kind_numbered (suc zero) test = (Usable, refl)
kind_numbered (suc (suc zero)) test = (Reserved, refl)
kind_numbered (suc (suc (suc zero))) test = (Acpi, refl)
kind_numbered (suc (suc (suc (suc zero)))) test = (Nvs, refl)
kind_numbered (suc (suc (suc (suc (suc zero))))) test = (Bad, refl)
kind_numbered (suc (suc (suc (suc (suc (suc n)))))) test =
    let low = at_most_five (suc (suc (suc (suc (suc (suc n)))))) test in absurd (omega arith)

-- the entry with a number, counted from 0
entry_told : (bytes : List ℕ) (i : ℕ) → i < e820_entry_count bytes
    → breaks_at bytes (e820_entry_offset i + 16) ≡ false
    → (run : Region) × IsE820Entry bytes (e820_entry_offset i) run
entry_told bytes i counted sound =
    let found =
    kind_numbered (u32_at bytes (e820_entry_offset i + 16))
    (kind_is bytes i (u32_at bytes (e820_entry_offset i + 16)) counted refl ∙ sound) in (
      record {
        base = u64_at bytes (e820_entry_offset i);
        length = u64_at bytes (e820_entry_offset i + 8);
        kind = found.0;
      },
      record { base = refl; size = refl; kind = found.1 },
    )

-- so many entries, one after the other
abbrev Told : List ℕ → ℕ → Type 0
Told bytes n = (runs : List Region) × (length runs ≡ n) × AreE820Entries bytes 0x2D0 runs

told_push : (bytes : List ℕ) (n : ℕ) (run : Region) → Told bytes n
    → IsE820Entry bytes (e820_entry_offset n) run → Told bytes (suc n)
told_push bytes n run told is =
    let count = told.1 in
    let place : e820_entry_offset n ≡ 0x2D0 + 20 * length told.0 = omega arith in
    let longer = length-append told.0 (run ∷ []) in (
      told.0 ++ run ∷ [],
      omega arith,
      entries_push bytes 0x2D0 told.0 run told.2
          (subst (λ (at : ℕ). IsE820Entry bytes at run) place is),
    )

entries_told : (bytes : List ℕ) (n : ℕ) → n ≤ e820_entry_count bytes → e820_entry_count bytes ≤ 128
    → IsSound bytes → Told bytes n
entries_told bytes zero within few sound = ([], refl, tt)
entries_told bytes (suc n) within few sound =
    let next =
    entry_told bytes n (omega arith) (sound (e820_entry_offset n + 16) (omega arith)) in
    told_push bytes n next.0 (entries_told bytes n (omega arith) few sound) next.1

few_from : (n : ℕ) → nat_lt 128 n ≡ false → n ≤ 128
few_from n test = grind (arith, nat_tests)

told_of : (bytes : List ℕ) → length bytes ≡ 4096 → IsSound bytes
    → (params : ParamsFacts) × IsParams bytes params
told_of bytes whole sound =
    let few = few_from (e820_entry_count bytes) (sym (count_is bytes) ∙ sound 0x1E8 (omega arith)) in
    let told = entries_told bytes (e820_entry_count bytes) (omega arith) few sound in (
      record {
        version = u16_at bytes 0x206;
        loadflags = slice_index bytes 0x211;
        code32_start = u32_at bytes 0x214;
        ramdisk_image = u32_at bytes 0x218;
        ramdisk_size = u32_at bytes 0x21C;
        cmd_line_ptr = u32_at bytes 0x228;
        initrd_addr_max = u32_at bytes 0x22C;
        kernel_alignment = u32_at bytes 0x230;
        relocatable_kernel = slice_index bytes 0x234;
        xloadflags = u16_at bytes 0x236;
        cmdline_size = u32_at bytes 0x238;
        pref_address = u64_at bytes 0x258;
        init_size = u32_at bytes 0x260;
        runs = told.0;
        screen = screen_of bytes;
        rsdp = rsdp_of bytes;
        efi = efi_of bytes;
      },
      record {
        size = whole;
        sound = sound;
        version = refl;
        loadflags = refl;
        code32_start = refl;
        ramdisk_image = refl;
        ramdisk_size = refl;
        cmd_line_ptr = refl;
        initrd_addr_max = refl;
        kernel_alignment = refl;
        relocatable_kernel = refl;
        xloadflags = refl;
        cmdline_size = refl;
        pref_address = refl;
        init_size = refl;
        count = told.1;
        runs = told.2;
        screen = refl;
        rsdp = refl;
        efi = refl;
      },
    )

-- an offset of boot parameters that breaks their form
abbrev BreaksAt : List ℕ → ℕ → Type 0
BreaksAt bytes k = (k < 4096) × (breaks_at bytes k ≡ true)

breaks_or_not : (bytes : List ℕ) (k : ℕ) → BreaksAt bytes k ⊎ (BreaksAt bytes k → ⊥)
breaks_or_not bytes k =
    elim (cases_lt k 4096) [
      | inl within ↦ elim (cases_Bool (breaks_at bytes k)) [
        | inl broken ↦ inl (within, broken)
        | inr sound ↦ inr (λ both. let broken = both.1 in cc)
      ]
      | inr above ↦ inr (λ both. let within = both.0 in absurd (omega arith))
    ]

eq_or_not : (m n : ℕ) → (m ≡ n) ⊎ (m ≡ n → ⊥)
eq_or_not m n =
    elim (cases_lt m n) [
      | inl below ↦ inr (λ same. omega arith)
      | inr above ↦
          elim (cases_lt n m)
          [ inl more ↦ inr (λ same. omega arith) | inr less ↦ inl (omega arith) ]
    ]

pub params_or_fault : (bytes : List ℕ)
    → ((params : ParamsFacts) × IsParams bytes params)
    ⊎ ((fault : ParamFault) × ¬ (fault ≡ NoMemory) × HasFirstParamFault bytes fault)
params_or_fault bytes =
    elim (eq_or_not (length bytes) 4096) [
      | inl whole ↦ elim (least_below (BreaksAt bytes) (breaks_or_not bytes) 4096) [
        | inl none ↦
            inl
            (told_of bytes whole
            (λ k within.
            false_from_ne_true (breaks_at bytes k) (λ broken. none k within (within, broken))))
        | inr (k, within, least) ↦ inr (BadParams k, (λ memory. cc), (whole, least))
      ]
      | inr other ↦ inr (WrongLength, (λ memory. cc), other)
    ]
