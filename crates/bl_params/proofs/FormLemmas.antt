-- What breaks the form of boot parameters, region by region.
use Rattle.std.proofs.Common.{◌≡◌, ◌≢◌, ◌≤◌, ◌<◌, ◌+◌, ◌-◌, ◌%◌, ◌^◌, ℕ, Bool, true, false, not}
use Rattle.std.proofs.Common.{◌&&◌, ◌||◌, nat_lt, nat_le, List, arith, refl, sym, ◌∙◌, ⊎_elim}
use Rattle.std.specs.Prelude.{nat_eq}
use Rattle.std.proofs.lemmas.Bool.{cases_lt}
use Rattle.std.proofs.lemmas.Bool.Decides.{nat_tests}
use Rattle.bl_mem.specs.LittleEndian.{u32_at, u64_at}
use Rattle.bl_bzimage.specs.Setup.{header_end}
use Rattle.bl_params.specs.BootParamsForm.{breaks_at, breaks_header, breaks_e820_entry}
use Rattle.bl_params.specs.BootParamsForm.{breaks_front}
use Rattle.bl_params.specs.FieldBytes.{is_nonzero_at}
use Rattle.bl_params.specs.EfiInfo.{breaks_secure_boot}
use Rattle.bl_params.specs.BootParamsForm.{e820_entry_count}
use Rattle.bl_params.specs.BootParamsForm.{e820_entry_offset}
use Rattle.bl_params.specs.internal.CheckedForm.{HasFormBelow, HasFormBetween}

pub lt_yes : (k n : ℕ) → k < n → nat_lt k n ≡ true
lt_yes k n below = grind (arith, nat_tests)

pub lt_no : (k n : ℕ) → n ≤ k → nat_lt k n ≡ false
lt_no k n above = grind (arith, nat_tests)

pub eq_no : (k n : ℕ) → k ≢ n → nat_eq k n ≡ false
eq_no k n other = grind (arith, nat_tests)

pub or_false : (x : Bool) → (x || false) ≡ x
or_false true = refl
or_false false = refl

pub front_is : (bytes : List ℕ) (k : ℕ) → k < 0x1E8 → breaks_at bytes k ≡ breaks_front bytes k
unfolding breaks_at
front_is bytes k below = rw (lt_yes k 0x1E8 below) refl

pub count_is : (bytes : List ℕ) → breaks_at bytes 0x1E8 ≡ nat_lt 128 (e820_entry_count bytes)
unfolding breaks_at
count_is bytes = refl

pub gap_is : (bytes : List ℕ) (k : ℕ) → 0x1E9 ≤ k → k < 0x1F1 → k ≢ 0x1EC → breaks_at bytes k
    ≡ is_nonzero_at bytes k
unfolding breaks_at
gap_is bytes k from below other =
    rw (
      lt_no k 0x1E8 (omega arith),
      eq_no k 0x1E8 (omega arith),
      lt_yes k 0x1F1 below,
      eq_no k 0x1EC other,
    ) refl

pub secure_boot_is : (bytes : List ℕ) → breaks_at bytes 0x1EC ≡ breaks_secure_boot bytes
unfolding breaks_at
secure_boot_is bytes = refl

pub header_is : (bytes : List ℕ) (k : ℕ) → 0x1F1 ≤ k → k < header_end bytes
    → breaks_at bytes k ≡ breaks_header bytes k
unfolding breaks_at
header_is bytes k from below =
    rw (
      lt_no k 0x1E8 (omega arith),
      eq_no k 0x1E8 (omega arith),
      lt_no k 0x1F1 from,
      lt_yes k (header_end bytes) below,
    ) refl

pub behind_is : (bytes : List ℕ) (k : ℕ) → header_end bytes ≤ k → k < 0x2D0
    → breaks_at bytes k ≡ is_nonzero_at bytes k
unfolding breaks_at
behind_is bytes k from below =
    rw (
      lt_no k 0x1E8 (omega arith),
      eq_no k 0x1E8 (omega arith),
      lt_no k 0x1F1 (omega arith),
      lt_no k (header_end bytes) from,
      lt_yes k 0x2D0 below,
    ) refl

pub entries_are : (bytes : List ℕ) (k : ℕ) → 0x2D0 ≤ k
    → k < e820_entry_offset (e820_entry_count bytes)
    → breaks_at bytes k ≡ breaks_e820_entry bytes ((k - 0x2D0) % 20) k
unfolding breaks_at
entries_are bytes k from below =
    rw (
      lt_no k 0x1E8 (omega arith),
      eq_no k 0x1E8 (omega arith),
      lt_no k 0x1F1 (omega arith),
      lt_no k (header_end bytes) (omega arith),
      lt_no k 0x2D0 from,
      lt_yes k (e820_entry_offset (e820_entry_count bytes)) below,
    ) refl

pub end_is : (bytes : List ℕ) (k : ℕ) → 0x2D0 ≤ k → e820_entry_offset (e820_entry_count bytes) ≤ k
    → breaks_at bytes k ≡ is_nonzero_at bytes k
unfolding breaks_at
end_is bytes k from above =
    rw (
      lt_no k 0x1E8 (omega arith),
      eq_no k 0x1E8 (omega arith),
      lt_no k 0x1F1 (omega arith),
      lt_no k (header_end bytes) (omega arith),
      lt_no k 0x2D0 from,
      lt_no k (e820_entry_offset (e820_entry_count bytes)) above,
    ) refl

-- ---- the fields of an entry

pub entry_is : (bytes : List ℕ) (i n m : ℕ) → i < e820_entry_count bytes → n
    ≡ u64_at bytes (e820_entry_offset i)
    → m ≡ u64_at bytes (e820_entry_offset i + 8)
    → nat_lt (2 ^ 52) (n + m) ≡ breaks_at bytes (e820_entry_offset i)
entry_is bytes i n m counted e f =
    let place : (e820_entry_offset i - 0x2D0) % 20 ≡ 0 = omega arith in
    rw (e, f)
    (sym
    (entries_are bytes (e820_entry_offset i) (omega arith) (omega arith)
    ∙ rw place (simp or_false)))

pub kind_is : (bytes : List ℕ) (i n : ℕ) → i < e820_entry_count bytes → n
    ≡ u32_at bytes (e820_entry_offset i + 16)
    → not (nat_le 1 n && nat_le n 5) ≡ breaks_at bytes (e820_entry_offset i + 16)
kind_is bytes i n counted e =
    let place : (e820_entry_offset i + 16 - 0x2D0) % 20 ≡ 16 = omega arith in
    rw e (sym (entries_are bytes (e820_entry_offset i + 16) (omega arith) (omega arith)
    ∙ rw place refl))

pub quiet_place : (bytes : List ℕ) (place k : ℕ) → place ≢ 0 → place ≢ 16
    → breaks_e820_entry bytes place k ≡ false
quiet_place bytes place k not_first not_kind =
    rw (eq_no place 0 not_first, eq_no place 16 not_kind) refl

pub quiet_first : (bytes : List ℕ) (i : ℕ) → i < e820_entry_count bytes
    → HasFormBetween bytes (e820_entry_offset i + 1) (e820_entry_offset i + 16)
quiet_first bytes i counted = λ k from below.
    entries_are bytes k (omega arith) (omega arith)
    ∙ quiet_place bytes ((k - 0x2D0) % 20) k (omega arith) (omega arith)

pub quiet_last : (bytes : List ℕ) (i : ℕ) → i < e820_entry_count bytes
    → HasFormBetween bytes (e820_entry_offset i + 16 + 1) (e820_entry_offset i + 20)
quiet_last bytes i counted = λ k from below.
    entries_are bytes k (omega arith) (omega arith)
    ∙ quiet_place bytes ((k - 0x2D0) % 20) k (omega arith) (omega arith)

-- ---- further on

pub sound_more : (bytes : List ℕ) (mid end : ℕ) → HasFormBelow bytes mid
    → HasFormBetween bytes mid end
    → HasFormBelow bytes end
sound_more bytes mid end upto quiet =
    record {
      sound = λ k below.
          ⊎_elim (λ low. upto.sound k low) (λ high. quiet k high below) (cases_lt k mid);
    }
