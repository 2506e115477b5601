-- What breaks the form of boot parameters in the fields of the header.
use Rattle.std.proofs.Common.{◌≡◌, ◌≢◌, ◌≤◌, ◌<◌, ℕ, false, not, nat_lt, List, slice_index, arith}
use Rattle.std.proofs.Common.{refl, sym, ◌∙◌}
use Rattle.std.specs.Prelude.{◌==◌}
use Rattle.std.proofs.lemmas.Bool.{ltb-false}
use Rattle.std.proofs.lemmas.Bool.Decides.{nat_tests}
use Rattle.bl_mem.specs.LittleEndian.{u16_at, u32_at, u64_at}
use Rattle.bl_bzimage.specs.Setup.{header_end}
use Rattle.bl_params.specs.BootParamsForm.{breaks_at, breaks_header}
use Rattle.bl_params.specs.internal.CheckedForm.{HasFormBetween}
use Rattle.bl_params.proofs.FormLemmas.{eq_no, or_false, header_is}

-- ---- the fields of the header

-- an offset at which no field counts
record IsBetween (k : ℕ) : Type 0 where
  not_1FA : k ≢ 0x1FA
  not_1FE : k ≢ 0x1FE
  not_201 : k ≢ 0x201
  not_202 : k ≢ 0x202
  not_206 : k ≢ 0x206
  not_210 : k ≢ 0x210
  not_250 : k ≢ 0x250

between_is : (bytes : List ℕ) (k : ℕ) → IsBetween k → breaks_header bytes k ≡ false
between_is bytes k b =
    rw (
      eq_no k 0x1FA b.not_1FA,
      eq_no k 0x1FE b.not_1FE,
      eq_no k 0x201 b.not_201,
      eq_no k 0x202 b.not_202,
      eq_no k 0x206 b.not_206,
      eq_no k 0x210 b.not_210,
      eq_no k 0x250 b.not_250,
    ) refl

quiet_at : (bytes : List ℕ) (k : ℕ) → 0x1F1 ≤ k → k < header_end bytes → IsBetween k
    → breaks_at bytes k ≡ false
quiet_at bytes k from below between = header_is bytes k from below ∙ between_is bytes k between

pub quiet_1F1 : (bytes : List ℕ) → HasFormBetween bytes 0x1F1 0x1FA
quiet_1F1 bytes =
    λ k from below.
    quiet_at bytes k from (omega arith)
    record {
      not_1FA = omega arith;
      not_1FE = omega arith;
      not_201 = omega arith;
      not_202 =
          omega arith;
      not_206 =
          omega arith;
      not_210 = omega arith;
      not_250 = omega arith;
    }

pub quiet_1FB : (bytes : List ℕ) → HasFormBetween bytes 0x1FB 0x1FE
quiet_1FB bytes =
    λ k from below.
    quiet_at bytes k (omega arith) (omega arith)
    record {
      not_1FA = omega arith;
      not_1FE = omega arith;
      not_201 = omega arith;
      not_202 =
          omega arith;
      not_206 =
          omega arith;
      not_210 = omega arith;
      not_250 = omega arith;
    }

pub quiet_1FF : (bytes : List ℕ) → HasFormBetween bytes 0x1FF 0x201
quiet_1FF bytes =
    λ k from below.
    quiet_at bytes k (omega arith) (omega arith)
    record {
      not_1FA = omega arith;
      not_1FE = omega arith;
      not_201 = omega arith;
      not_202 =
          omega arith;
      not_206 =
          omega arith;
      not_210 = omega arith;
      not_250 = omega arith;
    }

pub quiet_203 : (bytes : List ℕ) → 0x264 ≤ header_end bytes → HasFormBetween bytes 0x203 0x206
quiet_203 bytes long =
    λ k from below.
    quiet_at bytes k (omega arith) (omega arith)
    record {
      not_1FA = omega arith;
      not_1FE = omega arith;
      not_201 = omega arith;
      not_202 =
          omega arith;
      not_206 =
          omega arith;
      not_210 = omega arith;
      not_250 = omega arith;
    }

pub quiet_207 : (bytes : List ℕ) → 0x264 ≤ header_end bytes → HasFormBetween bytes 0x207 0x210
quiet_207 bytes long =
    λ k from below.
    quiet_at bytes k (omega arith) (omega arith)
    record {
      not_1FA = omega arith;
      not_1FE = omega arith;
      not_201 = omega arith;
      not_202 =
          omega arith;
      not_206 =
          omega arith;
      not_210 = omega arith;
      not_250 = omega arith;
    }

pub quiet_211 : (bytes : List ℕ) → 0x264 ≤ header_end bytes → HasFormBetween bytes 0x211 0x250
quiet_211 bytes long =
    λ k from below.
    quiet_at bytes k (omega arith) (omega arith)
    record {
      not_1FA = omega arith;
      not_1FE = omega arith;
      not_201 = omega arith;
      not_202 =
          omega arith;
      not_206 =
          omega arith;
      not_210 = omega arith;
      not_250 = omega arith;
    }

pub quiet_251 : (bytes : List ℕ) (end : ℕ) → end ≡ header_end bytes → HasFormBetween bytes 0x251 end
quiet_251 bytes end e =
    λ k from below.
    quiet_at bytes k (omega arith) (omega arith)
    record {
      not_1FA = omega arith;
      not_1FE = omega arith;
      not_201 = omega arith;
      not_202 =
          omega arith;
      not_206 =
          omega arith;
      not_210 = omega arith;
      not_250 = omega arith;
    }

pub vid_mode_is : (bytes : List ℕ) (n : ℕ) → n ≡ u16_at bytes 0x1FA
    → not (n == 0xFFFF) ≡ breaks_at bytes 0x1FA
vid_mode_is bytes n e =
    rw e (sym (header_is bytes 0x1FA (omega arith) (omega arith) ∙ simp or_false))

pub boot_flag_is : (bytes : List ℕ) (n : ℕ) → n ≡ u16_at bytes 0x1FE
    → not (n == 0xAA55) ≡ breaks_at bytes 0x1FE
boot_flag_is bytes n e =
    rw e (sym (header_is bytes 0x1FE (omega arith) (omega arith) ∙ simp or_false))

pub jump_is : (bytes : List ℕ) (end : ℕ) → end ≡ header_end bytes
    → nat_lt end 0x264 ≡ breaks_at bytes 0x201
jump_is bytes end e = rw e (sym (header_is bytes 0x201 (omega arith) (omega arith) ∙ simp or_false))

pub long_from : (bytes : List ℕ) (end : ℕ) → end ≡ header_end bytes → nat_lt end 0x264 ≡ false
    → 0x264 ≤ header_end bytes
long_from bytes end e test =
    let above : 0x264 ≤ end =
    first_of (grind (arith, nat_tests), omega (arith, ltb-false)) in omega arith

pub magic_is : (bytes : List ℕ) (n : ℕ) → 0x264 ≤ header_end bytes → n ≡ u32_at bytes 0x202
    → not (n == 0x53726448) ≡ breaks_at bytes 0x202
magic_is bytes n long e =
    rw e (sym (header_is bytes 0x202 (omega arith) (omega arith) ∙ simp or_false))

pub version_is : (bytes : List ℕ) (n : ℕ) → 0x264 ≤ header_end bytes → n ≡ u16_at bytes 0x206
    → nat_lt n 0x020A ≡ breaks_at bytes 0x206
version_is bytes n long e =
    rw e (sym (header_is bytes 0x206 (omega arith) (omega arith) ∙ simp or_false))

pub loader_is : (bytes : List ℕ) → 0x264 ≤ header_end bytes
    → not (slice_index bytes 0x210 == 0xFF) ≡ breaks_at bytes 0x210
loader_is bytes long = sym (header_is bytes 0x210 (omega arith) (omega arith) ∙ simp or_false)

pub setup_data_is : (bytes : List ℕ) (n : ℕ) → 0x264 ≤ header_end bytes → n ≡ u64_at bytes 0x250
    → not (n == 0) ≡ breaks_at bytes 0x250
setup_data_is bytes n long e = rw e (sym (header_is bytes 0x250 (omega arith) (omega arith)))
