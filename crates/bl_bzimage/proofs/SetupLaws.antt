-- What follows from the definition of a setup alone.
use Rattle.std.proofs.Common.{◌≡◌, ◌≤◌, ◌<◌, ◌+◌, ◌-◌, ℕ, Bool, true, false, not, ◌&&◌, nat_lt}
use Rattle.std.proofs.Common.{nat_le, List, length, slice_index, Some, None, arith, rules, refl, ap}
use Rattle.std.proofs.Common.{◌∙◌}
use Rattle.std.specs.Prelude.{◌==◌, nat_eq, Option, if◌then◌else◌, slice_range}
use Rattle.std.proofs.lemmas.Bool.Decides.{nat_tests}
use Rattle.std.proofs.lemmas.List.{places}
use Rattle.bl_mem.specs.LittleEndian.{u16_at, u32_at, u64_at}
use Rattle.bl_bzimage.specs.declared.setup.Setup.{Setup}
use Rattle.bl_bzimage.specs.declared.fault.SetupFault.{SetupFault}
use Rattle.bl_bzimage.specs.Setup.{IsSetup, setup_fault, setup_of, header_end, payload_at}
use Rattle.bl_bzimage.specs.Setup.{is_bz_image, is_whole}

-- ---- a file without a fault

pub record IsSoundFile (file : List ℕ) : Type 0 where
  pub long : 1024 ≤ length file
  pub boot_flag : u16_at file 0x1FE ≡ 0xAA55
  pub magic : u32_at file 0x202 ≡ 0x53726448
  pub version : 0x020A ≤ u16_at file 0x206
  pub end : 0x264 ≤ header_end file
  pub payload : payload_at file < length file

le_from : (m n : ℕ) → nat_le m n ≡ true → m ≤ n
le_from m n test = grind (arith, nat_tests)

lt_from : (m n : ℕ) → nat_lt m n ≡ true → m < n
lt_from m n test = grind (arith, nat_tests)

ge_from : (m n : ℕ) → nat_lt m n ≡ false → n ≤ m
ge_from m n test = grind (arith, nat_tests)

eq_from : (m n : ℕ) → nat_eq m n ≡ true → m ≡ n
eq_from m n test = grind (arith, nat_tests)

holds : (b : Bool) → not b ≡ false → b ≡ true
holds true e = refl
holds false e = cc

both : (a b : Bool) → (a && b) ≡ true → (a ≡ true) × (b ≡ true)
both true true e = (refl, refl)
both true false e = cc
both false b e = cc

-- a check that was passed, and those after it
passed : (broken : Bool) (fault : SetupFault) (rest : Option SetupFault)
    → (if broken then Some fault else rest) ≡ None → (broken ≡ false) × (rest ≡ None)
passed true fault rest e = cc
passed false fault rest e = (refl, e)

pub setup_sound : (file : List ℕ) → setup_fault file ≡ None → IsSoundFile file
unfolding setup_fault
setup_sound file sound =
    let image = passed _ _ _ sound in
    let version = passed _ _ _ image.1 in
    let high = passed _ _ _ version.1 in
    let whole = passed _ _ _ high.1 in
    let first =
    both (nat_le 1024 (length file) && u16_at file 0x1FE == 0xAA55)
    (u32_at file 0x202 == 0x53726448) (holds (is_bz_image file) image.0) in
    let second = both (nat_le 1024 (length file)) (u16_at file 0x1FE == 0xAA55) first.0 in
    let ends =
    both (nat_le 0x264 (header_end file)) (nat_lt (payload_at file) (length file))
    (holds (is_whole file) whole.0) in
    record {
      long = le_from 1024 (length file) second.0;
      boot_flag = eq_from (u16_at file 0x1FE) 0xAA55 second.1;
      magic = eq_from (u32_at file 0x202) 0x53726448 first.1;
      version = ge_from (u16_at file 0x206) 0x020A version.0;
      end = le_from 0x264 (header_end file) ends.0;
      payload = lt_from (payload_at file) (length file) ends.1;
    }

-- ---- the setup of a file

-- its numbers, each at its offset
pub record AreFields (file : List ℕ) (setup : Setup) : Type 0 where
  pub setup_sects : setup.setup_sects ≡ slice_index file 0x1F1
  pub version : setup.version ≡ u16_at file 0x206
  pub loadflags : setup.loadflags ≡ slice_index file 0x211
  pub initrd_addr_max : setup.initrd_addr_max ≡ u32_at file 0x22C
  pub kernel_alignment : setup.kernel_alignment ≡ u32_at file 0x230
  pub relocatable_kernel : setup.relocatable_kernel ≡ slice_index file 0x234
  pub xloadflags : setup.xloadflags ≡ u16_at file 0x236
  pub cmdline_size : setup.cmdline_size ≡ u32_at file 0x238
  pub pref_address : setup.pref_address ≡ u64_at file 0x258
  pub init_size : setup.init_size ≡ u32_at file 0x260
  pub header : setup.header ≡ slice_range file 0x1F1 (header_end file)
  pub payload_offset : setup.payload_offset ≡ payload_at file
  pub payload_size : setup.payload_size ≡ length file - payload_at file

pub fields_are : (file : List ℕ) (setup : Setup) → IsSetup file setup → AreFields file setup
unfolding setup_of
fields_are file setup is = record {
  setup_sects = ap (λ (s : Setup). s.setup_sects) is.is;
  version = ap (λ (s : Setup). s.version) is.is;
  loadflags = ap (λ (s : Setup). s.loadflags) is.is;
  initrd_addr_max = ap (λ (s : Setup). s.initrd_addr_max) is.is;
  kernel_alignment = ap (λ (s : Setup). s.kernel_alignment) is.is;
  relocatable_kernel = ap (λ (s : Setup). s.relocatable_kernel) is.is;
  xloadflags = ap (λ (s : Setup). s.xloadflags) is.is;
  cmdline_size = ap (λ (s : Setup). s.cmdline_size) is.is;
  pref_address = ap (λ (s : Setup). s.pref_address) is.is;
  init_size = ap (λ (s : Setup). s.init_size) is.is;
  header = ap (λ (s : Setup). s.header) is.is;
  payload_offset = ap (λ (s : Setup). s.payload_offset) is.is;
  payload_size = ap (λ (s : Setup). s.payload_size) is.is;
}

-- the payload is the file's tail, and has a byte
pub payload_is_tail : (file : List ℕ) (setup : Setup) → IsSetup file setup
    → (setup.payload_offset + setup.payload_size ≡ length file) × (1 ≤ setup.payload_size)
payload_is_tail file setup is =
    let fields = fields_are file setup is in
    let sound = setup_sound file is.sound in
    let offset = fields.payload_offset in
    let size = fields.payload_size in
    let tail = sound.payload in
    (omega arith, omega arith)

pub header_high : (file : List ℕ) → header_end file ≤ 0x290
header_high file = omega arith

length-range : (file : List ℕ) (start end : ℕ) → start ≤ end → end ≤ length file
    → start + length (slice_range file start end) ≡ end
length-range file start end forward inside =
    let len : length (slice_range file start end) ≡ end - start =
    search (rules, places) in omega arith

range_index : (file : List ℕ) (start end k : ℕ) → start ≤ k → k < end → end ≤ length file
    → slice_index (slice_range file start end) (k - start) ≡ slice_index file k
range_index file start end k from below inside = search (rules, places)

-- how long the header is
pub header_long : (file : List ℕ) (setup : Setup) → IsSetup file setup
    → 0x1F1 + length setup.header ≡ header_end file
header_long file setup is =
    let sound = setup_sound file is.sound in
    let long = sound.long in
    let end = sound.end in
    let high = header_high file in
    ap (λ (h : List ℕ). 0x1F1 + length h) (fields_are file setup is).header
    ∙ length-range file 0x1F1 (header_end file) (omega arith) (omega arith)

-- its bytes are the file's
pub header_same : (file : List ℕ) (setup : Setup) → IsSetup file setup → (k : ℕ) → 0x1F1 ≤ k
    → k < header_end file → slice_index setup.header (k - 0x1F1) ≡ slice_index file k
header_same file setup is k from below =
    let sound = setup_sound file is.sound in
    let long = sound.long in
    let high = header_high file in
    ap (λ (h : List ℕ). slice_index h (k - 0x1F1)) (fields_are file setup is).header
    ∙ range_index file 0x1F1 (header_end file) k from below (omega arith)
