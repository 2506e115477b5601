-- The segment registers as a kernel begins, whole: what a program sees of each, its selector, and
-- what the processor keeps beside it (Intel SDM, volume 3A, 3.4.3 "Segment Registers", 3.4.5
-- "Segment Descriptors").
use Rattle.std.specs.Prelude.{ℕ, ◌+◌, ◌-◌, ◌*◌, ◌/◌, ◌%◌, ◌^◌, Bool, true, false, not}
use Rattle.std.specs.Prelude.{if◌then◌else◌}
use Rattle.bl_load.specs.declared.registers.Registers.{Registers}
use Rattle.bl_load.specs.declared.registers.Registers.TheVariants.{Bits32, Bits64}
use Rattle.bl_load.specs.declared.segment_registers.SegmentName.{SegmentName}
use Rattle.bl_load.specs.declared.segment_registers.SegmentName.TheVariants.{Cs, Ds, Es, Fs, Gs, Ss}
use Rattle.bl_load.specs.declared.segment_registers.SegmentRegister.{SegmentRegister}
use Rattle.bl_load.specs.Registers.{are_wide}

-- the number that the registers hold under this name
abbrev pub segment_value : Registers → SegmentName → ℕ
segment_value (Bits32 r) Cs = r.cs
segment_value (Bits32 r) Ds = r.ds
segment_value (Bits32 r) Es = r.es
segment_value (Bits32 r) Fs = r.fs
segment_value (Bits32 r) Gs = r.gs
segment_value (Bits32 r) Ss = r.ss
segment_value (Bits64 r) Cs = r.cs
segment_value (Bits64 r) Ds = r.ds
segment_value (Bits64 r) Es = r.es
segment_value (Bits64 r) Fs = r.fs
segment_value (Bits64 r) Gs = r.gs
segment_value (Bits64 r) Ss = r.ss

-- a selector has 16 bits: that of a number is its lowest 16
abbrev pub selector_of : ℕ → ℕ
selector_of number = number % 2 ^ 16

-- a flat segment, from 0 to the end of 4 GiB: present, of privilege 0
abbrev pub flat : ℕ → ℕ → Bool → Bool → SegmentRegister
flat selector segment_type l db = record {
  selector = selector;
  base = 0;
  limit = 2 ^ 32 - 1;
  segment_type = segment_type;
  s = true;
  dpl = 0;
  p = true;
  avl = false;
  l = l;
  db = db;
  g = true;
}

-- code that may be executed and read, and was accessed (type 11); of 64 bits (L), or of 32 (D/B)
abbrev pub flat_code : Bool → ℕ → SegmentRegister
flat_code wide selector = flat selector 11 wide (not wide)

-- data that may be read and written, and was accessed (type 3)
abbrev pub flat_data : ℕ → SegmentRegister
flat_data selector = flat selector 3 false true

-- the segment register of this name: code in CS, data in each other (Multiboot2 3.3 "I386 machine
-- state"; Linux/x86 Boot Protocol, "32-bit Boot Protocol" and "64-bit Boot Protocol")
abbrev pub segment_in : Registers → SegmentName → SegmentRegister
segment_in registers Cs =
    flat_code (are_wide registers) (selector_of (segment_value registers Cs))
segment_in registers name = flat_data (selector_of (segment_value registers name))

-- ---- the descriptor that a segment register is loaded from

-- so many bits of a number, the lowest of them at `from`
abbrev pub bits : ℕ → ℕ → ℕ → ℕ
bits number from count = number / 2 ^ from % 2 ^ count

-- a flag at a bit
abbrev pub flag : Bool → ℕ → ℕ
flag set at = if set then 2 ^ at else 0

-- what a descriptor tells of a limit: pages of 4 KiB where its G is set, else bytes
abbrev pub told_limit : SegmentRegister → ℕ
told_limit r = if r.g then r.limit / 4096 else r.limit

-- the 64 bits of the descriptor of a code or data segment (figure 3-8 "Segment Descriptor"). Its
-- accessed bit, the lowest of the type, is clear: the processor sets it when it loads the segment
abbrev pub descriptor : SegmentRegister → ℕ
descriptor r =
    bits (told_limit r) 0 16 + bits r.base 0 16 * 2 ^ 16 + bits r.base 16 8 * 2 ^ 32
    + bits r.segment_type 1 3 * 2 ^ 41 + flag r.s 44 + bits r.dpl 0 2 * 2 ^ 45 + flag r.p 47
    + bits (told_limit r) 16 4 * 2 ^ 48 + flag r.avl 52 + flag r.l 53 + flag r.db 54 + flag r.g 55
    + bits r.base 24 8 * 2 ^ 56
