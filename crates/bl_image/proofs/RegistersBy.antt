-- Registers by their numbers.
use Rattle.std.proofs.Common.{◌≡◌, ℕ, List, length, get_or, refl, sym, ap, ◌∙◌}
use Rattle.bl_load.specs.declared.registers.Registers32.{Registers32}
use Rattle.bl_load.specs.declared.registers64.Registers64.{Registers64}
use Rattle.bl_load.specs.declared.registers.Registers.TheVariants.{Bits64}
use Rattle.bl_image.specs.Image.{narrow_values, wide_values}
use Rattle.bl_image.proofs.Listed.{elements_are}

-- the registers of 32 bits that have these numbers
pub registers_by : List ℕ → Registers32
registers_by l = record {
  eip = get_or l 0 0;
  eax = get_or l 1 0;
  ebx = get_or l 2 0;
  ecx = get_or l 3 0;
  edx = get_or l 4 0;
  esi = get_or l 5 0;
  edi = get_or l 6 0;
  ebp = get_or l 7 0;
  esp = get_or l 8 0;
  eflags = get_or l 9 0;
  cr0 = get_or l 10 0;
  cs = get_or l 11 0;
  ds = get_or l 12 0;
  es = get_or l 13 0;
  fs = get_or l 14 0;
  gs = get_or l 15 0;
  ss = get_or l 16 0;
  gdt_base = get_or l 17 0;
  gdt_limit = get_or l 18 0;
  a20 = get_or l 19 0;
}

-- and they have these numbers
pub registers_are : (l : List ℕ) → length l ≡ 20 → narrow_values (registers_by l) ≡ l
unfolding registers_by
registers_are l size = elements_are 20 0 l size

registers_again : (r : Registers32) → r ≡ registers_by (narrow_values r)
unfolding registers_by
registers_again r = refl

-- registers of 32 bits are told by their numbers
pub registers_same : (r s : Registers32) → narrow_values r ≡ narrow_values s → r ≡ s
registers_same r s e = registers_again r ∙ ap registers_by e ∙ sym (registers_again s)

-- the registers of 64 bits that have these numbers
pub wide_registers_by : List ℕ → Registers64
wide_registers_by l = record {
  rip = get_or l 0 0;
  rax = get_or l 1 0;
  rbx = get_or l 2 0;
  rcx = get_or l 3 0;
  rdx = get_or l 4 0;
  rsi = get_or l 5 0;
  rdi = get_or l 6 0;
  rbp = get_or l 7 0;
  rsp = get_or l 8 0;
  r8 = get_or l 9 0;
  r9 = get_or l 10 0;
  r10 = get_or l 11 0;
  r11 = get_or l 12 0;
  r12 = get_or l 13 0;
  r13 = get_or l 14 0;
  r14 = get_or l 15 0;
  r15 = get_or l 16 0;
  rflags = get_or l 17 0;
  cr0 = get_or l 18 0;
  cr3 = get_or l 19 0;
  cr4 = get_or l 20 0;
  efer = get_or l 21 0;
  cs = get_or l 22 0;
  ds = get_or l 23 0;
  es = get_or l 24 0;
  fs = get_or l 25 0;
  gs = get_or l 26 0;
  ss = get_or l 27 0;
  gdt_base = get_or l 28 0;
  gdt_limit = get_or l 29 0;
  a20 = get_or l 30 0;
}

-- and they have these numbers
pub wide_registers_are : (l : List ℕ) → length l ≡ 31
    → wide_values (Bits64 (wide_registers_by l)) ≡ l
unfolding wide_registers_by
wide_registers_are l size = elements_are 31 0 l size

wide_registers_again : (r : Registers64) → r ≡ wide_registers_by (wide_values (Bits64 r))
unfolding wide_registers_by
wide_registers_again r = refl

-- registers of 64 bits are told by their numbers
pub wide_registers_same : (r s : Registers64) → wide_values (Bits64 r) ≡ wide_values (Bits64 s)
    → r ≡ s
wide_registers_same r s e =
    wide_registers_again r ∙ ap wide_registers_by e ∙ sym (wide_registers_again s)
