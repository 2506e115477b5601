-- The registers as a kernel begins (Multiboot2 3.3 "I386 machine state"; Linux/x86 Boot Protocol,
-- "32-bit Boot Protocol" and "64-bit Boot Protocol"). What the texts leave open is own.
use Rattle.std.specs.Prelude.{ℕ, Bool, true, false}
use Rattle.bl_load.specs.declared.registers.Registers32.{Registers32}
use Rattle.bl_load.specs.declared.registers64.Registers64.{Registers64}
use Rattle.bl_load.specs.declared.registers.Registers.{Registers}
use Rattle.bl_load.specs.declared.registers.Registers.TheVariants.{Bits32, Bits64}

-- what eax tells: a boot loader of Multiboot2 loaded the kernel (3.3)
abbrev pub bootloader_magic : ℕ
bootloader_magic = 0x36D76289

-- by the address where the kernel is entered, and by that of the information
abbrev pub multiboot2_registers : ℕ → ℕ → Registers32
multiboot2_registers entry information = record {
  eip = entry;
  eax = bootloader_magic;
  ebx = information;
  ecx = 0;
  edx = 0;
  esi = 0;
  edi = 0;
  ebp = 0;
  esp = 0;
  eflags = 2;
  cr0 = 0x11;
  cs = 0x10;
  ds = 0x18;
  es = 0x18;
  fs = 0x18;
  gs = 0x18;
  ss = 0x18;
  gdt_base = 0;
  gdt_limit = 0;
  a20 = 1;
}

-- by the address where a Linux kernel lies and is entered, and by those of its boot parameters and
-- its descriptors
abbrev pub linux_registers : ℕ → ℕ → ℕ → Registers32
linux_registers kernel boot_params gdt = record {
  eip = kernel;
  eax = 0;
  ebx = 0;
  ecx = 0;
  edx = 0;
  esi = boot_params;
  edi = 0;
  ebp = 0;
  esp = 0;
  eflags = 2;
  cr0 = 0x11;
  cs = 0x10;
  ds = 0x18;
  es = 0x18;
  fs = 0x18;
  gs = 0x18;
  ss = 0x18;
  gdt_base = gdt;
  gdt_limit = 31;
  a20 = 1;
}

-- by the address where a Linux kernel is entered, and by those of its boot parameters, its
-- descriptors and its page tables: it is entered in 64-bit mode with paging (Intel SDM, volume 3,
-- 2.5 "Control Registers", 2.2.1 "Extended Feature Enable Register": CR0.PE, ET and PG, CR4.PAE,
-- EFER.LME and LMA)
abbrev pub linux64_registers : ℕ → ℕ → ℕ → ℕ → Registers64
linux64_registers entry boot_params gdt tables = record {
  rip = entry;
  rax = 0;
  rbx = 0;
  rcx = 0;
  rdx = 0;
  rsi = boot_params;
  rdi = 0;
  rbp = 0;
  rsp = 0;
  r8 = 0;
  r9 = 0;
  r10 = 0;
  r11 = 0;
  r12 = 0;
  r13 = 0;
  r14 = 0;
  r15 = 0;
  rflags = 2;
  cr0 = 0x80000011;
  cr3 = tables;
  cr4 = 0x20;
  efer = 0x500;
  cs = 0x10;
  ds = 0x18;
  es = 0x18;
  fs = 0x18;
  gs = 0x18;
  ss = 0x18;
  gdt_base = gdt;
  gdt_limit = 31;
  a20 = 1;
}

-- those of 64 bits
abbrev pub are_wide : Registers → Bool
are_wide (Bits32 r) = false
are_wide (Bits64 r) = true

-- ---- the registers that hold addresses, whichever state they are of

-- where the kernel is entered: eip or rip
abbrev pub entry_in : Registers → ℕ
entry_in (Bits32 r) = r.eip
entry_in (Bits64 r) = r.rip

-- where a Multiboot2 kernel finds its information: ebx (3.3)
abbrev pub information_in : Registers → ℕ
information_in (Bits32 r) = r.ebx
information_in (Bits64 r) = r.rbx

-- where a Linux kernel finds its boot parameters: esi ("32-bit Boot Protocol") or rsi ("64-bit Boot
-- Protocol")
abbrev pub params_in : Registers → ℕ
params_in (Bits32 r) = r.esi
params_in (Bits64 r) = r.rsi

-- where the descriptors of segments stand: the base that gdtr holds
abbrev pub gdt_in : Registers → ℕ
gdt_in (Bits32 r) = r.gdt_base
gdt_in (Bits64 r) = r.gdt_base

-- where the page tables stand: cr3; 32 bits are entered without
abbrev pub page_tables_in : Registers → ℕ
page_tables_in (Bits32 r) = 0
page_tables_in (Bits64 r) = r.cr3
