-- The registers as a kernel begins, each by its name, and how they print. Own.
use Rattle.std.specs.Prelude.{ℕ, false, List, [], ◌∷◌, ◌++◌, codes}
use Rattle.std.specs.Fmt.{digits}
use Rattle.bl_load.specs.declared.registers.Registers32.{Registers32}
use Rattle.bl_load.specs.declared.registers64.Registers64.{Registers64}
use Rattle.bl_load.specs.declared.registers.Registers.{Registers}
use Rattle.bl_load.specs.declared.registers.Registers.TheVariants.{Bits32, Bits64}
use Rattle.bl_load.specs.declared.named_register.NamedRegister.{NamedRegister}

-- a register's name and its value
abbrev pub named : NamedRegister → List ℕ × ℕ
named r = (r.name.now, r.value)

-- those of 32 bits, in the fields' order
abbrev pub narrow_named : Registers32 → List (List ℕ × ℕ)
narrow_named r =
    (codes "eip", r.eip) ∷
    (codes "eax", r.eax) ∷
    (codes "ebx", r.ebx) ∷
    (codes "ecx", r.ecx) ∷
    (codes "edx", r.edx) ∷
    (codes "esi", r.esi) ∷
    (codes "edi", r.edi) ∷
    (codes "ebp", r.ebp) ∷
    (codes "esp", r.esp) ∷
    (codes "eflags", r.eflags) ∷
    (codes "cr0", r.cr0) ∷
    (codes "cs", r.cs) ∷
    (codes "ds", r.ds) ∷
    (codes "es", r.es) ∷
    (codes "fs", r.fs) ∷
    (codes "gs", r.gs) ∷
    (codes "ss", r.ss) ∷
    (codes "gdt_base", r.gdt_base) ∷
    (codes "gdt_limit", r.gdt_limit) ∷
    (codes "a20", r.a20) ∷
    []

-- those of 64 bits, in the fields' order
abbrev pub wide_named : Registers64 → List (List ℕ × ℕ)
wide_named r =
    (codes "rip", r.rip) ∷
    (codes "rax", r.rax) ∷
    (codes "rbx", r.rbx) ∷
    (codes "rcx", r.rcx) ∷
    (codes "rdx", r.rdx) ∷
    (codes "rsi", r.rsi) ∷
    (codes "rdi", r.rdi) ∷
    (codes "rbp", r.rbp) ∷
    (codes "rsp", r.rsp) ∷
    (codes "r8", r.r8) ∷
    (codes "r9", r.r9) ∷
    (codes "r10", r.r10) ∷
    (codes "r11", r.r11) ∷
    (codes "r12", r.r12) ∷
    (codes "r13", r.r13) ∷
    (codes "r14", r.r14) ∷
    (codes "r15", r.r15) ∷
    (codes "rflags", r.rflags) ∷
    (codes "cr0", r.cr0) ∷
    (codes "cr3", r.cr3) ∷
    (codes "cr4", r.cr4) ∷
    (codes "efer", r.efer) ∷
    (codes "cs", r.cs) ∷
    (codes "ds", r.ds) ∷
    (codes "es", r.es) ∷
    (codes "fs", r.fs) ∷
    (codes "gs", r.gs) ∷
    (codes "ss", r.ss) ∷
    (codes "gdt_base", r.gdt_base) ∷
    (codes "gdt_limit", r.gdt_limit) ∷
    (codes "a20", r.a20) ∷
    []

abbrev pub named_in : Registers → List (List ℕ × ℕ)
named_in (Bits32 r) = narrow_named r
named_in (Bits64 r) = wide_named r

-- a register as text: `eip=0x100000`, the value in lower-case hex with no leading zeros
abbrev pub register_text : List ℕ × ℕ → List ℕ
register_text (name, value) = name ++ (codes "=0x" ++ digits 16 false value)

-- each after a blank
abbrev pub spaced_text : List (List ℕ × ℕ) → List ℕ
spaced_text [] = []
spaced_text (r ∷ rest) = codes " " ++ (register_text r ++ spaced_text rest)

-- registers as text: in one line, with a blank between two
abbrev pub registers_text : List (List ℕ × ℕ) → List ℕ
registers_text [] = []
registers_text (r ∷ rest) = register_text r ++ spaced_text rest
