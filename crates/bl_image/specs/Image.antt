-- The image of a handover: its one spelling in each version. All numbers are little-endian. Own.
use Rattle.std.specs.Prelude.{ℕ, List, [], ◌∷◌, ◌++◌, length, codes}
use Rattle.std.specs.List.{flat_map}
use Rattle.bl_mem.specs.LittleEndian.{u32_bytes, u64_bytes}
use Rattle.bl_plan.specs.declared.part.Role.{Role}
use Rattle.bl_plan.specs.RoleNumbers as roles
use Rattle.bl_plan.specs.declared.protocol.Protocol.{Protocol}
use Rattle.bl_load.specs.declared.registers.Registers32.{Registers32}
use Rattle.bl_load.specs.declared.registers.Registers.{Registers}
use Rattle.bl_load.specs.declared.registers.Registers.TheVariants.{Bits32, Bits64}
use Rattle.bl_plan.specs.Protocols as protocols
use Rattle.bl_load.specs.Handover.{Part, Handover}
use Rattle.bl_image.specs.declared.version.Version.{Version}
use Rattle.bl_image.specs.declared.version.Version.TheVariants.{One, Two}
use Rattle.bl_image.specs.Versions.{version_number}

-- `BLIMAGE` and a zero byte
abbrev pub magic : List ℕ
magic = codes "BLIMAGE" ++ 0 ∷ []

-- the registers of 32 bits in their order
abbrev pub narrow_values : Registers32 → List ℕ
narrow_values r =
    r.eip ∷ r.eax ∷ r.ebx ∷ r.ecx ∷ r.edx ∷ r.esi ∷ r.edi ∷ r.ebp ∷ r.esp ∷ r.eflags
    ∷ r.cr0 ∷ r.cs ∷ r.ds ∷ r.es ∷ r.fs ∷ r.gs ∷ r.ss ∷ r.gdt_base ∷ r.gdt_limit ∷ r.a20 ∷ []

-- the registers of a processor of 64 bits in their order: RIP, RAX, RBX, RCX, RDX, RSI, RDI, RBP,
-- RSP, R8 to R15, RFLAGS, CR0, CR3, CR4, EFER, CS, DS, ES, FS, GS, SS, GDT base, GDT limit, A20;
-- those that an entry of 32 bits does not give are 0
abbrev pub wide_values : Registers → List ℕ
wide_values (Bits32 r) =
    r.eip ∷ r.eax ∷ r.ebx ∷ r.ecx ∷ r.edx ∷ r.esi ∷ r.edi ∷ r.ebp ∷ r.esp
    ∷ 0 ∷ 0 ∷ 0 ∷ 0 ∷ 0 ∷ 0 ∷ 0 ∷ 0 ∷ r.eflags ∷ r.cr0 ∷ 0 ∷ 0 ∷ 0
    ∷ r.cs ∷ r.ds ∷ r.es ∷ r.fs ∷ r.gs ∷ r.ss ∷ r.gdt_base ∷ r.gdt_limit ∷ r.a20 ∷ []
wide_values (Bits64 r) =
    r.rip ∷ r.rax ∷ r.rbx ∷ r.rcx ∷ r.rdx ∷ r.rsi ∷ r.rdi ∷ r.rbp ∷ r.rsp
    ∷ r.r8 ∷ r.r9 ∷ r.r10 ∷ r.r11 ∷ r.r12 ∷ r.r13 ∷ r.r14 ∷ r.r15
    ∷ r.rflags ∷ r.cr0 ∷ r.cr3 ∷ r.cr4 ∷ r.efer
    ∷ r.cs ∷ r.ds ∷ r.es ∷ r.fs ∷ r.gs ∷ r.ss ∷ r.gdt_base ∷ r.gdt_limit ∷ r.a20 ∷ []

-- the registers: in version 1 each number of those of 32 bits in 32, in version 2 each in 64; no
-- image of version 1 has those of 64 bits
abbrev pub spelled_registers : Version → Registers → List ℕ
spelled_registers One (Bits32 r) = flat_map u32_bytes (narrow_values r)
spelled_registers One (Bits64 r) = flat_map u64_bytes (wide_values (Bits64 r))
spelled_registers Two registers = flat_map u64_bytes (wide_values registers)

-- the magic; version and protocol; the registers; the number of parts, a zero word: what is no
-- register in 32 bits
abbrev pub head : Version → Protocol → Registers → ℕ → List ℕ
head version protocol registers count =
    magic ++ (u32_bytes (version_number version) ++ (u32_bytes (protocols.protocol_number protocol)
    ++ (spelled_registers version registers ++ (u32_bytes count ++ u32_bytes 0))))

-- a record: role and index in 32 bits, address and length in 64
abbrev pub record_of : Role → ℕ → ℕ → ℕ → List ℕ
record_of role index address count =
    u32_bytes (roles.role_number role) ++ (u32_bytes index
    ++ (u64_bytes address ++ u64_bytes count))

abbrev pub part_record : Part → List ℕ
part_record part = record_of part.role part.index part.address (length part.bytes)

-- the head, a record for each part in the order of addresses, the bytes of the parts in the same
-- order
abbrev pub spelling : Version → Handover → List ℕ
spelling version h =
    head version h.protocol h.registers (length h.parts)
    ++ (flat_map part_record h.parts ++ flat_map (λ part. part.bytes) h.parts)
