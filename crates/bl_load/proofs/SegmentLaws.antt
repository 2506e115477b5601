-- The segment registers are those of the descriptors that a kernel is handed.
use Rattle.std.proofs.Common.{◌≡◌, List, refl}
use Rattle.std.specs.Prelude.{IfSome}
use Rattle.bl_mem.specs.LittleEndian.{u64_at}
use Rattle.bl_mem.specs.LittleEndian as little_endian
use Rattle.bl_plan.specs.declared.part.Place.{Place}
use Rattle.bl_plan.specs.declared.protocol.Protocol.{Protocol}
use Rattle.bl_plan.specs.declared.protocol.Protocol.TheVariants.{Multiboot2, Linux, Linux64}
use Rattle.bl_load.specs.declared.segment_registers.SegmentName.{SegmentName}
use Rattle.bl_load.specs.declared.segment_registers.SegmentName.TheVariants.{Cs, Ds, Es, Fs, Gs, Ss}
use Rattle.bl_load.specs.KernelReading.{KernelReading}
use Rattle.bl_load.specs.Parts.{registers_of}
use Rattle.bl_load.specs.Protocols.{descriptors_of}
use Rattle.bl_load.specs.SegmentRegisters.{segment_in, descriptor}

-- by each protocol and each register: all is computed
pub named : (protocol : Protocol) (reading : KernelReading) (places : List Place) (name : SegmentName)
    → let segment = segment_in (registers_of protocol reading places) name in
    IfSome (descriptors_of protocol)
    (λ bytes. u64_at bytes segment.selector ≡ descriptor segment)
unfolding little_endian.number_at
named Multiboot2 reading places name = tt
named Linux reading places Cs = refl
named Linux reading places Ds = refl
named Linux reading places Es = refl
named Linux reading places Fs = refl
named Linux reading places Gs = refl
named Linux reading places Ss = refl
named Linux64 reading places Cs = refl
named Linux64 reading places Ds = refl
named Linux64 reading places Es = refl
named Linux64 reading places Fs = refl
named Linux64 reading places Gs = refl
named Linux64 reading places Ss = refl
