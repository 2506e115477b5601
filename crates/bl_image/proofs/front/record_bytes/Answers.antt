use Rattle.std.proofs.Common.{refl}
use Rattle.bl_mem.specs.LittleEndian.{u32_bytes, u64_bytes}
use Rattle.bl_image.proofs.front.record_bytes.Goals as goal

-- the two pairs of numbers fill the record
pub returns-clause-bytes : goal.returns-clause-bytes
unfolding u32_bytes u64_bytes
returns-clause-bytes c =
    rw (c.write_u32s.ensures.bytes, c.write_u64s.ensures.bytes, c.number.ensures) refl
