use Rattle.std.proofs.Common.{rules}
use Rattle.std.proofs.lemmas.Nat.{le_bytes_8}
use Rattle.bl_mem.specs.LittleEndian.{u64_bytes}
use Rattle.bl_image.proofs.field_reader.u64_of.Goals as goal

pub returns : goal.returns
unfolding u64_bytes
returns c = le_bytes_8 c.args.field _ (search rules) (search rules) c.from_le_bytes.ensures
