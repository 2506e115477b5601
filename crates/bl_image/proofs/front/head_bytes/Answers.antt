use Rattle.std.proofs.Common.{◌≡◌, ◌+◌, ◌++◌, ℕ, [], length, take, sym, ap, ◌∙◌, arith}
use Rattle.std.specs.List.{flat_map}
use Rattle.std.proofs.Math.Seq.{take-length}
use Rattle.bl_mem.specs.LittleEndian.{u32_bytes, u64_bytes}
use Rattle.bl_plan.specs.Protocols.{protocol_number}
use Rattle.bl_image.specs.declared.version.Version.TheVariants.{Two}
use Rattle.bl_image.proofs.HeadPut.{head_put}
use Rattle.bl_image.proofs.front.head_bytes.Goals as goal

-- each piece was put down behind the earlier ones
pub returns-clause-bytes : goal.returns-clause-bytes
returns-clause-bytes c =
    let b1 = c.write_at.new.buffer in
    let b2 = c.write_at-2.new.buffer in
    let b3 = c.write_at-3.new.buffer in
    let b4 = c.write_at-4.new.buffer in
    let opening : c.write_u32s.new.out
    ≡ u32_bytes 2 ++ (u32_bytes (protocol_number c.args.protocol) ++ []) =
    rw (c.number.ensures, c.number-2.ensures) at c.write_u32s.ensures.bytes in
    let numbers = c.write_u64s.ensures.bytes ∙ ap (flat_map u64_bytes) c.numbers_of.ensures.wide in
    let to_8 : 16 ≡ 8 + length c.write_u32s.new.out = omega arith in
    let to_16 : 264 ≡ 16 + length c.write_u64s.new.out = omega arith in
    let to_264 : length b4 ≡ 264 + length c.write_u32s-2.new.out = omega arith in
    head_put Two c.args.protocol c.args.r.now c.args.count b1 b2 b3 b4 opening numbers
    c.write_u32s-2.ensures.bytes c.write_at.ensures
    (ap (λ (n : ℕ). take n b2) to_8 ∙ c.write_at-2.ensures)
    (ap (λ (n : ℕ). take n b3) to_16 ∙ c.write_at-3.ensures)
    (sym (take-length b4) ∙ ap (λ (n : ℕ). take n b4) to_264 ∙ c.write_at-4.ensures)
