use Rattle.std.proofs.Common.{arith, ap, ◌+◌, ◌*◌, ◌∙◌, ℕ}
use Rattle.bl_bzimage.proofs.SetupLaws.{fields_are, setup_sound}
use Rattle.bl_bzimage.specs.Setup.{payload_at}
use Rattle.program_say.proofs.lines.cut_kernels.end_of_code.Goals as goal

pub u32_at-requires : goal.u32_at-requires
u32_at-requires c =
    let sound = setup_sound c.args.view.now.bytes.now c.requires.setup.sound in
    omega (arith, sound.long)

pub overflow_add-result : goal.overflow_add-result
overflow_add-result c =
    let file = c.args.view.now.bytes.now in
    let sound = setup_sound file c.requires.setup.sound in
    let fields = fields_are file c.args.setup.now c.requires.setup in
    omega (arith, sound.payload, fields.payload_offset, c.requires.short)

pub returns : goal.returns
returns c =
    let file = c.args.view.now.bytes.now in
    let fields = fields_are file c.args.setup.now c.requires.setup in
    ap (λ (n : ℕ). n + c.u32_at.result * 16) fields.payload_offset
    ∙ ap (λ (n : ℕ). payload_at file + n * 16) c.u32_at.ensures
