use Rattle.std.proofs.Common.{◌∙◌, length, ap, refl}
use Rattle.bl_params.specs.BootParams.{boot_params}
use Rattle.bl_params.specs.ParamsToWriteFacts.{ParamsToWriteFacts}
use Rattle.bl_params.proofs.WriteLemmas.{written}
use Rattle.bl_params.proofs.write.write_params.Goals as goal

pub returns : goal.returns
returns c =
    let inside : ParamsToWriteFacts = record {
      code32_start = c.facts.inside.code32_start;
      ramdisk_image = c.facts.inside.ramdisk_image;
      ramdisk_size = c.facts.inside.ramdisk_size;
      cmd_line_ptr = c.facts.inside.cmd_line_ptr;
      runs = c.facts.inside.runs.now;
      screen = c.facts.inside.screen;
      rsdp = c.facts.inside.rsdp;
      efi = c.facts.inside.efi;
    } in
    written c.args.setup.now.header _ inside inside.runs
    _ (length inside.runs) _ _ _ _ _ _ _ _ _ _ _ _ _ _ _ _ _ _ _
    c.as_slice.ensures.same refl refl c.secure_boot.ensures c.efi_info.ensures
    c.unwrap_or.ensures c.screen_info.ensures c.clear.ensures
    c.write_field.ensures c.put_entries.ensures c.write_u64.ensures
    c.write_u32.ensures c.write_u32-2.ensures c.write_u32-3.ensures c.write_u32-4.ensures
    c.write_field-2.ensures c.write_u16.ensures c.write_field-3.ensures c.write_field-4.ensures
    c.write_field-5.ensures c.write_u64-2.ensures c.write_field-6.ensures
    c.write_field-6.array_long
    ∙ ap (λ (f : ParamsToWriteFacts). boot_params c.args.setup.now.header f) c.facts.view_is
