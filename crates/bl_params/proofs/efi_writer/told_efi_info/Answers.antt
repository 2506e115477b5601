use Rattle.std.proofs.Common.{refl}
use Rattle.bl_params.specs.FieldBytes.{number_bytes, byte_over}
use Rattle.bl_params.specs.EfiInfo.{efi_info_bytes}
use Rattle.bl_params.proofs.efi_writer.told_efi_info.Goals as goal

pub returns : goal.returns
unfolding efi_info_bytes number_bytes byte_over
returns c =
    rw (
      c.four_bytes-sign.ensures,
      c.signature.ensures,
      c.four_bytes-table.ensures,
      c.four_bytes-each.ensures,
      c.four_bytes-version.ensures,
      c.four_bytes-map.ensures,
      c.four_bytes-size.ensures,
      c.four_bytes-table_hi.ensures,
      c.four_bytes-map_hi.ensures,
    ) refl
