-- What holds of regions holds of their normal map.
use Rattle.std.proofs.Common.{ℕ, List, sym, ◌∙◌}
use Rattle.std.proofs.lemmas.Option.{IfSome_then}
use Rattle.std.specs.declared.ops.Range.{Range}
use Rattle.bl_map.specs.declared.region.Region.{Region}
use Rattle.bl_map.specs.Firmware.{FirmwareFacts}
use Rattle.bl_map.specs.MachineFacts.{IsUsableAmong, AreUnusable, IsPool, IsFirmware}
use Rattle.bl_map.specs.NormalMap.{IsNormalMap}

module _ (regions runs : List Region) (normal : IsNormalMap regions runs) (size : ℕ) where
  usable_in_runs : (a : ℕ) → IsUsableAmong regions size a → IsUsableAmong runs size a
  usable_in_runs a usable =
      record {
        kind = normal.same_kinds a ∙ usable.kind;
        above = usable.above;
        in_size = usable.in_size;
        below = usable.below;
      }

  pub pool_in_runs : (pool : Range ℕ) → IsPool regions size pool → IsPool runs size pool
  pool_in_runs pool is =
      record {
        forward = is.forward;
        start_frame = is.start_frame;
        end_frame = is.end_frame;
        usable = λ a from below. usable_in_runs a (is.usable a from below);
      }

module _ (regions runs : List Region) (normal : IsNormalMap regions runs) where
  unusable_in_runs : (start end : ℕ) → AreUnusable regions start end → AreUnusable runs start end
  unusable_in_runs start end none a from below usable =
      none a from below (sym (normal.same_kinds a) ∙ usable)

  pub firmware_in_runs : (pool : Range ℕ) (firmware : FirmwareFacts)
      → IsFirmware regions pool firmware → IsFirmware runs pool firmware
  firmware_in_runs pool firmware is =
      record {
        screen =
            IfSome_then firmware.screen is.screen
            (λ screen p. record { sound = p.sound; apart = unusable_in_runs _ _ p.apart });
        rsdp =
            IfSome_then firmware.rsdp is.rsdp
            (λ a p.
            record { told = p.told; low = p.low; apart = unusable_in_runs _ _ p.apart });
        efi =
            IfSome_then firmware.efi is.efi
            (λ efi p. record { sound = p.sound; apart = unusable_in_runs _ _ p.apart });
        smbios = is.smbios;
        avoided = is.avoided;
      }
