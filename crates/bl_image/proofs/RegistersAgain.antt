-- The registers of an image are read again.
use Rattle.std.proofs.Common.{◌≡◌, ℕ, List, ◌++◌, length, refl, sym, ap, ◌∙◌}
use Rattle.std.specs.List.{flat_map}
use Rattle.bl_mem.specs.LittleEndian.{u32_bytes, u64_bytes}
use Rattle.bl_load.specs.declared.registers.Registers.{Registers}
use Rattle.bl_load.specs.declared.registers.Registers.TheVariants.{Bits32, Bits64}
use Rattle.bl_load.specs.declared.registers.Registers32.{Registers32}
use Rattle.bl_load.specs.declared.registers64.Registers64.{Registers64}
use Rattle.bl_load.specs.Registers.{are_wide}
use Rattle.bl_image.specs.declared.version.Version.{Version}
use Rattle.bl_image.specs.declared.version.Version.TheVariants.{One, Two}
use Rattle.bl_image.specs.Image.{wide_values, narrow_values, spelled_registers}
use Rattle.bl_image.specs.Spellable.{AreFit}
use Rattle.bl_image.proofs.WideLemmas.{narrow_same, wide_fit}
use Rattle.bl_image.proofs.NumberLemmas.{front_same, back_same, length-u32s, length-u64s}
use Rattle.bl_image.proofs.NumberLemmas.{u32s_same, u64s_same}
use Rattle.bl_image.proofs.RegistersBy.{registers_same, wide_registers_same}

-- the same registers by their numbers of 64 bits, and what follows
wides_alike : (r s : Registers) → are_wide r ≡ are_wide s → AreFit r → AreFit s → (x y : List ℕ)
    → flat_map u64_bytes (wide_values r) ++ x ≡ flat_map u64_bytes (wide_values s) ++ y
    → (r ≡ s) × (x ≡ y)
wides_alike (Bits32 r) (Bits64 s) width hr hs x y e = cc
wides_alike (Bits64 r) (Bits32 s) width hr hs x y e = cc
wides_alike (Bits32 r) (Bits32 s) width hr hs x y e =
    let ms : List ℕ = wide_values (Bits32 r) in
    let ns : List ℕ = wide_values (Bits32 s) in
    let wide : length (flat_map u64_bytes ms) ≡ length (flat_map u64_bytes ns) =
    length-u64s ms ∙ sym (length-u64s ns) in (
      ap (λ (q : Registers32). Bits32 q)
          (registers_same r s
          (narrow_same r s
          (u64s_same ms ns (wide_fit r hr) (wide_fit s hs) refl (front_same _ _ _ _ wide e)))),
      back_same _ _ _ _ wide e,
    )
wides_alike (Bits64 r) (Bits64 s) width hr hs x y e =
    let ms : List ℕ = wide_values (Bits64 r) in
    let ns : List ℕ = wide_values (Bits64 s) in
    let wide : length (flat_map u64_bytes ms) ≡ length (flat_map u64_bytes ns) =
    length-u64s ms ∙ sym (length-u64s ns) in (
      ap (λ (q : Registers64). Bits64 q)
          (wide_registers_same r s (u64s_same ms ns hr hs refl (front_same _ _ _ _ wide e))),
      back_same _ _ _ _ wide e,
    )

-- the same registers, and what follows
pub registers_alike : (v : Version) (r s : Registers) → are_wide r ≡ are_wide s → AreFit r
    → AreFit s → (x y : List ℕ) → spelled_registers v r ++ x ≡ spelled_registers v s ++ y
    → (r ≡ s) × (x ≡ y)
registers_alike One (Bits32 r) (Bits64 s) width hr hs x y e = cc
registers_alike One (Bits64 r) (Bits32 s) width hr hs x y e = cc
registers_alike One (Bits32 r) (Bits32 s) width hr hs x y e =
    let wide : length (flat_map u32_bytes (narrow_values r))
    ≡ length (flat_map u32_bytes (narrow_values s)) =
    length-u32s (narrow_values r) ∙ sym (length-u32s (narrow_values s)) in (
      ap (λ (q : Registers32). Bits32 q)
          (registers_same r s
          (u32s_same (narrow_values r) (narrow_values s) hr hs refl
          (front_same _ _ _ _ wide e))),
      back_same _ _ _ _ wide e,
    )
registers_alike One (Bits64 r) (Bits64 s) width hr hs x y e =
    wides_alike (Bits64 r) (Bits64 s) width hr hs x y e
registers_alike Two r s width hr hs x y e = wides_alike r s width hr hs x y e
