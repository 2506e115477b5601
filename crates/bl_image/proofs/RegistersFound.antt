-- In bytes that have no fault the registers are found.
use Rattle.std.proofs.Common.{◌≡◌, ◌<◌, ◌^◌, ℕ, true, false, List, ◌++◌}
use Rattle.std.proofs.Common.{length, take, drop, All, None, refl, sym, ap, ◌∙◌, subst, arith}
use Rattle.std.proofs.Common.{append_assoc, length-append}
use Rattle.std.specs.Prelude.{replicate}
use Rattle.std.specs.List.{flat_map}
use Rattle.std.proofs.lemmas.List.{take-append-drop, length-take-le}
use Rattle.std.proofs.lemmas.List.Elements.{All-append}
use Rattle.bl_mem.specs.LittleEndian.{u32_bytes, u64_bytes}
use Rattle.bl_plan.specs.declared.protocol.Protocol.{Protocol}
use Rattle.bl_plan.specs.declared.protocol.Protocol.TheVariants.{Multiboot2, Linux, Linux64}
use Rattle.bl_plan.specs.Protocols.{protocol_number}
use Rattle.bl_load.specs.declared.registers.Registers.{Registers}
use Rattle.bl_load.specs.declared.registers.Registers.TheVariants.{Bits32, Bits64}
use Rattle.bl_load.specs.Protocols.{is_wide}
use Rattle.bl_image.specs.Fields.{Field, fields_fault, register_field, zero_extended_field}
use Rattle.bl_image.specs.Fields.{absent_field}
use Rattle.bl_image.specs.Image.{narrow_values, wide_values, spelled_registers}
use Rattle.bl_image.specs.Layouts.{layout, registers_1, registers_2_narrow, registers_2_wide}
use Rattle.bl_image.specs.Spellable.{AreRegistersOf}
use Rattle.bl_image.specs.Versions.{version_number, HasProtocol}
use Rattle.bl_image.specs.declared.version.Version.{Version}
use Rattle.bl_image.specs.declared.version.Version.TheVariants.{One, Two}
use Rattle.bl_image.proofs.NoFaultLemmas.{IsSmall, small_drop, small_take, words_split}
use Rattle.bl_image.proofs.NumbersFound.{narrows_found, absents_found, wides_found}
use Rattle.bl_image.proofs.RegistersBy.{registers_by, registers_are, wide_registers_by}
use Rattle.bl_image.proofs.RegistersBy.{wide_registers_are}
use Rattle.bl_image.proofs.RegisterLemmas.{any_none}
use Rattle.bl_image.proofs.WideLemmas.{spelled_wide, wide_by}

-- registers of a protocol in this version, and what stands behind them
pub record RegistersFound (version : Version) (protocol : Protocol) (others : List Field)
    (bytes : List ℕ) : Type 0
  where
    pub registers : Registers
    pub rest : List ℕ
    pub is : spelled_registers version registers ++ rest ≡ bytes
    pub fit : AreRegistersOf protocol registers
    pub left : fields_fault others rest ≡ None
    pub small : IsSmall rest

found_1 : (protocol : Protocol) (others : List Field) (bytes : List ℕ)
    → is_wide protocol ≡ false → IsSmall bytes
    → fields_fault (registers_1 ++ others) bytes ≡ None → RegistersFound One protocol others bytes
unfolding registers_1 register_field
found_1 protocol others bytes narrow small none =
    let found = any_none register_field 20 others bytes none in
    let ws =
    words_split 20 (take 80 bytes) (small_take 80 bytes small)
    (length-take-le 80 bytes found.0) in
    let numbers : narrow_values (registers_by ws.words) ≡ ws.words =
    registers_are ws.words ws.size in
    let fits : ℕ → Type 0 = λ k. k < 2 ^ 32 in
    record {
      registers = Bits32 (registers_by ws.words);
      rest = drop 80 bytes;
      is =
          ap (λ (l : List ℕ). l ++ drop 80 bytes) (ap (flat_map u32_bytes) numbers ∙ ws.is)
          ∙ take-append-drop 80 bytes;
      fit = (sym narrow, subst (All fits) (sym numbers) ws.fit);
      left = found.1;
      small = small_drop 80 bytes small;
    }

regroup : (a b c d e x : List ℕ)
    → (a ++ (b ++ (c ++ (d ++ e)))) ++ x ≡ a ++ (b ++ (c ++ (d ++ (e ++ x))))
regroup a b c d e x = simp append_assoc

regroup_fields : (a b c d e others : List Field)
    → (a ++ (b ++ (c ++ (d ++ e)))) ++ others ≡ a ++ (b ++ (c ++ (d ++ (e ++ others))))
regroup_fields a b c d e others = simp append_assoc

found_2 : (protocol : Protocol) (others : List Field) (bytes : List ℕ)
    → is_wide protocol ≡ false → IsSmall bytes
    → fields_fault (registers_2_narrow ++ others) bytes ≡ None
    → RegistersFound Two protocol others bytes
unfolding registers_2_narrow
found_2 protocol others bytes is_narrow small none =
    let fits : ℕ → Type 0 = λ k. k < 2 ^ 32 in
    let narrow : ℕ → List Field = λ n. replicate n zero_extended_field in
    let absent : ℕ → List Field = λ n. replicate n absent_field in
    let apart =
    ap (λ (fs : List Field). fields_fault fs bytes)
    (sym (regroup_fields (narrow 9) (absent 8) (narrow 2) (absent 3) (narrow 9) others)) ∙ none in
    let after_fourth = narrow 9 ++ others in
    let after_third = absent 3 ++ after_fourth in
    let after_second = narrow 2 ++ after_third in
    let after_first = absent 8 ++ after_second in
    let first = narrows_found 9 after_first bytes small apart in
    let second = absents_found 8 after_second first.rest first.small first.left in
    let third = narrows_found 2 after_third second.rest second.small second.left in
    let fourth = absents_found 3 after_fourth third.rest third.small third.left in
    let fifth = narrows_found 9 others fourth.rest fourth.small fourth.left in
    let all : List ℕ = first.numbers ++ (third.numbers ++ fifth.numbers) in
    let size : length all ≡ 20 =
    let a = length-append first.numbers (third.numbers ++ fifth.numbers) in
    let b = length-append third.numbers fifth.numbers in
    omega (arith, a, b, first.size, third.size, fifth.size) in
    let r = registers_by all in
    let numbers : narrow_values r ≡ all = registers_are all size in
    let wide =
    wide_by r first.numbers third.numbers fifth.numbers first.size third.size numbers in
    let a = flat_map u64_bytes first.numbers in
    let b = flat_map u64_bytes (replicate 8 0) in
    let c = flat_map u64_bytes third.numbers in
    let d = flat_map u64_bytes (replicate 3 0) in
    let e = flat_map u64_bytes fifth.numbers in
    let x = fifth.rest in
    record {
      registers = Bits32 r;
      rest = x;
      is =
          ap (λ (l : List ℕ). l ++ x)
          (ap (flat_map u64_bytes) wide
          ∙ spelled_wide first.numbers third.numbers fifth.numbers)
          ∙ regroup a b c d e x
          ∙ ap (λ (l : List ℕ). a ++ (b ++ (c ++ (d ++ l)))) fifth.is
          ∙ ap (λ (l : List ℕ). a ++ (b ++ (c ++ l))) fourth.is
          ∙ ap (λ (l : List ℕ). a ++ (b ++ l)) third.is
          ∙ ap (λ (l : List ℕ). a ++ l) second.is
          ∙ first.is;
      fit = (
        sym is_narrow,
        subst (All fits) (sym numbers)
            (All-append fits first.numbers (third.numbers ++ fifth.numbers) first.fit
            (All-append fits third.numbers fifth.numbers third.fit fifth.fit)),
      );
      left = fifth.left;
      small = fifth.small;
    }

found_3 : (protocol : Protocol) (others : List Field) (bytes : List ℕ)
    → is_wide protocol ≡ true → IsSmall bytes
    → fields_fault (registers_2_wide ++ others) bytes ≡ None
    → RegistersFound Two protocol others bytes
unfolding registers_2_wide
found_3 protocol others bytes wide small none =
    let found = wides_found 31 others bytes small none in
    let r = wide_registers_by found.numbers in
    let numbers : wide_values (Bits64 r) ≡ found.numbers =
    wide_registers_are found.numbers found.size in
    let fits : ℕ → Type 0 = λ k. k < 2 ^ 64 in
    record {
      registers = Bits64 r;
      rest = found.rest;
      is = ap (λ (l : List ℕ). flat_map u64_bytes l ++ found.rest) numbers ∙ found.is;
      fit = (sym wide, subst (All fits) (sym numbers) found.fit);
      left = found.left;
      small = found.small;
    }

-- of an image of each version and protocol
pub registers_found : (version : Version) (protocol : Protocol) → HasProtocol version protocol
    → (others : List Field) (bytes : List ℕ) → IsSmall bytes
    → fields_fault
    ((layout (version_number version) (protocol_number protocol)).registers ++ others) bytes
    ≡ None
    → RegistersFound version protocol others bytes
registers_found One p has others bytes small none = found_1 p others bytes has small none
registers_found Two Multiboot2 has others bytes small none =
    found_2 Multiboot2 others bytes refl small none
registers_found Two Linux has others bytes small none = found_2 Linux others bytes refl small none
registers_found Two Linux64 has others bytes small none =
    found_3 Linux64 others bytes refl small none
