use Rattle.std.proofs.Common.{◌∙◌, ℕ, ap, sym, arith}
use Rattle.bl_params.specs.EfiInfo.{breaks_efi}
use Rattle.bl_params.proofs.EfiLemmas.{signature_here, each_here, version_here, memmap_here}
use Rattle.bl_params.proofs.EfiLemmas.{size_here, systab_here, memmap_hi_here, aside_is}
use Rattle.bl_params.proofs.efi_reader.breaks_efi.Goals as goal

pub returns-in-448 : goal.returns-in-448
returns-in-448 c =
    let b = c.args.bytes.now in
    rw (c.has_signature.ensures)
    (sym (ap (λ (k : ℕ). breaks_efi b k) c.in-448.is ∙ signature_here b))

pub returns-in-456 : goal.returns-in-456
returns-in-456 c =
    let b = c.args.bytes.now in
    rw (c.are_descriptors.ensures, c.u32_in.ensures)
    (sym (ap (λ (k : ℕ). breaks_efi b k) c.in-456.is ∙ each_here b))

pub returns-in-460 : goal.returns-in-460
returns-in-460 c =
    let b = c.args.bytes.now in
    rw (c.u32_in-in-460.ensures)
    (sym (ap (λ (k : ℕ). breaks_efi b k) c.in-460.is ∙ version_here b))

pub returns-in-464 : goal.returns-in-464
returns-in-464 c =
    let b = c.args.bytes.now in
    rw (c.has_memmap.ensures)
    (sym (ap (λ (k : ℕ). breaks_efi b k) c.in-464.is ∙ memmap_here b))

pub returns-in-468 : goal.returns-in-468
returns-in-468 c =
    let b = c.args.bytes.now in
    rw (c.has_memmap_size.ensures)
    (sym (ap (λ (k : ℕ). breaks_efi b k) c.in-468.is ∙ size_here b))

pub returns-in-472 : goal.returns-in-472
returns-in-472 c =
    let b = c.args.bytes.now in
    rw (c.has_systab.ensures)
    (sym (ap (λ (k : ℕ). breaks_efi b k) c.in-472.is ∙ systab_here b))

pub returns-in-476 : goal.returns-in-476
returns-in-476 c =
    let b = c.args.bytes.now in
    rw (c.u32_in-in-476.ensures)
    (sym (ap (λ (k : ℕ). breaks_efi b k) c.in-476.is ∙ memmap_hi_here b))

pub returns-in_default : goal.returns-in_default
returns-in_default c =
    sym
    (aside_is c.args.bytes.now c.args.at
    record {
      not_1C0 = omega arith;
      not_1C8 = omega arith;
      not_1CC = omega arith;
      not_1D0 = omega arith;
      not_1D4 = omega arith;
      not_1D8 = omega arith;
      not_1DC = omega arith;
    })
