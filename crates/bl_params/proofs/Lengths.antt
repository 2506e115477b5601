-- How long the parts are that a kernel is handed.
use Rattle.std.proofs.Common.{◌≡◌, ℕ, List, length, arith}
use Rattle.std.proofs.lemmas.List.{length-append, length-replicate}
use Rattle.std.proofs.lemmas.List.FromFn.{length-map-range_with_len}
use Rattle.bl_params.specs.BootParams.{boot_params, fields_of}
use Rattle.bl_params.specs.ParamsToWriteFacts.{ParamsToWriteFacts}
use Rattle.bl_params.specs.FieldBytes.{byte_of_fields}
use Rattle.bl_params.specs.Gdt.{gdt, gdt_part, zeros}

pub length-boot_params : (header : List ℕ) (facts : ParamsToWriteFacts)
    → length (boot_params header facts) ≡ 4096
unfolding boot_params
length-boot_params header facts =
    length-map-range_with_len (byte_of_fields (fields_of header facts)) 0 4096

pub length-zeros : (n : ℕ) → length (zeros n) ≡ n
unfolding zeros
length-zeros n = length-replicate n 0

pub length-gdt_part : length gdt_part ≡ 4096
length-gdt_part =
    let both = length-append gdt (zeros 4064) in let rest = length-zeros 4064 in omega arith
