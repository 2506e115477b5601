-- A Linux entry's rows, as the code tells them, are rows.
use Rattle.std.proofs.Common.{◌^◌, ℕ, List, [], ◌∷◌, length, arith, All}
use Rattle.std.specs.Prelude.{min, max}
use Rattle.std.proofs.lemmas.List.Elements.{All-nil, All-cons, All-append}
use Rattle.bl_bzimage.specs.declared.setup.Setup.{Setup}
use Rattle.bl_bzimage.specs.Setup.{IsSetup}
use Rattle.bl_plan.specs.Placed.{IsWellFormedRow}
use Rattle.bl_plan.specs.declared.protocol.Protocol.{Protocol}
use Rattle.bl_load.specs.LinuxRows.{front_rows}
use Rattle.bl_load.specs.internal.Placing.{capped_initrd_row, capped_initrd_rows, capped_linux_rows}
use Rattle.bl_load.proofs.LinuxLemmas.{front_rows_are_rows}
use Rattle.bl_load.proofs.RowLemmas.{some_frames}

-- ---- as the code tells them, they are rows

told_initrd_rows_are : (setup : Setup) (initrd : List ℕ) → All IsWellFormedRow (capped_initrd_rows setup initrd)
told_initrd_rows_are setup [] = All-nil IsWellFormedRow
told_initrd_rows_are setup (byte ∷ bytes) =
    let size = length (byte ∷ bytes) in
    let frames = some_frames (max (min size (2 ^ 40)) 1) (omega arith) in
    All-cons IsWellFormedRow (capped_initrd_row setup size) []
    (record { filled = omega arith; choice = omega arith }) (All-nil IsWellFormedRow)

pub told_linux_rows_are : (protocol : Protocol) (file : List ℕ) (setup : Setup) (initrd : List ℕ)
    → IsSetup file setup → All IsWellFormedRow (capped_linux_rows protocol setup initrd)
told_linux_rows_are protocol file setup initrd is =
    All-append IsWellFormedRow (front_rows protocol setup) (capped_initrd_rows setup initrd)
    (front_rows_are_rows protocol file setup is) (told_initrd_rows_are setup initrd)
