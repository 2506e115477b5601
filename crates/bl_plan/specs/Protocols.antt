-- The numbers and the names of protocols. Own.
use Rattle.std.specs.Prelude.{ℕ, Bool, true, false, if◌then◌else◌, ◌==◌, List, [], ◌∷◌, Option}
use Rattle.std.specs.Prelude.{Some, None, codes}
use Rattle.std.specs.List.{find}
use Rattle.std.specs.Str.{bytes_eq}
use Rattle.bl_plan.specs.declared.protocol.Protocol.{Protocol}
use Rattle.bl_plan.specs.declared.protocol.Protocol.TheVariants.{Multiboot2, Linux, Linux64}

abbrev pub protocol_number : Protocol → ℕ
protocol_number Multiboot2 = 1
protocol_number Linux = 2
protocol_number Linux64 = 3

-- the protocol of a number
unfoldable pub protocol_numbered : ℕ → Option Protocol
protocol_numbered n =
    if n == 1 then Some Multiboot2 else
    if n == 2 then Some Linux else
    if n == 3 then Some Linux64 else None

abbrev pub protocol_name : Protocol → List ℕ
protocol_name Multiboot2 = codes "multiboot2"
protocol_name Linux = codes "linux"
protocol_name Linux64 = codes "linux64"

-- the protocol of a name
abbrev pub protocol_named : List ℕ → Option Protocol
protocol_named name =
    find (λ protocol. bytes_eq name (protocol_name protocol)) (Multiboot2 ∷ Linux ∷ Linux64 ∷ [])

-- the one of a Linux entry: a wide one is entered with 64 bits
abbrev pub of_linux : Bool → Protocol
of_linux false = Linux
of_linux true = Linux64
