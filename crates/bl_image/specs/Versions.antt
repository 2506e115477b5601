-- The versions of the format. Own.
use Rattle.std.specs.Prelude.{◌≡◌, ℕ, ◌==◌, if◌then◌else◌, false}
use Rattle.bl_plan.specs.declared.protocol.Protocol.{Protocol}
use Rattle.bl_load.specs.Protocols.{is_wide}
use Rattle.bl_image.specs.declared.version.Version.{Version}
use Rattle.bl_image.specs.declared.version.Version.TheVariants.{One, Two}

abbrev pub version_number : Version → ℕ
version_number One = 1
version_number Two = 2

-- the greatest number of a protocol of a version
abbrev pub max_protocol : ℕ → ℕ
max_protocol version = if version == 1 then 2 else 3

-- version 1 has no protocol that enters with 64 bits
abbrev pub HasProtocol : Version → Protocol → Type 0
HasProtocol One protocol = is_wide protocol ≡ false
HasProtocol Two protocol = Unit {0}

-- the one that is written
abbrev pub written_version : Version
written_version = Two
