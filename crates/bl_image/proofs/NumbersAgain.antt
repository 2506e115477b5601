-- The numbers of a version, of a role and of a protocol are of one of these alone.
use Rattle.std.proofs.Common.{◌≡◌, ◌<◌, ◌^◌, ℕ, [], ◌∷◌, get_or, refl, sym, ap, ◌∙◌, lit<}
use Rattle.std.specs.Prelude.{nat_le, ◌&&◌, Bool, true, false}
use Rattle.bl_plan.specs.declared.part.Role.{Role}
use Rattle.bl_plan.specs.declared.part.Role.TheVariants.{Kernel, Module, Information, BootParams}
use Rattle.bl_plan.specs.declared.part.Role.TheVariants.{CommandLine, Gdt, Initrd, PageTables}
use Rattle.bl_plan.specs.RoleNumbers as roles
use Rattle.bl_plan.specs.declared.protocol.Protocol.{Protocol}
use Rattle.bl_plan.specs.declared.protocol.Protocol.TheVariants.{Multiboot2, Linux, Linux64}
use Rattle.bl_load.specs.HandoffFacts.{IsRoleAllowed}
use Rattle.bl_plan.specs.Protocols as protocols
use Rattle.bl_image.specs.Layouts.{max_role}
use Rattle.bl_image.specs.declared.version.Version.{Version}
use Rattle.bl_image.specs.declared.version.Version.TheVariants.{One, Two}
use Rattle.bl_image.specs.Versions.{version_number, max_protocol, HasProtocol}

-- the role of its number
role_of : ℕ → Role
role_of n =
    get_or
    (Kernel ∷ Kernel ∷ Module ∷ Information ∷ BootParams ∷ CommandLine ∷ Gdt ∷ Initrd ∷ PageTables
    ∷ []) n Kernel

role_again : (r : Role) → r ≡ role_of (roles.role_number r)
unfolding role_of
role_again Kernel = refl
role_again Module = refl
role_again Information = refl
role_again BootParams = refl
role_again CommandLine = refl
role_again Gdt = refl
role_again Initrd = refl
role_again PageTables = refl

-- a role that may stand in an image is one of its numbers
pub role_between : (wide : Bool) (r : Role) → IsRoleAllowed wide r
    → nat_le 1 (roles.role_number r) && nat_le (roles.role_number r) (max_role wide) ≡ true
role_between true Kernel may = refl
role_between true Module may = refl
role_between true Information may = refl
role_between true BootParams may = refl
role_between true CommandLine may = refl
role_between true Gdt may = refl
role_between true Initrd may = refl
role_between true PageTables may = refl
role_between false Kernel may = refl
role_between false Module may = refl
role_between false Information may = refl
role_between false BootParams may = refl
role_between false CommandLine may = refl
role_between false Gdt may = refl
role_between false Initrd may = refl
role_between false PageTables may = cc

pub role_fits : (r : Role) → roles.role_number r < 2 ^ 32
role_fits Kernel = lit< tt
role_fits Module = lit< tt
role_fits Information = lit< tt
role_fits BootParams = lit< tt
role_fits CommandLine = lit< tt
role_fits Gdt = lit< tt
role_fits Initrd = lit< tt
role_fits PageTables = lit< tt

pub role_same : (r s : Role) → roles.role_number r ≡ roles.role_number s → r ≡ s
role_same r s e = role_again r ∙ ap role_of e ∙ sym (role_again s)

protocol_of : ℕ → Protocol
protocol_of n = get_or (Multiboot2 ∷ Multiboot2 ∷ Linux ∷ Linux64 ∷ []) n Multiboot2

protocol_again : (p : Protocol) → p ≡ protocol_of (protocols.protocol_number p)
unfolding protocol_of
protocol_again Multiboot2 = refl
protocol_again Linux = refl
protocol_again Linux64 = refl

pub protocol_fits : (p : Protocol) → protocols.protocol_number p < 2 ^ 32
protocol_fits Multiboot2 = lit< tt
protocol_fits Linux = lit< tt
protocol_fits Linux64 = lit< tt

-- a protocol that a version has is one of the version's numbers
pub protocol_between : (v : Version) (p : Protocol) → HasProtocol v p
    → nat_le 1 (protocols.protocol_number p)
    && nat_le (protocols.protocol_number p) (max_protocol (version_number v))
    ≡ true
protocol_between One Multiboot2 has = refl
protocol_between One Linux has = refl
protocol_between One Linux64 has = cc
protocol_between Two Multiboot2 has = refl
protocol_between Two Linux has = refl
protocol_between Two Linux64 has = refl

pub version_fits : (v : Version) → version_number v < 2 ^ 32
version_fits One = lit< tt
version_fits Two = lit< tt

pub version_between : (v : Version)
    → nat_le 1 (version_number v) && nat_le (version_number v) 2 ≡ true
version_between One = refl
version_between Two = refl

version_of : ℕ → Version
version_of n = get_or (One ∷ One ∷ Two ∷ []) n One

version_again : (v : Version) → v ≡ version_of (version_number v)
unfolding version_of
version_again One = refl
version_again Two = refl

pub version_same : (v w : Version) → version_number v ≡ version_number w → v ≡ w
version_same v w e = version_again v ∙ ap version_of e ∙ sym (version_again w)

pub protocol_same : (p q : Protocol) → protocols.protocol_number p ≡ protocols.protocol_number q
    → p ≡ q
protocol_same p q e = protocol_again p ∙ ap protocol_of e ∙ sym (protocol_again q)
