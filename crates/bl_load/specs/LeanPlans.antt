-- Plans that hold none of the files' bytes but a Linux kernel's setup header. Own.
use Rattle.std.specs.Prelude.{List, All}
use Rattle.bl_plan.specs.declared.part.Role.{Role}
use Rattle.bl_plan.specs.declared.part.Role.TheVariants as role
use Rattle.bl_load.specs.declared.plan.Content.{Content}
use Rattle.bl_load.specs.declared.plan.Content.TheVariants.{Own, File, Block}
use Rattle.bl_load.specs.declared.plan.PlannedPart.{PlannedPart}
use Rattle.bl_load.specs.Origins.{Origin, made, file_range, file_block, PartOrigin}

-- what a part of this role holds is made by the loader: no file's bytes, but in boot parameters the
-- setup header of the kernel's file
abbrev pub IsMade : Role → Type 0
IsMade role.Kernel = ⊥
IsMade role.Module = ⊥
IsMade role.Information = Unit {0}
IsMade role.BootParams = Unit {0}
IsMade role.CommandLine = Unit {0}
IsMade role.Gdt = Unit {0}
IsMade role.Initrd = ⊥
IsMade role.PageTables = Unit {0}

-- a content's bytes stay in the files until it is loaded; only what the loader makes has bytes of
-- its own
abbrev pub IsLeanContent : {A : Type 0} → Role → Content A → Type 0
IsLeanContent r (Own bytes) = IsMade r
IsLeanContent r (File file offset count) = Unit {0}
IsLeanContent r (Block file segments) = Unit {0}

-- a plan holds none of the files' bytes but a Linux kernel's setup header, which has at most 0x9F
-- bytes, so it takes no memory in proportion to what a header claims
abbrev pub IsLean : {A : Type 0} → List (PlannedPart A) → Type 0
IsLean parts = All (λ part. IsLeanContent part.place.role part.content) parts

-- the same of where a part's bytes come from
abbrev pub IsLeanOrigin : Role → Origin → Type 0
IsLeanOrigin r (made bytes) = IsMade r
IsLeanOrigin r (file_range file offset count) = Unit {0}
IsLeanOrigin r (file_block file segments) = Unit {0}

abbrev pub AreLeanOrigins : List PartOrigin → Type 0
AreLeanOrigins parts = All (λ part. IsLeanOrigin part.place.role part.origin) parts
