-- What the records of C stand for. A number that stands for nothing is given a meaning too, so that
-- each of these is a function; a call that meets one answers a misuse (`Misuse`). Own.
use Rattle.std.specs.Prelude.{ℕ, ◌==◌, if◌then◌else◌, List, [], ◌∷◌, length, map}
use Rattle.std.specs.Prelude.{Option, Some, None, unwrap_or}
use Rattle.bl_map.specs.declared.region.Region.{Region}
use Rattle.bl_map.specs.declared.kind.Kind.TheVariants.{Reserved}
use Rattle.bl_map.specs.Kinds.{kind_of}
use Rattle.bl_plan.specs.Protocols.{of_linux}
use Rattle.bl_load.specs.EntryValue.{EntryValue, multiboot2_value, linux_value}
use Rattle.c_records.specs.declared.given_records.RegionRecord.{RegionRecord}
use Rattle.c_records.specs.declared.given_records.FileRecord.{FileRecord}
use Rattle.c_records.specs.declared.given_records.EntryRecord.{EntryRecord}

-- ---- files

-- an initial ramdisk, if there is one
abbrev pub initrd_given : EntryRecord → List FileRecord
initrd_given entry = if entry.has_initrd == 0 then [] else entry.initrd ∷ []

-- the files beside the kernel: those of its modules, or its initial ramdisk
abbrev pub files_beside : EntryRecord → List FileRecord
files_beside entry =
    if entry.protocol == 1
    then map (λ m. m.file) entry.modules.now
    else initrd_given entry

-- its files in order, the kernel first
abbrev pub files_given : EntryRecord → List FileRecord
files_given entry = entry.kernel ∷ files_beside entry

-- their bytes
abbrev pub texts_given : EntryRecord → List (List ℕ)
texts_given entry = map (λ file. file.bytes.now) (files_given entry)

-- the lengths that are told of those beside the kernel
abbrev pub lengths_beside : EntryRecord → List ℕ
lengths_beside entry = map (λ file. file.length) (files_beside entry)

-- ---- entries

-- a copy without bytes is none
abbrev pub copy_given : List ℕ → Option (List ℕ)
copy_given copy = if length copy == 0 then None else Some copy

-- the value of an entry of protocol 1, with no files yet
abbrev pub multiboot2_without_files : EntryRecord → EntryValue
multiboot2_without_files entry =
    multiboot2_value [] entry.line.now (map (λ m. m.line.now) entry.modules.now)
    (copy_given entry.rsdp_old.now) (copy_given entry.rsdp_new.now)

-- that of an entry of another protocol: the Linux boot protocol, by its 64-bit entry if it is 3
abbrev pub linux_without_files : EntryRecord → EntryValue
linux_without_files entry = linux_value (of_linux (entry.protocol == 3)) [] entry.line.now

-- the value of an entry with no files yet
abbrev pub entry_without_files : EntryRecord → EntryValue
entry_without_files entry =
    if entry.protocol == 1 then multiboot2_without_files entry else linux_without_files entry

-- its value where its files hold these texts
abbrev pub value_with : EntryRecord → List (List ℕ) → EntryValue
value_with entry texts = record (entry_without_files entry) { files = texts }

-- its value with the files' bytes that are given
abbrev pub value_given : EntryRecord → EntryValue
value_given entry = value_with entry (texts_given entry)

-- ---- regions

-- a region; a number that is no kind's is taken for a reserved one's
abbrev pub region_given : RegionRecord → Region
region_given region = record {
  base = region.base;
  length = region.length;
  kind = unwrap_or (kind_of region.kind) Reserved;
}
