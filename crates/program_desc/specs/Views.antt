-- What a description that was read has, and how a reader of its bytes answers. Own.
use Rattle.std.specs.Prelude.{◌≡◌, ◌<◌, ◌≤◌, length, All, Option, Some, None, Result, Ok, Err}
pub use Rattle.program_desc.specs.Described.{file_view, entry_view, view}
pub use Rattle.program_desc.specs.Entries.{module_view, form_view}
use Rattle.bl_plan.specs.MenuLimits.{max_entries}
use Rattle.program_desc.specs.declared.desc.Description.{Description}
use Rattle.program_desc.specs.declared.fault.DescFault.{DescFault}
use Rattle.program_desc.specs.declared.fault.DescFault.TheVariants.{BadDescription, NoMemory}

-- the default and each fallback names one of the entries, of which there are 1 to 32
abbrev pub HasMenu : {A : Type 0} → Description A → Type 0
HasMenu d =
    (1 ≤ length d.entries.items) × (length d.entries.items ≤ max_entries)
    × (d.default < length d.entries.items)
    × All (λ index. index < length d.entries.items) d.fallbacks.items

-- what a reader returned, seen by view, is what the definition gives, unless memory ran out
abbrev pub IsReaderFault : {Y : Type 0} → DescFault → Option Y → Type 0
IsReaderFault NoMemory read = Unit {0}
IsReaderFault BadDescription read = read ≡ None

abbrev pub AnswersAs : {X Y : Type 0} → (X → Y) → Result X DescFault → Option Y → Type 0
AnswersAs view (Ok x) read = read ≡ Some (view x)
AnswersAs view (Err e) read = IsReaderFault e read
