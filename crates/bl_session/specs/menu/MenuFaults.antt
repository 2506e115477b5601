-- What refuses a menu. Own.
use Rattle.std.specs.Prelude.{ℕ, ◌<◌, ◌≤◌, List, length, All}
use Rattle.bl_plan.specs.MenuLimits.{max_entries}
use Rattle.bl_load.specs.declared.entry.Entry.{Entry}
use Rattle.bl_load.specs.EntryValue.{IsWithinLimits}
use Rattle.bl_session.specs.declared.menu.fault.MenuFault.{MenuFault}
use Rattle.bl_session.specs.declared.menu.fault.MenuFault.TheVariants.{BadIndex, TooMany, NoMemory}

-- few entries, each within its limits
abbrev pub AreWithinLimits : {A : Type 0} → List (Entry A) → Type 0
AreWithinLimits entries =
    (length entries ≤ max_entries) × All IsWithinLimits entries

-- each index names one of so many entries
abbrev pub AreEntryIndices : ℕ → ℕ → List ℕ → Type 0
AreEntryIndices count default fallbacks = (default < count) × All (λ index. index < count) fallbacks

-- the first fault of a menu, in the order of these lines; memory may run out if it has none
abbrev pub HasMenuFault : {A : Type 0} → List (Entry A) → ℕ → List ℕ → MenuFault → Type 0
HasMenuFault entries default fallbacks TooMany = ¬ AreWithinLimits entries
HasMenuFault entries default fallbacks BadIndex =
    AreWithinLimits entries × (¬ AreEntryIndices (length entries) default fallbacks)
HasMenuFault entries default fallbacks NoMemory =
    AreWithinLimits entries × AreEntryIndices (length entries) default fallbacks

-- the number of why there is no menu
abbrev pub menu_fault_number : MenuFault → ℕ
-- >>> tools/refusals: number cases of MenuFault
menu_fault_number BadIndex = 51
menu_fault_number TooMany = 52
menu_fault_number NoMemory = 53

-- <<<
