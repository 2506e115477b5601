-- The menu that the entries of C make, its files, and why there is none. Own.
use Rattle.std.specs.Prelude.{◌≡◌, ℕ, suc, ◌+◌, ◌-◌, ◌^◌, ◌==◌, ◌<◌, ◌≤◌, Bool, true, false, All}
use Rattle.std.specs.Prelude.{List, [], ◌∷◌, length, None, Some}
use Rattle.std.specs.List.{flat_map}
use Rattle.bl_plan.specs.MenuLimits.{max_entries}
use Rattle.bl_load.specs.EntryValue.{HasLimits}
use Rattle.bl_session.specs.menu.AttemptOrder.{attempt_order}
use Rattle.bl_session.specs.menu.Menu.{EntryFacts, MenuFacts}
use Rattle.bl_session.specs.menu.MenuFaults.{AreEntryIndices}
use Rattle.c_records.specs.declared.given_records.FileRecord.{FileRecord}
use Rattle.c_records.specs.declared.given_records.EntryRecord.{EntryRecord}
use Rattle.c_records.specs.declared.misuse.Misuse.{Misuse}
use Rattle.c_records.specs.declared.misuse.Misuse.TheVariants.{TooManyEntries, TooManyModules}
use Rattle.c_records.specs.declared.misuse.Misuse.TheVariants.{LongRsdp, BadIndex}
use Rattle.c_records.specs.declared.given_fault.GivenFault.{GivenFault}
use Rattle.c_records.specs.declared.given_fault.GivenFault.TheVariants.{Misused, NoMemory}
use Rattle.c_records.specs.Given.{files_given, entry_without_files}
use Rattle.c_records.specs.GivenChecks.{entries_misuse, have_few_modules}

-- ---- its files

-- those of each entry in order, one entry's after the other's
abbrev pub menu_files : List EntryRecord → List FileRecord
menu_files entries = flat_map files_given entries

-- a file of length 2^64 - 1 can't be read
abbrev pub is_unreadable : FileRecord → Bool
is_unreadable file = file.length == 2 ^ 64 - 1

-- ---- the menu

-- the numbers from a first one on, one for each element
abbrev pub numbered : {X : Type 0} → ℕ → List X → List ℕ
numbered first [] = []
numbered first (x ∷ xs) = first ∷ numbered (suc first) xs

-- an entry whose files come after so many of the menu's
abbrev pub entry_facts_given : ℕ → EntryRecord → EntryFacts
entry_facts_given before entry = record {
  files = numbered before (files_given entry);
  blank = entry_without_files entry;
}

-- entries whose files come after so many
abbrev pub entries_facts : ℕ → List EntryRecord → List EntryFacts
entries_facts before [] = []
entries_facts before (entry ∷ entries) =
    entry_facts_given before entry ∷ entries_facts (before + length (files_given entry)) entries

-- the menu of these entries, whose first attempt and fallbacks are these
abbrev pub menu_given : List EntryRecord → ℕ → List ℕ → MenuFacts
menu_given entries default fallbacks = record {
  entries = entries_facts 0 entries;
  attempts = attempt_order default fallbacks;
}

-- ---- what may not be given

-- few entries, each within its limits
abbrev pub AreFewGiven : List EntryRecord → Type 0
AreFewGiven entries =
    (length entries ≤ max_entries) × All (λ entry. HasLimits (entry_without_files entry)) entries

-- the menu may be given: no entry has a misuse, they are few, and each index names one
pub record IsMenuAllowed (entries : List EntryRecord) (default : ℕ) (fallbacks : List ℕ) : Type 0
  where
    pub sound : entries_misuse entries ≡ None
    pub few : AreFewGiven entries
    pub named : AreEntryIndices (length entries) default fallbacks

-- entries without a misuse of their own make no menu: the first of these, too many entries, one
-- with too many modules, one with a copy of an RSDP that is too long, an index that names none;
-- memory may run out
pub data IsNoMenu (entries : List EntryRecord) (default : ℕ) (fallbacks : List ℕ) :
    GivenFault → Type 0 where
  are_many : max_entries < length entries
      → IsNoMenu entries default fallbacks (Misused TooManyEntries)
  has_many_modules : length entries ≤ max_entries → have_few_modules entries ≡ false
      → IsNoMenu entries default fallbacks (Misused TooManyModules)
  has_long_rsdp : length entries ≤ max_entries → have_few_modules entries ≡ true
      → ¬ AreFewGiven entries → IsNoMenu entries default fallbacks (Misused LongRsdp)
  names_none : AreFewGiven entries → ¬ AreEntryIndices (length entries) default fallbacks
      → IsNoMenu entries default fallbacks (Misused BadIndex)
  is_short : IsNoMenu entries default fallbacks NoMemory

-- why there is no menu: the first misuse of its entries, or else why these make none
pub data IsMenuFault (entries : List EntryRecord) (default : ℕ) (fallbacks : List ℕ) :
    GivenFault → Type 0 where
  misused : (misuse : Misuse) → entries_misuse entries ≡ Some misuse
      → IsMenuFault entries default fallbacks (Misused misuse)
  no_menu : entries_misuse entries ≡ None → (fault : GivenFault)
      → IsNoMenu entries default fallbacks fault
      → IsMenuFault entries default fallbacks fault
