-- What is booted of a description, and which files are looked for. Own.
use Rattle.std.specs.Prelude.{◌≡◌, ℕ, List, [], map, Option, Some, None, IsSome, All}
use Rattle.bl_map.specs.MachineFacts.{MachineFacts}
use Rattle.bl_load.specs.EntryValue.{EntryValue}
use Rattle.bl_stage.specs.Files.{File, size_of}
use Rattle.bl_session.specs.attempt.AttemptResult.{AttemptResult}
use Rattle.bl_session.specs.session.BootSteps.{BootFacts, State, sizes_of}
use Rattle.bl_session.specs.menu.EntryContents.{entry_value_in}
use Rattle.bl_session.specs.session.Schedules.{no_fault}
use Rattle.bl_session.specs.session.Outcome.{IsOutcome, EntryHasResult}
use Rattle.program_desc.specs.Described.{DescriptionFacts, described, file_named}
use Rattle.program_boots.specs.described.DescribedMenu.{attempted_file_names, menu_of}
use Rattle.program_boots.specs.described.DescribedMachine.{IsMachineOf}
use Rattle.program_boots.specs.described.FoundFiles.{AreFound, names_to_ask}

-- what does not change in the boot of a description's menu on a machine of these facts, with these
-- files for the names
abbrev pub boot_of : DescriptionFacts → MachineFacts → List File → BootFacts
boot_of description facts files = record {
  machine = facts;
  menu = menu_of description;
  sizes = map size_of files;
}

-- with files of a type F: what they may answer for a name, and how many faults they had
module _ {F : Type 0} (answers : F → List ℕ → File → Type 0) (faults : F → ℕ) where
  -- what is booted: the description that the bytes are, the facts of its machine, and what was
  -- found for the names of the files of the entries that are attempted
  pub record BootCase (desc : List ℕ) (before after : F) : Type 0 where
    pub description : DescriptionFacts
    pub facts : MachineFacts
    pub files : List File
    pub is_described : described desc ≡ Some description
    pub machine : IsMachineOf description facts
    pub found : AreFound answers faults description.files (attempted_file_names description)
        before after
        files

  -- it comes to this: the first entry that is not refused, with the refusals before it, or none
  abbrev pub HasOutcome : {desc : List ℕ} {before after : F} → BootCase desc before after → State
      → Type 0
  HasOutcome case state =
      IsOutcome (boot_of case.description case.facts case.files) case.files
      no_fault state

-- the bytes describe a menu; each file of the entries that are attempted stands in the description
pub record HasInlineFiles (desc : List ℕ) : Type 0 where
  pub description : DescriptionFacts
  pub is_described : described desc ≡ Some description
  pub inline : All (λ name. IsSome (file_named name description.files))
      (attempted_file_names description)

-- the names that are looked for in a description; none if there is no description
abbrev pub names_sought : Option DescriptionFacts → List (List ℕ)
names_sought None = []
names_sought (Some description) = attempted_file_names description

-- those of them that no file of the description has, which are asked for
abbrev pub names_fetched : Option DescriptionFacts → List (List ℕ)
names_fetched None = []
names_fetched (Some description) = names_to_ask description.files (attempted_file_names description)

-- the value of an entry of a menu, by its index
abbrev pub entry_value_at : {F : Type 0} {answers : F → List ℕ → File → Type 0} {faults : F → ℕ}
    {desc : List ℕ} {before after : F}
    → BootCase answers faults desc before after → ℕ → EntryValue
entry_value_at case entry =
    entry_value_in (boot_of case.description case.facts case.files) case.files entry

-- the sizes of its files
abbrev pub file_sizes_at : {F : Type 0} {answers : F → List ℕ → File → Type 0} {faults : F → ℕ}
    {desc : List ℕ} {before after : F}
    → BootCase answers faults desc before after → ℕ → List (Option ℕ)
file_sizes_at case entry = sizes_of (boot_of case.description case.facts case.files) entry

-- the result of its attempt
abbrev pub HasResultAt : {F : Type 0} {answers : F → List ℕ → File → Type 0} {faults : F → ℕ}
    {desc : List ℕ} {before after : F}
    → BootCase answers faults desc before after → ℕ → AttemptResult → Type 0
HasResultAt case entry result =
    EntryHasResult (boot_of case.description case.facts case.files) case.files None
    entry result
