-- What the code keeps of files that are looked for. Own.
use Rattle.std.specs.Prelude.{◌≡◌, ℕ, ◌+◌, ◌≤◌, ◌++◌, List, [], ◌∷◌, IsSome, length}
use Rattle.std.specs.Prelude.{Result, Ok, Err}
use Rattle.bl_stage.specs.Files.{File}
use Rattle.program_desc.specs.Described.{InlineFile, described, file_named}
use Rattle.program_boots.specs.described.BootCases.{HasInlineFiles, names_sought}
use Rattle.program_boots.specs.described.BootCases.{names_fetched}
use Rattle.program_boots.specs.described.DescribedMenu.{max_names}
use Rattle.program_boots.specs.described.FoundFiles.{AsksPrefix, names_to_ask}
use Rattle.program_commands.specs.declared.boot_end.End.{End}
use Rattle.program_commands.specs.declared.boot_end.EndFault.{EndFault}
use Rattle.program_commands.specs.declared.boot_end.EndFault.TheVariants.{BadDescription}
use Rattle.program_commands.specs.declared.boot_end.EndFault.TheVariants.{Device, NoMemory}

-- these names were asked for where the boot came to an end, or the sink had a fault; else the first
-- of them
abbrev pub HasAsked : (names before after : List (List ℕ)) → Result End EndFault → Type 0
HasAsked names before after (Ok ended) = after ≡ before ++ names
HasAsked names before after (Err Device) = after ≡ before ++ names
HasAsked names before after (Err BadDescription) = AsksPrefix names before after
HasAsked names before after (Err NoMemory) = AsksPrefix names before after

-- with files of a type F: what they may answer for a name, how many faults they had, and the names
-- that they were asked for
module _ {F : Type 0} (answers : F → List ℕ → File → Type 0) (faults : F → ℕ)
    (names_asked : F → List (List ℕ)) where
  -- a name was looked for, first among the files of a description: it was asked for if it is none
  -- of theirs; the files answer as before, and it was missing once at most
  pub record SeeksName (files : List InlineFile) (name : List ℕ) (before after : F) : Type 0 where
    pub asked : names_asked after ≡ names_asked before ++ names_to_ask files (name ∷ [])
    pub inline : IsSome (file_named name files) → after ≡ before
    pub same : (file : List ℕ) (answer : File) → answers after file answer
        → answers before file answer
    pub missing : (faults before ≤ faults after) × (faults after ≤ faults before + 1)

  -- the names of a description were looked for in a boot that ends so: where its files stand in it,
  -- nothing was asked for; the files answer as before, and each name, of which there are few, was
  -- missing once at most
  pub record SeeksNamesOf (desc : List ℕ) (before after : F) (ended : Result End EndFault)
      : Type 0 where
    pub asked : HasAsked (names_fetched (described desc)) (names_asked before) (names_asked after)
        ended
    pub inline : HasInlineFiles desc → after ≡ before
    pub same_files : (file : List ℕ) (answer : File) → answers after file answer
        → answers before file answer
    pub missing : (faults before ≤ faults after)
        × (faults after ≤ faults before + length (names_sought (described desc)))
    pub few : faults after ≤ faults before + max_names
