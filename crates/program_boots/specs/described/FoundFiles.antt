-- What is found for the names of files. Own.
use Rattle.std.specs.Prelude.{◌≡◌, ℕ, ◌++◌, List, [], ◌∷◌, is_none, MatchOption}
use Rattle.std.specs.List.{filter}
use Rattle.bl_stage.specs.Files.{File}
use Rattle.program_desc.specs.Described.{InlineFile, file_named}
use Rattle.program_boots.specs.described.Files.{answer_for, KeepsLimit, CountsFault}

-- with files of a type F: what they may answer for a name, and how many faults they had
module _ {F : Type 0} (answers : F → List ℕ → File → Type 0) (faults : F → ℕ) where
  -- the files answer so for a name: as they may, within the limit, and with one fault more exactly
  -- if it is missing
  pub record IsFetched (name : List ℕ) (before after : F) (answer : File) : Type 0 where
    pub told : answers before name answer
    pub limit : KeepsLimit answer
    pub counted : CountsFault (faults before) (faults after) answer

  -- if the description has a file of the name, it is that one, and the files are not asked: they
  -- are as they were; otherwise it is fetched
  abbrev pub IsFound : List InlineFile → List ℕ → F → F → File → Type 0
  IsFound inline name before after answer =
      MatchOption (file_named name inline)
      (IsFetched name before after answer)
      (λ file. (answer ≡ answer_for file) × (after ≡ before))

  -- what is found for names, one after the other; a file is asked for each time that it is named
  abbrev pub AreFound : List InlineFile → List (List ℕ) → F → F → List File → Type 0
  AreFound inline [] before after [] = after ≡ before
  AreFound inline [] before after (answer ∷ answers) = ⊥
  AreFound inline (name ∷ names) before after [] = ⊥
  AreFound inline (name ∷ names) before after (answer ∷ answers) =
      (between : F) × IsFound inline name before between answer
      × AreFound inline names between after answers

-- ---- what is asked for

-- of these names, those that the files are asked for: all but the description's own
abbrev pub names_to_ask : List InlineFile → List (List ℕ) → List (List ℕ)
names_to_ask inline names = filter (λ name. is_none (file_named name inline)) names

-- of these names the first ones, perhaps none, perhaps all, were asked for after those before
pub record AsksPrefix (names before after : List (List ℕ)) : Type 0 where
  pub first : List (List ℕ)
  pub left : List (List ℕ)
  pub names_are : names ≡ first ++ left
  pub after_is : after ≡ before ++ first
