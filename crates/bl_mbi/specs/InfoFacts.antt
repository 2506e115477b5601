-- What boot information says to its reader: the facts, and the loader's name too.
use Rattle.std.specs.Prelude.{◌≡◌, ◌<◌, ◌^◌, ℕ, List, length}
use Rattle.bl_mbi.specs.InfoToWriteFacts.{InfoToWriteFacts, IsText, FitsInfoFields}
use Rattle.bl_mbi.specs.Spelling.{info_spelling}

pub record InfoFacts : Type 0 where
  pub name : List ℕ
  pub facts : InfoToWriteFacts

-- these bytes spell it: its name is a text, its facts fit their fields, and total_size, a u32,
-- counts all of them
pub record IsSpelling (bytes : List ℕ) (info : InfoFacts) : Type 0 where
  pub short : length bytes < 2 ^ 32
  pub exact : bytes ≡ info_spelling info.name info.facts
  pub name : IsText info.name
  pub facts : FitsInfoFields info.facts
