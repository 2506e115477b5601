-- How many files a menu names. Own.
use Rattle.std.specs.Prelude.{ℕ, ◌+◌, max, List, [], ◌∷◌}
use Rattle.bl_session.specs.menu.Menu.{EntryFacts}

-- the greatest of these indices plus 1, or 0 if there is none
abbrev pub index_bound : List ℕ → ℕ
index_bound [] = 0
index_bound (index ∷ indices) = max (index + 1) (index_bound indices)

-- how many files entries name, up to the greatest index
abbrev pub named_file_count : List EntryFacts → ℕ
named_file_count [] = 0
named_file_count (entry ∷ entries) = max (index_bound entry.files) (named_file_count entries)
