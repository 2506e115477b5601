-- What an entry's files hold. Own.
use Rattle.std.specs.Prelude.{ℕ, List, map, slice_index_or}
use Rattle.bl_load.specs.EntryValue.{EntryValue}
use Rattle.bl_stage.specs.Files.{File, missing, file_bytes}
use Rattle.bl_session.specs.menu.Menu.{entry_at, value_with}
use Rattle.bl_session.specs.session.BootSteps.{BootFacts}

-- what an entry's files hold
abbrev pub texts_of : BootFacts → List File → ℕ → List (List ℕ)
texts_of facts files entry =
    map (λ file. file_bytes (slice_index_or files file missing)) (entry_at facts.menu entry).files

-- an entry's value
abbrev pub entry_value_in : BootFacts → List File → ℕ → EntryValue
entry_value_in facts files entry =
    value_with (entry_at facts.menu entry) (texts_of facts files entry)
