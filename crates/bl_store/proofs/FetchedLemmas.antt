-- What a store over fetched files has at an index.
use Rattle.std.proofs.Common.{◌≡◌, List, ℕ, get_or}
use Rattle.std.proofs.Math.ListN.{get_or-map}
use Rattle.bl_stage.specs.declared.fetched.Fetched.{Fetched}
use Rattle.bl_stage.specs.declared.fetched.Fetched.TheVariants.{Missing}
use Rattle.bl_stage.specs.Files.{file_of, missing, stored_files}

pub stored_at : {A : Type 0} (files : List (Fetched A)) (i : ℕ)
    → get_or (stored_files files) i missing ≡ file_of (get_or files i Missing)
stored_at files i = get_or-map file_of files i Missing
