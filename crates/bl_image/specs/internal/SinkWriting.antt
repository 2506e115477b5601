-- What a helper that writes leaves of a sink. Own.
use Rattle.std.specs.Prelude.{◌≡◌, ◌+◌, ℕ, List, ◌++◌, Result, OnOk, OnErr}
use Rattle.bl_image.specs.SinkFacts.{TookBeginning}

-- all of these bytes were taken, with no fault; or a beginning of them, and then the sink had one
-- fault more
pub record Writes {S T E : Type 0} (contents_in : S → List ℕ) (faults_in : S → ℕ) (old new : S)
    (whole : List ℕ) (result : Result T E) : Type 0 where
  pub ok : OnOk result (contents_in new ≡ contents_in old ++ whole)
  pub sound : OnOk result (faults_in new ≡ faults_in old)
  pub begun : OnErr result (TookBeginning (contents_in old) (contents_in new) whole)
  pub fault : OnErr result (faults_in new ≡ faults_in old + 1)
