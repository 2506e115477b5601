-- A file that an image is written to. Own.
use Rattle.std.specs.Prelude.{ℕ, List, [], Option, Some, None}
use Rattle.bl_image.specs.SinkFacts.{IoSinkFacts}

-- what it took, and its faults so far
pub record ImageFileFacts : Type 0 where
  pub contents : List ℕ
  pub faults : ℕ

-- what a sink took that may not be there yet, and its faults
abbrev pub sink_contents : Option IoSinkFacts → List ℕ
sink_contents None = []
sink_contents (Some sink) = sink.contents

abbrev pub sink_faults : Option IoSinkFacts → ℕ
sink_faults None = 0
sink_faults (Some sink) = sink.faults
