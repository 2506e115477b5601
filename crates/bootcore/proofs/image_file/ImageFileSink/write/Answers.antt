-- The sink that takes the part holds what was taken so far, whether it stood before or was made
-- just now.
use Rattle.std.proofs.Common.{◌≡◌, refl}
use Rattle.bootcore.specs.ImageFileFacts.{sink_contents}
use Rattle.bootcore.proofs.image_file.ImageFileSink.write.Goals as goal
use Rattle.bootcore.proofs.image_file.ImageFileSink.write.Goals.{in-Some, in-None+in-Ok}

pub returns-clause-took : goal.returns-clause-took
returns-clause-took c =
    let taken : sink_contents c.self.inside.sink ≡ c.match-take.sink.contents =
    elim c.match-take.branch [
      | in-Some w ↦ rw (← c.take.ensures.value, w.in-Some.is, w.sink-is) refl
      | in-None+in-Ok w ↦ rw (← c.take.ensures.value, w.in-None.is, w.sink-is, w.new.ensures) refl
    ] in
    let before : c.args.self.now.contents ≡ c.match-take.sink.contents = cc in
    rw before c.write-taken.ensures.took

pub returns-clause-nothing : goal.returns-clause-nothing
returns-clause-nothing c =
    let taken : sink_contents c.self.inside.sink ≡ c.match-take.sink.contents =
    elim c.match-take.branch [
      | in-Some w ↦ rw (← c.take.ensures.value, w.in-Some.is, w.sink-is) refl
      | in-None+in-Ok w ↦ rw (← c.take.ensures.value, w.in-None.is, w.sink-is, w.new.ensures) refl
    ] in
    let before : c.args.self.now.contents ≡ c.match-take.sink.contents = cc in
    rw before c.write-taken.ensures.nothing
