use Rattle.std.proofs.Common.{◌∙◌, ap}
use Rattle.c_records.specs.SegmentsTold.{segments_told}
use Rattle.c_records.proofs.SegmentLemmas.{told_of}
use Rattle.c_records.proofs.segment_telling.segments_told.Goals as goal

pub returns-clause-told : goal.returns-clause-told
returns-clause-told c r is = c.flat_segments.ensures ∙ ap segments_told is ∙ told_of r
