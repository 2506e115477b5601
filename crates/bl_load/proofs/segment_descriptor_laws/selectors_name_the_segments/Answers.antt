use Rattle.bl_load.proofs.SegmentLaws.{named}
use Rattle.bl_load.proofs.segment_descriptor_laws.selectors_name_the_segments.Goals as goal

pub returns : goal.returns
returns c = named
