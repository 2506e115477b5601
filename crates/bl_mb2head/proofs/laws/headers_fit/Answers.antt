use Rattle.bl_mb2head.proofs.SegmentLaws.{header_segment_fits, header_entry_fits}
use Rattle.bl_mb2head.proofs.laws.headers_fit.Goals as goal

pub returns-clause-segment : goal.returns-clause-segment
returns-clause-segment c = header_segment_fits

pub returns-clause-entry : goal.returns-clause-entry
returns-clause-entry c = header_entry_fits
