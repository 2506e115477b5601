use Rattle.std.proofs.Common.{rules}
use Rattle.bl_image.proofs.io_sink.IoSinkSink.write.Goals as goal

pub returns-in-Ok-clause-some : goal.returns-in-Ok-clause-some
returns-in-Ok-clause-some g c = search rules
