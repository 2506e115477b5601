use Rattle.std.proofs.Common.{rules}
use Rattle.bootcore_c.proofs.digests.bootcore_digest_feed_array.Goals as goal

pub returns-in-Some : goal.returns-in-Some
returns-in-Some c = search rules
