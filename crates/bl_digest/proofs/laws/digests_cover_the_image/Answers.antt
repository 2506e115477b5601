use Rattle.bl_digest.proofs.TableLemmas.{table_of}
use Rattle.bl_digest.proofs.laws.digests_cover_the_image.Goals as goal

pub returns-clause-covered : goal.returns-clause-covered
returns-clause-covered c = table_of
