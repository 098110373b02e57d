use Rattle.std.proofs.Common.{length}
use Rattle.ipx_table.proofs.parting.+part.Given as goal

abbrev pub decreases-part : goal.decreases-part
decreases-part g l = length l.offers.now
