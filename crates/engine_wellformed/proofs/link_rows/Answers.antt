-- `link_rows` meets its contract: the rows below i are filled.
use Rattle.base.proofs.Lists.{length_mapped}
use Rattle.engine_wellformed.proofs.Read.{filling_read}
use Rattle.engine_wellformed.proofs.link_rows.Goals as goal

pub loop-i-preserved : goal.loop-i-preserved
loop-i-preserved c = search (filling_read, length_mapped)
