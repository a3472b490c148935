-- `Table::empty` meets its contract: an array of default settings.
use Rattle.service.proofs.Table.empty.Goals as goal

pub returns : goal.returns
returns c = rw c.default-v.ensures
