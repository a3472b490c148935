-- `is_table` meets its contract: it is the test of its encoding.
use Rattle.plain_encoding.specs.Encoding.{all_stand}
use Rattle.plain_encoding.specs.Meaning.{is_table, is_settings}
use Rattle.plain_encoding.proofs.meaning.is_table.Goals as goal

pub returns : goal.returns
unfolding all_stand is_table is_settings
returns c = c.stands_for.ensures
