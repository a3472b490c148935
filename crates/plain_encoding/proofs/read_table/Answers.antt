-- `read_table` meets its contract: the first number, and the values of all places.
use Rattle.service.specs.Settings.{default_settings}
use Rattle.plain_encoding.specs.Encoding.{all_read}
use Rattle.plain_encoding.specs.Numbers.{table_of}
use Rattle.plain_encoding.proofs.read_table.Goals as goal

pub returns : goal.returns
unfolding all_read table_of
returns c = rw (c.read_places.ensures default_settings)
