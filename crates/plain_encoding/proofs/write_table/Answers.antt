-- `write_table` meets its contract: what stands in front is put, and then the numbers of all places.
use Rattle.service.specs.Settings.{default_settings, settings_at}
use Rattle.plain_encoding.specs.Encoding.{all_written}
use Rattle.plain_encoding.specs.Numbers.{table_numbers}
use Rattle.plain_encoding.proofs.write_table.Goals as goal

pub returns : goal.returns
unfolding all_written table_numbers settings_at
returns c = c.write_places.ensures default_settings
