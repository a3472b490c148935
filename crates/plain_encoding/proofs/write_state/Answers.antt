-- `write_state` meets its contract: what stands in front is put, and then the numbers of all places.
use Rattle.service.specs.Records.{fresh_record, record_at}
use Rattle.plain_encoding.specs.Encoding.{all_written}
use Rattle.plain_encoding.specs.Numbers.{state_numbers}
use Rattle.plain_encoding.proofs.write_state.Goals as goal

pub returns : goal.returns
unfolding all_written state_numbers record_at
returns c = c.write_places.ensures fresh_record
