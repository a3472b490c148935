-- `read_state` meets its contract: the first number, and the values of all places.
use Rattle.service.specs.Records.{fresh_record}
use Rattle.plain_encoding.specs.Encoding.{all_read}
use Rattle.plain_encoding.specs.Numbers.{state_of}
use Rattle.plain_encoding.proofs.read_state.Goals as goal

pub returns : goal.returns
unfolding all_read state_of
returns c = rw (c.read_places.ensures fresh_record)
