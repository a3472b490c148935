-- `is_state` meets its contract: it is the test of its encoding.
use Rattle.plain_encoding.specs.Encoding.{all_stand}
use Rattle.plain_encoding.specs.Meaning.{is_state, is_record}
use Rattle.plain_encoding.proofs.meaning.is_state.Goals as goal

pub returns : goal.returns
unfolding all_stand is_state is_record
returns c = c.stands_for.ensures
