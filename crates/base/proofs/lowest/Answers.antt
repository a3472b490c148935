-- `lowest` meets its contract: the lowest number of the set with n as well is the one asked for.
use Rattle.base.proofs.Sets.{first_empty}
use Rattle.base.proofs.Zeros.{lowest_below, lowest_past}
use Rattle.base.proofs.lowest.Goals as goal

pub returns-then-m-eq0 : goal.returns-then-m-eq0
returns-then-m-eq0 c = first_empty _ _ c.if-m-eq0.true

pub returns-then-s-lt64 : goal.returns-then-s-lt64
returns-then-s-lt64 c = search lowest_below

pub returns-else-s-lt64 : goal.returns-else-s-lt64
returns-else-s-lt64 c = search lowest_past
