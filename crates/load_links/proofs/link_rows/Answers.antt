-- `link_rows` meets its contract: the rows below i are filled.
use native.Mathlib.Omega.{arith}
use mathlib.Core.Path.{refl}
use Rattle.base.proofs.Filled.{filling_none, filling_all}
use Rattle.load_links.proofs.Cycles.{rows_more}
use Rattle.load_links.proofs.link_rows.Goals as goal

pub loop-i-init : goal.loop-i-init
loop-i-init c = filling_none c.requires refl

pub loop-i-preserved : goal.loop-i-preserved
loop-i-preserved c = rows_more _ _ c.loop-i.invariant c.loop-i-test.true (omega (arith, c.told-services, c.requires)) c.all_links.ensures

pub returns : goal.returns
returns c = search filling_all
