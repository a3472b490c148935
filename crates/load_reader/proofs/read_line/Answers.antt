-- `read_line` meets its contract: the places of a line's opening are within it.
use native.Mathlib.Omega.{arith}
use Rattle.load_reader.proofs.Properties.{opened, opening_fits, told_ok}
use Rattle.load_reader.proofs.read_line.Goals as goal

pub told_from-requires : goal.told_from-requires
told_from-requires c = opening_fits _ c.args.line.now (omega arith) c.opening_of.ensures

pub read_property-requires : goal.read_property-requires
read_property-requires c =
    let t = told_ok _ c.opening_of.result c.in_ok-s.ensures in
    (c.requires, opened c.args.line.now {s = c.in-Some.s} (cc))
