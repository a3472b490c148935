-- `settings_of` meets its contract: three numbers are stored, and what is read back of the others is what they were.
use Rattle.service.specs.Numbers.{settings_from}
use Rattle.service.proofs.Numbering.{flag_back, kind_back, signal_back}
use Rattle.load_links.proofs.settings_of.Goals as goal

pub returns : goal.returns
unfolding settings_from
returns c =
    let v = c.args.d.now.settings in
    simp ((kind_back v.kind).0, (signal_back v.signal).0, flag_back v.restart, flag_back v.has_stop)
