-- `affect` meets its contract: a stop-command is noted in the settings too, and past the last place `set` changes nothing.
use Rattle.service.specs.Numbers.{settings_from}
use Rattle.service.proofs.Numbering.{kind_back, signal_back, flag_back}
use Rattle.load_reader.proofs.affect.Goals as goal

pub returns-in-Stop : goal.returns-in-Stop
unfolding settings_from
returns-in-Stop c =
    let v = c.args.d.now.settings in
    rw (c.in-Command.is, c.in-Stop.is, (kind_back v.kind).0, (signal_back v.signal).0, flag_back v.restart)
