-- `keep_loaded` meets its contract: a load is refused, or written.
use Rattle.std.proofs.Common.{rules}
use Rattle.plain.proofs.Loads.{load_refused, load_written}
use Rattle.plain.proofs.keep_loaded.Goals as goal

pub returns-in_err-loaded : goal.returns-in_err-loaded
returns-in_err-loaded c = load_refused _ _ _ _ c.in_err-loaded.was (search rules)

pub returns : goal.returns
returns c =
    load_written _ _ _ _ c.in_ok-loaded.was c.write_table.ensures c.fresh.ensures c.write_state.ensures c.write_counts.ensures
