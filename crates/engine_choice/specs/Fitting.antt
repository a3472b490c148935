-- Of the code: the tests of the rules on one service, from its settings, its record and where the services stand.
use Rattle.std.specs.Prelude.{ℕ, Bool, not, ◌&&◌, ◌||◌, leb}
use Rattle.base.specs.Sets.{has_bit, overlap}
use Rattle.service.specs.Records.{is_down, is_waiting, is_starting, is_up, is_ending, is_none}
use Rattle.service.specs.declared.Settings.{Settings}
use Rattle.service.specs.Settings.{form_of, strong_of}
use Rattle.service.specs.declared.Record.{Record}
use Rattle.rules.specs.Dependencies.{closing}
use Rattle.rules.specs.Rules.{running, nothing_to_end, due}
use Rattle.engine_choice.specs.declared.standing.Standing.{Standing}
use Rattle.engine_choice.specs.declared.PerRule.{PerRule}

abbrev pub lose_by : Settings → Record → Standing → Bool
lose_by v r st = running r && overlap v.hard st.lost

abbrev pub abandon_by : Settings → Record → Standing → Bool
abandon_by v r st = is_waiting r.phase && overlap (strong_of v) st.barred

abbrev pub settle_by : Settings → Record → Standing → ℕ → Bool
settle_by v r st s = closing r && not (has_bit st.blocked s) && nothing_to_end (form_of v) v.has_stop r.live

abbrev pub wake_by : Record → Standing → ℕ → Bool
wake_by r st s = is_down r.phase && not r.aside && (r.wanted || has_bit st.called s)

abbrev pub release_by : Record → Standing → ℕ → Bool
release_by r st s =
    (is_waiting r.phase || is_starting r.phase || is_up r.phase) && is_none r.cause && not (r.wanted || has_bit st.needed s)

abbrev pub begin_by : ℕ → Settings → Record → Standing → Bool
begin_by now v r st =
    is_waiting r.phase && leb r.not_before now && not (overlap (strong_of v) st.lost)
    && not (overlap v.soft st.unready)

abbrev pub end_by : Record → Standing → ℕ → Bool
end_by r st s = closing r && not (has_bit st.blocked s)

abbrev pub expire_by : ℕ → Record → Bool
expire_by now r = due now r.deadline && (is_starting r.phase || is_ending r.phase && not r.killed)

abbrev pub which_by : ℕ → Settings → Record → Standing → ℕ → PerRule Bool
which_by now v r st s = record {
  lose = lose_by v r st;
  abandon = abandon_by v r st;
  settle = settle_by v r st s;
  wake = wake_by r st s;
  release = release_by r st s;
  begin = begin_by now v r st;
  end = end_by r st s;
  expire = expire_by now r;
}
