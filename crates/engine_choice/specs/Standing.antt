-- Of the code: where the services stand, as sets that one pass over them gathers.
use Rattle.std.specs.Prelude.{ℕ, not, ◌&&◌, ◌||◌, ltb}
use Rattle.std.specs.Int.Bits.{bit_or}
use Rattle.base.specs.Folds.{fold}
use Rattle.base.specs.Sets.{single, kept}
use Rattle.service.specs.Settings.{links_of, settings_at}
use Rattle.service.specs.Records.{record_at, is_down, is_waiting, active, is_user}
use Rattle.service.specs.declared.Settings.{Settings}
use Rattle.service.specs.declared.Record.{Record}
use Rattle.service.specs.declared.Table.{Table}
use Rattle.service.specs.declared.State.{State}
use Rattle.rules.specs.Dependencies.{serving, barred}
use Rattle.engine_choice.specs.declared.standing.Standing.{Standing}

abbrev pub nowhere : Standing
nowhere = record { lost = 0; user = 0; barred = 0; unready = 0; blocked = 0; needed = 0; called = 0 }

-- the sets with service i as well; a number from 64 on has no place in a set
abbrev pub noted_in : Standing → Settings → Record → ℕ → Standing
noted_in st v r i = record {
  lost = bit_or st.lost (single i (ltb i 64 && not (serving r)));
  user = bit_or st.user (single i (ltb i 64 && (not (serving r) && is_user r.cause)));
  barred = bit_or st.barred (single i (ltb i 64 && barred r));
  unready = bit_or st.unready (single i (ltb i 64 && not (serving r || barred r)));
  blocked = bit_or st.blocked (kept (active r.phase) v.hard);
  needed = bit_or st.needed (kept (not (is_down r.phase)) (links_of v));
  called = bit_or st.called (kept (is_waiting r.phase) (links_of v));
}

abbrev pub noting : Table → State → Standing → ℕ → Standing
noting t x st i = noted_in st (settings_at t i) (record_at x i) i

-- the first n services noted
abbrev pub standing : Table → State → ℕ → Standing
standing t x n = fold (noting t x) nowhere n
