-- `read_setting` meets its contract, setting by setting; the words outside the rule need no answer.
use mathlib.Core.Path.{sym, ◌∙◌}
use Rattle.load_word.specs.Properties.{setting_of}
use Rattle.load_word.proofs.Stores.{set_to}
use Rattle.load_word.proofs.read_setting.Goals as goal

pub returns-in_ok-read_flag-in-Restart : goal.returns-in_ok-read_flag-in-Restart
unfolding setting_of
returns-in_ok-read_flag-in-Restart c = rw (c.in-Restart.is, sym c.read_flag.ensures ∙ c.in_ok-read_flag-in-Restart.was) (set_to _)

pub returns-in_ok-read_time-in-RestartDelay : goal.returns-in_ok-read_time-in-RestartDelay
unfolding setting_of
returns-in_ok-read_time-in-RestartDelay c = rw (c.in-RestartDelay.is, sym c.read_time.ensures ∙ c.in_ok-read_time-in-RestartDelay.was) (set_to _)

pub returns-in_ok-read_time-in-RestartLimitInterval : goal.returns-in_ok-read_time-in-RestartLimitInterval
unfolding setting_of
returns-in_ok-read_time-in-RestartLimitInterval c = rw (c.in-RestartLimitInterval.is, sym c.read_time-in-RestartLimitInterval.ensures ∙ c.in_ok-read_time-in-RestartLimitInterval.was) (set_to _)

pub returns-in_ok-read_limit-in-RestartLimitCount : goal.returns-in_ok-read_limit-in-RestartLimitCount
unfolding setting_of
returns-in_ok-read_limit-in-RestartLimitCount c = rw (c.in-RestartLimitCount.is, sym c.read_limit.ensures ∙ c.in_ok-read_limit-in-RestartLimitCount.was) (set_to _)

pub returns-in_ok-read_time-in-StartTimeout : goal.returns-in_ok-read_time-in-StartTimeout
unfolding setting_of
returns-in_ok-read_time-in-StartTimeout c = rw (c.in-StartTimeout.is, sym c.read_time-in-StartTimeout.ensures ∙ c.in_ok-read_time-in-StartTimeout.was) (set_to _)

pub returns-in_ok-read_time-in-StopTimeout : goal.returns-in_ok-read_time-in-StopTimeout
unfolding setting_of
returns-in_ok-read_time-in-StopTimeout c = rw (c.in-StopTimeout.is, sym c.read_time-in-StopTimeout.ensures ∙ c.in_ok-read_time-in-StopTimeout.was) (set_to _)

pub returns-in_ok-read_signal-in-TermSignal : goal.returns-in_ok-read_signal-in-TermSignal
unfolding setting_of
returns-in_ok-read_signal-in-TermSignal c = rw (c.in-TermSignal.is, sym c.read_signal.ensures ∙ c.in_ok-read_signal-in-TermSignal.was) (set_to _)
