-- Trusted: the limits and the defaults of paper 01, each named once. Times are in units of 0.1 ms.
use Rattle.std.specs.Prelude.{ℕ, ◌+◌, ◌*◌, ◌^◌}

-- 1: "more than 32 services"
abbrev pub max_services : ℕ
max_services = 32

-- a run's actions: at most 4n of n services
abbrev pub most_actions : ℕ
most_actions = 4 * max_services

-- "Times: .. at most 86400 seconds"
abbrev pub longest_time : ℕ
longest_time = 864000000

-- "Limit count: .. 0 to 65,535", and 24's "a count past 65,535"
abbrev pub max_count : ℕ
max_count = 65535

-- 23 and 24: "the clock past 2^48"
abbrev pub last_clock : ℕ
last_clock = 2 ^ 48

-- 24: "a pending time past 2^48 + 864,000,000"
abbrev pub last_time : ℕ
last_time = last_clock + longest_time

-- "Defaults: restart-delay 2,000; start-timeout 600,000; stop-timeout 100,000; limit interval 100,000. Limit count: .. default 3"
abbrev pub default_delay : ℕ
default_delay = 2000

abbrev pub default_interval : ℕ
default_interval = 100000

abbrev pub default_limit : ℕ
default_limit = 3

abbrev pub default_start_timeout : ℕ
default_start_timeout = 600000

abbrev pub default_stop_timeout : ℕ
default_stop_timeout = 100000
