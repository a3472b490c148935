-- Of the code: links held as rows of an array.
use Rattle.std.specs.Prelude.{ℕ, List, get_or}
use Rattle.service.specs.Limits.{max_services}

-- the most rows
abbrev pub most_rows : ℕ
most_rows = max_services

-- the set that i is linked to
abbrev pub rows_as : List ℕ → ℕ → ℕ
rows_as rows i = get_or rows i 0
