-- Of the code: the services of a lent set: how many, their names and their texts.
use Rattle.std.specs.Prelude.{ℕ, List}
use Rattle.load_lent.specs.Parts.{name_at, service_count, text_at}
use Rattle.load_lent.specs.declared.Lent.{Lent}

abbrev pub services_of : Lent → ℕ
services_of l = service_count l.ends.now

abbrev pub names_of : Lent → ℕ → List ℕ
names_of l = name_at l.bytes.now l.ends.now

abbrev pub texts_of : Lent → ℕ → List ℕ
texts_of l = text_at l.bytes.now l.ends.now
