-- `find_property` meets its contract: the property at the place of its name.
use mathlib.Core.Path.{◌∙◌}
use Rattle.load_text.specs.Strings.{bytes}
use Rattle.load_word.specs.Properties.{property_names, property_of}
use Rattle.load_word.proofs.Words.{found_at}
use Rattle.load_word.proofs.find_property.Goals as goal

pub returns : goal.returns
unfolding property_of property_names bytes
returns c = c.unwrap_or.ensures ∙ found_at _ _ _ c.find.ensures
