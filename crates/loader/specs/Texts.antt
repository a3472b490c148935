-- Trusted: "then each text in turn": the descriptions of a set, or the first fault with its service and line.
use Rattle.std.specs.Prelude.{◌+◌, suc, zero, ℕ, replicate, set, List, Result, Ok}
use Rattle.service.specs.Limits.{max_services}
use Rattle.load_description.specs.Settings.{blank}
use Rattle.load_description.specs.Texts.{text_read}
use Rattle.load_description.specs.declared.Description.{Description}
use Rattle.load_lent.specs.Refusals.{in_text}
use Rattle.load_lent.specs.declared.Refused.{Refused}

abbrev pub no_descriptions : List Description
no_descriptions = replicate max_services blank

-- from service j on with m left; ds holds those before it
unfoldable pub descriptions_from : (ℕ → List ℕ) → List Description → ℕ → ℕ → Result (List Description) Refused
descriptions_from text ds j zero = Ok ds
descriptions_from text ds j (suc m) =
    in_text (text j) j (text_read (text j)) (λ d. descriptions_from text (set ds j d) (j + 1) m)
