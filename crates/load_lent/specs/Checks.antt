-- Trusted: the names (3, 4) and the sizes (5) of a set, whose names and texts are given by service.
use Rattle.std.specs.Prelude.{ℕ, zero, suc, ◌+◌, ◌||◌, List, Option, Some, None, Ok, Err, ltb, length}
use Rattle.base.specs.Folds.{pick, first}
use Rattle.load_text.specs.Strings.{same}
use Rattle.load_word.specs.Words.{is_name}
use Rattle.load_lent.specs.Refusals.{Answer, bare}

-- the service of a name among the first n, or n where it is none of theirs
unfoldable pub find : (ℕ → List ℕ) → ℕ → List ℕ → ℕ
find name n w = first (λ i. same w (name i)) n

-- what a search below n came to, where n says that there was none
abbrev pub found : ℕ → ℕ → Option ℕ
found n i = pick (ltb i n) (Some i) None

-- "all names, 3 then 4 each", from service j on with m left; 4: "a name equals an earlier one"
unfoldable pub names_from : (ℕ → List ℕ) → ℕ → ℕ → Answer
names_from name j zero = Ok tt
names_from name j (suc m) =
    pick (is_name (name j)) (pick (ltb (find name j (name j)) j) (Err (bare 4 j)) (names_from name (j + 1) m)) (Err (bare 3 j))

-- 5: "a text passes 4,096 bytes, or the running total of texts passes 32,768"
abbrev pub longest_text : ℕ
longest_text = 4096

abbrev pub longest_texts : ℕ
longest_texts = 32768

-- "all texts, 5", from service j on with m left; t is the total before it
unfoldable pub sizes_from : (ℕ → List ℕ) → ℕ → ℕ → ℕ → Answer
sizes_from text t j zero = Ok tt
sizes_from text t j (suc m) =
    pick (ltb longest_text (length (text j)) || ltb longest_texts (t + length (text j))) (Err (bare 5 j))
    (sizes_from text (t + length (text j)) (j + 1) m)
