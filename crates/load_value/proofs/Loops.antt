-- What the loops over the bytes s of a value keep before the byte i, and what that byte, or the end, makes of it. r is the byte's step.
use mathlib.Core.Path.{◌≡◌, refl, sym, ap, ◌∙◌}
use mathlib.Core.Bool.{true, false}
use mathlib.Core.List.{List}
use Prim.Native.Nat.{ℕ, ◌+◌, ◌≤◌, ◌<◌}
use native.Mathlib.Omega.{arith}
use lib.ListN.{length, get_or, drop}
use Rattle.base.specs.Folds.{pick}
use Rattle.load_text.specs.Lines.{fault}
use Rattle.load_value.specs.declared.Mode.{Mode}
use Rattle.load_value.specs.declared.Step.{Step}
use Rattle.load_value.specs.declared.Step.TheVariants.{Skip, Quote, Keep, Close, Malformed}
use Rattle.load_value.specs.declared.Sizes.{Sizes}
use Rattle.std.specs.Prelude.{Result, Ok, Err}
use Rattle.load_text.specs.declared.Fault.{Fault}
use Rattle.load_text.specs.declared.Wrong.TheVariants.{Malformed as IsMalformed}
use Rattle.load_value.specs.Steps.{between, step_of}
use Rattle.load_value.specs.Stores.{Put, Puts}
use Rattle.load_value.specs.Values.{kept, close, ended, counted, no_sizes, scanned, scan_of, written, longest_word, word_of}
use Rattle.load_value.proofs.Scans.{scan_from, scan_on, scan_end, scan_next, Fits, fits_more, fits_byte, fits_end}
use Rattle.load_value.proofs.Scans.{written_from, written_on, written_end, written_next}
use Rattle.load_value.proofs.Scans.{word_from, word_on, word_full, word_more, word_end, word_next}
use Rattle.load_value.proofs.Writing.{Left, begin, follow, stored, ends}

-- ---- what the scan says of the value; q is the last quote, z the sizes so far

pub record Told (s : List ℕ) (m : Mode) (z : Sizes) (q i : ℕ) : Type 0 where
  pub within : i ≤ length s
  pub fits : Fits z i
  pub rest : scan_of s ≡ scan_from m q i z (drop i s)

pub told_none : (s : List ℕ) → Told s between no_sizes 0 0
unfolding scan_of
told_none s = record { within = omega arith; fits = record { tokens = omega arith; first = omega arith; room = omega arith }; rest = refl }

module _ {s : List ℕ} {m : Mode} {z : Sizes} {q i : ℕ} (k : Told s m z q i) where
  -- at the end the mode decides
  module _ (h : length s ≤ i) where
    told_last : {v : Result (Unit {0}) Fault} → ended m q (length s) ≡ v → scan_of s ≡ scanned v (pick m.token (counted z close) z)
    told_last {v} e =
        let n : i ≡ length s = omega (arith, k.within) in
        let at : ended m q i ≡ v = rw n e in
        k.rest ∙ scan_end m q i z s i h ∙ ap (λ v. scanned v (pick m.token (counted z close) z)) at

    pub told_fault : {f : Fault} → ended m q (length s) ≡ Err f → Err f ≡ scan_of s
    told_fault e = sym (told_last e)

    pub told_closed : {y : Sizes} → ended m q (length s) ≡ Ok tt → m.token ≡ true → y ≡ counted z close → Ok y ≡ scan_of s
    told_closed e t p = sym (told_last e ∙ rw (t, p))

    pub told_all : ended m q (length s) ≡ Ok tt → m.token ≡ false → Ok z ≡ scan_of s
    told_all e t = sym (told_last e ∙ rw t)

  module _ {r : Step} (h : i < length s) (e : r ≡ step_of m (get_or s i 0)) where
    told_on : {r' : Step} → r ≡ r' → scan_of s ≡ scan_on r' q i z (drop (i + 1) s)
    told_on g = k.rest ∙ scan_next m q i z s i h (sym e ∙ g)

    pub told_skip : {m' : Mode} → r ≡ Skip m' → Told s m' z q (i + 1)
    told_skip g = record { within = omega arith; fits = fits_more k.fits; rest = told_on g }

    pub told_quote : {m' : Mode} → r ≡ Quote m' → Told s m' z i (i + 1)
    told_quote g = record { within = omega arith; fits = fits_more k.fits; rest = told_on g }

    pub told_keep : {m' : Mode} {z' : Sizes} → r ≡ Keep m' → z' ≡ counted z (kept 0) → Told s m' z' q (i + 1)
    told_keep g u = record { within = omega arith; fits = fits_byte k.fits u; rest = rw u (told_on g) }

    pub told_close : {m' : Mode} {z' : Sizes} → r ≡ Close m' → z' ≡ counted z close → Told s m' z' q (i + 1)
    told_close g u = record { within = omega arith; fits = fits_end k.fits u; rest = rw u (told_on g) }

    pub told_bad : r ≡ Malformed → Err (fault IsMalformed i) ≡ scan_of s
    told_bad g = sym (told_on g)

-- ---- the tokens written from the start of d₀ on, up to the place o of d

pub record Written (d₀ s d : List ℕ) (m : Mode) (o i : ℕ) : Type 0 where
  pub within : i ≤ length s
  pub few : o ≤ i
  pub left : Left d₀ 0 (written s) d o (written_from m (drop i s))

pub written_none : (d s : List ℕ) → Written d s d between 0 0
unfolding written
written_none d s = record { within = omega arith; few = omega arith; left = begin d 0 (written s) }

module _ {d₀ s d : List ℕ} {m : Mode} {o i : ℕ} (k : Written d₀ s d m o i) where
  module _ {r : Step} (h : i < length s) (e : r ≡ step_of m (get_or s i 0)) where
    written_on_lem : {r' : Step} → r ≡ r' → Left d₀ 0 (written s) d o (written_on r' (get_or s i 0) (drop (i + 1) s))
    written_on_lem g = follow k.left (written_next m s i h (sym e ∙ g))

    pub written_skip : {m' : Mode} → r ≡ Skip m' → Written d₀ s d m' o (i + 1)
    written_skip g = record { within = omega arith; few = omega arith; left = written_on_lem g }

    pub written_quote : {m' : Mode} → r ≡ Quote m' → Written d₀ s d m' o (i + 1)
    written_quote g = record { within = omega arith; few = omega arith; left = written_on_lem g }

    pub written_keep : {m' : Mode} {d' : List ℕ} {o' : ℕ} → r ≡ Keep m' → Put d o (get_or s i 0) d' o' → Written d₀ s d' m' o' (i + 1)
    written_keep g p = record { within = omega arith; few = omega arith; left = stored (written_on_lem g) p }

    pub written_close : {m' : Mode} {d' : List ℕ} {o' : ℕ} → r ≡ Close m' → Put d o 0 d' o' → Written d₀ s d' m' o' (i + 1)
    written_close g p = record { within = omega arith; few = omega arith; left = stored (written_on_lem g) p }

    pub written_bad : r ≡ Malformed → Puts d₀ 0 (written s) d o
    written_bad g = ends (written_on_lem g)

  module _ (h : length s ≤ i) where
    pub written_closed : {d' : List ℕ} {o' : ℕ} → m.token ≡ true → Put d o 0 d' o' → Puts d₀ 0 (written s) d' o'
    written_closed t p = ends (stored (follow k.left (written_end m s i h ∙ rw t)) p)

    pub written_all : m.token ≡ false → Puts d₀ 0 (written s) d o
    written_all t = ends (follow k.left (written_end m s i h ∙ rw t))

-- ---- the word that the value begins with, written in the same way

pub record Worded (d₀ s d : List ℕ) (m : Mode) (o i : ℕ) : Type 0 where
  pub within : i ≤ length s
  pub few : o ≤ i
  pub left : Left d₀ 0 (word_of s) d o (word_from m o (drop i s))

pub worded_none : (d s : List ℕ) → Worded d s d between 0 0
unfolding word_of
worded_none d s = record { within = omega arith; few = omega arith; left = begin d 0 (word_of s) }

module _ {d₀ s d : List ℕ} {m : Mode} {o i : ℕ} (k : Worded d₀ s d m o i) where
  pub worded_end : length s ≤ i → Puts d₀ 0 (word_of s) d o
  worded_end h = ends (follow k.left (word_end m o s i h))

  module _ {r : Step} (h : i < length s) (e : r ≡ step_of m (get_or s i 0)) where
    worded_on : {r' : Step} → r ≡ r' → Left d₀ 0 (word_of s) d o (word_on r' o (get_or s i 0) (drop (i + 1) s))
    worded_on g = follow k.left (word_next m o s i h (sym e ∙ g))

    pub worded_skip : {m' : Mode} → r ≡ Skip m' → Worded d₀ s d m' o (i + 1)
    worded_skip g = record { within = omega arith; few = omega arith; left = worded_on g }

    pub worded_quote : {m' : Mode} → r ≡ Quote m' → Worded d₀ s d m' o (i + 1)
    worded_quote g = record { within = omega arith; few = omega arith; left = worded_on g }

    pub worded_keep : {m' : Mode} {d' : List ℕ} {o' : ℕ} → r ≡ Keep m' → o ≤ longest_word → Put d o (get_or s i 0) d' o'
        → Worded d₀ s d' m' o' (i + 1)
    worded_keep {m'} {o' = o'} g l p =
        let w = stored (follow (worded_on g) (word_more o (get_or s i 0) _ l)) p in
        record { within = omega arith; few = omega arith; left = follow w (ap (λ (n : ℕ). word_from m' n (drop (i + 1) s)) (sym p.next)) }

    pub worded_full : {m' : Mode} → r ≡ Keep m' → longest_word < o → Puts d₀ 0 (word_of s) d o
    worded_full g l = ends (follow (worded_on g) (word_full o _ l))

    pub worded_close : {m' : Mode} → r ≡ Close m' → Puts d₀ 0 (word_of s) d o
    worded_close g = ends (worded_on g)

    pub worded_bad : r ≡ Malformed → Puts d₀ 0 (word_of s) d o
    worded_bad g = ends (worded_on g)
