-- What is kept in the buffer, and what is lent of the positions.
use Rattle.std.proofs.Common.{ℕ, ◌+◌, ◌-◌, ◌≤◌, ◌≡◌, inl, inr, refl, sym, Bool, true, false, leb, ◌∙◌, List, [], ◌∷◌, length, append_assoc, take, drop, Option, Some, None, Bor, arith}
use borrow.Author.Tests.{le-leb, lt-leb}
use borrow.Rule.Slice.PartMut.{put_mid}
use Rattle.std.specs.Option.{unwrap_or}
use Rattle.std.specs.Slice.{IsGetRangeResult}
use Rattle.std.proofs.lemmas.List.Edits.{sets, sets-eq, paste_all}
use Rattle.std.proofs.lemmas.Slice.{put_mid-paste}
use Rattle.std.proofs.lemmas.Grind.{common_steps}
use Rattle.base.specs.Folds.{pick}
use Rattle.load_text.specs.Strings.{part_of}
use Rattle.scenario_lines.specs.declared.Verb.{Verb}
use Rattle.scenario_lines.specs.declared.Verb.TheVariants.{Load, LoadAt}
use Rattle.scenario_services.specs.Lending.{lent_to}
use Rattle.scenario_services.specs.declared.Given.{Given}
use Rattle.scenario_services.specs.Keeping.{room, kept}

-- the buffer, when the part of it is back to which vs were copied
pub put_sets : (a k : ℕ) (l ys vs : List ℕ) → ys ≡ vs → k ≡ length vs → a + length vs ≤ length l → put_mid a k l ys ≡ sets l a vs
put_sets a k l ys vs e n h = put_mid-paste a k l ys vs k e refl n ∙ paste_all l a vs k n ∙ rw (n, ← append_assoc) (sym (sets-eq vs l a h))

-- of no bytes
pub sets_none : (l : List ℕ) (a : ℕ) (vs : List ℕ) → length vs ≡ 0 → l ≡ sets l a vs
sets_none l a [] e = refl
sets_none l a (v ∷ vs) e = absurd (omega (arith, e))

-- g is h with this buffer, and fs are the bytes that fit
pub kept_put : (h g : Given) (bs fs : List ℕ) {d : List ℕ} → g ≡ record h { buffer = d } → fs ≡ take (room - h.bytes) bs
    → d ≡ sets h.buffer h.bytes fs → record g { bytes = h.bytes + length fs } ≡ kept bs h
kept_put h g bs fs e f p = rw (e, p, f)

-- a range of the positions, or none where it is not there
pub ranged : (xs : List ℕ) (from to : ℕ) (r : Option (Bor (List ℕ))) (d : Bor (List ℕ)) → d.now ≡ [] → IsGetRangeResult xs from to r
    → (unwrap_or r d).now ≡ part_of xs from to
unfolding part_of
ranged xs from to None d e (inl h, q) = rw (e, lt-leb from to h)
ranged xs from to None d e (inr h, q) = rw e (by (leb from to))
  where
    by : (t : Bool) → [] ≡ pick t (pick (leb to (length xs)) (take (to - from) (drop from xs)) []) []
    by true = rw (lt-leb to (length xs) h)
    by false = refl
ranged xs from to (Some x) d e h = rw (le-leb from to h.0.0, le-leb to (length xs) h.0.1) h.0.2

-- of a line that is no load
pub lent_none : (v : Verb) (p : List ℕ) (last n : ℕ) → (v ≡ Load → ⊥) → (v ≡ LoadAt → ⊥) → [] ≡ lent_to v p last n
lent_none v p last n f g = grind (arith, common_steps)
