-- The laws of the lines of a text as the loop reads them.
use Rattle.std.proofs.Common.{Result, Ok, Err}
use Rattle.std.specs.Result.{result_and}
use native.Mathlib.Omega.{arith}
use mathlib.Core.Path.{◌≡◌, refl, sym, ap, ◌∙◌}
use mathlib.Core.List.{List}
use Prim.Native.Nat.{ℕ, ◌+◌, ◌-◌, ◌*◌, ◌≤◌, ◌<◌}
use lib.ListN.{length, drop, drop_of_length-le}
use Rattle.load_text.specs.Strings.{part_of}
use Rattle.load_text.specs.Lines.{line_of, lines_of}
use Rattle.load_text.specs.declared.Fault.{Fault}
use Rattle.load_text.proofs.Lines.{line_part, lines_next, end_fits}
use Rattle.load_word.specs.declared.Command.TheVariants.{Start, Stop}
use Rattle.load_description.specs.declared.Description.{Description}
use Rattle.load_description.specs.declared.Effect.{Effect}
use Rattle.load_description.specs.declared.Effect.TheVariants.{Nothing, Kind, Settings, Command, Dependency}
use Rattle.load_description.specs.Settings.{blank, affected}
use Rattle.load_description.specs.Lines.{line_read}
use Rattle.load_description.specs.Texts.{checked, read_on, completion, lines_read}

-- a line more; the premises stand as the callees' contracts give them
module _ (s : List ℕ) (i : ℕ) {e : ℕ} (h : i < length s) (at : e ≡ i + length (line_of (drop i s))) where
  read_next : (d : Description) {l : List ℕ} {r : Result Effect Fault} → l ≡ part_of s i e → r ≡ line_read s d i l
      → lines_read s d i (lines_of (drop i s)) ≡ read_on r d (λ d'. lines_read s d' (e + 1) (lines_of (drop (e + 1) s)))
  unfolding lines_read
  read_next d {l} p u =
      let n : i + length (part_of s i e) + 1 ≡ e + 1 = ap (λ (x : List ℕ). i + length x + 1) (line_part s i h at) ∙ ap (λ (k : ℕ). k + 1) (sym at) in
      rw (lines_next s i h at, n, u, p)

  -- the line and its end are within the text, and less is left after its end
  pub line_inside : {l : List ℕ} → l ≡ part_of s i e → length s * 1 < 9223372036854775808 → i + length l < 9223372036854775808
  line_inside {l} p n =
      let m : length l ≡ length (line_of (drop i s)) = ap length (p ∙ line_part s i h at) in
      omega (arith, m, end_fits s i h at)

  pub end_inside : length s * 1 < 9223372036854775808 → e < 9223372036854775808
  end_inside n = omega (arith, end_fits s i h at)

  pub less_left : (k : ℕ) → e < k → length s - k < length s - i
  less_left k l = omega arith

-- a line adds at most one dependency
affected_count : (d : Description) (e : Effect) → (affected d e).count ≤ d.count + 1
affected_count d Nothing = omega arith
affected_count d (Kind k) = omega arith
affected_count d (Settings v) = omega arith
affected_count d (Command Start at) = omega arith
affected_count d (Command Stop at) = omega arith
affected_count d (Dependency l at) = omega arith

-- what the loop over the lines keeps: few dependencies, and that the lines from i on make of the settings so far what all lines make
pub record Reached (s : List ℕ) (d : Description) (i : ℕ) : Type 0 where
  pub few : d.count ≤ i
  pub rest : lines_read s blank 0 (lines_of s) ≡ lines_read s d i (lines_of (drop i s))

pub reached_none : {s : List ℕ} {d : Description} → d ≡ blank → Reached s d 0
reached_none {s} e = rw e (record { few = omega arith; rest = refl })

-- the settings have room for a dependency more
pub reached_few : {s : List ℕ} {d : Description} {i : ℕ} → Reached s d i → i < length s → length s < 18446744073709551616
    → d.count < 18446744073709551615
reached_few r h n = omega arith

pub reached_end : {s : List ℕ} {d : Description} {i : ℕ} → Reached s d i → length s ≤ i
    → lines_read s blank 0 (lines_of s) ≡ checked (completion d) (Ok d)
unfolding lines_read lines_of
reached_end {s} r h = rw (r.rest, drop_of_length-le s h)

-- a line more is read
module _ {s : List ℕ} {d : Description} {i e : ℕ} {l : List ℕ}
    (reached : Reached s d i) (h : i < length s) (at : e ≡ i + length (line_of (drop i s))) (p : l ≡ part_of s i e) where
  line_on : {a : Result Effect Fault} → a ≡ line_read s d i l
      → lines_read s blank 0 (lines_of s) ≡ read_on a d (λ d'. lines_read s d' (e + 1) (lines_of (drop (e + 1) s)))
  line_on u = reached.rest ∙ read_next s i h at d p u

  pub reached_good : {a : Result Effect Fault} {f : Effect} {d' : Description} → a ≡ line_read s d i l → a ≡ Ok f → d' ≡ affected d f
      → Reached s d' (e + 1)
  reached_good {f = f} u g v = rw v record { few = omega (arith, reached.few, affected_count d f); rest = line_on (sym g ∙ u) }

  pub reached_bad : {a : Result Effect Fault} {f : Fault} {r : Result Description Fault} → a ≡ line_read s d i l → a ≡ Err f → r ≡ result_and a (Ok d)
      → r ≡ lines_read s blank 0 (lines_of s)
  reached_bad u g v = rw (v, g, line_on (sym g ∙ u))
