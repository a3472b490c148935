-- What the code finds of the rows of links is the lowest service on a cycle.
use Prim.Native.Nat.{◌+◌, ◌<◌, ◌≤◌, ℕ}
use borrow.Author.Tests.{le-leb, le-ltb, lt-ltb}
use lib.Dec.{leb, ltb}
use lib.ListN.{get_or, length, set}
use mathlib.Core.Bool.{Bool, ◌&&◌, false}
use mathlib.Core.List.{List}
use mathlib.Core.Path.{◌∙◌, ◌≡◌, ap, refl, sym}
use native.Mathlib.Nat.{le_refl}
use native.Mathlib.Omega.{arith}
use Rattle.std.specs.Prelude.{None, Option}
use Rattle.std.proofs.lemmas.List.{get_or_default}
use Rattle.base.specs.Folds.{first, pick}
use Rattle.base.specs.Links.{cyclic, reach}
use Rattle.base.specs.Sets.{has_bit}
use Rattle.base.proofs.Below.{first_as, some_false}
use Rattle.base.proofs.Bits.{has_bit_none}
use Rattle.base.proofs.Filled.{Filled, Filling, filling_more}
use Rattle.base.proofs.Sets.{first_empty}
use Rattle.service.specs.Limits.{max_services}
use Rattle.service.specs.Settings.{default_settings, links_of}
use Rattle.service.specs.declared.Settings.{Settings}
use Rattle.load_lent.specs.Checks.{found}
use Rattle.load_links.specs.Links.{links_at, lowest_cyclic}
use Rattle.links.specs.Rows.{most_rows, rows_as}
use Rattle.links.proofs.Rounds.{reach_as}

-- the links of one service more
pub rows_more : (vs : List Settings) (x : Settings) {m n : ℕ} {rows : List ℕ} {l i : ℕ} → Filling 0 (links_at vs) m n rows i → i < n → i < length vs
    → l ≡ links_of (get_or vs i x) → Filling 0 (links_at vs) m n (set rows i l) (i + 1)
rows_more vs x {i = i} h k s q = filling_more h k (q ∙ ap links_of (get_or_default vs i x default_settings s))

module _ (rows : List ℕ) (n : ℕ) (h : n ≤ max_services) where
  abbrev own : ℕ → Bool
  own s = has_bit (reach (rows_as rows) n s) s

  -- as the code finds it of a number, which is below n
  abbrev pub own_found : ℕ → Bool
  own_found s = has_bit (pick (leb n most_rows && ltb s n) (reach (rows_as rows) n s) 0) s

  pub own_first : {r : Option ℕ} → r ≡ found n (first own_found n) → r ≡ found n (first own n)
  own_first e =
      e ∙ ap (found n) (first_as own_found own n (λ s l. ap (λ (a : ℕ). has_bit a s) (rw (le-leb n max_services h, lt-ltb s n l))))

  module _ (vs : List Settings) (f : Filled 0 (links_at vs) max_services rows n) where
    lowest_as : first own n ≡ lowest_cyclic vs n
    unfolding lowest_cyclic
    lowest_as =
        first_as own (λ s. has_bit (reach (links_at vs) n s) s) n (λ i l. ap (λ (a : ℕ). has_bit a i) (reach_as (rows_as rows) (links_at vs) n f.at n i (omega arith) l))

    pub lowest_found : {r : Option ℕ} → r ≡ found n (first own n) → r ≡ pick (leb n max_services) (found n (lowest_cyclic vs n)) None
    lowest_found e = e ∙ rw (le-leb n max_services h, lowest_as)

    pub lowest_none : (q : Bool) → q ≡ (leb n most_rows && cyclic (rows_as rows) n) → q ≡ false
        → None ≡ pick (leb n max_services) (found n (lowest_cyclic vs n)) None
    unfolding cyclic
    lowest_none q e g =
        let c : cyclic (rows_as rows) n ≡ false = rw (le-leb n max_services h) at (sym e ∙ g) in
        let w : n ≡ first own n = first_empty 0 n refl ∙ first_as (has_bit 0) own n (λ i l. has_bit_none i ∙ sym ((some_false own n).0 c i l)) in
        lowest_found (rw (← w, le-ltb n n (le_refl n)))
