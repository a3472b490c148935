-- Written back, numbers that stand for a state or a table are what they were.
use Prim.Native.Nat.{ℕ, zero, suc, ◌+◌, ◌<◌}
use mathlib.Core.Bool.{true, ◌&&◌}
use mathlib.Core.List.{List, [], ◌∷◌}
use mathlib.Core.Path.{◌≡◌, refl, sym, ap, ◌∙◌}
use native.Mathlib.Omega.{arith}
use lib.Dec.{eqb}
use lib.ListN.{get_or, replicate, set}
use borrow.Author.Tests.{eqb-true}
use Rattle.base.specs.Folds.{fold}
use Rattle.base.proofs.Below.{every_true}
use Rattle.base.proofs.Tests.{and_true}
use Rattle.plain_encoding.proofs.Laws.{read_at}
use Rattle.service.specs.Limits.{max_services}
use Rattle.service.specs.Records.{fresh_record, record_at}
use Rattle.service.specs.Settings.{default_settings, settings_at}
use Rattle.service.specs.Numbers.{settings_from, settings_numbers}
use Rattle.plain_encoding.specs.Encoding.{all_read, all_stand, all_written}
use Rattle.plain_encoding.specs.Meaning.{is_record, is_settings, is_state, is_table, stand_as}
use Rattle.plain_encoding.specs.Numbers.{headed, per_place, place_of, placed}
use Rattle.plain_encoding.specs.Numbers.{record_from, record_numbers, state_numbers, state_of, table_numbers, table_of}

-- ---- steps that leave all as it was

same_fold : {A : Type 0} (f : A → ℕ → A) (a : A) (n : ℕ) → ((i : ℕ) → i < n → f a i ≡ a) → fold f a n ≡ a
same_fold f a zero h = refl
same_fold f a (suc n) h = ap (λ m. f m n) (same_fold f a n (λ i l. h i (omega arith))) ∙ h n (omega arith)

same_set : (l : List ℕ) (i : ℕ) {v : ℕ} → v ≡ get_or l i 0 → set l i v ≡ l
same_set [] i e = refl
same_set (b ∷ l) zero e = ap (λ v. v ∷ l) e
same_set (b ∷ l) (suc i) e = ap (λ m. b ∷ m) (same_set l i e)

same_placed : (l : List ℕ) (a : ℕ) (vs : List ℕ) → stand_as l a vs ≡ true → placed l a vs ≡ l
unfolding stand_as
same_placed l a vs h =
    same_fold (λ m k. set m (a + k) (get_or vs k 0)) l per_place
    (λ k q. same_set l (a + k) (sym (eqb-true _ _ ((every_true (λ i. eqb (get_or l (a + i) 0) (get_or vs i 0)) per_place).0 h k q))))

-- ---- all places

same_front : (l : List ℕ) → eqb (get_or l 1 0) 0 ≡ true → headed l (get_or l 0 0) ≡ l
same_front l h =
    ap (λ m. set m 1 0) (same_set l 0 refl) ∙ same_set l 1 (sym (eqb-true (get_or l 1 0) 0 h))

-- by either encoding, with what is read put over d
module _ {A : Type 0} (encoded : A → List ℕ) (decoded : List ℕ → ℕ → A) (l : List ℕ) (d : A) where
  places_back : all_stand encoded decoded l ≡ true → all_written encoded l (λ s. get_or (all_read decoded l d) s d) ≡ l
  unfolding all_stand all_written all_read
  places_back h =
      let read = read_at (λ s. decoded l (place_of s)) (replicate max_services d) d max_services refl max_services (omega arith) in
      let value : ℕ → A = λ s. get_or (fold (λ m s. set m s (decoded l (place_of s))) (replicate max_services d) max_services) s d in
      same_fold (λ m s. placed m (place_of s) (encoded (value s))) l max_services
      (λ s q.
      same_placed l (place_of s) (encoded (value s))
      (ap (λ v. stand_as l (place_of s) (encoded v)) (read.at s q)
      ∙ (every_true (λ j. stand_as l (place_of j) (encoded (decoded l (place_of j)))) max_services).0 h s q))

  written_back : eqb (get_or l 1 0) 0 && all_stand encoded decoded l ≡ true
      → all_written encoded (headed l (get_or l 0 0)) (λ s. get_or (all_read decoded l d) s d) ≡ l
  written_back h =
      let parts = (and_true (eqb (get_or l 1 0) 0) (all_stand encoded decoded l)).0 h in
      ap (λ m. all_written encoded m (λ s. get_or (all_read decoded l d) s d)) (same_front l parts.0) ∙ places_back parts.1

pub state_back : (l : List ℕ) → is_state l ≡ true → state_numbers l (state_of l) ≡ l
unfolding is_state is_record state_numbers state_of record_at all_stand all_written all_read
state_back l h = written_back record_numbers record_from l fresh_record h

pub table_back : (l : List ℕ) → is_table l ≡ true → table_numbers l (table_of l) ≡ l
unfolding is_table is_settings table_numbers table_of settings_at all_stand all_written all_read
table_back l h = written_back settings_numbers settings_from l default_settings h
