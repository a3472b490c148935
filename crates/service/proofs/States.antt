-- The records of a state after a change: of one record, and the fresh ones.
use Prim.Native.Nat.{◌<◌, ℕ}
use lib.ListN.{length, length-set}
use lib.Seq.{get_or-set_other, get_or-set_same}
use mathlib.Core.Logic.{◌≢◌}
use mathlib.Core.Path.{◌≡◌, refl}
use native.Mathlib.Decide.{ℕ_discrete}
use Rattle.base.proofs.Lists.{copies_hold}
use Rattle.service.specs.Limits.{max_services}
use Rattle.service.specs.Records.{fresh_record, fresh_state, record_at, with_record}
use Rattle.service.specs.declared.Record.{Record}
use Rattle.service.specs.declared.State.{State}

-- a state is an array of as many records as a table has places
abbrev pub Sized : State → Type 0
Sized x = length x.records ≡ max_services

pub sized_with : (x : State) (s : ℕ) (r : Record) → Sized x → Sized (with_record x s r)
unfolding with_record
sized_with x s r z = rw length-set z

-- the record of e where another stands for s
pub data With (x : State) (s : ℕ) (r : Record) (e : ℕ) : Type 0 where
  same : e ≡ s → record_at (with_record x s r) e ≡ r → With x s r e
  other : e ≢ s → record_at (with_record x s r) e ≡ record_at x e → With x s r e

pub with_at : (x : State) (s : ℕ) (r : Record) → Sized x → s < max_services → (e : ℕ) → With x s r e
unfolding record_at with_record
with_at x s r z l e = go (ℕ_discrete e s)
  where
    go : Dec (e ≡ s) → With x s r e
    go (yes q) = same q (rw q (get_or-set_same x.records s r fresh_record (rw z l)))
    go (no q) = other q (get_or-set_other x.records s e r fresh_record q)

module _ (x : State) (s : ℕ) (r : Record) (z : Sized x) (l : s < max_services) where
  pub with_same : record_at (with_record x s r) s ≡ r
  with_same = go (with_at x s r z l s)
    where
      go : With x s r s → record_at (with_record x s r) s ≡ r
      go (same q w) = w
      go (other q w) = absurd (q refl)

  pub with_other : (i : ℕ) → i ≢ s → record_at (with_record x s r) i ≡ record_at x i
  with_other i q = go (with_at x s r z l i)
    where
      go : With x s r i → record_at (with_record x s r) i ≡ record_at x i
      go (same p w) = absurd (q p)
      go (other p w) = w

  -- what held of each record, and of the new one, holds of each
  pub with_all : (n : ℕ) (P : ℕ → Record → Type 0) → ((i : ℕ) → i < n → i ≢ s → P i (record_at x i)) → P s r
      → (i : ℕ) → i < n → P i (record_at (with_record x s r) i)
  with_all n P h k i il = go (with_at x s r z l i)
    where
      go : With x s r i → P i (record_at (with_record x s r) i)
      go (same q w) = rw (w, q) k
      go (other q w) = rw w (h i il q)

pub fresh_record_lem : (i : ℕ) → record_at fresh_state i ≡ fresh_record
unfolding fresh_state record_at
fresh_record_lem i = copies_hold (λ r. r ≡ fresh_record) max_services i fresh_record fresh_record refl refl

pub fresh_sized : Sized fresh_state
unfolding fresh_state
fresh_sized = refl

pub fresh_clock : fresh_state.clock ≡ 0
unfolding fresh_state
fresh_clock = refl
