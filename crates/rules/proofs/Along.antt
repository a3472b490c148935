-- A relation along the hard dependencies, after a change of one record: where e passes one test, what it hard-depends on passes another.
use Prim.Native.Nat.{◌<◌, ℕ}
use mathlib.Core.Bool.{Bool, true}
use mathlib.Core.Logic.{◌⊎◌, inl, inr}
use mathlib.Core.Path.{◌≡◌}
use Rattle.base.proofs.Tests.{either}
use Rattle.service.specs.Limits.{max_services}
use Rattle.service.specs.Records.{record_at, with_record}
use Rattle.service.specs.declared.Record.{Record}
use Rattle.service.specs.declared.State.{State}
use Rattle.service.specs.declared.Table.{Table}
use Rattle.service.proofs.States.{Sized, With, other, same, with_at}
use Rattle.rules.specs.Dependencies.{hard}

module _ (A B : Record → Bool) where
  abbrev pub Along : Table → State → Type 0
  Along t x = (e d : ℕ) → e < t.count → d < t.count → hard t e d ≡ true → A (record_at x e) ≡ true → B (record_at x d) ≡ true

  -- no service that hard-depends on s passes the first test
  abbrev pub Free : Table → State → ℕ → Type 0
  Free t x s = (e : ℕ) → e < t.count → hard t e s ≡ true → A (record_at x e) ≡ true → ⊥

  module _ (t : Table) (x : State) (s : ℕ) (r : Record) (z : Sized x) (l : s < max_services) (inv : Along t x) where
    pub along_with : ((r : Record) → B r ≡ true → A r ≡ true)
        → (A r ≡ true → (A (record_at x s) ≡ true) ⊎ ((d : ℕ) → d < t.count → hard t s d ≡ true → B (record_at x d) ≡ true))
        → (B (record_at x s) ≡ true → (B r ≡ true) ⊎ Free t x s) → Along t (with_record x s r)
    along_with pass go leave e d el dl h a = last (was (with_at x s r z l e)) (with_at x s r z l d)
      where
        was : With x s r e → (B (record_at x d) ≡ true) × ((A (record_at x e) ≡ true) ⊎ (e ≡ s))
        was (same q w) =
            either
            (go (rw w at a))
            (λ k. let k' : A (record_at x e) ≡ true = rw q k in (inv e d el dl h k', inl k'))
            (λ k. (k d dl (rw q at h), inr q))
        was (other q w) = let k : A (record_at x e) ≡ true = rw w at a in (inv e d el dl h k, inl k)

        last : (B (record_at x d) ≡ true) × ((A (record_at x e) ≡ true) ⊎ (e ≡ s)) → With x s r d → B (record_at (with_record x s r) d) ≡ true
        last k (same q w) =
            rw w
            (either
            (leave (rw q at k.0))
            (λ u. u)
            (λ f. absurd (f e el (rw q at h) (either k.1 (λ y. y) (λ p. rw (p, ← q) (pass (record_at x d) k.0))))))
        last k (other q w) = rw w k.0
