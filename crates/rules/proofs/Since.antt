-- Where things have come to since a stop all, while no start is accepted: every service is halting, and what its record was limits how it
-- may have gone on.
use Prim.Native.Nat.{◌<◌, ◌≤◌, ℕ}
use mathlib.Core.Bool.{◌&&◌, false, true}
use mathlib.Core.Path.{◌≡◌}
use native.Mathlib.Nat.{le_refl, le_trans}
use Rattle.service.specs.Records.{record_at}
use Rattle.service.specs.declared.State.{State}
use Rattle.service.specs.declared.Table.{Table}
use Rattle.rules.specs.Calls.{Call, outcome}
use Rattle.rules.specs.Demand.{Moment, accepted, is_start}
use Rattle.rules.specs.Events.{after_stop_all, stopped}
use Rattle.rules.proofs.Each.{each_below}
use Rattle.rules.proofs.Formed.{Sound}
use Rattle.rules.proofs.Halting.{Goes, goes_refl, goes_trans, halting_at, stop_halting}
use Rattle.rules.proofs.Lawful.{Lawful, taken_lawful}
use Rattle.rules.proofs.Links.{TableSound}
use Rattle.rules.proofs.Steps.{Taken, is_started, no_start, startless_walk, walk_keeps}

pub record Since (t : Table) (x₀ x : State) : Type 0 where
  pub halting : (s : ℕ) → s < t.count → halting_at (record_at x s) ≡ true
  pub clocks : x₀.clock ≤ x.clock
  pub goes : (s : ℕ) → s < t.count → Goes (record_at x₀ s) (record_at x s)

since_step : (t : Table) (x₀ : State) (m : Moment) → Lawful t m → is_started m.mark ≡ false → Since t x₀ m.before → Since t x₀ m.after
since_step t x₀ m law n h = record {
  halting = λ s l. ((law.fair s l).halts n (h.halting s l)).0;
  clocks = le_trans h.clocks law.clocks;
  goes = λ s l. goes_trans _ (record_at m.before s) _ (h.goes s l) ((law.fair s l).halts n (h.halting s l)).1;
}

module _ (t : Table) (ts : TableSound t) where
  pub since_call : (x₀ x : State) (c : Call) → (is_start c && accepted t x c) ≡ false → Sound t x → Since t x₀ x → Since t x₀ (outcome t x c).state
  since_call x₀ x c b z h =
      (walk_keeps (Taken t false) (λ y. Sound t y × Since t x₀ y)
      (λ m k q. let law = taken_lawful t ts false m k q.0 in (law.sound, since_step t x₀ m law (no_start m k) q.1))
      (startless_walk t x c b) (z, h)).1

  -- what holds since x₀ holds since x
  pub since_here : (x₀ x : State) → Since t x₀ x → Since t x x
  since_here x₀ x h = record { halting = h.halting; clocks = le_refl x.clock; goes = λ s l. goes_refl (record_at x s) }

  -- a stop all sets it off
  pub since_begins : (x : State) → Sound t x → Since t (after_stop_all t x) (after_stop_all t x)
  unfolding after_stop_all
  since_begins x z = record {
    halting =
        λ e el.
        rw (each_below (λ d r. stopped r) x t.count z.sized ts.few e el)
        (stop_halting (record_at x e).phase (record_at x e).aside (record_at x e).cause);
    clocks = le_refl _;
    goes = λ s l. goes_refl _;
  }
