-- What a call comes to: a refusal, or what it does once its checks have passed.
use Prim.Native.Nat.{◌*◌, ◌<◌, ◌≤◌, ℕ}
use borrow.Author.Tests.{leb-true, ltb-true}
use lib.Dec.{leb}
use lib.ListN.{length}
use mathlib.Core.Bool.{Bool, ◌&&◌, false, true}
use mathlib.Core.List.{List}
use mathlib.Core.Path.{◌≡◌, refl}
use Rattle.base.proofs.Tests.{and_true}
use Rattle.service.specs.Limits.{last_clock}
use Rattle.service.specs.Records.{record_at}
use Rattle.service.specs.declared.State.{State}
use Rattle.service.specs.declared.Table.{Table}
use Rattle.rules.specs.Calls.{Call, Outcome, acted, check, clock, done, end, gives, next, outcome, query, ran, refused, run, start, stop, stop_all, told}
use Rattle.rules.specs.Events.{after_clock, after_end, after_start, after_stop, after_stop_all}
use Rattle.rules.specs.Rules.{next_action}
use Rattle.rules.specs.Runs.{earliest, state_after, steps_to_quiet, written_actions, written_services}

pub data Came (t : Table) (x : State) : Call → Outcome → Type 0 where
  refuses : {c : Call} (k : ℕ) → Came t x c (gives c (refused k) x)
  starts : {s : ℕ} → s < t.count → Came t x (start s) (gives (start s) done (after_start t x s))
  stops : {s : ℕ} → s < t.count → Came t x (stop s) (gives (stop s) done (after_stop x s))
  stops_all : Came t x stop_all (gives stop_all done (after_stop_all t x))
  ends : {s : ℕ} {good : Bool} → s < t.count → (record_at x s).live ≡ true → Came t x (end s good) (gives (end s good) done (after_end t x s good))
  clocks : {n : ℕ} → x.clock ≤ n → n ≤ last_clock → Came t x (clock n) (gives (clock n) done (after_clock x n))
  acts : Came t x next (gives next (acted (next_action t x).action) (next_action t x).state)
  tells : Came t x query (gives query (told (earliest t x)) x)
  runs : {ss as' : List ℕ} → 4 * t.count ≤ length ss → 4 * t.count ≤ length as'
      → Came t x (run ss as') (record {
        answer = ran (steps_to_quiet t x);
        state = state_after t x (steps_to_quiet t x);
        services = written_services t x ss;
        actions = written_actions t x as';
      })

module _ (t : Table) (x : State) where
  checked : (c : Call) (b : Bool) (k : ℕ) (o : Outcome) → (b ≡ true → Came t x c o) → Came t x c (check c x b k o)
  unfolding check
  checked c true k o h = h refl
  checked c false k o h = refuses k

  pub came : (c : Call) → Came t x c (outcome t x c)
  unfolding outcome
  came (start s) = checked _ _ _ _ λ a. checked _ _ _ _ λ b. starts (search ltb-true)
  came (stop s) = checked _ _ _ _ λ a. checked _ _ _ _ λ b. stops (search ltb-true)
  came (clock n) = checked _ _ _ _ λ a. checked _ _ _ _ λ b. checked _ _ _ _ λ c. clocks (search leb-true) (search leb-true)
  came (end s good) = checked _ _ _ _ λ a. checked _ _ _ _ λ b. checked _ _ _ _ λ c. ends (search ltb-true) c
  came stop_all = checked _ _ _ _ λ a. stops_all
  came next = checked _ _ _ _ λ a. acts
  came query = checked _ _ _ _ λ a. tells
  came (run ss as') =
      checked _ _ _ _ λ a. checked _ (leb (4 * t.count) (length ss) && leb (4 * t.count) (length as')) _ _ λ b.
      let q = (and_true (leb (4 * t.count) (length ss)) _).0 b in runs (leb-true _ _ q.0) (leb-true _ _ q.1)
