-- What an accepted event gives back is its outcome, and so is what a refused stop does. Each premise is what the code has: q of list 24, and the state y.
use Prim.Native.Nat.{ℕ, ◌+◌, ◌≤◌, ◌<◌}
use mathlib.Core.Path.{◌≡◌, sym, ap, ◌∙◌}
use mathlib.Core.Bool.{Bool, true, false, not, ◌&&◌, ◌||◌}
use lib.Dec.{leb, ltb, eqb}
use borrow.Author.Tests.{le-leb, lt-ltb, le-ltb}
use Rattle.base.specs.Folds.{pick}
use Rattle.base.specs.Sets.{has_bit}
use Rattle.base.specs.Links.{reach}
use Rattle.base.proofs.Tests.{not_true, not_false}
use Rattle.base.proofs.Loops.{Folded, folded_none, folded_more, folded_all}
use Rattle.service.specs.Limits.{max_services, last_clock}
use Rattle.service.specs.Settings.{settings_at}
use Rattle.service.specs.Records.{record_at, with_record}
use Rattle.service.specs.declared.Record.{Record}
use Rattle.service.specs.declared.Settings.{Settings}
use Rattle.service.specs.declared.Table.{Table}
use Rattle.service.specs.declared.State.{State}
use Rattle.std.specs.Prelude.{Err, Ok}
use Rattle.service.specs.declared.Answered.{Answered}
use Rattle.service.specs.declared.Refusal.TheVariants.{IllFormed, NoService}
use Rattle.rules.specs.Dependencies.{all_links}
use Rattle.rules.specs.WellFormed.{formed}
use Rattle.rules.specs.Events.{each, start_reaches, started_as, after_start, stopped, after_stop, after_stop_all, brings, ended_as, after_end, after_clock}
use Rattle.rules.specs.Calls.{start, stop, stop_all, end, clock, check, outcome, changed_outcome}
use Rattle.rules.proofs.Formed.{formed_few}
use Rattle.engine_records.specs.Sound.{sound}
use Rattle.engine_records.proofs.Formed.{sound_at}

module _ (t : Table) (x : State) (q : Bool) (w : Answered (Unit {0})) where
  -- m is what the code found s to reach
  pub start_done : (s m : ℕ) (y : State) → q ≡ formed t x → not q ≡ false → s < t.count
      → m ≡ pick (leb t.count max_services && ltb s t.count) (reach (all_links t) t.count s) 0
      → y ≡ each (λ d r. started_as (eqb d s) (eqb d s || has_bit m d) r) x t.count → w ≡ record { answer = Ok tt; state = y }
      → changed_outcome w ≡ outcome t x (start s)
  unfolding outcome check after_start start_reaches
  start_done s m y e h l g a d =
      let f : formed t x ≡ true = sym e ∙ (not_false q).0 h in
      let k : m ≡ reach (all_links t) t.count s = g ∙ rw (le-leb t.count max_services (formed_few t x q e ((not_false q).0 h)), lt-ltb s t.count l) in
      let b : y ≡ each (λ d r. started_as (eqb d s) (start_reaches t s d) r) x t.count
      = a ∙ ap (λ n. each (λ d r. started_as (eqb d s) (eqb d s || has_bit n d) r) x t.count) k in
      rw (d, b, f, lt-ltb s t.count l)

  pub start_absent : (s : ℕ) → q ≡ formed t x → not q ≡ false → t.count ≤ s → w ≡ record { answer = Err NoService; state = x }
      → changed_outcome w ≡ outcome t x (start s)
  unfolding outcome check
  start_absent s e h l d =
      let f : formed t x ≡ true = sym e ∙ (not_false q).0 h in
      rw (d, f, le-ltb s t.count l)

  pub start_ill : (s : ℕ) → q ≡ formed t x → not q ≡ true → w ≡ record { answer = Err IllFormed; state = x }
      → changed_outcome w ≡ outcome t x (start s)
  unfolding outcome check
  start_ill s e h d =
      let f : formed t x ≡ false = sym e ∙ (not_true q).0 h in
      rw (d, f)

  pub stop_done : (s : ℕ) (r : Record) → q ≡ formed t x → q ≡ true → s < t.count → r ≡ stopped (record_at x s)
      → w ≡ record { answer = Ok tt; state = with_record x s r } → changed_outcome w ≡ outcome t x (stop s)
  unfolding outcome check after_stop
  stop_done s r e h l a d =
      let f : formed t x ≡ true = sym e ∙ h in
      rw (d, a, f, lt-ltb s t.count l)

  pub stop_absent : (s : ℕ) → q ≡ formed t x → q ≡ true → t.count ≤ s → w ≡ record { answer = Err NoService; state = x }
      → changed_outcome w ≡ outcome t x (stop s)
  unfolding outcome check
  stop_absent s e h l d =
      let f : formed t x ≡ true = sym e ∙ h in
      rw (d, f, le-ltb s t.count l)

  pub stop_ill : (s : ℕ) → q ≡ formed t x → q ≡ false → w ≡ record { answer = Err IllFormed; state = x }
      → changed_outcome w ≡ outcome t x (stop s)
  unfolding outcome check
  stop_ill s e h d =
      let f : formed t x ≡ false = sym e ∙ h in
      rw (d, f)

  -- v is what the code read of the settings
  pub end_done : (s : ℕ) (good : Bool) (r : Record) (v : Settings) → v ≡ settings_at t s → q ≡ formed t x → q ≡ true → s < t.count → (record_at x s).live ≡ true
      → r ≡ pick (sound v x.clock (record_at x s)) (ended_as (record_at x s).phase v x.clock (brings v good) (record_at x s)) (record_at x s)
      → w ≡ record { answer = Ok tt; state = with_record x s r } → changed_outcome w ≡ outcome t x (end s good)
  unfolding outcome check after_end
  end_done s good r v i e h l n a d =
      let f : formed t x ≡ true = sym e ∙ h in
      let b : r ≡ ended_as (record_at x s).phase (settings_at t s) x.clock (brings (settings_at t s) good) (record_at x s)
      = a ∙ rw (i, sound_at t x f s l) in
      rw (d, b, f, lt-ltb s t.count l, n)

  pub clock_done : (to : ℕ) → q ≡ formed t x → q ≡ true → x.clock ≤ to → to ≤ last_clock
      → w ≡ record { answer = Ok tt; state = record { clock = to; records = x.records } } → changed_outcome w ≡ outcome t x (clock to)
  unfolding outcome check after_clock
  clock_done to e h l k d =
      let f : formed t x ≡ true = sym e ∙ h in
      rw (d, f, le-leb x.clock to l, le-leb to last_clock k)

module _ (t : Table) (x : State) (q : Bool) (e : q ≡ formed t x) where
  pub stop_all_done : (y : State) → not q ≡ false → y ≡ each (λ d r. stopped r) x t.count
      → changed_outcome (record { answer = Ok tt; state = y }) ≡ outcome t x stop_all
  unfolding outcome check after_stop_all
  stop_all_done y h a =
      let f : formed t x ≡ true = sym e ∙ (not_false q).0 h in
      rw (a, f)

  pub stop_all_ill : not q ≡ true → changed_outcome (record { answer = Err IllFormed; state = x }) ≡ outcome t x stop_all
  unfolding outcome check
  stop_all_ill h =
      let f : formed t x ≡ false = sym e ∙ (not_true q).0 h in
      rw f

-- ---- the loops over the services, of which those below i are changed by g

pub record Changing (g : ℕ → Record → Record) (t : Table) (x y : State) (i : ℕ) : Type 0 where
  pub few : t.count ≤ max_services
  pub folded : Folded (λ z j. with_record z j (g j (record_at z j))) x t.count y i

module _ {g : ℕ → Record → Record} {t : Table} {x : State} where
  pub changing_none : (q : Bool) → q ≡ formed t x → not q ≡ false → Changing g t x x 0
  changing_none q e h = record { few = formed_few t x q e ((not_false q).0 h); folded = folded_none }

  pub changing_more : {y : State} {r : Record} {i : ℕ} → Changing g t x y i → i < t.count → r ≡ g i (record_at y i)
      → Changing g t x (with_record y i r) (i + 1)
  changing_more {y} {i = i} k l e = record { few = k.few; folded = folded_more k.folded l (ap (with_record y i) e) }

  pub changing_all : {y : State} {i : ℕ} → Changing g t x y i → t.count ≤ i → y ≡ each g x t.count
  unfolding each
  changing_all k l = folded_all k.folded l
