-- A lawful step: one relation between the states around a moment. It is shown here once for each rule and each event; that the hard
-- dependencies hold, that the record is the live flags, that deadlines stand, that a killed service was sent its KILL, and how services go down
-- after a stop all, each follow from it with no look at the rules.
use Prim.Native.Nat.{◌<◌, ◌≤◌, ℕ}
use mathlib.Core.Bool.{Bool, false, true}
use mathlib.Core.List.{List}
use mathlib.Core.Logic.{◌⊎◌, inl, inr}
use mathlib.Core.Path.{◌∙◌, ◌≡◌, refl, sym}
use native.Mathlib.Nat.{le_refl, le_trans}
use Rattle.base.proofs.Tests.{either, no_tf}
use Rattle.service.specs.Records.{active, is_up, record_at, with_record}
use Rattle.service.specs.Settings.{settings_at}
use Rattle.service.specs.declared.Record.{Record}
use Rattle.service.specs.declared.State.{State}
use Rattle.service.specs.declared.Table.{Table}
use Rattle.service.proofs.States.{With, other, same, with_all, with_at}
use Rattle.rules.specs.Demand.{Mark, Moment, NoZeroTimeout, Set, began, deadline_kill, ended, handed, kills_by, moment, passed, recorded_by, sent_by}
use Rattle.rules.specs.Dependencies.{hard}
use Rattle.rules.specs.Events.{after_clock, after_end, after_start, after_stop, after_stop_all, brings, each, start_reaches, started_as, stopped}
use Rattle.rules.specs.Rules.{act, hands, leaves}
use Rattle.std.specs.Prelude.{Some}
use Rattle.rules.specs.declared.Rule.{Rule}
use Rattle.rules.proofs.Each.{each_below, each_clock}
use Rattle.rules.proofs.Formed.{Sound, sound_clock, sound_end, sound_rule, sound_start, sound_stop, sound_stop_all}
use Rattle.rules.proofs.Halting.{Goes, ended_halting, goes_refl, halting_at, leaves_halting, stop_goes, stop_halting, stopped_ending}
use Rattle.rules.proofs.Held.{Comes, Parts, Unblocked, end_comes, end_parts, rule_comes, rule_parts}
use Rattle.rules.proofs.Links.{TableSound}
use Rattle.rules.proofs.Next.{Fires, next_either}
use Rattle.rules.proofs.Recorded.{Acts, Concerns, end_dies, hands_on, recorded_others, rule_clear, rule_lives}
use Rattle.rules.proofs.SentKill.{KilledAt, end_kills, rule_kills, sent_others}
use Rattle.rules.proofs.Shapes.{stop_active, stop_up, up_active}
use Rattle.rules.proofs.Steps.{Taken, Walk, acts, clocks, ends, is_started, starts, stops, stops_all, walk_with}
use Rattle.rules.proofs.Timed.{TimedAt, end_timed, leaves_timed, stopped_timing}

-- what a step keeps of one service's record, which was p and is r
pub record Fair (t : Table) (k : Mark) (s : ℕ) (p r : Record) : Type 0 where
  pub lives : (v : Set) → v s ≡ p.live → recorded_by k v s ≡ r.live
  pub kills : (u : Set) → KilledAt u s p → KilledAt (sent_by k u) s r
  pub times : NoZeroTimeout t → TimedAt p → TimedAt r
  pub halts : is_started k ≡ false → halting_at p ≡ true → (halting_at r ≡ true) × Goes p r

pub record Lawful (t : Table) (m : Moment) : Type 0 where
  pub sound : Sound t m.after
  pub clocks : m.before.clock ≤ m.after.clock
  -- a service comes to be active only where its hard dependencies are up, and leaves up only where it is not blocked
  pub comes : (s : ℕ) → s < t.count → active (record_at m.after s).phase ≡ true
      → (active (record_at m.before s).phase ≡ true) ⊎ ((d : ℕ) → d < t.count → hard t s d ≡ true → is_up (record_at m.after d).phase ≡ true)
  pub parts : (s : ℕ) → s < t.count → is_up (record_at m.before s).phase ≡ true
      → (is_up (record_at m.after s).phase ≡ true) ⊎ Unblocked t m.after s
  -- an action is handed out only for a service that is not up, or is not blocked
  pub clear : (s : ℕ) → Acts m.mark s → (is_up (record_at m.before s).phase ≡ false) ⊎ Unblocked t m.before s
  pub fair : (s : ℕ) → s < t.count → Fair t m.mark s (record_at m.before s) (record_at m.after s)

-- ---- a step that changes no record, one, or each by itself

-- a record that stays, of a service that the mark does not concern
fair_same : (t : Table) (k : Mark) (s : ℕ) (p : Record) → (Concerns k s → ⊥) → Fair t k s p p
fair_same t k s p n = record {
  lives = λ v h. recorded_others k v s n ∙ h;
  kills = λ u h d. let m = h d in (m.0, sent_others k u s n ∙ m.1);
  times = λ nz h. h;
  halts = λ _ h. (h, goes_refl p);
}

module _ (t : Table) (ts : TableSound t) (x : State) (h : Sound t x) where
  same_lawful : (k : Mark) (y : State) → Sound t y → x.clock ≤ y.clock → ((s : ℕ) → record_at y s ≡ record_at x s)
      → ((s : ℕ) → Concerns k s → ⊥) → ((s : ℕ) → Acts k s → ⊥) → Lawful t (moment k x y)
  same_lawful k y z c e n a = record {
    sound = z;
    clocks = c;
    comes = λ s l on. inl (rw (e s) at on);
    parts = λ s l up. inl (rw (e s) up);
    clear = λ s q. absurd (a s q);
    fair = λ s l. rw (e s) (fair_same t k s (record_at x s) (n s));
  }

  -- the record of s alone, to r
  module _ (s : ℕ) (l : s < t.count) (r : Record) where
    one_lawful : (k : Mark) → Sound t (with_record x s r) → ((e : ℕ) → Concerns k e → s ≡ e) → Comes t x s r → Parts t x s r
        → ((e : ℕ) → Acts k e → (is_up (record_at x e).phase ≡ false) ⊎ Unblocked t x e)
        → Fair t k s (record_at x s) r → Lawful t (moment k x (with_record x s r))
    one_lawful k z only comes parts clear fair = record {
      sound = z;
      clocks = unfold with_record in le_refl x.clock;
      comes = λ i il. comes_at i (at i);
      parts = λ i il. parts_at i (at i);
      clear = clear;
      fair =
          with_all x s r h.sized (le_trans l ts.few) t.count (λ i q. Fair t k i (record_at x i) q)
          (λ i il q. fair_same t k i (record_at x i) (λ c. q (sym (only i c)))) fair;
    }
      where
        at : (i : ℕ) → With x s r i
        at = with_at x s r h.sized (le_trans l ts.few)

        -- what is up and active in x on the two sides of a hard dependency of s on itself
        own : is_up (record_at x s).phase ≡ true → hard t s s ≡ true → is_up r.phase ≡ true
        own u q = either (parts u) (λ y. y) (λ free. absurd (free s l q (up_active (record_at x s).phase u)))

        up_at_lem : (d : ℕ) → hard t s d ≡ true → is_up (record_at x d).phase ≡ true → With x s r d → is_up (record_at (with_record x s r) d).phase ≡ true
        up_at_lem d q u (same e w) = rw w (own (rw e at u) (rw e at q))
        up_at_lem d q u (other e w) = rw w u

        comes_at : (i : ℕ) → With x s r i → active (record_at (with_record x s r) i).phase ≡ true
            → (active (record_at x i).phase ≡ true) ⊎ ((d : ℕ) → d < t.count → hard t i d ≡ true → is_up (record_at (with_record x s r) d).phase ≡ true)
        comes_at i (same e w) on =
            either
            (comes (rw w at on))
            (λ was. inl (rw e was))
            (λ ups. inr (λ d dl q. let q' : hard t s d ≡ true = rw e at q in up_at_lem d q' (ups d dl q') (at d)))
        comes_at i (other e w) on = inl (rw w at on)

        -- with no active hard dependent in x, s has none afterwards
        still_free : Unblocked t x s → (e : ℕ) → e < t.count → hard t e s ≡ true → With x s r e → active (record_at (with_record x s r) e).phase ≡ true → ⊥
        still_free free e el q (same i w) on =
            let q' : hard t s s ≡ true = rw i at q in
            either (comes (rw w at on)) (λ was. free s l q' was) (λ ups. free s l q' (up_active (record_at x s).phase (ups s l q')))
        still_free free e el q (other i w) on = free e el q (rw w at on)

        parts_at : (i : ℕ) → With x s r i → is_up (record_at x i).phase ≡ true
            → (is_up (record_at (with_record x s r) i).phase ≡ true) ⊎ Unblocked t (with_record x s r) i
        parts_at i (same e w) u =
            either
            (parts (rw e at u))
            (λ y. inl (rw w y))
            (λ free. inr (λ j jl q on. let q' : hard t j s ≡ true = rw e at q in still_free free j jl q' (at j) on))
        parts_at i (other e w) u = inl (rw w u)

  -- each record by itself, so that none comes to be active and none leaves up
  each_lawful : (k : Mark) (f : ℕ → Record → Record) → Sound t (each f x t.count) → ((e : ℕ) → Acts k e → ⊥)
      → ((e : ℕ) (r : Record) → active (f e r).phase ≡ true → active r.phase ≡ true)
      → ((e : ℕ) (r : Record) → is_up r.phase ≡ true → is_up (f e r).phase ≡ true)
      → ((e : ℕ) (r : Record) → Fair t k e r (f e r)) → Lawful t (moment k x (each f x t.count))
  each_lawful k f z n comes parts fair = record {
    sound = z;
    clocks = rw (each_clock f x t.count) (le_refl x.clock);
    comes = λ s l on. inl (comes s (record_at x s) (rw (at s l) at on));
    parts = λ s l u. inl (rw (at s l) (parts s (record_at x s) u));
    clear = λ s q. absurd (n s q);
    fair = λ s l. rw (at s l) (fair s (record_at x s));
  }
    where
      at : (s : ℕ) → s < t.count → record_at (each f x t.count) s ≡ f s (record_at x s)
      at s l = each_below f x t.count h.sized ts.few s l

-- ---- each rule and each event

module _ (t : Table) (ts : TableSound t) where
  rule_lawful : (x : State) → Sound t x → (k : Rule) (s : ℕ) → Fires t x k s
      → Lawful t (moment (handed (hands k t x s) (kills_by (Some (k, s)) x)) x (with_record x s (leaves k t x s)))
  rule_lawful x h k s f =
      let fit = f.lowest.passes in
      let l = f.lowest.bound in
      one_lawful t ts x h s l (leaves k t x s) (handed (hands k t x s) (kills_by (Some (k, s)) x)) (sound_rule t ts x k s h f)
      (λ e q. hands_on k t x s e q)
      (rule_comes t x s k fit)
      (rule_parts t x s k fit)
      (rule_clear t x s k (kills_by (Some (k, s)) x) fit)
      record {
        lives = λ v q. rule_lives t x s v q k (kills_by (Some (k, s)) x) (h.shapes s l) f;
        kills = λ u q. rule_kills t x s u q k fit;
        times = λ nz q. leaves_timed t nz x s l q k fit;
        halts = λ _ q. leaves_halting t x s q k fit;
      }

  stop_fair : (s : ℕ) (r : Record) → Fair t passed s r (stopped r)
  stop_fair s r = record {
    lives = λ v q. q;
    kills = λ u q d. let m = q d in (stopped_ending r.phase m.0, m.1);
    times = λ nz q e. q (stopped_timing r.phase e);
    halts = λ _ _. (stop_halting r.phase r.aside r.cause, stop_goes r);
  }

  end_lawful : (x : State) → Sound t x → (s : ℕ) (good : Bool) → s < t.count → Lawful t (moment (ended s) x (after_end t x s good))
  unfolding after_end
  end_lawful x h s good l =
      let b = brings (settings_at t s) good in
      let p = (record_at x s).phase in
      one_lawful t ts x h s l _ (ended s) (unfold after_end in sound_end t ts x s good l h)
      (λ e q. q)
      (end_comes t x s p refl b)
      (end_parts t x s p refl b)
      (λ e q. absurd q)
      record {
        lives = λ v q. end_dies t x s v p b;
        kills = λ u q. end_kills t x s u q p refl b;
        times = λ nz q. end_timed t nz x s l q p b;
        halts = λ _ q. ended_halting t x s q b p refl;
      }

  pub taken_lawful : (b : Bool) (m : Moment) → Taken t b m → Sound t m.before → Lawful t m
  unfolding act deadline_kill
  taken_lawful b m (acts {x}) h =
      either
      (next_either t x)
      (λ q. rw (q.does, q.chooses) (same_lawful t ts x h _ x h (le_refl x.clock) (λ s. refl) (λ s n. n) (λ s n. n)))
      (λ q. rw (q.2.does, q.2.chooses) (rule_lawful x h q.0 q.1 q.2))
  taken_lawful b m (starts {x} s e l) h =
      unfold after_start in
      each_lawful t ts x h began (λ d r. started_as _ (start_reaches t s d) r) (unfold after_start in sound_start t ts x s h) (λ e n. n) (λ e r a. a) (λ e r u. u)
      (λ e r. record { lives = λ v q. q; kills = λ u q. q; times = λ nz q. q; halts = λ n _. no_tf n })
  taken_lawful b m (stops {x} s l) h =
      unfold after_stop in
      one_lawful t ts x h s l (stopped (record_at x s)) passed (unfold after_stop in sound_stop t ts x s l h) (λ e n. absurd n)
      (λ a. inl (stop_active (record_at x s).phase a)) (λ u. inl (stop_up (record_at x s).phase u)) (λ e n. absurd n) (stop_fair s (record_at x s))
  taken_lawful b m (stops_all {x}) h =
      unfold after_stop_all in
      each_lawful t ts x h passed (λ d r. stopped r) (unfold after_stop_all in sound_stop_all t ts x h) (λ e n. n) (λ e r. stop_active r.phase) (λ e r. stop_up r.phase) stop_fair
  taken_lawful b m (ends {x} s good l lives) h = end_lawful x h s good l
  taken_lawful b m (clocks {x} n l k) h =
      same_lawful t ts x h passed (after_clock x n) (sound_clock t ts x n l k h) (unfold after_clock in l) (λ s. unfold after_clock in unfold record_at in refl) (λ s q. q) (λ s q. q)

  -- the steps of a walk are lawful
  pub lawful_walk : (b : Bool) {x y : State} {ms : List Moment} → Walk (Taken t b) x ms y → Sound t x → Walk (Lawful t) x ms y
  lawful_walk b w h = walk_with (Taken t b) (Lawful t) (Sound t) (λ m k q. let law = taken_lawful b m k q in (law, law.sound)) w h
