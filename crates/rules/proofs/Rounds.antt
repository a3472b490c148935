-- The rounds: after a stop all, each round after the first takes down a service, so n + 1 rounds take all down.
use Prim.Native.Nat.{◌+◌, ◌<◌, ◌≤◌, suc, zero, ℕ}
use borrow.Author.Tests.{le-leb}
use lib.Dec.{lit<, lit≤}
use mathlib.Core.Bool.{Bool, ◌&&◌, ◌||◌, false, not, true}
use mathlib.Core.List.{List}
use mathlib.Core.Logic.{◌⊎◌, inl, inr}
use mathlib.Core.Path.{◌∙◌, ◌≡◌, ap, refl, sym}
use native.Mathlib.Nat.{eq-or-lt_of_le, le_of_suc-le-suc, le_refl, le_trans, not-suc-le-zero}
use native.Mathlib.Omega.{arith}
use Rattle.base.specs.Folds.{pick, some, sum}
use Rattle.base.specs.Links.{Path, link}
use Rattle.base.proofs.Below.{some_false, some_true}
use Rattle.base.proofs.Links.{join}
use Rattle.base.proofs.Sums.{sum_bound, sum_le, sum_lt, sum_term}
use Rattle.base.proofs.Tests.{either, no_ft, not_both, not_false, not_true, or_not, tests}
use Rattle.std.proofs.lemmas.Bool.{false_from_ne_true}
use Rattle.service.specs.Records.{active, is_down, is_ending, is_starting, is_up, is_user, record_at}
use Rattle.service.specs.Settings.{form_of, settings_at}
use Rattle.std.specs.Prelude.{Some}
use Rattle.service.specs.declared.Phase.{Phase}
use Rattle.service.specs.declared.Phase.TheVariants.{Ending}
use Rattle.service.specs.declared.Record.{Record}
use Rattle.service.specs.declared.State.{State}
use Rattle.service.specs.declared.Table.{Table}
use Rattle.service.proofs.Finite.{bools, finite, given, phases}
use Rattle.service.proofs.Named.{is_ending_lem}
use Rattle.service.proofs.States.{Sized, fresh_record_lem, with_same}
use Rattle.rules.specs.Calls.{Call, Outcome, clock, end, outcome}
use Rattle.rules.specs.Demand.{Clear, NoZeroTimeout, Now, Reported, Round, Rounds, Stretch, accepted, another, call, empty, fresh_now, here, is_refused, is_start, no_rounds, now_after, recorded, round, sent, there}
use Rattle.rules.specs.Dependencies.{blocked, hard, hard_links}
use Rattle.rules.specs.Events.{after_clock, after_end, brings, ended_as}
use Rattle.rules.specs.Rules.{due}
use Rattle.rules.specs.WellFormed.{shaped_at, table_formed}
use Rattle.rules.specs.declared.Rule.TheVariants.{End, Expire}
use Rattle.rules.proofs.Came.{Came, came, clocks, ends, refuses}
use Rattle.rules.proofs.Halting.{halting_active, halting_user}
use Rattle.rules.proofs.Fitting.{end_fits, expire_fits}
use Rattle.rules.proofs.Held.{Unblocked, unblocked}
use Rattle.rules.proofs.Links.{TableSound, no_hard_cycle}
use Rattle.rules.proofs.Next.{Stays}
use Rattle.rules.proofs.Lawful.{Lawful, lawful_walk}
use Rattle.rules.proofs.Safety.{Good, fresh_good, good_step}
use Rattle.rules.proofs.SentKill.{KilledSent}
use Rattle.rules.proofs.Shapes.{active_not_down, down_dead, ending_lives, user_caused}
use Rattle.rules.proofs.Since.{Since, since_call, since_here}
use Rattle.rules.proofs.Steps.{call_walk, walk_keeps, walk_leads}
use Rattle.rules.proofs.Timed.{Timed, timing}
use Rattle.rules.proofs.ToQuiet.{next_quiet}

test_left_ending : phases (λ p. given (active p) (given (not (is_up p)) (given (not (is_starting p)) (is_ending p)))) ≡ true
unfolding phases given
test_left_ending = refl

left_ending : (p : Phase) → active p ≡ true → not (is_up p) ≡ true → not (is_starting p) ≡ true → is_ending p ≡ true
left_ending = simp finite at test_left_ending

test_starting_timing : phases (λ p. given (is_starting p) (timing p)) ≡ true
unfolding phases given
test_starting_timing = refl

starting_timing : (p : Phase) → is_starting p ≡ true → timing p ≡ true
starting_timing = simp finite at test_starting_timing

test_ending_timing : phases (λ p. given (is_ending p) (timing p)) ≡ true
unfolding phases given
test_ending_timing = refl

ending_timing : (p : Phase) → is_ending p ≡ true → timing p ≡ true
ending_timing = simp finite at test_ending_timing

test_starting_expires : phases (λ p. bools (λ z. given (is_starting p) (is_starting p || is_ending p && not z))) ≡ true
unfolding phases bools given
test_starting_expires = refl

starting_expires : (p : Phase) (z : Bool) → is_starting p ≡ true → (is_starting p || is_ending p && not z) ≡ true
starting_expires = simp finite at test_starting_expires

test_ending_expires : phases (λ p. bools (λ z. given (is_ending p) (given (not z) (is_starting p || is_ending p && not z)))) ≡ true
unfolding phases bools given
test_ending_expires = refl

ending_expires : (p : Phase) (z : Bool) → is_ending p ≡ true → not z ≡ true → (is_starting p || is_ending p && not z) ≡ true
ending_expires = simp finite at test_ending_expires

-- ---- among services that are not down one is unblocked, since no chain of hard dependencies comes back

module _ (t : Table) (ts : TableSound t) (S : ℕ → Type 0) where
  -- a member with no member of S below k above it cannot be; so no member can
  top : (k : ℕ)
      → ((m : ℕ) → m < t.count → S m → ((i : ℕ) → i < k → i < t.count → S i → Path (hard_links t) i m → ⊥) → ⊥)
      → (s : ℕ) → s < t.count → S s → ⊥
  top zero Q s sl y = Q s sl y (λ i l. absurd (not-suc-le-zero l))
  top (suc k) Q s sl y =
      top k
      (λ m ml u h.
      Q m ml u
      (λ i il in' z p.
      either
      (eq-or-lt_of_le (le_of_suc-le-suc il))
      (λ e.
      Q i in' z
      (λ j jl jn w o.
      either
      (eq-or-lt_of_le (le_of_suc-le-suc jl))
      (λ q. no_hard_cycle t ts i in' (rw (q ∙ sym e) at o))
      (λ lt. h j lt jn w (join (hard_links t) o p))))
      (λ lt. h i lt in' z p)))
      s
      sl
      y

blocker : (t : Table) (x : State) (m : ℕ) → blocked t x m ≡ true → (e : ℕ) × (e < t.count) × ((hard t e m ≡ true) × (active (record_at x e).phase ≡ true))
unfolding blocked
blocker t x m b = simp (tests, some_true) at b

one_unblocked : (t : Table) (ts : TableSound t) (x : State) → (s : ℕ) → s < t.count → is_down (record_at x s).phase ≡ false
    → (m : ℕ) × (m < t.count) × (is_down (record_at x m).phase ≡ false) × Unblocked t x m
one_unblocked t ts x s sl d =
    either
    (or_not (some (λ m. not (is_down (record_at x m).phase) && not (blocked t x m)) t.count))
    (λ y. let k = simp (tests, some_true) at y in (k.0, k.1, k.2.0, (unblocked t x k.0).0 k.2.1))
    (λ n.
    let all-blocked = simp (tests, some_false) at n in
    absurd
    (top t ts (λ m. is_down (record_at x m).phase ≡ false) t.count
    (λ m ml y h.
    let k = blocker t x m (all-blocked m ml y) in
    h k.0 k.1 k.1 ((not_true _).0 (active_not_down (record_at x k.0).phase k.2.1)) (unfold hard in link k.2.0))
    s sl d))

-- ---- what an accepted clock reading and an accepted end do

clock_state : (t : Table) (x : State) (n : ℕ) → accepted t x (clock n) ≡ true → (outcome t x (clock n)).state ≡ after_clock x n
unfolding accepted
clock_state t x n a = go (came t x (clock n)) a
  where
    go : {o : Outcome} → Came t x (clock n) o → not (is_refused o.answer) ≡ true → o.state ≡ after_clock x n
    go (refuses k) e = no_ft e
    go (clocks l m) e = refl

end_state : (t : Table) (x : State) (s : ℕ) (good : Bool) → accepted t x (end s good) ≡ true
    → ((record_at x s).live ≡ true) × ((outcome t x (end s good)).state ≡ after_end t x s good)
unfolding accepted
end_state t x s good a = go (came t x (end s good)) a
  where
    go : {o : Outcome} → Came t x (end s good) o → not (is_refused o.answer) ≡ true → ((record_at x s).live ≡ true) × (o.state ≡ after_end t x s good)
    go (refuses k) e = no_ft e
    go (ends l lives) e = (lives, refl)

less : (a b : Bool) → (a ≡ true → b ≡ true) → pick b 0 1 ≤ pick a 0 1
less true true h = le_refl 0
less true false h = no_ft (h refl)
less false true h = lit≤ tt
less false false h = le_refl 1

at_most : (a : Bool) → pick a 0 1 ≤ 1
at_most true = lit≤ tt
at_most false = lit≤ tt

module _ (t : Table) (tf : table_formed t ≡ true) (ts : TableSound t) (nz : NoZeroTimeout t) where
  -- what is known wherever a list has come to
  pub record Reached (n : Now) : Type 0 where
    pub good : Good t ts n.live n.state
    pub timed : Timed t n.state
    pub sends : KilledSent t n.sent_kill n.state

  pub fresh_reached : Reached fresh_now
  fresh_reached = record {
    good = fresh_good t ts;
    timed = λ s _ e. no_ft (rw (fresh_record_lem s) at e);
    sends = λ s _ d. no_ft (rw (fresh_record_lem s) at d);
  }

  pub reached_call : (n : Now) → Reached n → (c : Call) → Reached (now_after t n c)
  unfolding now_after
  reached_call n h c =
      let w = lawful_walk t ts true (call_walk t n.state c) h.good.sound in
      record {
        good = (walk_leads (Lawful t) (Clear t) recorded (Good t ts) (good_step t ts) w n.live h.good).keeps;
        timed = walk_keeps (Lawful t) (Timed t) (λ m law q s l. (law.fair s l).times nz (q s l)) w h.timed;
        sends =
            (walk_leads (Lawful t) (λ u m. Unit {0}) sent (KilledSent t) (λ u m law q. (tt, λ s l. (law.fair s l).kills u (q s l)))
            w n.sent_kill h.sends).keeps;
      }

  -- and on the way down from x₀
  pub record HaltingSince (x₀ : State) (n : Now) : Type 0 where
    pub since : Since t x₀ n.state
    pub reached : Reached n

  halt_call : (x₀ : State) (n : Now) (c : Call) → (is_start c && accepted t n.state c) ≡ false → HaltingSince x₀ n → HaltingSince x₀ (now_after t n c)
  halt_call x₀ n c b f = record {
    since = unfold now_after in since_call t ts x₀ n.state c b f.reached.good.sound f.since;
    reached = reached_call n f.reached c;
  }

  pub halt_stretch : (x₀ : State) {n n' : Now} {cs : List Call} → Stretch t n cs n' → HaltingSince x₀ n → HaltingSince x₀ n'
  halt_stretch x₀ empty f = f
  halt_stretch x₀ (call {n = n} c b r) f = halt_stretch x₀ r (halt_call x₀ n c b f)

  pub halt_here : {x₀ : State} {n : Now} → HaltingSince x₀ n → HaltingSince n.state n
  halt_here {x₀} {n} f = record { since = since_here t ts x₀ n.state f.since; reached = f.reached }

  shapes : {x₀ : State} {n : Now} → HaltingSince x₀ n → (s : ℕ) → s < t.count → shaped_at t n.state s ≡ true
  shapes f s l = f.reached.good.sound.shapes s l

  -- an accepted end takes down what is ending
  end_down : (x : State) (s : ℕ) (good : Bool) → s < t.count → Sized x → is_ending (record_at x s).phase ≡ true → is_down (record_at (after_end t x s good) s).phase ≡ true
  unfolding after_end ended_as
  end_down x s good l z e =
      rw (with_same x s (ended_as (record_at x s).phase (settings_at t s) x.clock (brings (settings_at t s) good) (record_at x s)) z (le_trans l ts.few)) (go (record_at x s).phase (is_ending_lem (record_at x s).phase e))
    where
      go : (p : Phase) → p ≡ Ending → is_down (ended_as p (settings_at t s) x.clock (brings (settings_at t s) good) (record_at x s)).phase ≡ true
      go p q = rw q

  down_not_live : {x₀ : State} {n : Now} (s : ℕ) → s < t.count → HaltingSince x₀ n → is_down (record_at n.state s).phase ≡ true → (record_at n.state s).live ≡ false
  unfolding shaped_at
  down_not_live {n = n} s l f d =
      (not_true _).0 (down_dead (form_of (settings_at t s)) (record_at n.state s).phase (record_at n.state s).live (record_at n.state s).cause (shapes f s l) d)

  -- an end that is reported takes its service down, if it was ending
  reported_down : (s : ℕ) → s < t.count → {n n' : Now} {cs : List Call} → Reported t s n cs → Stretch t n cs n' → HaltingSince n.state n
      → (is_down (record_at n.state s).phase ≡ true) ⊎ (is_ending (record_at n.state s).phase ≡ true) → is_down (record_at n'.state s).phase ≡ true
  reported_down s l {n} (here good a) (call c b r) f y =
      let k = end_state t n.state s good a in
      let n1 : Now = now_after t n (end s good) in
      let down1 : is_down (record_at n1.state s).phase ≡ true =
      either
      y
      (λ d. absurd (not_both k.0 (down_not_live s l f d)))
      (λ e. unfold now_after in rw k.1 (end_down n.state s good l f.reached.good.sound.sized e)) in
      ((halt_stretch n1.state r (halt_here (halt_call n.state n (end s good) b f))).since.goes s l).down down1
  reported_down s l {n} (there _ e) (call c b r) f y =
      let f1 = halt_call n.state n c b f in
      let g = f1.since.goes s l in
      reported_down s l e r (halt_here f1)
      (either y (λ d. inl (g.down d)) (λ u. either (g.ending u) (λ d. inl d) (λ m. inr m.0)))

  -- the process of a service that is ending lives, by the record
  ending_recorded : {x₀ : State} {n : Now} → HaltingSince x₀ n → (s : ℕ) → s < t.count → is_ending (record_at n.state s).phase ≡ true → n.live s ≡ true
  unfolding shaped_at
  ending_recorded {n = n} f s l e =
      f.reached.good.same s l
      ∙ ending_lives (form_of (settings_at t s)) (record_at n.state s).phase (record_at n.state s).live (record_at n.state s).cause (shapes f s l) e

  -- past its deadline in a quiet state, a service is not starting, and one that is ending has been killed
  module _ (x : State) (q : Stays t x) (s : ℕ) (l : s < t.count) (e : ℕ) (at-e : (record_at x s).deadline ≡ Some e) (past : e ≤ x.clock) where
    is_due : due x.clock (record_at x s).deadline ≡ true
    unfolding due
    is_due = rw at-e (le-leb e x.clock past)

    not_starting : is_starting (record_at x s).phase ≡ true → ⊥
    not_starting b =
        not_both
        ((expire_fits t x s).1 record { dues = is_due; which = starting_expires (record_at x s).phase (record_at x s).killed b })
        (q.none Expire s l)

    is_killed : is_ending (record_at x s).phase ≡ true → (record_at x s).killed ≡ true
    is_killed b =
        either
        (or_not (record_at x s).killed)
        (λ k. k)
        (λ k.
        absurd
        (not_both
        ((expire_fits t x s).1 record { dues = is_due; which = ending_expires (record_at x s).phase (record_at x s).killed b ((not_true _).1 k) })
        (q.none Expire s l)))

  -- each service that is not down and is unblocked is ending
  Ready : State → Type 0
  Ready x = (s : ℕ) → s < t.count → is_down (record_at x s).phase ≡ false → Unblocked t x s → is_ending (record_at x s).phase ≡ true

  -- what a round comes to
  record Turned (n n' : Now) : Type 0 where
    halt : HaltingSince n.state n'
    ready : Ready n'.state
    gone : (s : ℕ) → s < t.count → is_ending (record_at n.state s).phase ≡ true → is_down (record_at n'.state s).phase ≡ true

  turn : {n n' : Now} {cs : List Call} → Round t n cs n' → HaltingSince n.state n → Turned n n'
  unfolding Ready
  turn {n} (round {waited = waited} {read = read} {still = still} {reported = reported} {over = over} c paused taken past passed calmed ended rep rested) f = record {
    halt = at_over;
    ready = λ s l d u. ready' s l d u;
    gone = λ s l e. gone' s l e;
  }
    where
      at_waited : HaltingSince n.state waited
      at_waited = halt_stretch n.state paused f

      -- from the clock reading on
      at_read : HaltingSince waited.state read
      at_read = halt_stretch waited.state passed (halt_call waited.state waited (clock c) refl (halt_here at_waited))

      at_still : HaltingSince waited.state still
      at_still = halt_stretch waited.state calmed.calls at_read

      on_to_over : HaltingSince still.state over
      on_to_over = halt_stretch still.state rested.calls (halt_stretch still.state ended (halt_here at_still))

      at_over : HaltingSince n.state over
      at_over =
          halt_stretch n.state rested.calls
          (halt_stretch n.state ended
          (halt_stretch n.state calmed.calls (halt_stretch n.state passed (halt_call n.state waited (clock c) refl at_waited))))

      quiet_still : Stays t still.state
      quiet_still = (next_quiet t still.state calmed.quiet).1

      quiet_over : Stays t over.state
      quiet_over = (next_quiet t over.state rested.quiet).1

      -- the clock has reached what was pending at the reading
      reached_clock : c ≤ still.state.clock
      reached_clock =
          let m : Now = now_after t waited (clock c) in
          let a : m.state.clock ≡ c = unfold now_after in unfold after_clock in ap (λ (y : State). y.clock) (clock_state t waited.state c taken) in
          let g : HaltingSince m.state m = halt_here (halt_call waited.state waited (clock c) refl (halt_here at_waited)) in
          let b : m.state.clock ≤ still.state.clock = (halt_stretch m.state calmed.calls (halt_stretch m.state passed g)).since.clocks in
          omega arith

      -- a deadline of the reading that still stands is past
      overdue : (s : ℕ) → s < t.count → timing (record_at waited.state s).phase ≡ true → (record_at still.state s).deadline ≡ (record_at waited.state s).deadline
          → (e : ℕ) × ((record_at still.state s).deadline ≡ Some e) × (e ≤ still.state.clock)
      overdue s l b d =
          let k = at_waited.reached.timed s l b in
          let p : k.0 ≤ c = past s k.0 l k.1 in
          let r = reached_clock in
          (k.0, d ∙ k.1, le_trans p r)

      ready' : (s : ℕ) → s < t.count → is_down (record_at over.state s).phase ≡ false → Unblocked t over.state s → is_ending (record_at over.state s).phase ≡ true
      ready' s l d u =
          let halts = at_over.since.halting s l in
          let r : Record = record_at over.state s in
          let on' : active r.phase ≡ true = halting_active r.phase r.aside r.wanted r.cause halts ((not_true _).1 d) in
          let user : is_user r.cause ≡ true = halting_user r.phase r.aside r.wanted r.cause halts on' in
          left_ending r.phase on'
          ((not_true _).1
          (false_from_ne_true (is_up r.phase)
          (λ b.
          not_both
          ((end_fits t over.state s).1 record { up = b; caused = (not_true _).0 (user_caused r.cause user); unblocked = (unblocked t over.state s).1 u })
          (quiet_over.none End s l))))
          ((not_true _).1
          (false_from_ne_true (is_starting r.phase)
          (λ e.
          let k = (on_to_over.since.goes s l).starting e in
          let m = (at_still.since.goes s l).starting k.0 in
          let w = overdue s l (starting_timing (record_at waited.state s).phase m.0) m.1 in
          not_starting still.state quiet_still s l w.0 w.1 w.2 k.0)))

      gone' : (s : ℕ) → s < t.count → is_ending (record_at n.state s).phase ≡ true → is_down (record_at over.state s).phase ≡ true
      gone' s l e =
          either
          ((at_waited.since.goes s l).ending e)
          (λ d. (on_to_over.since.goes s l).down ((at_still.since.goes s l).down d))
          (λ k.
          either
          ((at_still.since.goes s l).ending k.0)
          (λ d. (on_to_over.since.goes s l).down d)
          (λ m.
          let w = overdue s l (ending_timing (record_at waited.state s).phase k.0) m.1 in
          let down_reported : is_down (record_at reported.state s).phase ≡ true =
          reported_down s l
          (rep s l (ending_recorded at_still s l m.0) (at_still.reached.sends s l (is_killed still.state quiet_still s l w.0 w.1 w.2 m.0)).1)
          ended (halt_here at_still) (inr m.0) in
          ((halt_stretch reported.state rested.calls (halt_here (halt_stretch still.state ended (halt_here at_still)))).since.goes s l).down down_reported))

  -- ---- how many services are not down

  left : State → ℕ → ℕ
  left x s = pick (is_down (record_at x s).phase) 0 1

  count : State → ℕ
  count x = sum (left x) t.count

  -- no service comes to be other than down
  Lasts : State → State → Type 0
  Lasts x x' = (s : ℕ) → s < t.count → is_down (record_at x s).phase ≡ true → is_down (record_at x' s).phase ≡ true

  count_le : (x x' : State) → Lasts x x' → count x' ≤ count x
  unfolding count left Lasts
  count_le x x' h = sum_le (left x') (left x) t.count (λ s l. less (is_down (record_at x s).phase) (is_down (record_at x' s).phase) (h s l))

  count_lt : (x x' : State) (m : ℕ) → m < t.count → is_down (record_at x m).phase ≡ false → is_down (record_at x' m).phase ≡ true → Lasts x x' → count x' < count x
  unfolding count left Lasts
  count_lt x x' m l a b h =
      sum_lt (left x') (left x) t.count m l (rw (a, b) (lit< tt)) (λ s sl _. less (is_down (record_at x s).phase) (is_down (record_at x' s).phase) (h s sl))

  count_all : (x : State) → count x ≤ t.count
  unfolding count left
  count_all x = let a = sum_bound (left x) 1 t.count (λ s l. at_most (is_down (record_at x s).phase)) in omega arith

  count_none : (x : State) → ((s : ℕ) → s < t.count → is_down (record_at x s).phase ≡ true) → count x ≡ 0
  unfolding count left
  count_none x h = let a = sum_bound (left x) 0 t.count (λ s l. rw (h s l) (le_refl 0)) in omega arith

  none_count : (x : State) → count x ≡ 0 → (s : ℕ) → s < t.count → is_down (record_at x s).phase ≡ true
  unfolding count left
  none_count x z s l =
      either
      (or_not (is_down (record_at x s).phase))
      (λ d. d)
      (λ d. let a : 1 ≤ count x = rw d at (sum_term (left x) t.count s l) in absurd (omega arith))

  -- after j + 1 rounds
  record After (j : ℕ) (n : Now) : Type 0 where
    halt : HaltingSince n.state n
    ready : Ready n.state
    few : (count n.state ≡ 0) ⊎ (count n.state + j ≤ t.count)

  Then : ℕ → Now → Type 0
  Then zero n = HaltingSince n.state n
  Then (suc j) n = After j n

  first_round : {n n' : Now} {cs : List Call} → Round t n cs n' → HaltingSince n.state n → After 0 n'
  first_round {n} {n'} r f =
      let y = turn r f in
      let c = count_all n'.state in
      record { halt = halt_here y.halt; ready = y.ready; few = inr (omega arith) }

  next_round : (j : ℕ) {n n' : Now} {cs : List Call} → Round t n cs n' → After j n → After (suc j) n'
  unfolding Ready Lasts
  next_round j {n} {n'} r a = record {
    halt = halt_here y.halt;
    ready = y.ready;
    few = falls a.few (or_not (some (λ s. not (is_down (record_at n.state s).phase)) t.count));
  }
    where
      y : Turned n n'
      y = turn r a.halt

      downs : Lasts n.state n'.state
      downs s l d = (y.halt.since.goes s l).down d

      falls : (count n.state ≡ 0) ⊎ (count n.state + j ≤ t.count)
          → (some (λ s. not (is_down (record_at n.state s).phase)) t.count ≡ true) ⊎ (some (λ s. not (is_down (record_at n.state s).phase)) t.count ≡ false)
          → (count n'.state ≡ 0) ⊎ (count n'.state + suc j ≤ t.count)
      falls (inl z) _ = let c = count_le n.state n'.state downs in inl (omega arith)
      falls (inr h) (inl u) =
          let k = (some_true (λ s. not (is_down (record_at n.state s).phase)) t.count).0 u in
          let m = one_unblocked t ts n.state k.0 k.1 ((not_true _).0 k.2) in
          let c = count_lt n.state n'.state m.0 m.1 m.2 (y.gone m.0 m.1 (a.ready m.0 m.1 m.2 m.3)) downs in
          inr (omega arith)
      falls (inr h) (inr u) =
          inl (count_none n'.state (λ s l. downs s l ((not_false _).0 ((some_false (λ s. not (is_down (record_at n.state s).phase)) t.count).0 u s l))))

  after_rounds : {k : ℕ} {n n' : Now} {cs : List Call} → Rounds t k n cs n' → HaltingSince n.state n → Then k n'
  unfolding Then
  after_rounds no_rounds f = f
  after_rounds (another {k} {n' = n1} {n'' = n2} {ds = ds} rs r) f = go k r (after_rounds rs f)
    where
      go : (k : ℕ) → Round t n1 ds n2 → Then k n1 → After k n2
      go zero r f = first_round r f
      go (suc j) r a = next_round j r a

  pub all_down : {n n' : Now} {cs : List Call} → Rounds t (suc t.count) n cs n' → HaltingSince n.state n
      → HaltingSince n'.state n' × ((s : ℕ) → s < t.count → is_down (record_at n'.state s).phase ≡ true)
  unfolding Then
  all_down {n' = n'} rs f = let a = after_rounds rs f in (a.halt, none_count n'.state (either a.few (λ z. z) (λ h. omega arith)))
