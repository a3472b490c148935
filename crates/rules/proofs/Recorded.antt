-- What a step does to the record of launches, stop commands and reported ends: it goes on giving the live flag of each service. And an
-- action is handed out only for a service on which nothing active hard-depends.
use Prim.Native.Nat.{◌<◌, ℕ}
use borrow.Author.Tests.{eq-eqb, ne_eqb}
use lib.Dec.{lit<}
use mathlib.Core.Bool.{Bool, false, not, true}
use mathlib.Core.Logic.{◌≢◌, ◌⊎◌, inl, inr}
use mathlib.Core.Path.{◌∙◌, ◌≡◌, refl, subst, sym}
use Rattle.base.specs.Folds.{pick}
use Rattle.base.proofs.Tests.{not_both, not_true}
use Rattle.std.proofs.lemmas.Bool.{false_from_ne_true}
use Rattle.service.specs.Records.{is_starting, is_up, record_at}
use Rattle.service.specs.Settings.{form_of, settings_at, is_passing}
use Rattle.service.specs.declared.Action.TheVariants.{Launch, Moved, Quiet, Signal, StopCommand}
use Rattle.service.specs.declared.Form.{Form}
use Rattle.service.specs.declared.Form.TheVariants.{Bare, Passing, Direct, Delayed}
use Rattle.service.specs.declared.Phase.{Phase}
use Rattle.service.specs.declared.Phase.TheVariants.{Down, Ending, Starting, Up, Waiting}
use Rattle.service.specs.declared.Signal.{Signal as SignalName}
use Rattle.service.specs.declared.Signal.TheVariants.{Hup, Int, Kill, None as NoSignal, Quit, Term, Usr1, Usr2}
use Rattle.service.specs.declared.State.{State}
use Rattle.service.specs.declared.Table.{Table}
use Rattle.service.proofs.Named.{is_waiting_lem}
use Rattle.rules.specs.Demand.{ActsOn, Mark, Set, began, ended, handed, passed, recorded_by, with, without}
use Rattle.rules.specs.Events.{ended_as}
use Rattle.rules.specs.Rules.{begun_action, begun_live, end_action, fits, hands, leaves, nothing_to_end, term_action}
use Rattle.rules.specs.WellFormed.{shaped_at}
use Rattle.rules.specs.declared.Rule.{Rule}
use Rattle.rules.specs.declared.Rule.TheVariants.{Abandon, Begin, End, Expire, Lose, Release, Settle, Wake}
use Rattle.rules.proofs.Fitting.{begin_fits, end_fits, expire_fits, settle_fits}
use Rattle.rules.proofs.Held.{Unblocked, unblocked}
use Rattle.rules.proofs.Next.{Before, Fires, place}
use Rattle.rules.proofs.Shapes.{end_lives, expire_not_up}

-- ---- what an action does to the record

pub with_in : (s : ℕ) (v : Set) → with s v s ≡ true
with_in s v = rw (eq-eqb s s refl)

pub with_others : (s e : ℕ) (v : Set) → e ≢ s → with s v e ≡ v e
with_others s e v q = rw (ne_eqb e s q)

pub without_out : (s : ℕ) (v : Set) → without s v s ≡ false
without_out s v = rw (eq-eqb s s refl)

pub without_others : (s e : ℕ) (v : Set) → e ≢ s → without s v e ≡ v e
without_others s e v q = rw (ne_eqb e s q)

begun_in : (k : Form) (v : Set) (s : ℕ) (b l : Bool) → v s ≡ l → recorded_by (handed (begun_action k s) b) v s ≡ begun_live k l
begun_in Bare v s b l h = h
begun_in Passing v s b l h = with_in s v
begun_in Direct v s b l h = with_in s v
begun_in Delayed v s b l h = with_in s v

begun_on : (k : Form) (s i : ℕ) → ActsOn (begun_action k s) i → s ≡ i
begun_on Bare s i q = absurd q
begun_on Passing s i q = q
begun_on Direct s i q = q
begun_on Delayed s i q = q

-- a signal, or none, leaves the record
term_leaves : (g : SignalName) (s : ℕ) (b : Bool) (v : Set) → recorded_by (handed (term_action g s) b) v ≡ v
term_leaves NoSignal s b v = refl
term_leaves Hup s b v = refl
term_leaves Int s b v = refl
term_leaves Term s b v = refl
term_leaves Quit s b v = refl
term_leaves Usr1 s b v = refl
term_leaves Usr2 s b v = refl
term_leaves Kill s b v = refl

term_on : (g : SignalName) (s i : ℕ) → ActsOn (term_action g s) i → s ≡ i
term_on NoSignal s i q = absurd q
term_on Hup s i q = q
term_on Int s i q = q
term_on Term s i q = q
term_on Quit s i q = q
term_on Usr1 s i q = q
term_on Usr2 s i q = q
term_on Kill s i q = q

end_in : (k : Form) (g : SignalName) (v : Set) (s : ℕ) (b : Bool) → (is_passing k ≡ false → v s ≡ true) → recorded_by (handed (end_action k g s) b) v s ≡ true
end_in Bare g v s b h = h refl
end_in Passing g v s b h = with_in s v
end_in Direct g v s b h = rw (term_leaves g s b v) (h refl)
end_in Delayed g v s b h = rw (term_leaves g s b v) (h refl)

end_on : (k : Form) (g : SignalName) (s i : ℕ) → ActsOn (end_action k g s) i → s ≡ i
end_on Bare g s i q = absurd q
end_on Passing g s i q = q
end_on Direct g s i q = term_on g s i q
end_on Delayed g s i q = term_on g s i q

expired_leaves : (a : Bool) (s : ℕ) (b : Bool) (v : Set) → recorded_by (handed (pick a (Signal s Int) (Signal s Kill)) b) v ≡ v
expired_leaves true s b v = refl
expired_leaves false s b v = refl

expired_on : (a : Bool) (s i : ℕ) → ActsOn (pick a (Signal s Int) (Signal s Kill)) i → s ≡ i
expired_on true s i q = q
expired_on false s i q = q

-- what a rule hands out for s acts on s, or on none
pub hands_on : (k : Rule) (t : Table) (x : State) (s i : ℕ) → ActsOn (hands k t x s) i → s ≡ i
unfolding hands
hands_on Lose t x s i q = absurd q
hands_on Abandon t x s i q = absurd q
hands_on Settle t x s i q = absurd q
hands_on Wake t x s i q = absurd q
hands_on Release t x s i q = absurd q
hands_on Begin t x s i q = begun_on (form_of (settings_at t s)) s i q
hands_on End t x s i q = end_on (form_of (settings_at t s)) (settings_at t s).signal s i q
hands_on Expire t x s i q = expired_on (is_starting (record_at x s).phase) s i q

-- ---- whom a mark concerns

-- a service that an action is handed out for
abbrev pub Acts : Mark → ℕ → Type 0
Acts (handed a k) e = ActsOn a e
Acts (ended s) e = ⊥
Acts began e = ⊥
Acts passed e = ⊥

-- or whose end is reported
abbrev pub Concerns : Mark → ℕ → Type 0
Concerns (handed a k) e = ActsOn a e
Concerns (ended s) e = s ≡ e
Concerns began e = ⊥
Concerns passed e = ⊥

-- the others stay in the record, or out of it
pub recorded_others : (k : Mark) (v : Set) (e : ℕ) → (Concerns k e → ⊥) → recorded_by k v e ≡ v e
recorded_others (handed Quiet b) v e n = refl
recorded_others (handed (Moved s) b) v e n = refl
recorded_others (handed (Launch s) b) v e n = with_others s e v (λ q. n (sym q))
recorded_others (handed (StopCommand s) b) v e n = with_others s e v (λ q. n (sym q))
recorded_others (handed (Signal s g) b) v e n = refl
recorded_others (ended s) v e n = without_others s e v (λ q. n (sym q))
recorded_others began v e n = refl
recorded_others passed v e n = refl

-- ---- the record gives the live flag after the step where it gave it before

module _ (t : Table) (x : State) (s : ℕ) (v : Set) (same : v s ≡ (record_at x s).live) where
  -- what rule 7 ends is not what rule 3 settles, which comes first
  busy : s < t.count → fits End t x s ≡ true → Before t x (place End)
      → nothing_to_end (form_of (settings_at t s)) (settings_at t s).has_stop (record_at x s).live ≡ false
  busy l f b =
      let m = (end_fits t x s).0 f in
      false_from_ne_true _
      (λ i. not_both ((settle_fits t x s).1 record { up = m.up; caused = m.caused; unblocked = m.unblocked; nothing = i }) (b Settle (lit< tt) s l))

  pub rule_lives : (k : Rule) (b : Bool) → shaped_at t x s ≡ true → Fires t x k s → recorded_by (handed (hands k t x s) b) v s ≡ (leaves k t x s).live
  unfolding hands leaves shaped_at
  rule_lives Lose b o f = same
  rule_lives Abandon b o f = same
  rule_lives Settle b o f = same
  rule_lives Wake b o f = same
  rule_lives Release b o f = same
  rule_lives Begin b o f = begun_in (form_of (settings_at t s)) v s b (record_at x s).live same
  rule_lives End b o f =
      let fit = f.lowest.passes in
      let m = (end_fits t x s).0 fit in
      end_in (form_of (settings_at t s)) (settings_at t s).signal v s b
      (λ q.
      same
      ∙ end_lives (form_of (settings_at t s)) (record_at x s).phase (record_at x s).live (record_at x s).cause (settings_at t s).has_stop
      o m.up ((not_true _).1 (busy f.lowest.bound fit f.before)) ((not_true _).1 q))
  rule_lives Expire b o f = rw (expired_leaves (is_starting (record_at x s).phase) s b v) same

-- an end takes its service out, and turns its flag off
pub end_dies : (t : Table) (x : State) (s : ℕ) (v : Set) (p : Phase) (b : Bool)
    → recorded_by (ended s) v s ≡ (ended_as p (settings_at t s) x.clock b (record_at x s)).live
unfolding ended_as
end_dies t x s v Down b = without_out s v
end_dies t x s v Waiting b = without_out s v
end_dies t x s v Starting true = without_out s v
end_dies t x s v Starting false = without_out s v
end_dies t x s v Up b = without_out s v
end_dies t x s v Ending b = without_out s v

-- ---- nothing that hard-depends on a service that an action is handed out for is active

pub rule_clear : (t : Table) (x : State) (s : ℕ) (k : Rule) (b : Bool) → fits k t x s ≡ true → (e : ℕ) → Acts (handed (hands k t x s) b) e
    → (is_up (record_at x e).phase ≡ false) ⊎ Unblocked t x e
rule_clear t x s k b f e q = subst (λ i. (is_up (record_at x i).phase ≡ false) ⊎ Unblocked t x i) (hands_on k t x s e q) (go k f q)
  where
    go : (k : Rule) → fits k t x s ≡ true → ActsOn (hands k t x s) e → (is_up (record_at x s).phase ≡ false) ⊎ Unblocked t x s
    go Lose f q = absurd (unfold hands in q)
    go Abandon f q = absurd (unfold hands in q)
    go Settle f q = absurd (unfold hands in q)
    go Wake f q = absurd (unfold hands in q)
    go Release f q = absurd (unfold hands in q)
    go Begin f q = inl (rw (is_waiting_lem (record_at x s).phase ((begin_fits t x s).0 f).waits))
    go End f q = inr ((unblocked t x s).0 ((end_fits t x s).0 f).unblocked)
    go Expire f q = inl ((not_true _).0 (expire_not_up (record_at x s).phase (not (record_at x s).killed) ((expire_fits t x s).0 f).which))
