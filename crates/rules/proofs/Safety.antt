-- The first half of demand 3, and that the record is the live flags: over every list of calls, at each action handed out nothing that
-- hard-depends on its service is in the record, since what is active keeps up what it hard-depends on.
use Prim.Native.Nat.{◌<◌, ℕ}
use mathlib.Core.Bool.{false, true}
use mathlib.Core.List.{List}
use mathlib.Core.Logic.{◌⊎◌}
use mathlib.Core.Path.{◌∙◌, ◌≡◌}
use Rattle.base.specs.Links.{Path, link, on}
use Rattle.base.proofs.Tests.{either, no_ft, not_both, not_true}
use Rattle.std.proofs.lemmas.Bool.{false_from_ne_true}
use Rattle.service.specs.Records.{active, fresh_state, is_up, record_at}
use Rattle.service.specs.Settings.{form_of, settings_at}
use Rattle.service.specs.declared.State.{State}
use Rattle.service.specs.declared.Table.{Table}
use Rattle.service.proofs.States.{fresh_record_lem}
use Rattle.rules.specs.Calls.{Call, after_calls}
use Rattle.rules.specs.Demand.{Clear, ClearBy, Each, Mark, Moment, Set, began, ended, fed, handed, nobody, passed, recorded, story}
use Rattle.rules.specs.Dependencies.{hard, hard_links}
use Rattle.rules.specs.WellFormed.{shaped_at, table_formed}
use Rattle.rules.proofs.Formed.{Sound, fresh_sound}
use Rattle.rules.proofs.Held.{Held, Unblocked}
use Rattle.rules.proofs.Lawful.{Lawful, lawful_walk}
use Rattle.rules.proofs.Links.{TableSound, hard_inside, table_sound}
use Rattle.rules.proofs.Recorded.{Acts}
use Rattle.rules.proofs.Shapes.{inactive_dead, up_active}
use Rattle.rules.proofs.Steps.{Leads, story_walk, walk_leads}

-- a lawful step keeps the hard dependencies
pub held_step : (t : Table) (m : Moment) → Lawful t m → Held t m.before → Held t m.after
held_step t m law held e d el dl h on' =
    either
    (law.comes e el on')
    (λ was. either (law.parts d dl (held e d el dl h was)) (λ up. up) (λ free. absurd (free e el h on')))
    (λ ups. ups d dl h)

module _ (t : Table) (ts : TableSound t) where
  -- the record v gives the live flags of x
  pub record Good (v : Set) (x : State) : Type 0 where
    pub sound : Sound t x
    pub held : Held t x
    pub same : (s : ℕ) → s < t.count → v s ≡ (record_at x s).live

  module _ (v : Set) (x : State) (g : Good v x) where
    -- what an active service hard-depends on, directly or through others, is up, and a direct dependent of it is active
    chain : {e d : ℕ} → e < t.count → Path (hard_links t) e d → active (record_at x e).phase ≡ true
        → (is_up (record_at x d).phase ≡ true) × ((m : ℕ) × (m < t.count) × (hard t m d ≡ true) × (active (record_at x m).phase ≡ true))
    unfolding hard
    chain {e} {d} el (link h) a = let dl = hard_inside t ts e d el h in (g.held e d el dl h a, (e, el, h, a))
    chain {e} {d} el (on {k = k} h p) a =
        let kl = hard_inside t ts e k el h in chain kl p (up_active (record_at x k).phase (g.held e k el kl h a))

    -- a service that is neither starting, up nor ending is not in the record
    absent : (e : ℕ) → e < t.count → (active (record_at x e).phase ≡ true → ⊥) → v e ≡ false
    unfolding shaped_at
    absent e el h =
        g.same e el
        ∙ (not_true (record_at x e).live).0
        (inactive_dead (form_of (settings_at t e)) (record_at x e).phase (record_at x e).live (record_at x e).cause (g.sound.shapes e el)
        ((not_true (active (record_at x e).phase)).1 (false_from_ne_true (active (record_at x e).phase) h)))

    clear_by : (k : Mark) → ((s : ℕ) → Acts k s → (is_up (record_at x s).phase ≡ false) ⊎ Unblocked t x s) → ClearBy t v k
    clear_by (handed a b) h = λ s e q el p.
        absent e el
        (λ on'.
        let c = chain el p on' in
        either (h s q) (λ low. not_both c.0 low) (λ free. free c.1.0 c.1.1 c.1.2 c.1.3))
    clear_by (ended s) h = tt
    clear_by began h = tt
    clear_by passed h = tt

  pub good_step : (v : Set) (m : Moment) → Lawful t m → Good v m.before → Clear t v m × Good (recorded m v) m.after
  good_step v m law g = (
    clear_by v m.before g m.mark law.clear,
    record { sound = law.sound; held = held_step t m law g.held; same = λ s l. (law.fair s l).lives v (g.same s l) },
  )

  pub fresh_good : Good nobody fresh_state
  fresh_good = record {
    sound = fresh_sound t ts;
    held = λ e d el dl h a. no_ft (rw (fresh_record_lem e) at a);
    same = λ s _. rw (fresh_record_lem s);
  }

  story_good : (cs : List Call) → Leads (Lawful t) (Clear t) recorded Good nobody (story t fresh_state cs) (after_calls t fresh_state cs)
  story_good cs =
      walk_leads (Lawful t) (Clear t) recorded Good good_step (lawful_walk t ts true (story_walk t cs fresh_state) (fresh_sound t ts)) nobody fresh_good

-- the first half
pub always_safe : (t : Table) → table_formed t ≡ true → (cs : List Call) → Each (Clear t) recorded nobody (story t fresh_state cs)
always_safe t f cs = (story_good t ((table_sound t).0 f) cs).each

-- the record is the live flags
pub always_live : (t : Table) → table_formed t ≡ true → (cs : List Call)
    → (s : ℕ) → s < t.count → fed recorded (story t fresh_state cs) nobody s ≡ (record_at (after_calls t fresh_state cs) s).live
always_live t f cs = (story_good t ((table_sound t).0 f) cs).keeps.same
