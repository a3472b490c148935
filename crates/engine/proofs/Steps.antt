-- One step: what the code chose is what the rules choose, and what it leaves and hands out is theirs.
use Prim.Native.Nat.{ℕ, ◌<◌}
use mathlib.Core.Path.{◌≡◌, sym, ap, ◌∙◌, subst}
use mathlib.Core.Bool.{Bool, true, false}
use Rattle.base.specs.Folds.{pick}
use Rattle.base.specs.Sets.{overlap}
use Rattle.service.specs.Numbers.{is_quiet}
use Rattle.service.specs.Settings.{settings_at}
use Rattle.service.specs.Records.{record_at, with_record}
use Rattle.service.specs.declared.Action.{Action}
use Rattle.service.specs.declared.Action.TheVariants.{Quiet}
use Rattle.service.specs.declared.Record.{Record}
use Rattle.service.specs.declared.Table.{Table}
use Rattle.service.specs.declared.State.{State}
use Rattle.rules.specs.declared.Rule.{Rule}
use Rattle.rules.specs.Choice.{Choice}
use Rattle.std.specs.Prelude.{Some, None}
use Rattle.rules.specs.WellFormed.{formed}
use Rattle.rules.specs.Rules.{Step, lost_to_user, left_by, leaves, handed_by, hands, chosen, act, act_on, next_action}
use Rattle.rules.proofs.Next.{Chosen, rule, chosen_is}
use Rattle.rules.proofs.Resting.{loud}
use Rattle.engine_records.specs.Sound.{sound}
use Rattle.engine_records.proofs.Formed.{sound_at}
use Rattle.engine_choice.specs.Lost.{lost_by_user}
use Rattle.engine_choice.proofs.Sets.{lost_to_user_lem}

-- c is what the code chose
module _ (t : Table) (y : State) (c : Choice) (f : formed t y ≡ true) (choice : c ≡ chosen t y) where
  -- a service that is chosen is one of the set
  pub chosen_below : (k : Rule) (s : ℕ) → c ≡ Some (k, s) → s < t.count
  chosen_below k s h = go (subst (Chosen t y) (sym choice ∙ h) (chosen_is t y))
    where
      go : Chosen t y (Some (k, s)) → s < t.count
      go (rule k s l b) = l.bound

  pub step_quiet : c ≡ None → ◌≡◌ {A = Step} (record { action = Quiet; state = y }) (next_action t y)
  unfolding next_action act_on
  step_quiet h = rw (sym choice ∙ h)

  -- m is the set that the code gathered for rule 1's cause; what a rule hands out is not quiet
  pub step_fits : (k : Rule) (s m : ℕ) (u : Bool) (r : Record) (a : Action) → m ≡ lost_by_user t y → c ≡ Some (k, s)
      → u ≡ overlap (settings_at t s).hard m
      → r ≡ pick (sound (settings_at t s) y.clock (record_at y s)) (left_by k u (settings_at t s) y.clock (record_at y s)) (record_at y s)
      → a ≡ handed_by k (settings_at t s) (record_at y s) s
      → (◌≡◌ {A = Step} (record { action = a; state = with_record y s r }) (next_action t y)) × (is_quiet a ≡ false)
  unfolding next_action act_on act leaves hands
  step_fits k s m u r a user h i j n =
      let l : s < t.count = chosen_below k s h in
      let v : u ≡ lost_to_user t y s = i ∙ ap (overlap (settings_at t s).hard) user ∙ lost_to_user_lem t y s in
      let w : r ≡ leaves k t y s
      = j ∙ rw (sound_at t y f s l) (ap (λ b. left_by k b (settings_at t s) y.clock (record_at y s)) v) in
      let o : a ≡ hands k t y s = n in
      (rw (sym choice ∙ h, w, o), ap is_quiet o ∙ loud k t y s)
