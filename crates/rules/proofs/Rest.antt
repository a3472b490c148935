-- Actions come to rest: a bound on their number before quiet, and how a weight that falls gives one.
use Prim.Native.Nat.{◌<◌, ◌≤◌, suc, zero, ℕ}
use mathlib.Core.Path.{◌≡◌, ap}
use native.Mathlib.Nat.{le_of_suc-le-suc, not-suc-le-zero}
use native.Mathlib.Omega.{arith}
use Rattle.service.specs.Records.{with_record}
use Rattle.service.specs.declared.Action.TheVariants.{Quiet}
use Rattle.service.specs.declared.State.{State}
use Rattle.service.specs.declared.Table.{Table}
use Rattle.rules.specs.Rules.{Step, act, leaves, next_action}
use Rattle.rules.specs.declared.Rule.{Rule}
use Rattle.rules.proofs.Next.{Fires, Stays}

-- from x, at most f actions come before quiet
pub data Ends (t : Table) : ℕ → State → Type 0 where
  quiet : {f : ℕ} {x : State} → (next_action t x).action ≡ Quiet → Ends t f x
  acts : {f : ℕ} {x : State} → Ends t f (next_action t x).state → Ends t (suc f) x

pub ends_more : (t : Table) {f : ℕ} {x : State} → Ends t f x → (g : ℕ) → f ≤ g → Ends t g x
ends_more t (quiet e) g l = quiet e
ends_more t (acts e) zero l = absurd (not-suc-le-zero l)
ends_more t (acts e) (suc g) l = acts (ends_more t e g (le_of_suc-le-suc l))

-- what a stage's weight shows at a state: it is quiet, the next state is in the stage and lighter, or a later stage takes over
pub data Turn (t : Table) (I : State → Type 0) (w : State → ℕ) (x : State) : Type 0 where
  still : (next_action t x).action ≡ Quiet → Turn t I w x
  lighter : I (next_action t x).state → w (next_action t x).state < w x → Turn t I w x
  later : Ends t (w x) x → Turn t I w x

pub fired_lighter : (t : Table) (I : State → Type 0) (w : State → ℕ) (x : State) (k : Rule) (s : ℕ) → Fires t x k s
    → I (with_record x s (leaves k t x s)) → w (with_record x s (leaves k t x s)) < w x → Turn t I w x
unfolding act
fired_lighter t I w x k s f i l = lighter (rw f.does i) (rw f.does l)

pub stays_still : (t : Table) (I : State → Type 0) (w : State → ℕ) (x : State) → Stays t x → Turn t I w x
stays_still t I w x q = still (ap (λ (o : Step). o.action) q.does)

pub stage : (t : Table) (I : State → Type 0) (w : State → ℕ) → ((x : State) → I x → Turn t I w x)
    → (f : ℕ) (x : State) → I x → w x ≤ f → Ends t f x
stage t I w turn zero x i l = go (turn x i)
  where
    go : Turn t I w x → Ends t zero x
    go (still e) = quiet e
    go (lighter j m) = absurd (omega arith)
    go (later e) = ends_more t e zero l
stage t I w turn (suc f) x i l = go (turn x i) (λ j m. stage t I w turn f (next_action t x).state j m)
  where
    go : Turn t I w x → (I (next_action t x).state → w (next_action t x).state ≤ f → Ends t f (next_action t x).state) → Ends t (suc f) x
    go (still e) r = quiet e
    go (lighter j m) r = acts (r j (omega arith))
    go (later e) r = ends_more t e (suc f) l
