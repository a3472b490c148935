-- Demand 3, whole: the theorem of the statement in specs/Demand.antt.
use Prim.Native.Nat.{◌<◌, ℕ}
use mathlib.Core.Bool.{true}
use mathlib.Core.List.{List, [], ◌++◌, ◌∷◌}
use mathlib.Core.Path.{◌∙◌, ◌≡◌, ap, refl, sym}
use Rattle.service.specs.Records.{fresh_state, is_down, record_at}
use Rattle.service.specs.declared.Phase.TheVariants.{Down}
use Rattle.service.specs.declared.State.{State}
use Rattle.service.specs.declared.Table.{Table}
use Rattle.service.proofs.Named.{is_down_lem}
use Rattle.rules.specs.Calls.{Call, after_calls, check, clock, outcome, stop_all}
use Rattle.rules.specs.Demand.{Demand3, NoZeroTimeout, Now, Round, Rounds, Stretch, WoundDown, another, call, empty, fresh_now, no_rounds, now_after, now_at, round, wound}
use Rattle.rules.specs.Events.{after_stop_all}
use Rattle.rules.specs.WellFormed.{table_formed}
use Rattle.rules.proofs.Formed.{sound_formed}
use Rattle.rules.proofs.Links.{TableSound, table_sound}
use Rattle.rules.proofs.Resting.{always_rests}
use Rattle.rules.proofs.Rounds.{HaltingSince, Reached, all_down, halt_stretch, fresh_reached, reached_call}
use Rattle.rules.proofs.Safety.{always_live, always_safe}
use Rattle.rules.proofs.Since.{since_begins}

append_calls : (t : Table) (x : State) (a b : List Call) → after_calls t x (a ++ b) ≡ after_calls t (after_calls t x a) b
unfolding after_calls
append_calls t x [] b = refl
append_calls t x (c ∷ a) b = append_calls t (outcome t x c).state a b

-- where a list has come to is the state after it
now_state : (t : Table) (cs : List Call) (n : Now) → (now_at t n cs).state ≡ after_calls t n.state cs
unfolding now_at after_calls
now_state t [] n = refl
now_state t (c ∷ cs) n = now_state t cs (now_after t n c) ∙ (unfold now_after in refl)

stretch_state : (t : Table) {n n' : Now} {cs : List Call} → Stretch t n cs n' → after_calls t n.state cs ≡ n'.state
unfolding after_calls now_after
stretch_state t empty = refl
stretch_state t (call c b r) = stretch_state t r

stretch_append : (t : Table) {n n1 n2 : Now} {a b : List Call} → Stretch t n a n1 → Stretch t n1 b n2 → Stretch t n (a ++ b) n2
stretch_append t empty r = r
stretch_append t (call c b q) r = call c b (stretch_append t q r)

module _ (t : Table) (tf : table_formed t ≡ true) (nz : NoZeroTimeout t) where
  ts : TableSound t
  ts = (table_sound t).0 tf

  -- a round, and rounds in a row, are stretches
  round_stretch : {n n' : Now} {cs : List Call} → Round t n cs n' → Stretch t n cs n'
  round_stretch (round c sa acc past sb q sd rep q') =
      stretch_append t sa
      (call (clock c) refl
      (stretch_append t sb (stretch_append t q.calls (stretch_append t sd q'.calls))))

  rounds_stretch : {k : ℕ} {n n' : Now} {cs : List Call} → Rounds t k n cs n' → Stretch t n cs n'
  rounds_stretch no_rounds = empty
  rounds_stretch (another rs r) = stretch_append t (rounds_stretch rs) (round_stretch r)

  reached_at : (cs : List Call) (n : Now) → Reached t tf ts nz n → Reached t tf ts nz (now_at t n cs)
  unfolding now_at
  reached_at [] n h = h
  reached_at (c ∷ cs) n h = reached_at cs (now_after t n c) (reached_call t tf ts nz n h c)

  -- a stop all is accepted wherever a list has come to, and sets all on the way down
  stop_state : (n : Now) → Reached t tf ts nz n → (now_after t n stop_all).state ≡ after_stop_all t n.state
  unfolding now_after outcome check
  stop_state n h = rw (sound_formed t n.state tf h.good.sound)

  stop_halt : (n : Now) → Reached t tf ts nz n → HaltingSince t tf ts nz (now_after t n stop_all).state (now_after t n stop_all)
  stop_halt n h = record {
    since = rw (stop_state n h) (since_begins t ts n.state h.good.sound);
    reached = reached_call t tf ts nz n h stop_all;
  }

  wound_down : {cs : List Call} → WoundDown t cs → (s : ℕ) → s < t.count → (record_at (after_calls t fresh_state cs) s).phase ≡ Down
  wound_down (wound {n = n} {n' = n'} before rounds after rs st) s l =
      let n0 : Now = now_at t fresh_now before in
      let n1 : Now = now_after t n0 stop_all in
      let h = reached_at before fresh_now (fresh_reached t tf ts nz) in
      let a = all_down t tf ts nz rs (stop_halt n0 h) in
      let d : is_down (record_at n'.state s).phase ≡ true = ((halt_stretch t tf ts nz n.state st a.0).since.goes s l).down (a.1 s l) in
      let here' : after_calls t fresh_state (before ++ (stop_all ∷ (rounds ++ after))) ≡ n'.state =
      append_calls t fresh_state before (stop_all ∷ (rounds ++ after))
      ∙ ap (λ (y : State). after_calls t y (stop_all ∷ (rounds ++ after))) (sym (now_state t before fresh_now))
      ∙ from_stop n0 (stretch_append t (rounds_stretch rs) st) in
      rw here' (is_down_lem (record_at n'.state s).phase d)
    where
      from_stop : (m : Now) {m' : Now} {ds : List Call} → Stretch t (now_after t m stop_all) ds m' → after_calls t m.state (stop_all ∷ ds) ≡ m'.state
      from_stop m r = stretch_state t (call stop_all refl r)

-- THE THEOREM
pub demand3 : Demand3
demand3 t tf cs = record {
  safe = always_safe t tf cs;
  live = always_live t tf cs;
  rests = always_rests t tf cs;
  down = λ nz w s l. wound_down t tf nz w s l;
}
