-- What the loops over the services keep: of those so far the places are found, or all is written there. t is the text of service j.
use Prim.Native.Nat.{◌+◌, ◌-◌, ◌*◌, ◌<◌, ◌≤◌, suc, zero, ℕ}
use lib.ListN.{get_or, length, length-append, length-set, set}
use lib.Seq.{get_or-set_other, get_or-set_same, length-sets, sets}
use mathlib.Core.List.{List, ◌++◌}
use mathlib.Core.Path.{◌∙◌, ◌≡◌, ap, refl, sym}
use native.Mathlib.Nat.{sub-zero}
use native.Mathlib.Omega.{arith}
use Rattle.base.proofs.Lists.{get_d_default}
use Rattle.base.proofs.Counting.{one_left}
use Rattle.service.specs.Limits.{max_services}
use Rattle.load_description.specs.Settings.{blank, description_at}
use Rattle.load_description.specs.declared.Description.{Description}
use Rattle.loader.specs.Short.{most_room}
use Rattle.loader.specs.Tokens.{bytes_from, commands_from, kept_of, no_commands, places_of, room_of}
use Rattle.loader.specs.declared.Placed.{Placed}
use Rattle.loader.specs.declared.tokens.Commands.{Commands}
use Rattle.loader.specs.declared.tokens.Place.{Place}
use Rattle.loader.proofs.Kept.{sets_append}

module _ (text : ℕ → List ℕ) (ds : List Description) (n : ℕ) where
  -- cs' holds the places of the first j services, which end at o; it held cs first
  pub record Placing (cs cs' : List Commands) (o j : ℕ) : Type 0 where
    pub within : j ≤ n
    pub bound : o ≤ j * most_room
    pub places : commands_from text ds 0 cs 0 n ≡ commands_from text ds o cs' j (n - j)
    pub rest : length (bytes_from text ds 0 n) ≡ o + length (bytes_from text ds j (n - j))

  -- b' has what is kept of the first j services, up to `place`; it was b first. cs are the places of all, found from `before` on
  pub record Writing (cs : List Commands) (b b' : List ℕ) (j : ℕ) : Type 0 where
    pub within : j ≤ n
    pub long : length b' ≡ length b
    pub place : ℕ
    pub before : List Commands
    pub whole : length before ≡ max_services
    pub places : cs ≡ commands_from text ds place before j (n - j)
    pub bytes : sets b 0 (bytes_from text ds 0 n) ≡ sets b' place (bytes_from text ds j (n - j))

module _ (text : ℕ → List ℕ) (ds : List Description) (n : ℕ) where
  pub placing_end : {cs cs' : List Commands} {o j : ℕ} → Placing text ds n cs cs' o j → n ≤ j
      → ◌≡◌ {A = Placed} (record { commands = cs'; room = o })
      (record { commands = commands_from text ds 0 cs 0 n; room = length (bytes_from text ds 0 n) })
  unfolding bytes_from commands_from
  placing_end {cs} {cs'} {o} {j} k h =
      let z : n - j ≡ 0 = omega arith in
      let p : commands_from text ds 0 cs 0 n ≡ cs' = k.places ∙ rw z in
      let r : length (bytes_from text ds 0 n) ≡ o = k.rest ∙ rw z (omega arith) in
      rw (p, r)

  pub writing_none : {cs : List Commands} (b : List ℕ) → cs ≡ commands_from text ds 0 no_commands 0 n → Writing text ds n cs b b 0
  writing_none b e = record {
    within = omega arith;
    long = refl;
    place = 0;
    before = no_commands;
    whole = refl;
    places = e ∙ rw (sub-zero n);
    bytes = rw (sub-zero n);
  }

  pub writing_end : {cs : List Commands} {b b' : List ℕ} {j : ℕ} → Writing text ds n cs b b' j → n ≤ j → b' ≡ sets b 0 (bytes_from text ds 0 n)
  unfolding bytes_from
  writing_end {j = j} k h =
      let z : n - j ≡ 0 = omega arith in
      sym (k.bytes ∙ rw z)

  -- the later services leave the places of those before them
  commands_before : (m o j i : ℕ) (cs : List Commands) (x : Commands) → i < j → get_or (commands_from text ds o cs j m) i x ≡ get_or cs i x
  unfolding commands_from
  commands_before zero o j i cs x h = refl
  commands_before (suc m) o j i cs x h =
      commands_before m (o + room_of (text j) (description_at ds j)) (j + 1) i (set cs j (places_of o (text j) (description_at ds j))) x (omega arith)
      ∙ get_or-set_other cs j i (places_of o (text j) (description_at ds j)) x (λ (e : i ≡ j). omega arith)

-- a service more; past the places of the array the code has x, where the definition has the blank description
module _ (text : ℕ → List ℕ) (ds : List Description) (n j : ℕ) (x : Description) {t : List ℕ} (h : j < n) (m : n ≤ max_services)
    (l : length ds ≡ max_services) (ti : t ≡ text j) where
  abbrev d : Description
  d = get_or ds j x

  is : d ≡ description_at ds j
  is = get_d_default ds j x blank (omega arith)

  abbrev after : List ℕ
  after = bytes_from text ds (j + 1) (n - (j + 1))

  bytes_step : bytes_from text ds j (n - j) ≡ kept_of t d ++ after
  unfolding bytes_from
  bytes_step = rw (one_left n j h, ← ti, ← is)

  commands_step : (o : ℕ) (cs : List Commands)
      → commands_from text ds o cs j (n - j) ≡ commands_from text ds (o + room_of t d) (set cs j (places_of o t d)) (j + 1) (n - (j + 1))
  unfolding commands_from
  commands_step o cs = rw (one_left n j h, ti, is)

  pub placing_more : {cs cs' : List Commands} {o : ℕ} {p : Place} → Placing text ds n cs cs' o j
      → p ≡ record { commands = places_of o t d; end = o + room_of t d } → room_of t d ≤ most_room
      → Placing text ds n cs (set cs' j p.commands) p.end (j + 1)
  placing_more {cs' = cs'} {o = o} k e small =
      let a : length (bytes_from text ds j (n - j)) ≡ room_of t d + length after = ap length bytes_step ∙ length-append (kept_of t d) after in
      rw e
      (record {
        within = omega arith;
        bound = omega (arith, k.bound, small);
        places = k.places ∙ commands_step o cs';
        rest = k.rest ∙ omega (arith, a);
      })

  module _ {cs : List Commands} {b b' : List ℕ} (k : Writing text ds n cs b b' j) (y : Commands) where
    place_told : get_or cs j y ≡ places_of k.place t d
    place_told =
        ap (λ (l : List Commands). get_or l j y) (k.places ∙ commands_step k.place k.before)
        ∙ (commands_before text ds n (n - (j + 1)) (k.place + room_of t d) (j + 1) j (set k.before j (places_of k.place t d)) y (omega arith)
        ∙ get_or-set_same k.before j (places_of k.place t d) y (omega (arith, k.whole)))

    start_told : (get_or cs j y).start.at ≡ k.place
    unfolding places_of
    start_told = ap (λ (c : Commands). c.start.at) place_told

    pub places_told : get_or cs j y ≡ places_of (get_or cs j y).start.at t d
    places_told = place_told ∙ ap (λ (o : ℕ). places_of o t d) (sym start_told)

    pub writing_more : {b'' : List ℕ} → b'' ≡ sets b' (get_or cs j y).start.at (kept_of t d) → Writing text ds n cs b b'' (j + 1)
    writing_more e =
        let w = e ∙ ap (λ (o : ℕ). sets b' o (kept_of t d)) start_told in
        record {
          within = omega arith;
          long = ap length w ∙ length-sets b' k.place (kept_of t d) ∙ k.long;
          place = k.place + room_of t d;
          before = set k.before j (places_of k.place t d);
          whole = length-set k.before j (places_of k.place t d) ∙ k.whole;
          places = k.places ∙ commands_step k.place k.before;
          bytes = k.bytes ∙ rw (w, bytes_step) (sets_append b' k.place (kept_of t d) after);
        }
