-- The laws of what is kept of a service: how much there is of it, where it is, and how it is written there.
use Prim.Native.Nat.{◌+◌, ◌-◌, ◌<◌, ◌≤◌, suc, suc-le-suc, zero-le, ℕ}
use borrow.Author.Tests.{eq-eqb, ne_eqb}
use borrow.Rule.Slice.PartMut.{mid_of, put_mid}
use lib.Dec.{eqb}
use lib.ListN.{drop, length, length-append, length-drop, length-map, set, take, take-append-drop}
use lib.Seq.{drop-length, length-take-le, set_out, sets, take-length}
use mathlib.Core.Bool.{Bool, false, true}
use mathlib.Core.List.{List, [], ◌++◌, ◌∷◌, append-nil}
use mathlib.Core.Path.{◌∙◌, ◌≡◌, ap, refl, sym}
use native.Mathlib.Nat.{add_assoc, add-suc, add-zero, le_step, suc-add, zero-add}
use native.Mathlib.Omega.{arith}
use Rattle.std.specs.Prelude.{Err, None, Ok, Option, Result, Some}
use Rattle.base.specs.Folds.{pick}
use Rattle.load_text.specs.Lines.{line_of}
use Rattle.load_text.specs.declared.Fault.{Fault}
use Rattle.load_text.proofs.Lines.{line_fits}
use Rattle.load_value.specs.Steps.{between, step_of}
use Rattle.load_value.specs.Values.{Mark, byte_of, close, marked, marks_from, scan_of, written}
use Rattle.load_value.specs.declared.Mode.{Mode}
use Rattle.load_value.specs.declared.Sizes.{Sizes}
use Rattle.load_value.specs.declared.Step.{Step}
use Rattle.load_value.specs.declared.Step.TheVariants.{Close, Keep, Malformed, Quote, Skip}
use Rattle.load_value.proofs.Counts.{scan_room}
use Rattle.load_description.specs.Settings.{value_at}
use Rattle.load_description.specs.declared.Description.{Description}
use Rattle.load_lent.specs.Checks.{longest_text}
use Rattle.loader.specs.Short.{most_room}
use Rattle.loader.specs.Tokens.{command_bytes, command_count, kept_of, places_of, room_of, tokens_in}
use Rattle.loader.specs.declared.tokens.Commands.{Commands}
use Rattle.loader.specs.declared.tokens.Measured.{Measured}
use Rattle.loader.specs.declared.tokens.Place.{Place}
use Rattle.loader.specs.declared.tokens.Tokens.{Tokens}

-- ---- one command: how many tokens it has, and their room

abbrev none : Measured
none = record { count = 0; room = 0 }

abbrev measured : List ℕ → Option ℕ → Measured
measured text at = record { count = command_count text at; room = length (command_bytes text at) }

pub measured_none : (text : List ℕ) {at : Option ℕ} → at ≡ None → none ≡ measured text at
unfolding command_bytes command_count
measured_none text e = rw e

bytes_none : (text : List ℕ) (at : Option ℕ) → command_count text at ≡ 0 → command_bytes text at ≡ []
unfolding command_bytes
bytes_none text None e = refl
bytes_none text (Some at) e = rw (eq-eqb (command_count text (Some at)) 0 e)

module _ (text : List ℕ) {given : Option ℕ} {at : ℕ} (is : given ≡ Some at) where
  bytes_some : (command_count text given ≡ 0 → ⊥) → command_bytes text given ≡ written (value_at text at)
  unfolding command_bytes
  bytes_some h =
      let k : command_count text (Some at) ≡ 0 → ⊥ = rw is at h in
      rw (is, ne_eqb (command_count text (Some at)) 0 k)

  no_tokens_lem : command_count text given ≡ 0 → none ≡ measured text given
  no_tokens_lem e = rw (bytes_none text given e, e)

  module _ {v : List ℕ} (e : v ≡ value_at text at) {s : Result Sizes Fault} (q : s ≡ scan_of v) where
    count_as : command_count text given ≡ tokens_in s
    unfolding command_count
    count_as = rw (is, q, e)

    pub measured_bad : {f : Fault} → s ≡ Err f → none ≡ measured text given
    measured_bad g = no_tokens_lem (count_as ∙ ap tokens_in g)

    module _ {z : Sizes} (g : s ≡ Ok z) where
      pub measured_empty : z.tokens ≡ 0 → none ≡ measured text given
      measured_empty k = no_tokens_lem (count_as ∙ ap tokens_in g ∙ k)

      pub measured_some : (z.tokens ≡ 0 → ⊥) → record { count = z.tokens; room = z.room } ≡ measured text given
      measured_some k =
          let n : command_count text given ≡ z.tokens = count_as ∙ ap tokens_in g in
          let b : command_bytes text given ≡ written v = bytes_some (λ (a : command_count text given ≡ 0). k (sym n ∙ a)) ∙ ap written (sym e) in
          rw (n, b, scan_room v (sym q ∙ g))

-- ---- a command takes no more room than its text, and a zero byte

marks_short : (l : List ℕ) (m : Mode) → length (marks_from m l) ≤ suc (length l)
unfolding marks_from
marks_short [] m = by m.token
  where
    by : (b : Bool) → length (pick {A = List Mark} b (close ∷ []) []) ≤ 1
    by true = omega arith
    by false = omega arith
marks_short (b ∷ bs) m = by (step_of m b) (marks_short bs)
  where
    by : (r : Step) → ((m' : Mode) → length (marks_from m' bs) ≤ suc (length bs))
        → length (marked r b (λ m'. marks_from m' bs)) ≤ suc (suc (length bs))
    by (Skip n) go = le_step (go n)
    by (Quote n) go = le_step (go n)
    by (Keep n) go = suc-le-suc (go n)
    by (Close n) go = suc-le-suc (go n)
    by Malformed go = zero-le

written_short : (v : List ℕ) → length (written v) ≤ suc (length v)
unfolding written
written_short v = rw (length-map (marks_from between v) byte_of) (marks_short v between)

value_short : (text : List ℕ) (at : ℕ) → length (value_at text at) ≤ length text
unfolding value_at
value_short text at =
    let a : length (line_of (drop at text)) ≤ length (drop at text) = line_fits (drop at text) in
    let b : length (drop at text) ≡ length text - at = length-drop at text in
    omega (arith, a, b)

command_short : (text : List ℕ) (at : Option ℕ) → length (command_bytes text at) ≤ suc (length text)
unfolding command_bytes
command_short text None = zero-le
command_short text (Some at) = by (eqb (command_count text (Some at)) 0)
  where
    by : (b : Bool) → length (pick b [] (written (value_at text at))) ≤ suc (length text)
    by true = zero-le
    by false =
        let a : length (written (value_at text at)) ≤ suc (length (value_at text at)) = written_short (value_at text at) in
        let b : length (value_at text at) ≤ length text = value_short text at in
        omega (arith, a, b)

-- ---- a service's places

module _ (text : List ℕ) (short : length text ≤ longest_text) where
  room_bound : (at : Option ℕ) {m : Measured} → m ≡ measured text at → m.room ≤ longest_text + 1
  room_bound at e =
      let a : length (command_bytes text at) ≤ suc (length text) = command_short text at in
      rw e (omega (arith, a))

  module _ {o : ℕ} (few : o < 4294967296) (at : Option ℕ) {m : Measured} (e : m ≡ measured text at) where
    pub first_fits : o + m.room < 18446744073709551616
    first_fits = omega (arith, room_bound at e)

    pub second_fits : (next : Option ℕ) {m' : Measured} → m' ≡ measured text next → o + m.room + m'.room < 18446744073709551616
    second_fits next f = omega (arith, room_bound at e, room_bound next f)

  module _ (d : Description) where
    pub room_most : room_of text d ≤ most_room
    unfolding kept_of
    room_most =
        let a : length (command_bytes text d.kept.command) ≤ suc (length text) = command_short text d.kept.command in
        let b : length (command_bytes text d.kept.stop) ≤ suc (length text) = command_short text d.kept.stop in
        let c : room_of text d ≡ length (command_bytes text d.kept.command) + length (command_bytes text d.kept.stop) =
        length-append (command_bytes text d.kept.command) (command_bytes text d.kept.stop) in
        omega (arith, a, b, c)

module _ (text : List ℕ) (d : Description) (o : ℕ) where
  pub service_placed : {a b : Measured} → a ≡ measured text d.kept.command → b ≡ measured text d.kept.stop
      → ◌≡◌ {A = Place}
      (record {
        commands = record { start = record { at = o; count = a.count }; stop = record { at = o + a.room; count = b.count } };
        end = o + a.room + b.room;
      })
      (record { commands = places_of o text d; end = o + room_of text d })
  unfolding kept_of places_of
  service_placed e f =
      rw (
        e,
        f,
        length-append (command_bytes text d.kept.command) (command_bytes text d.kept.stop),
        add_assoc o (length (command_bytes text d.kept.command)) (length (command_bytes text d.kept.stop)),
      )

-- ---- what is written from the place o on

-- two runs of stores, one after the other
pub sets_append : (d : List ℕ) (a : ℕ) (xs ys : List ℕ) → sets d a (xs ++ ys) ≡ sets (sets d a xs) (a + length xs) ys
sets_append d a [] ys = rw (add-zero a)
sets_append d a (x ∷ xs) ys = sets_append (set d a x) (suc a) xs ys ∙ rw (add-suc a (length xs), suc-add a (length xs))

sets_out : (d : List ℕ) (o : ℕ) (vs : List ℕ) → length d ≤ o → sets d o vs ≡ d
sets_out d o [] h = refl
sets_out d o (v ∷ vs) h = rw (set_out d o v h) (sets_out d (suc o) vs (omega arith))

set_behind : (a d : List ℕ) (i v : ℕ) → set (a ++ d) (length a + i) v ≡ a ++ set d i v
set_behind [] d i v = ap (λ (k : ℕ). set d k v) (zero-add i)
set_behind (x ∷ a) d i v = ap (λ (k : ℕ). set (x ∷ (a ++ d)) k v) (suc-add (length a) i) ∙ ap (λ (l : List ℕ). x ∷ l) (set_behind a d i v)

sets_behind : (vs a d : List ℕ) (i : ℕ) → sets (a ++ d) (length a + i) vs ≡ a ++ sets d i vs
sets_behind [] a d i = refl
sets_behind (v ∷ vs) a d i = rw (set_behind a d i v, ← add-suc (length a) i) (sets_behind vs a (set d i v) (suc i))

sets_tail : (d : List ℕ) (o : ℕ) (vs : List ℕ) → o ≤ length d → sets d o vs ≡ take o d ++ sets (drop o d) 0 vs
sets_tail d o vs h =
    let n : length (take o d) + 0 ≡ o = add-zero (length (take o d)) ∙ length-take-le o d h in
    sym (ap (λ (l : List ℕ). sets l o vs) (take-append-drop o d)) ∙ (ap (λ (k : ℕ). sets (take o d ++ drop o d) k vs) (sym n) ∙ sets_behind vs (take o d) (drop o d) 0)

-- the buffer, when the part of it from o on is back that was lent, with t in it
put_tail : (d : List ℕ) (o : ℕ) (vs : List ℕ) {t : List ℕ} → o ≤ length d → t ≡ sets (mid_of o (length d - o) d) 0 vs
    → put_mid o (length d - o) d t ≡ sets d o vs
put_tail d o vs {t} h e =
    let n : length (drop o d) ≡ length d - o = length-drop o d in
    let k : take (length d - o) (drop o d) ≡ drop o d = rw (← n) (take-length (drop o d)) in
    let z : drop (length d - o) (drop o d) ≡ [] = rw (← n) (drop-length (drop o d)) in
    ap (λ (y : List ℕ). take o d ++ (t ++ y)) z
    ∙ (ap (λ (y : List ℕ). take o d ++ y) (append-nil t ∙ (e ∙ ap (λ (l : List ℕ). sets l 0 vs) k)) ∙ sym (sets_tail d o vs h))

module _ (text : List ℕ) (at : Option ℕ) (d : List ℕ) (to : Tokens) (n : to.count ≡ command_count text at) where
  pub command_none : to.count ≡ 0 → d ≡ sets d to.at (command_bytes text at)
  command_none e = sym (ap (λ (vs : List ℕ). sets d to.at vs) (bytes_none text at (sym n ∙ e)))

  pub command_absent : at ≡ None → d ≡ sets d to.at (command_bytes text at)
  unfolding command_bytes
  command_absent e = rw e

  pub command_past : length d < to.at → d ≡ sets d to.at (command_bytes text at)
  command_past h = sym (sets_out d to.at (command_bytes text at) (omega arith))

  pub command_put : {a : ℕ} → at ≡ Some a → (to.count ≡ 0 → ⊥) → {v t : List ℕ} → v ≡ value_at text a → to.at ≤ length d
      → t ≡ sets (mid_of to.at (length d - to.at) d) 0 (written v) → put_mid to.at (length d - to.at) d t ≡ sets d to.at (command_bytes text at)
  command_put s z {v} e h q =
      put_tail d to.at (written v) h q
      ∙ ap (λ (vs : List ℕ). sets d to.at vs) (ap written e ∙ sym (bytes_some text s (λ (k : command_count text at ≡ 0). z (n ∙ k))))

-- a service's commands, one after the other
module _ (text : List ℕ) (d : Description) (to : Commands) (e : to ≡ places_of to.start.at text d) where
  pub start_counted : to.start.count ≡ command_count text d.kept.command
  unfolding places_of
  start_counted = ap (λ (c : Commands). c.start.count) e

  pub stop_counted : to.stop.count ≡ command_count text d.kept.stop
  unfolding places_of
  stop_counted = ap (λ (c : Commands). c.stop.count) e

pub service_put : (text : List ℕ) (d : Description) (to : Commands) → to ≡ places_of to.start.at text d → (b : List ℕ) {b' b'' : List ℕ}
    → b' ≡ sets b to.start.at (command_bytes text d.kept.command) → b'' ≡ sets b' to.stop.at (command_bytes text d.kept.stop)
    → b'' ≡ sets b to.start.at (kept_of text d)
unfolding kept_of places_of
service_put text d to e b f g =
    g
    ∙ rw (f, ap (λ (c : Commands). c.stop.at) e)
    (sym (sets_append b to.start.at (command_bytes text d.kept.command) (command_bytes text d.kept.stop)))

-- ---- what each function goes by

pub ruleset measuring = (measured_none, measured_bad, measured_empty, measured_some)

pub ruleset placing = (first_fits, second_fits, room_most, service_placed)

pub ruleset putting = (command_absent, command_none, command_past, command_put)

pub ruleset following = (start_counted, stop_counted, service_put)
