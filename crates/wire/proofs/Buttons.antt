-- Laws of presses: states that are repeated or taken out, and what a format carries of them.
use Prim.Native.Nat.{ℕ, suc, ◌+◌, ◌≤◌}
use mathlib.Core.Path.{◌≡◌, refl, ◌∙◌, ap}
use mathlib.Core.Bool.{Bool, true, false, not, cond, ◌&&◌}
use mathlib.Core.List.{List, [], ◌∷◌, ◌++◌, map}
use native.Mathlib.Omega.{arith}
use Rattle.numbers.specs.Bits.{O, number, bit}
use Rattle.frames.specs.Passages.{Passage, silent, finished, broken, Sub, none, gone, stays}
use Rattle.wire.specs.Holds.{carried}
use Rattle.wire.specs.Messages.{Message, report, reply, finished_reports}
use Rattle.wire.specs.Buttons.{left, middle, right, is_down, presses, buttons_of, buttons_sent, buttons_in, CarriedBy}
use Rattle.wire.specs.declared.Report.{Report}
use Rattle.wire.specs.declared.Format.{Format}
use Rattle.wire.specs.declared.Format.TheVariants.{Mm, Microsoft, Absolute, Relative, FiveByte, ThreeByte, Hexadecimal}

-- the last of states behind one
abbrev pub last_of : ℕ → List ℕ → ℕ
last_of u [] = u
last_of u (s ∷ states) = last_of s states

-- `Repeats u states seen`: behind u, what is seen are these states in order, each once or more often, and u as often as
-- it likes before them
pub data Repeats : ℕ → List ℕ → List ℕ → Type 0 where
  ends : {u : ℕ} → Repeats u [] []
  again : {u : ℕ} {states seen : List ℕ} → Repeats u states seen → Repeats u states (u ∷ seen)
  next : {u n : ℕ} {states seen : List ℕ} → Repeats n states seen → Repeats u (n ∷ states) (n ∷ seen)

pub last_append : (u : ℕ) (a b : List ℕ) → last_of u (a ++ b) ≡ last_of (last_of u a) b
last_append u [] b = refl
last_append u (s ∷ a) b = last_append s a b

pub repeats_append : {u : ℕ} {a x b y : List ℕ} → Repeats u a x → Repeats (last_of u a) b y → Repeats u (a ++ b) (x ++ y)
repeats_append ends k = k
repeats_append (again h) k = again (repeats_append h k)
repeats_append (next h) k = next (repeats_append h k)

module _ (down : ℕ → Bool) where
  -- no press without a change
  pub stays_so : (t : Bool) → ◌≡◌ {A = ℕ} (cond (t && not t) 1 0) 0
  stays_so true = refl
  stays_so false = refl

  -- what is repeated is no press
  pub repeated : {u : ℕ} {states seen : List ℕ} → Repeats u states seen → presses down (down u) seen ≡ presses down (down u) states
  unfolding presses
  repeated ends = refl
  repeated (again {u} h) = omega (arith, stays_so (down u), repeated h)
  repeated (next {u} {n} h) = ap (λ (k : ℕ). cond (down n && not (down u)) 1 0 + k) (repeated h)

  pub presses_append : (u : ℕ) (a b : List ℕ) → presses down (down u) (a ++ b) ≡ presses down (down u) a + presses down (down (last_of u a)) b
  unfolding presses
  presses_append u [] b = omega arith
  presses_append u (s ∷ a) b = omega (arith, presses_append s a b)

  -- fewer states, no more presses: from up there is at most one press more than from down
  nearly : (was : Bool) (states : List ℕ) → presses down was states ≤ suc (presses down true states)
  unfolding presses
  nearly was [] = omega arith
  nearly was (s ∷ states) = go was (down s)
    where
      go : (w t : Bool) → cond (t && not w) 1 0 + presses down t states ≤ suc (cond (t && not true) 1 0 + presses down t states)
      go true true = omega arith
      go true false = omega arith
      go false true = omega arith
      go false false = omega arith

  from_down : (was : Bool) (states : List ℕ) → presses down true states ≤ presses down was states
  unfolding presses
  from_down was [] = omega arith
  from_down was (s ∷ states) = go was (down s)
    where
      go : (w t : Bool) → cond (t && not true) 1 0 + presses down t states ≤ cond (t && not w) 1 0 + presses down t states
      go true true = omega arith
      go true false = omega arith
      go false true = omega arith
      go false false = omega arith

  taken_out : (was t : Bool) (states : List ℕ) → presses down was states ≤ cond (t && not was) 1 0 + presses down t states
  taken_out true true states = omega arith
  taken_out true false states = omega (arith, from_down false states)
  taken_out false true states = omega (arith, nearly false states)
  taken_out false false states = omega arith

  pub fewer : (was : Bool) {left states : List ℕ} → Sub left states → presses down was left ≤ presses down was states
  unfolding presses
  fewer was none = omega arith
  fewer was (gone {a} {left} h) = omega (arith, taken_out was (down a) left, fewer (down a) h)
  fewer was (stays {a} h) = omega (arith, fewer (down a) h)

-- what the reports show is what the format carries
pub carried_in : (f : Format) (r : Report) → (carried f r).buttons ≡ buttons_in f r.buttons
carried_in Mm r = refl
carried_in Microsoft r = refl
carried_in Absolute r = refl
carried_in Relative r = refl
carried_in FiveByte r = refl
carried_in ThreeByte r = refl
carried_in Hexadecimal r = refl

-- "V drops M": it carries L and R, and the others carry all three
in_v : (x y : Bool) → (bit 2 (number (x ∷ O ∷ y ∷ [])) ≡ x) × (bit 0 (number (x ∷ O ∷ y ∷ [])) ≡ y)
unfolding bit number
in_v true true = (refl, refl)
in_v true false = (refl, refl)
in_v false true = (refl, refl)
in_v false false = (refl, refl)

pub carries_left : (f : Format) → CarriedBy f (is_down left)
carries_left Mm n = refl
carries_left Microsoft n = (in_v (bit 2 n) (bit 0 n)).0
carries_left Absolute n = refl
carries_left Relative n = refl
carries_left FiveByte n = refl
carries_left ThreeByte n = refl
carries_left Hexadecimal n = refl

pub carries_right : (f : Format) → CarriedBy f (is_down right)
carries_right Mm n = refl
carries_right Microsoft n = (in_v (bit 2 n) (bit 0 n)).1
carries_right Absolute n = refl
carries_right Relative n = refl
carries_right FiveByte n = refl
carries_right ThreeByte n = refl
carries_right Hexadecimal n = refl

pub carries_middle : (f : Format) → (f ≡ Microsoft → ⊥) → CarriedBy f (is_down middle)
carries_middle Mm other n = refl
carries_middle Microsoft other n = absurd (other refl)
carries_middle Absolute other n = refl
carries_middle Relative other n = refl
carries_middle FiveByte other n = refl
carries_middle ThreeByte other n = refl
carries_middle Hexadecimal other n = refl

-- what the reports carry counts as what was latched
pub seen_as_sent : (f : Format) (down : ℕ → Bool) → CarriedBy f down → (was : Bool) (passages : List (Passage Message))
    → presses down was (buttons_of (finished_reports f passages)) ≡ presses down was (buttons_sent passages)
unfolding presses
seen_as_sent f down c was [] = refl
seen_as_sent f down c was (silent ∷ passages) = seen_as_sent f down c was passages
seen_as_sent f down c was (finished (report l) ∷ passages) =
    let e = ap down (carried_in f l.report) ∙ c l.report.buttons in
    rw (e, seen_as_sent f down c (down l.report.buttons) passages)
seen_as_sent f down c was (finished (reply bytes) ∷ passages) = seen_as_sent f down c was passages
seen_as_sent f down c was (broken n m ∷ passages) = seen_as_sent f down c was passages

pub presses_carried : (f : Format) (down : ℕ → Bool) → CarriedBy f down → (was : Bool) (l : List ℕ) → presses down was (map (buttons_in f) l) ≡ presses down was l
unfolding presses
presses_carried f down c was [] = refl
presses_carried f down c was (s ∷ l) = rw (c s, presses_carried f down c (down s) l)

-- what stands at the front has no more presses than the whole
pub at_front : (down : ℕ → Bool) (u : ℕ) (a b : List ℕ) → presses down (down u) a ≤ presses down (down u) (a ++ b)
at_front down u a b = omega (arith, presses_append down u a b)
