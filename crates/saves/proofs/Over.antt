-- Over the numbers of reports a watch counts what it tells of these reports one by one; and calls in pieces join.
use Prim.Native.Nat.{ℕ, ◌/◌, ◌%◌}
use mathlib.Core.Path.{◌≡◌, refl, sym, ◌∙◌, ap}
use mathlib.Core.Bool.{Bool, true, false, cond}
use mathlib.Core.List.{List, [], ◌∷◌, ◌++◌, map}
use native.Mathlib.Omega.{arith}
use lib.Dec.{eqb}
use lib.IntN.{ℤ}
use Rattle.numbers.specs.Bits.{bit}
use Rattle.numbers.proofs.Choices.{cases}
use Rattle.wire.specs.Buttons.{Button, left, middle, right, is_down, buttons_of, presses_from, presses_among}
use Rattle.wire.specs.declared.Report.{Report}
use Rattle.saves.specs.State.{watching, unaware}
use Rattle.saves.specs.Rules.{is_new, new_in, told, hears, buttons_among, fives}
use Rattle.saves.specs.Promises.{HeardAll, once, times_down, told_of, behind, over_of, OverPromise}
use Rattle.saves.specs.Parts.{none_before, with_report}
use Rattle.saves.specs.declared.Watch.{Watch}
use Rattle.saves.specs.declared.Told.{Told}
use Rattle.saves.specs.declared.Watched.{Watched}
use Rattle.saves.proofs.Hearing.{is_new_lem, heard_known, heard_fresh}
use Rattle.saves.proofs.Counting.{going, joined, going_is, from_none}

-- how often a button went down, of what is counted; and the watch that answers leave
abbrev pub counted : Button → Watched → ℕ
counted left a = a.left
counted middle a = a.middle
counted right a = a.right

abbrev pub left_by : Watch → List Told → Watch
left_by w [] = w
left_by w (t ∷ told) = left_by t.next told

-- two watches that nobody can tell apart by what they tell: their higher bits may differ
pub record Alike (w v : Watch) : Type 0 where
  pub known : w.known ≡ v.known
  pub last : (button : Button) → is_down button w.last ≡ is_down button v.last

-- the low three bits are the buttons
low_down : (button : Button) (n : ℕ) → is_down button (n % 8) ≡ is_down button n
unfolding bit
low_down left n = let e : n % 8 / 4 % 2 ≡ n / 4 % 2 = omega arith in rw e
low_down middle n = let e : n % 8 / 2 % 2 ≡ n / 2 % 2 = omega arith in rw e
low_down right n = let e : n % 8 / 1 % 2 ≡ n / 1 % 2 = omega arith in rw e

-- what a watch tells of a button, and the watch behind it
no_button : (button : Button) → is_down button 0 ≡ false
unfolding bit
no_button left = refl
no_button middle = refl
no_button right = refl

down_is : (button : Button) (w : Watch) (now : ℕ) → is_down button (hears w now).down ≡ cond (eqb w.known 0) false (is_new button now w.last)
unfolding hears
down_is button w now = go (eqb w.known 0)
  where
    go : (t : Bool) → is_down button (cond t (told now 0 0) (told now (new_in now w.last) (new_in w.last now))).down ≡ cond t false (is_new button now w.last)
    go true = no_button button
    go false = is_new_lem button now w.last

next_is : (w : Watch) (now : ℕ) → (hears w now).next ≡ watching now
unfolding hears
next_is w now = cases (λ (t : Told). t.next ≡ watching now) (eqb w.known 0) (λ _. refl) (λ _. refl)

abbrev low : List ℕ → List ℕ
low buttons = map (λ (n : ℕ). n % 8) buttons

alike_behind : (w v : Watch) (now : ℕ) → Alike (hears w (now % 8)).next (hears v now).next
alike_behind w v now = rw (next_is w (now % 8), next_is v now) (record { known = refl; last = λ button. low_down button now })

once_alike : (button : Button) (w v : Watch) (now : ℕ) → Alike w v → once button (hears w (now % 8)) ≡ once button (hears v now)
once_alike button w v now a = rw (down_is button w (now % 8), down_is button v now, a.known, low_down button now, a.last button)

low_times : (button : Button) (w v : Watch) (buttons : List ℕ) → Alike w v → times_down button (told_of w (low buttons)) ≡ times_down button (told_of v buttons)
unfolding times_down told_of
low_times button w v [] a = refl
low_times button w v (now ∷ buttons) a =
    rw (once_alike button w v now a, low_times button (hears w (now % 8)).next (hears v now).next buttons (alike_behind w v now))

low_behind : (w v : Watch) (buttons : List ℕ) → Alike w v → Alike (behind w (low buttons)) (behind v buttons)
unfolding behind
low_behind w v [] a = a
low_behind w v (now ∷ buttons) a = low_behind (hears w (now % 8)).next (hears v now).next buttons (alike_behind w v now)

-- the numbers of reports show their buttons
fives_show : (reports : List Report) → buttons_among (fives reports) ≡ low (buttons_of reports)
unfolding buttons_among
fives_show [] = refl
fives_show (r ∷ reports) = rw (fives_show reports)

-- the reports are heard in one way, and can be heard
pub told_is : (w : Watch) (reports : List Report) (told : List Told) → HeardAll w reports told → told ≡ told_of w (buttons_of reports)
unfolding HeardAll told_of
told_is w [] [] h = refl
told_is w [] (t ∷ told) h = absurd h
told_is w (r ∷ reports) [] h = absurd h
told_is w (r ∷ reports) (t ∷ told) h = rw (told_is t.next reports told h.1, h.0)

pub left_is : (w : Watch) (reports : List Report) (told : List Told) → HeardAll w reports told → left_by w told ≡ behind w (buttons_of reports)
unfolding HeardAll behind
left_is w [] [] h = refl
left_is w [] (t ∷ told) h = absurd h
left_is w (r ∷ reports) [] h = absurd h
left_is w (r ∷ reports) (t ∷ told) h = left_is t.next reports told h.1 ∙ ap (λ (x : Told). behind x.next (buttons_of reports)) h.0

pub can_be_heard : (w : Watch) (reports : List Report) → HeardAll w reports (told_of w (buttons_of reports))
unfolding HeardAll told_of
can_be_heard w [] = tt
can_be_heard w (r ∷ reports) = (refl, can_be_heard (hears w r.buttons).next reports)

module _ (w : Watch) (reports : List Report) (told : List Told) (answer : Watched) (h : HeardAll w reports told) (o : OverPromise w (fives reports) answer) where
  itself : Alike w w
  itself = record { known = refl; last = λ button. refl }

  is_over : answer ≡ over_of w (low (buttons_of reports))
  is_over = o ∙ rw (fives_show reports)

  -- over the numbers of reports: as often as these reports tell, one by one
  pub over_heard : (button : Button) → counted button answer ≡ times_down button told
  unfolding over_of
  over_heard left = rw (is_over, told_is w reports told h) (low_times left w w (buttons_of reports) itself)
  over_heard middle = rw (is_over, told_is w reports told h) (low_times middle w w (buttons_of reports) itself)
  over_heard right = rw (is_over, told_is w reports told h) (low_times right w w (buttons_of reports) itself)

  -- and what is left is alike
  pub over_leaves : Alike answer.next (left_by w told)
  unfolding over_of
  over_leaves = rw (is_over, left_is w reports told h) (low_behind w w (buttons_of reports) itself)

-- so the counts are the presses among the reports
pub over_known : (button : Button) (n : ℕ) (reports : List Report) (answer : Watched) → OverPromise (watching n) (fives reports) answer
    → counted button answer ≡ presses_from (is_down button) n reports
over_known button n reports answer o = let told = told_of (watching n) (buttons_of reports) in
    let h = can_be_heard (watching n) reports in
    over_heard (watching n) reports told answer h o button ∙ heard_known button n reports told h

pub over_fresh : (button : Button) (reports : List Report) (answer : Watched) → OverPromise unaware (fives reports) answer
    → counted button answer ≡ presses_among (is_down button) reports
over_fresh button reports answer o = let told = told_of unaware (buttons_of reports) in
    let h = can_be_heard unaware reports in
    over_heard unaware reports told answer h o button ∙ heard_fresh button reports told h

-- Calls in pieces: the numbers of some reports, and then any numbers.
fives_then : (reports : List Report) (numbers : List ℤ) → buttons_among (fives reports ++ numbers) ≡ buttons_among (fives reports) ++ buttons_among numbers
unfolding buttons_among
fives_then [] numbers = refl
fives_then (r ∷ reports) numbers = rw (fives_then reports numbers)

going_then : (s : Watched) (a b : List ℕ) → going s (a ++ b) ≡ going (going s a) b
going_then s [] b = refl
going_then s (now ∷ a) b = going_then (with_report s now) a b

over_then : (w : Watch) (a b : List ℕ) → over_of w (a ++ b) ≡ joined (over_of w a) (over_of (over_of w a).next b)
over_then w a b =
    sym (from_none w (a ++ b)) ∙ going_then (none_before w) a b ∙ ap (λ (s : Watched). going s b) (from_none w a) ∙ going_is (over_of w a) b

pub pieces_join : (w : Watch) (reports : List Report) (numbers : List ℤ) (p q whole : Watched) → OverPromise w (fives reports) p → OverPromise p.next numbers q
    → OverPromise w (fives reports ++ numbers) whole → whole ≡ joined p q
pieces_join w reports numbers p q whole x y z = z ∙ rw (fives_then reports numbers, over_then, ← x, ← y)
