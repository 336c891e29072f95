-- What is counted report by report is what is told of all of them; and the first report among numbers.
use Prim.Native.Nat.{ℕ, ◌+◌, ◌≤◌, ◌<◌}
use mathlib.Core.Path.{◌≡◌, refl, ◌∙◌}
use mathlib.Core.Bool.{Bool, true, false, cond}
use mathlib.Core.List.{List, [], ◌∷◌, ◌++◌}
use native.Mathlib.Omega.{arith}
use native.Mathlib.Nat.{add_assoc, add-zero, zero-add}
use lib.ListN.{length, get_or}
use lib.IntN.{ℤ, pos}
use Rattle.wire.specs.Buttons.{left, middle, right, is_down}
use Rattle.saves.specs.Rules.{hears, low_three, buttons_among}
use Rattle.saves.specs.Promises.{once, times_down, told_of, behind, over_of}
use Rattle.saves.specs.Parts.{none_before, with_report}
use Rattle.saves.specs.declared.Watch.{Watch}
use Rattle.saves.specs.declared.Watched.{Watched}

-- the reports, one after the other
abbrev pub going : Watched → List ℕ → Watched
going s [] = s
going s (now ∷ buttons) = going (with_report s now) buttons

-- what was counted, and then what later buttons give
abbrev pub joined : Watched → Watched → Watched
joined s later =
    record { next = later.next; left = s.left + later.left; middle = s.middle + later.middle; right = s.right + later.right }

pub going_is : (s : Watched) (buttons : List ℕ) → going s buttons ≡ joined s (over_of s.next buttons)
unfolding over_of behind told_of times_down with_report
going_is s [] = rw (add-zero s.left, add-zero s.middle, add-zero s.right)
going_is s (now ∷ buttons) = let t = hears s.next now in
    going_is (with_report s now) buttons
    ∙ rw (add_assoc s.left (once left t), add_assoc s.middle (once middle t), add_assoc s.right (once right t))

pub from_none : (w : Watch) (buttons : List ℕ) → going (none_before w) buttons ≡ over_of w buttons
unfolding over_of
from_none w buttons = going_is (none_before w) buttons ∙ simp zero-add

-- a report adds one at most
few : (b : Bool) → cond b 1 0 ≤ 1
few true = omega arith
few false = omega arith

pub with_few : (s : Watched) (now : ℕ) → ((with_report s now).left ≤ s.left + 1) × ((with_report s now).middle ≤ s.middle + 1) × ((with_report s now).right ≤ s.right + 1)
unfolding with_report
with_few s now = let d = (hears s.next now).down in
    (omega (arith, few (is_down left d)), omega (arith, few (is_down middle d)), omega (arith, few (is_down right d)))

-- a whole five, and fewer
pub one_more_lem : (report rest : List ℤ) → length report ≡ 5 → buttons_among (report ++ rest) ≡ low_three (get_or report 0 (pos 0)) ∷ buttons_among rest
unfolding buttons_among
one_more_lem [] rest h = absurd (omega arith)
one_more_lem (b ∷ []) rest h = absurd (omega arith)
one_more_lem (b ∷ x1 ∷ []) rest h = absurd (omega arith)
one_more_lem (b ∷ x1 ∷ y1 ∷ []) rest h = absurd (omega arith)
one_more_lem (b ∷ x1 ∷ y1 ∷ x2 ∷ []) rest h = absurd (omega arith)
one_more_lem (b ∷ x1 ∷ y1 ∷ x2 ∷ y2 ∷ []) rest h = refl
one_more_lem (b ∷ x1 ∷ y1 ∷ x2 ∷ y2 ∷ z ∷ more) rest h = absurd (omega arith)

pub none_more : (numbers : List ℤ) → length numbers < 5 → buttons_among numbers ≡ []
unfolding buttons_among
none_more [] h = refl
none_more (b ∷ []) h = refl
none_more (b ∷ x1 ∷ []) h = refl
none_more (b ∷ x1 ∷ y1 ∷ []) h = refl
none_more (b ∷ x1 ∷ y1 ∷ x2 ∷ []) h = refl
none_more (b ∷ x1 ∷ y1 ∷ x2 ∷ y2 ∷ numbers) h = absurd (omega arith)
