-- What is promised of `Watch::fresh`, `Watch::knowing`, `Watch::heard` and `Watch::over`. Nothing is refused.
use Rattle.std.specs.Prelude.{ℕ, ◌+◌, ◌≡◌, cond, List, [], ◌∷◌, ℤ}
use Rattle.wire.specs.Buttons.{Button, left, middle, right, is_down}
use Rattle.wire.specs.declared.Report.{Report}
use Rattle.saves.specs.State.{watching, unaware}
use Rattle.saves.specs.Rules.{hears, heard_of, buttons_among}
use Rattle.saves.specs.declared.Watch.{Watch}
use Rattle.saves.specs.declared.Told.{Told}
use Rattle.saves.specs.declared.Watched.{Watched}

-- `Watch::fresh()`
abbrev pub FreshPromise : Watch → Type 0
FreshPromise answer = answer ≡ unaware

-- `Watch::knowing(buttons)`
abbrev pub KnowingPromise : ℕ → Watch → Type 0
KnowingPromise buttons answer = answer ≡ watching buttons

-- `Watch::heard(self, report)`
abbrev pub HeardPromise : Watch → Report → Told → Type 0
HeardPromise w r answer = answer ≡ heard_of w r

-- over reports: any answers that the promise permits, each with the watch that the one before it left
unfoldable pub HeardAll : Watch → List Report → List Told → Type 0
HeardAll w [] [] = Unit
HeardAll w [] (t ∷ told) = ⊥
HeardAll w (r ∷ reports) [] = ⊥
HeardAll w (r ∷ reports) (t ∷ told) = HeardPromise w r t × HeardAll t.next reports told

-- how often a button is told to have gone down
abbrev pub once : Button → Told → ℕ
once button t = cond (is_down button t.down) 1 0

unfoldable pub times_down : Button → List Told → ℕ
times_down button [] = 0
times_down button (t ∷ told) = once button t + times_down button told

-- what is told of buttons, one report after the other, and the watch behind them
unfoldable pub told_of : Watch → List ℕ → List Told
told_of w [] = []
told_of w (now ∷ buttons) = hears w now ∷ told_of (hears w now).next buttons

unfoldable pub behind : Watch → List ℕ → Watch
behind w [] = w
behind w (now ∷ buttons) = behind (hears w now).next buttons

-- `Watch::over(self, numbers)`: how often each went down
unfoldable pub over_of : Watch → List ℕ → Watched
over_of w buttons =
    record {
      next = behind w buttons;
      left = times_down left (told_of w buttons);
      middle = times_down middle (told_of w buttons);
      right = times_down right (told_of w buttons);
    }

abbrev pub OverPromise : Watch → List ℤ → Watched → Type 0
OverPromise w numbers answer = answer ≡ over_of w (buttons_among numbers)
