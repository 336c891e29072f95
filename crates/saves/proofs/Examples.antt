-- Worked runs: a tap, M held when the recorder is switched on, and what a fresh watch can miss.
use mathlib.Core.Path.{◌≡◌, refl}
use mathlib.Core.List.{[], ◌∷◌}
use Prim.Native.Nat.{ℕ}
use lib.IntN.{pos, negsuc}
use Rattle.wire.specs.Buttons.{middle, is_down, presses_from, presses_among}
use Rattle.wire.specs.Reading.{report}
use Rattle.wire.specs.declared.Report.{Report}
use Rattle.saves.specs.State.{watching, unaware}
use Rattle.saves.specs.Rules.{told, fives, buttons_among}
use Rattle.saves.specs.Promises.{told_of, times_down, over_of}
use Rattle.saves.specs.declared.Watched.{Watched}
use Rattle.saves.proofs.Computing.{computing}

abbrev shown : ℕ → Report
shown buttons = report buttons (pos 5) (negsuc 2)

abbrev over : ℕ → ℕ → ℕ → ℕ → Watched
over last l m r = record { next = watching last; left = l; middle = m; right = r }

-- a tap of M with L held: L is no press, M is one, whatever stands between
pub a_tap : told_of (watching 4) (4 ∷ 6 ∷ 6 ∷ 4 ∷ []) ≡ told 4 0 0 ∷ told 6 2 0 ∷ told 6 0 0 ∷ told 4 0 2 ∷ []
unfolding computing
a_tap = refl

-- M held when the recorder is switched on: nothing is told until it is pressed anew
pub held_at_first : told_of unaware (2 ∷ 2 ∷ 0 ∷ 2 ∷ []) ≡ told 2 0 0 ∷ told 2 0 0 ∷ told 0 0 2 ∷ told 2 2 0 ∷ []
unfolding computing
held_at_first = refl

-- so a press that the first report shows is missed by a fresh watch, and told by one that knew
pub missed_fresh : presses_among (is_down middle) (shown 2 ∷ shown 0 ∷ []) ≡ 0
unfolding computing
missed_fresh = refl

pub told_known : presses_from (is_down middle) 0 (shown 2 ∷ shown 0 ∷ []) ≡ 1
unfolding computing
told_known = refl

-- a release between two presses that no report shows makes one press of them
pub unseen_release : times_down middle (told_of (watching 0) (2 ∷ 2 ∷ [])) ≡ 1
unfolding computing
unseen_release = refl

-- higher bits are not looked at
pub higher_bits : told_of (watching 0xF8) (0xFA ∷ []) ≡ told 0xFA 2 0 ∷ []
unfolding computing
higher_bits = refl

-- three reports by their numbers, with three places more that are not looked at
pub by_numbers : over_of (watching 0) (buttons_among (fives (shown 2 ∷ shown 5 ∷ shown 6 ∷ []))) ≡ over 6 1 2 1
unfolding computing
by_numbers = refl

pub not_whole : buttons_among (pos 2 ∷ pos 0 ∷ pos 0 ∷ pos 0 ∷ pos 0 ∷ pos 7 ∷ pos 0 ∷ pos 0 ∷ []) ≡ 2 ∷ []
unfolding computing
not_whole = refl

-- none: the watch stays as it is, a fresh one too
pub no_numbers : over_of unaware (buttons_among []) ≡ record { next = unaware; left = 0; middle = 0; right = 0 }
unfolding computing
no_numbers = refl
