-- A small watch.
use Rattle.std.specs.Prelude.{◌≡◌, refl, [], ◌∷◌, pos, negsuc}
use Rattle.text.specs.Decimals.{digits_of, size_in, places_of, decimal_of}
use Rattle.mwatch.specs.Watching.{counted, report_line, press_count, press_line, press_lines, presses_after, dropped_line}

-- a report with the left button; of V, whose middle button is not known
pub a_report : report_line 83 12 4 (pos 5) (negsuc 2) ≡ 82 ∷ 9 ∷ 49 ∷ 50 ∷ 9 ∷ 76 ∷ 45 ∷ 45 ∷ 9 ∷ 53 ∷ 9 ∷ 45 ∷ 51 ∷ 10 ∷ []
unfolding report_line digits_of size_in places_of decimal_of
a_report = refl

pub of_v : report_line 86 1 1 (pos 0) (pos 0) ≡ 82 ∷ 9 ∷ 49 ∷ 9 ∷ 45 ∷ 63 ∷ 82 ∷ 9 ∷ 48 ∷ 9 ∷ 48 ∷ 10 ∷ []
unfolding report_line digits_of size_in places_of decimal_of
of_v = refl

-- two buttons went down, the left and the right one
pub two_presses : press_lines 3 5 ≡ 80 ∷ 9 ∷ 52 ∷ 9 ∷ 76 ∷ 10 ∷ 80 ∷ 9 ∷ 53 ∷ 9 ∷ 82 ∷ 10 ∷ []
unfolding counted press_count press_line digits_of size_in places_of decimal_of
two_presses = refl

pub five_so_far : presses_after 3 5 ≡ 5
unfolding counted press_count
five_so_far = refl

pub a_drop : dropped_line 9 2 ≡ 68 ∷ 9 ∷ 57 ∷ 9 ∷ 50 ∷ 10 ∷ []
unfolding dropped_line digits_of size_in places_of decimal_of
a_drop = refl
