-- Wrong answers, two or more for each promise, that it does not permit. In the comments a blank stands for a tab and / for a newline.
use Prim.Native.Nat.{ℕ}
use mathlib.Core.Path.{ap}
use mathlib.Core.Bool.{Bool, true, false, true≢false}
use mathlib.Core.List.{List, [], ◌∷◌}
use native.Mathlib.Omega.{arith}
use lib.ListN.{get_or, replicate}
use Rattle.fold.specs.Fold.{run}
use Rattle.text.specs.Decimals.{digits_of, size_in, places_of, decimal_of}
use Rattle.wire.specs.Line.{named_by, known}
use Rattle.wire.specs.Numbers.{success, bad_state}
use Rattle.ballbox.specs.Box.{fresh_box}
use Rattle.driver.specs.Lines.{alone_in, format_in, with_fields, said_by}
use Rattle.driver.specs.Recorded.{record_line}
use Rattle.driver.specs.Driving.{line_done, set}
use Rattle.driver.specs.Feeding.{at_line, fresh, taken_of, byte_of, end_of, tick_of, ticks_from, feed_in, good}
use Rattle.driver.specs.Promises.{Driven, Whole, feed_of, finish_of, FreshPromise, FeedPromise, FinishPromise}
use Rattle.driver.specs.declared.Driver.{Driver}
use Rattle.driver.proofs.Keeps.{fresh_is_good}
use Rattle.driver.proofs.Refusals.{feeds, finishes, good_feed, good_finish}

-- what the calls compute with
unfoldable computing : Unit {0}
unfolding feed_in ticks_from run tick_of byte_of end_of taken_of said_by alone_in with_fields format_in known named_by line_done record_line decimal_of digits_of places_of size_in
computing = tt

-- what a call gives back: its number, the driver, the bytes taken and written, and whether it has ended
abbrev gives : ℕ → Driver → ℕ → ℕ → Bool → Driven
gives n next taken written ended = record { refusal = n; next = next; taken = taken; written = written; ended = ended }

-- a fresh driver behind a line; one that has ended; and one that owes a slot
pub fresh_behind_a_line : FreshPromise (at_line 1 false 0 fresh_box) → ⊥
fresh_behind_a_line e = omega (arith, ap (λ (m : Driver). m.line) e)

pub fresh_ended : FreshPromise (at_line 0 true 0 fresh_box) → ⊥
fresh_ended e = true≢false (ap (λ (m : Driver). m.ended) e)

pub fresh_owes_a_slot : FreshPromise (at_line 0 false 1 fresh_box) → ⊥
fresh_owes_a_slot e = omega (arith, ap (λ (m : Driver). m.owed) e)

-- S/ as the first line, told as bad line 2
pub feed_line_off_by_one : FeedPromise fresh (83 ∷ 10 ∷ []) (replicate 4 0) (gives success (at_line 0 true 0 fresh_box) 2 4 true) (69 ∷ 9 ∷ 50 ∷ 10 ∷ []) → ⊥
unfolding computing
feed_line_off_by_one e = omega (arith, ap (λ (w : Whole). get_or w.out 2 0) (feeds fresh _ _ _ _ fresh_is_good e))

-- the same with three places, where its newline is told as taken and a part of E 1/ is written
pub feed_part_of_a_line : FeedPromise fresh (83 ∷ 10 ∷ []) (replicate 3 0) (gives success (at_line 0 true 0 fresh_box) 2 3 true) (69 ∷ 9 ∷ 49 ∷ []) → ⊥
unfolding computing
feed_part_of_a_line e = omega (arith, ap (λ (w : Whole). w.driven.taken) (feeds fresh _ _ _ _ fresh_is_good e))

-- F V/ written, and told as nothing
pub feed_written_untold : FeedPromise fresh (70 ∷ 9 ∷ 86 ∷ 10 ∷ []) (replicate 4 0) (gives success (at_line 1 false 0 (set 86)) 4 0 false) (70 ∷ 9 ∷ 86 ∷ 10 ∷ []) → ⊥
unfolding computing
feed_written_untold e = omega (arith, ap (λ (w : Whole). w.driven.written) (feeds fresh _ _ _ _ fresh_is_good e))

-- a fresh driver refused, whatever it is fed
pub feed_refused : (input before : List ℕ) → FeedPromise fresh input before (gives bad_state fresh 0 0 false) before → ⊥
feed_refused input before e = omega (arith, good_feed fresh _ _ _ _ fresh_is_good e)

-- a driver behind more lines than there are: it takes a byte; and it is refused, and a byte of the slice is another
abbrev beyond : Driver
beyond = at_line 1000000 false 0 fresh_box

pub feed_beyond_takes : FeedPromise beyond (83 ∷ []) (0 ∷ []) (gives bad_state beyond 1 0 false) (0 ∷ []) → ⊥
unfolding feed_of good
feed_beyond_takes e = omega (arith, ap (λ (w : Whole). w.driven.taken) e)

pub feed_refused_writes : FeedPromise beyond (83 ∷ []) (0 ∷ []) (gives bad_state beyond 0 0 false) (69 ∷ []) → ⊥
unfolding feed_of good
feed_refused_writes e = omega (arith, ap (λ (w : Whole). get_or w.out 0 0) e)

-- the end of an empty input passed over, without E 1/; and told as reached, though E 1/ has no room
pub finish_empty_passed : FinishPromise fresh (replicate 4 0) (gives success (at_line 0 true 0 fresh_box) 0 0 true) (replicate 4 0) → ⊥
unfolding computing
finish_empty_passed e = omega (arith, ap (λ (w : Whole). w.driven.written) (finishes fresh _ _ _ fresh_is_good e))

pub finish_without_room : FinishPromise fresh [] (gives success (at_line 0 true 0 fresh_box) 0 0 true) [] → ⊥
unfolding computing
finish_without_room e = true≢false (ap (λ (w : Whole). w.driven.ended) (finishes fresh _ _ _ fresh_is_good e))

-- a fresh driver refused at the end; and one behind too many lines that writes E, though it is refused
pub finish_refused : (before : List ℕ) → FinishPromise fresh before (gives bad_state fresh 0 0 false) before → ⊥
finish_refused before e = omega (arith, good_finish fresh _ _ _ fresh_is_good e)

pub finish_refused_writes : FinishPromise beyond (0 ∷ []) (gives bad_state beyond 0 0 false) (69 ∷ []) → ⊥
unfolding finish_of good
finish_refused_writes e = omega (arith, ap (λ (w : Whole). get_or w.out 0 0) e)
