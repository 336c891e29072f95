-- What a driver refuses: 6 for one that breaks its rules, which is handed back; a good one is never refused, and no other is ever made.
use Prim.Native.Nat.{ℕ}
use mathlib.Core.Path.{◌≡◌, ◌∙◌, ap}
use mathlib.Core.Bool.{true, false}
use mathlib.Core.List.{List}
use lib.ListN.{length}
use Rattle.wire.specs.Numbers.{success}
use Rattle.driver.specs.Feeding.{feed_in, closing, good}
use Rattle.driver.specs.Promises.{Driven, Whole, whole, written, refused, untaken, feed_of, finish_of, FreshPromise, FeedPromise, FinishPromise}
use Rattle.driver.specs.declared.Driver.{Driver}
use Rattle.driver.proofs.Keeps as keeps

pub bad_state_feed : (m : Driver) (input before after : List ℕ) (a : Driven) → good m ≡ false → FeedPromise m input before a after → whole a after ≡ refused m before
unfolding feed_of
bad_state_feed m input before after a g p = rw g at p

pub bad_state_finish : (m : Driver) (before after : List ℕ) (a : Driven) → good m ≡ false → FinishPromise m before a after → whole a after ≡ refused m before
unfolding finish_of
bad_state_finish m before after a g p = rw g at p

-- what a good one gives
pub feeds : (m : Driver) (input before after : List ℕ) (a : Driven) → good m ≡ true → FeedPromise m input before a after → whole a after ≡ written (feed_in m input (length before)) before
unfolding feed_of
feeds m input before after a g p = rw g at p

pub finishes : (m : Driver) (before after : List ℕ) (a : Driven) → good m ≡ true → FinishPromise m before a after
    → whole a after ≡ written (untaken (feed_in m (closing m) (length before))) before
unfolding finish_of
finishes m before after a g p = rw g at p

-- a good driver is not refused
pub good_feed : (m : Driver) (input before after : List ℕ) (a : Driven) → good m ≡ true → FeedPromise m input before a after → a.refusal ≡ success
good_feed m input before after a g p = ap (λ (w : Whole). w.driven.refusal) (feeds m input before after a g p)

pub good_finish : (m : Driver) (before after : List ℕ) (a : Driven) → good m ≡ true → FinishPromise m before a after → a.refusal ≡ success
good_finish m before after a g p = ap (λ (w : Whole). w.driven.refusal) (finishes m before after a g p)

-- a fresh one is good, and what comes back from a good one is
pub fresh_is_good : (m : Driver) → FreshPromise m → good m ≡ true
fresh_is_good m p = ap good p ∙ keeps.fresh_is_good

pub feed_stays_good : (m : Driver) (input before after : List ℕ) (a : Driven) → good m ≡ true → FeedPromise m input before a after → good a.next ≡ true
feed_stays_good m input before after a g p = ap (λ (w : Whole). good w.driven.next) (feeds m input before after a g p) ∙ keeps.feed_stays_good m input (length before) g

pub finish_stays_good : (m : Driver) (before after : List ℕ) (a : Driven) → good m ≡ true → FinishPromise m before a after → good a.next ≡ true
finish_stays_good m before after a g p = ap (λ (w : Whole). good w.driven.next) (finishes m before after a g p) ∙ keeps.feed_stays_good m (closing m) (length before) g
