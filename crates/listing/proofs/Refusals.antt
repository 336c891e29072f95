-- What a lister refuses: 6 for one that breaks its rules, which is handed back; a good one is never refused, and no other is ever made.
use Prim.Native.Nat.{ℕ}
use mathlib.Core.Path.{◌≡◌, ◌∙◌, ap}
use mathlib.Core.Bool.{true, false}
use mathlib.Core.List.{List}
use lib.ListN.{length}
use Rattle.wire.specs.Numbers.{success}
use Rattle.listing.specs.Feeding.{good}
use Rattle.listing.specs.Promises.{Listed, Whole, whole, refused, feed_of, finish_of, FreshPromise, FeedPromise, FinishPromise}
use Rattle.listing.specs.declared.Lister.{Lister}
use Rattle.listing.proofs.Calls.{feeds, finishes}
use Rattle.listing.proofs.Keeps as keeps

pub bad_state_feed : (m : Lister) (input before after : List ℕ) (a : Listed) → good m ≡ false → FeedPromise m input before a after → whole a after ≡ refused m before
unfolding feed_of
bad_state_feed m input before after a g p = rw g at p

pub bad_state_finish : (m : Lister) (before after : List ℕ) (a : Listed) → good m ≡ false → FinishPromise m before a after → whole a after ≡ refused m before
unfolding finish_of
bad_state_finish m before after a g p = rw g at p

-- a good lister is not refused
pub good_feed : (m : Lister) (input before after : List ℕ) (a : Listed) → good m ≡ true → FeedPromise m input before a after → a.refusal ≡ success
good_feed m input before after a g p = ap (λ (w : Whole). w.listed.refusal) (feeds m input before after a g p)

pub good_finish : (m : Lister) (before after : List ℕ) (a : Listed) → good m ≡ true → FinishPromise m before a after → a.refusal ≡ success
good_finish m before after a g p = ap (λ (w : Whole). w.listed.refusal) (finishes m before after a g p)

-- a fresh one is good, and what comes back from a good one is
pub fresh_is_good : (m : Lister) → FreshPromise m → good m ≡ true
fresh_is_good m p = ap good p ∙ keeps.fresh_is_good

pub finish_stays_good : (m : Lister) (before after : List ℕ) (a : Listed) → good m ≡ true → FinishPromise m before a after → good a.next ≡ true
finish_stays_good m before after a g p = ap (λ (w : Whole). good w.listed.next) (finishes m before after a g p) ∙ keeps.finish_stays_good m (length before) g
