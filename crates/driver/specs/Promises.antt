-- What is promised of `Driver::fresh`, `Driver::feed` and `Driver::finish`: for every argument one answer, and every byte of the slice.
use Rattle.std.specs.Prelude.{ℕ, ◌≡◌, Bool, cond, List, ◌++◌, length, drop}
use Rattle.wire.specs.Numbers.{success, bad_state}
use Rattle.wire.specs.Refusals.{number_if}
use Rattle.driver.specs.Feeding.{fresh, Feed, feed_in, closing, good}
use Rattle.driver.specs.declared.Driver.{Driver}
use Rattle.driver.specs.declared.Driven as declared

-- the free places with which a call takes a tick
abbrev pub enough : ℕ
enough = 9

-- the answer by itself: a number, 0 where it is not refused, the driver, the counts, and whether it has ended
pub record Driven : Type 0 where
  pub refusal : ℕ
  pub next : Driver
  pub taken : ℕ
  pub written : ℕ
  pub ended : Bool

abbrev pub driven_in : declared.Driven → Driven
driven_in a = record { refusal = number_if a.refusal; next = a.next; taken = a.taken; written = a.written; ended = a.ended }

-- what a call gives back, and every byte of the lent slice after it
pub record Whole : Type 0 where
  pub driven : Driven
  pub out : List ℕ

abbrev pub whole : Driven → List ℕ → Whole
whole driven out = record { driven = driven; out = out }

-- the text at the front of the slice, and nothing behind it
abbrev pub written : Feed → List ℕ → Whole
written f out =
    whole (record { refusal = success; next = f.next; taken = f.taken; written = length f.text; ended = f.next.ended })
    (f.text ++ drop (length f.text) out)

-- "a state that breaks the rules below", 6: "A refusal returns the old state [..] and counts of 0", and the slice is as it was
abbrev pub refused : Driver → List ℕ → Whole
refused m out = whole (record { refusal = bad_state; next = m; taken = 0; written = 0; ended = m.ended }) out

-- `Driver::feed(self, input, out)`
unfoldable pub feed_of : Driver → List ℕ → List ℕ → Whole
feed_of m input out = cond (good m) (written (feed_in m input (length out)) out) (refused m out)

-- nothing of an input is taken by the end
abbrev pub untaken : Feed → Feed
untaken f = record { next = f.next; taken = 0; text = f.text }

-- `Driver::finish(self, out)`: the end of the input; where a part of it has no room it can be called again
unfoldable pub finish_of : Driver → List ℕ → Whole
finish_of m out = cond (good m) (written (untaken (feed_in m (closing m) (length out))) out) (refused m out)

-- `Driver::fresh()`
abbrev pub FreshPromise : Driver → Type 0
FreshPromise answer = answer ≡ fresh

abbrev pub FeedPromise : Driver → List ℕ → List ℕ → Driven → List ℕ → Type 0
FeedPromise m input before answer after = whole answer after ≡ feed_of m input before

abbrev pub FinishPromise : Driver → List ℕ → Driven → List ℕ → Type 0
FinishPromise m before answer after = whole answer after ≡ finish_of m before
