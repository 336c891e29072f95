-- What is promised of `Bridge::fresh`, `Bridge::good` and `Bridge::convert`. "Tested in that order, where they apply; 0 is success."
use Rattle.std.specs.Prelude.{ℕ, ◌≡◌, Bool, List, [], ◌∷◌, take, Result, Ok, Err}
use Rattle.wire.specs.Line.{letter_of}
use Rattle.wire.specs.Numbers.{success, bad_state, bad_letter, bad_word, RefusesRightly}
use Rattle.wire.specs.Refusals.{number_of}
use Rattle.wire.specs.declared.refusal.Refusal.{Refusal}
use Rattle.wire.specs.declared.Format.TheVariants.{FiveByte}
use Rattle.reader.specs.State as reader
use Rattle.reader.specs.Promises as long
use Rattle.reader.specs.declared.Reader.{Reader}
use Rattle.bridge.specs.Remembered.{none}
use Rattle.bridge.specs.Good.{good}
use Rattle.fold.specs.Calls.{with_refusal, stopped, call}
use Rattle.bridge.specs.Line.{Converted, Long, whole, converts}
use Rattle.bridge.specs.declared.Bridge.{Bridge}

-- a fresh bridge has a fresh reader and remembers nothing; 1 as in the reader, with a fresh one of U
abbrev pub with_none : Reader → Bridge
with_none r = record { reader = r; past = none }

-- a new bridge: a number, and the bridge
pub record NewBridge : Type 0 where
  pub refusal : ℕ
  pub bridge : Bridge

abbrev pub new_in : Result Bridge Refusal → NewBridge
new_in (Ok b) = record { refusal = success; bridge = b }
new_in (Err e) = record { refusal = number_of e; bridge = with_none (reader.fresh (letter_of FiveByte)) }

unfoldable pub fresh_of : ℕ → NewBridge
fresh_of letter = record { refusal = (long.fresh_of letter).refusal; bridge = with_none (long.fresh_of letter).reader }

abbrev pub FreshPromise : ℕ → NewBridge → Type 0
FreshPromise letter answer = answer ≡ fresh_of letter

abbrev pub FreshRefusal : NewBridge → Type 0
FreshRefusal answer =
    RefusesRightly (λ (n : NewBridge). n.refusal) (record { refusal = bad_letter; bridge = with_none (reader.fresh (letter_of FiveByte)) } ∷ []) answer

-- `good(self)`
abbrev pub GoodPromise : Bridge → Bool → Type 0
GoodPromise b answer = answer ≡ good b

-- a long call: "a state that breaks the rules", 6, before all, and then the line
abbrev pub convert_of : Bridge → List ℕ → List ℕ → Long
convert_of b words out = call converts b words out

abbrev pub ConvertPromise : Bridge → List ℕ → List ℕ → Converted → List ℕ → Type 0
ConvertPromise b words before answer after = whole answer after ≡ convert_of b words before

-- 6 leaves all as it was, with counts of 0; 4 is what the words before the bad one gave, but for the number
abbrev pub before_bad : Bridge → List ℕ → List ℕ → Converted → Long
before_bad b words out answer = with_refusal bad_word (convert_of b (take answer.taken words) out)

abbrev pub ConvertRefusal : Bridge → List ℕ → List ℕ → Converted → List ℕ → Type 0
ConvertRefusal b words before answer after =
    RefusesRightly (λ (l : Long). l.refusal) (stopped converts bad_state b before ∷ before_bad b words before answer ∷ []) (whole answer after)
