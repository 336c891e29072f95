-- Refusals: 6 before 4, the old bridge, counts of 0 and an unchanged slice; and 4 in a long call.
use Prim.Native.Nat.{ℕ, ◌<◌}
use mathlib.Core.Path.{◌≡◌, refl, ap}
use mathlib.Core.Bool.{true, false}
use mathlib.Core.Logic.{◌⊎◌}
use mathlib.Core.List.Memᴰ
use mathlib.Core.List.{List, ◌∷◌, ◌++◌}
use native.Mathlib.Omega.{arith}
use lib.ListN.{length, get_or}
use Rattle.numbers.proofs.Choices.{cases}
use Rattle.fold.specs.Calls.{with_refusal, stopped, Refuses}
use Rattle.fold.proofs.Calls as calls
use Rattle.frames.specs.Words.{silence}
use Rattle.wire.specs.Line.{known, letter_of}
use Rattle.wire.specs.Numbers.{success, bad_state, bad_letter, bad_word, accepted, refusal}
use Rattle.wire.specs.declared.Format.TheVariants.{FiveByte}
use Rattle.reader.specs.State.{fresh, NewReader, Read}
use Rattle.reader.specs.Promises as reader
use Rattle.reader.proofs.Word.{word_number}
use Rattle.reader.proofs.Refusals.{above}
use Rattle.bridge.specs.Good.{good}
use Rattle.bridge.specs.Line.{Converted, Long, whole, told, converts}
use Rattle.bridge.specs.Promises.{NewBridge, FreshPromise, ConvertPromise, FreshRefusal, ConvertRefusal, with_none, fresh_of}
use Rattle.bridge.specs.declared.Bridge.{Bridge}
use Rattle.bridge.proofs.Counted.{lawful}

-- 1: a fresh one of U
pub unknown_letter : (letter : ℕ) (a : NewBridge) → known letter ≡ false → FreshPromise letter a → a ≡ record { refusal = bad_letter; bridge = with_none (fresh (letter_of FiveByte)) }
unfolding fresh_of reader.fresh_of
unknown_letter letter a k e = rw (e, k)

-- 4 just for a word above 257
refuses : Refuses converts bad_word silence
refuses =
    record {
      some = λ z. omega (arith, z);
      either = λ b w g. word_number b.reader w;
      above = λ b w g h. ap (λ (s : Read). s.refusal) (above b.reader w h);
    }

-- 6: whatever the words
pub bad_state_lem : (b : Bridge) (words out : List ℕ) (a : Converted) (after : List ℕ) → good b ≡ false → ConvertPromise b words out a after → whole a after ≡ stopped converts bad_state b out
bad_state_lem b words out a after g e = calls.bad_state_lem converts lawful b words out e g

-- 4: behind words that were all taken, what they gave, but for the number
pub bad_word_lem : (b : Bridge) (p q : List ℕ) (w : ℕ) (out : List ℕ) (s t : Converted) (x y : List ℕ)
    → good b ≡ true
    → silence < w
    → ConvertPromise b p out t y
    → t.taken ≡ length p
    → ConvertPromise b (p ++ w ∷ q) out s x
    → whole s x ≡ with_refusal bad_word (whole t y)
bad_word_lem b p q w out s t x y = calls.bad_word_lem converts lawful refuses b p q w out

-- a long call of a good bridge ends with 0, or with 4 before a word above 257
pub convert_ends : (b : Bridge) (words out : List ℕ) (a : Converted) (after : List ℕ) → good b ≡ true → ConvertPromise b words out a after
    → (a.refusal ≡ success) ⊎ ((a.refusal ≡ bad_word) × (silence < get_or words a.taken 0))
convert_ends b words out a after g e = calls.ends converts lawful refuses b words out e g

-- every answer is a success, or a refusal with a number from the list and what it leaves
pub fresh_refusals : (letter : ℕ) (a : NewBridge) → FreshPromise letter a → FreshRefusal a
unfolding fresh_of reader.fresh_of
fresh_refusals letter a e =
    rw e (cases (λ (n : NewReader). FreshRefusal (record { refusal = n.refusal; bridge = with_none n.reader })) (known letter) (λ _. accepted refl) (λ _. refusal (Memᴰ.head refl)))

pub convert_refusals : (b : Bridge) (words out : List ℕ) (a : Converted) (after : List ℕ) → ConvertPromise b words out a after → ConvertRefusal b words out a after
convert_refusals b words out a after e = calls.outcomes converts lawful refuses b words out e accepted (λ x. refusal (Memᴰ.head x)) (λ x. refusal (Memᴰ.tail (Memᴰ.head x)))

-- where words are left, what follows them changes nothing
pub unreached : (b : Bridge) (p q out : List ℕ) (s t : Converted) (x y : List ℕ) → ConvertPromise b p out t y → t.taken < length p → ConvertPromise b (p ++ q) out s x
    → (s ≡ t) × (x ≡ y)
unreached b p q out s t x y f n e =
    let j = calls.not_reached converts lawful b p q out f n e in
    (ap told j, ap (λ (l : Long). l.out) j)
