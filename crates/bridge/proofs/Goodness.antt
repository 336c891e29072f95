-- No bridge that we make is ever refused: a fresh one is good, and every long call of a good one gives a good one of the same format.
use Prim.Native.Nat.{ℕ}
use mathlib.Core.Path.{◌≡◌, refl, ◌∙◌, ap}
use mathlib.Core.Bool.{true}
use mathlib.Core.List.{List}
use lib.ListN.{length}
use Rattle.std.proofs.Common.{Result, Ok, Err}
use Rattle.std.specs.Result.{ResultUnwrapsOrElse}
use Rattle.fold.proofs.Laws.{stays}
use Rattle.wire.specs.Line.{letter_of}
use Rattle.wire.specs.declared.Format.TheVariants.{FiveByte}
use Rattle.wire.specs.declared.refusal.Refusal.{Refusal}
use Rattle.reader.specs.State.{fresh}
use Rattle.reader.specs.Promises as reader_promises
use Rattle.reader.proofs.Word.{word_format}
use Rattle.reader.proofs.Goodness as reader_goodness
use Rattle.bridge.specs.Remembered.{no_base, good_base}
use Rattle.bridge.specs.Good.{good}
use Rattle.fold.specs.Calls.{line, call}
use Rattle.fold.proofs.Calls.{call_line}
use Rattle.bridge.specs.Line.{Converted, Long, bridges, converts}
use Rattle.bridge.specs.Promises.{NewBridge, FreshPromise, ConvertPromise, with_none, new_in, fresh_of}
use Rattle.bridge.specs.declared.Bridge.{Bridge}
use Rattle.bridge.proofs.Keeps.{word_keeps}
use Rattle.bridge.proofs.Counted.{lawful}

-- of a good bridge a long call is the line
pub convert_line : (b : Bridge) (words out : List ℕ) → good b ≡ true → call converts b words out ≡ line converts b words out
convert_line = call_line converts lawful

none_good : (letter : ℕ) → good_base letter no_base ≡ true
unfolding good_base
none_good letter = refl

pub fresh_is_good : (letter : ℕ) (a : NewBridge) → FreshPromise letter a → good a.bridge ≡ true
unfolding fresh_of good
fresh_is_good letter a e =
    rw e (rw (reader_goodness.fresh_is_good letter (reader_promises.fresh_of letter) refl) (none_good (reader_promises.fresh_of letter).reader.format))

-- a fresh one of a letter, or that of U
pub fresh_or : (r : Result Bridge Refusal) (b : Bridge) → ResultUnwrapsOrElse r (λ (x : Bridge). x ≡ with_none (fresh (letter_of FiveByte))) b → b ≡ (new_in r).bridge
fresh_or (Ok a) b e = e
fresh_or (Err x) b e = e

pub convert_stays_good : (b : Bridge) (words out : List ℕ) (a : Converted) (after : List ℕ) → good b ≡ true → ConvertPromise b words out a after
    → (good a.next ≡ true) × (a.next.reader.format ≡ b.reader.format)
unfolding line
convert_stays_good b words out a after g e =
    rw (ap (λ (l : Long). l.next) (e ∙ convert_line b words out g))
    (stays bridges (λ (q : Bridge). (good q ≡ true) × (q.reader.format ≡ b.reader.format)) (λ q w h. (word_keeps q h.0 w, word_format q.reader w ∙ h.1)) words b (length out) (g, refl))
