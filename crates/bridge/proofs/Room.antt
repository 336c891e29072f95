-- A long call is its words, one by one, as long as there is room.
use Prim.Native.Nat.{ℕ, ◌*◌, ◌<◌, ◌≤◌}
use mathlib.Core.Path.{◌≡◌, ◌∙◌, ap}
use mathlib.Core.Bool.{true}
use mathlib.Core.List.{List, [], ◌∷◌}
use lib.ListN.{length, drop}
use Rattle.fold.specs.Calls.{stopped, after}
use Rattle.fold.proofs.Calls as calls
use Rattle.wire.specs.Numbers.{success}
use Rattle.reader.specs.Rules.{word_of}
use Rattle.reader.specs.Promises.{StepPromise}
use Rattle.reader.specs.State.{Read}
use Rattle.reader.proofs.Permitted.{step_is}
use Rattle.reader.proofs.Goodness.{step_word}
use Rattle.bridge.specs.Good.{good}
use Rattle.bridge.specs.Line.{Converted, given, behind, whole, converts}
use Rattle.bridge.specs.Promises.{ConvertPromise}
use Rattle.bridge.specs.declared.Bridge.{Bridge}
use Rattle.bridge.proofs.Counted.{lawful}
use Rattle.bridge.proofs.Keeps.{good_reader}

module _ (b : Bridge) (w : ℕ) (q out : List ℕ) (s : Read) (a : Converted) (x : List ℕ) (g : good b ≡ true) (e : StepPromise b.reader w s) (f : ConvertPromise b (w ∷ q) out a x) where
  word : s ≡ word_of b.reader w
  word = step_is b.reader w s e ∙ step_word b.reader w (good_reader b g)

  abbrev v : ℕ
  v = length (given b s).sent

  stopping : (s.refusal ≡ success → length out < 3 * v) → whole a x ≡ stopped converts s.refusal b out
  stopping h = rw word (calls.stops converts lawful b w q out g f (rw word at h))

  -- a word that is refused: no more is taken
  pub stops_at_refusal : (s.refusal ≡ success → ⊥) → whole a x ≡ stopped converts s.refusal b out
  stops_at_refusal n = stopping (λ z. absurd (n z))

  -- "If the lent output can't hold all V reports of one input report, none of them is written and the converter stops before the word that completes it."
  pub stops_for_room : s.refusal ≡ success → length out < 3 * v → whole a x ≡ stopped converts success b out
  stops_for_room z h = stopping (λ _. h) ∙ ap (λ (n : ℕ). stopped converts n b out) z

  -- any other word is taken, and the rest is converted by the bridge that came back, with the places that are left
  pub goes_on : (c : Converted) (y : List ℕ) → s.refusal ≡ success → 3 * v ≤ length out → ConvertPromise (behind b s) q (drop (3 * v) out) c y
      → whole a x ≡ after converts (given b s) (whole c y)
  goes_on c y z h i = rw word (calls.goes_on converts lawful b w q out g f (rw word at z) (rw word at h) (rw word at i))

-- a line of no words
pub no_words : (b : Bridge) (out : List ℕ) (a : Converted) (x : List ℕ) → good b ≡ true → ConvertPromise b [] out a x → whole a x ≡ stopped converts success b out
no_words b out a x g f = f ∙ calls.no_words converts lawful b out g
