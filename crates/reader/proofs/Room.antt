-- A long read is its steps, one by one, as long as there is room.
use Prim.Native.Nat.{ℕ, ◌*◌, ◌<◌, ◌≤◌}
use mathlib.Core.Path.{◌≡◌, ◌∙◌, ap}
use mathlib.Core.Bool.{true}
use mathlib.Core.List.{List, [], ◌∷◌}
use lib.ListN.{length, drop}
use lib.IntN.{ℤ}
use Rattle.fold.specs.Calls.{stopped, after}
use Rattle.fold.proofs.Calls as calls
use Rattle.wire.specs.Numbers.{success}
use Rattle.reader.specs.Good.{good}
use Rattle.reader.specs.Rules.{word_of}
use Rattle.reader.specs.Line.{Reading, whole, reads_line}
use Rattle.reader.specs.Counts.{reports_in}
use Rattle.reader.specs.Promises.{StepPromise, ReadPromise}
use Rattle.reader.specs.declared.Reader.{Reader}
use Rattle.reader.specs.State.{Read}
use Rattle.reader.proofs.Counted.{lawful}
use Rattle.reader.proofs.Permitted.{step_is}
use Rattle.reader.proofs.Goodness.{step_word}

module _ (r : Reader) (w : ℕ) (q : List ℕ) (out : List ℤ) (s : Read) (a : Reading) (x : List ℤ) (g : good r ≡ true) (e : StepPromise r w s) (f : ReadPromise r (w ∷ q) out a x) where
  word : s ≡ word_of r w
  word = step_is r w s e ∙ step_word r w g

  stopping : (s.refusal ≡ success → length out < 5 * reports_in s.answer) → whole a x ≡ stopped reads_line s.refusal r out
  stopping h = rw word (calls.stops reads_line lawful r w q out g f (rw word at h))

  -- a word that is refused: no more is taken
  pub stops_at_refusal : (s.refusal ≡ success → ⊥) → whole a x ≡ stopped reads_line s.refusal r out
  stops_at_refusal n = stopping (λ z. absurd (n z))

  -- "It stops, with answer 0, before a word that would finish a report when fewer than five places are left."
  pub stops_for_room : s.refusal ≡ success → length out < 5 * reports_in s.answer → whole a x ≡ stopped reads_line success r out
  stops_for_room z h = stopping (λ _. h) ∙ ap (λ (n : ℕ). stopped reads_line n r out) z

  -- any other word is taken, and the rest is read by the reader that came back, with the places that are left
  pub goes_on : (b : Reading) (y : List ℤ) → s.refusal ≡ success → 5 * reports_in s.answer ≤ length out → ReadPromise s.next q (drop (5 * reports_in s.answer) out) b y
      → whole a x ≡ after reads_line s.answer (whole b y)
  goes_on b y z h i = rw word (calls.goes_on reads_line lawful r w q out g f (rw word at z) (rw word at h) (rw word at i))

-- a line of no words
pub no_words : (r : Reader) (out : List ℤ) (a : Reading) (x : List ℤ) → good r ≡ true → ReadPromise r [] out a x → whole a x ≡ stopped reads_line success r out
no_words r out a x g f = f ∙ calls.no_words reads_line lawful r out g
