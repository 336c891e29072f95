-- A long read is its steps, one by one, as long as there is room; and how far it goes.
use Prim.Native.Nat.{ℕ, ◌*◌, ◌<◌, ◌≤◌}
use mathlib.Core.Path.{◌≡◌, ◌∙◌, ap}
use mathlib.Core.Bool.{true}
use mathlib.Core.List.{List, ◌∷◌, ◌++◌}
use native.Mathlib.Omega.{arith}
use lib.ListN.{length, take, drop}
use lib.Seq.{length-take-le}
use lib.IntN.{ℤ}
use Rattle.fold.specs.Calls.{stopped, after}
use Rattle.fold.proofs.Calls.{by_good}
use Rattle.fold.proofs.Calls as calls
use Rattle.wire.specs.Numbers.{success}
use Rattle.puckreader.specs.State.{PuckRead}
use Rattle.puckreader.specs.Good.{good}
use Rattle.puckreader.specs.Rules.{word_of}
use Rattle.puckreader.specs.Line.{PuckReading, Long, reports_in, reads_line, whole, Bounds}
use Rattle.puckreader.specs.Promises.{StepPromise, ReadPromise}
use Rattle.puckreader.specs.declared.PuckReader.{PuckReader}
use Rattle.puckreader.proofs.Counting.{lawful, bytes_few}
use Rattle.puckreader.proofs.Counts.{read_counts}
use Rattle.puckreader.proofs.Permitted.{step_is}
use Rattle.puckreader.proofs.Refusals.{bad_state_read}
use Rattle.puckreader.proofs.Goodness.{step_word}

module _ (r : PuckReader) (w : ℕ) (q : List ℕ) (out : List ℤ) (s : PuckRead) (a : PuckReading) (x : List ℤ) (g : good r ≡ true) (e : StepPromise r w s) (f : ReadPromise r (w ∷ q) out a x) where
  word : s ≡ word_of r w
  word = step_is r w s e ∙ step_word r w g

  -- "It stops, with answer 0, before a word that would finish a report when fewer than" six "places are left."
  pub stops_for_room : s.refusal ≡ success → length out < 6 * reports_in s.answer → whole a x ≡ stopped reads_line success r out
  stops_for_room z h = calls.stops reads_line lawful r w q out g f (λ _. rw word at h) ∙ ap (λ (n : ℕ). stopped reads_line n r out) (rw word at z)

  -- any other word is taken, and the rest is read by the reader that came back, with the places that are left
  pub goes_on : (b : PuckReading) (y : List ℤ) → s.refusal ≡ success → 6 * reports_in s.answer ≤ length out → ReadPromise s.next q (drop (6 * reports_in s.answer) out) b y
      → whole a x ≡ after reads_line s.answer (whole b y)
  goes_on b y z h i = rw word (calls.goes_on reads_line lawful r w q out g f (rw word at z) (rw word at h) (rw word at i))

-- "a bad word behind a stop for room is not reached": where words are left, what follows them changes nothing
pub not_reached : (r : PuckReader) (p q : List ℕ) (out : List ℤ) (a b : PuckReading) (x y : List ℤ)
    → ReadPromise r p out b y
    → b.taken < length p
    → ReadPromise r (p ++ q) out a x
    → whole a x ≡ whole b y
not_reached r p q out a b x y = calls.not_reached reads_line lawful r p q out

pub within : (r : PuckReader) (words : List ℕ) (out : List ℤ) (a : PuckReading) (after : List ℤ) → ReadPromise r words out a after → Bounds r words out a
within r words out a after e =
    let n = calls.within reads_line lawful r words out e in
    record {
      some = n.0;
      room = n.1;
      few = by_good reads_line lawful r
          (λ g. omega (arith, (read_counts r words out a after g e).balance, bytes_few (take a.taken words), length-take-le a.taken words n.0))
          (λ g. let i = bad_state_read r words out a after g e in omega (arith, ap (λ (l : Long). l.counts.dropped) i, ap (λ (l : Long). l.next.count) i));
    }
