-- A long read is its steps, one by one, as long as there is room; and how far it goes.
use Prim.Native.Nat.{ℕ, ◌*◌, ◌<◌, ◌≤◌}
use mathlib.Core.Path.{◌≡◌, ◌∙◌, ap}
use mathlib.Core.Bool.{true}
use mathlib.Core.List.{List, [], ◌∷◌}
use native.Mathlib.Omega.{arith}
use lib.ListN.{length, take, drop}
use lib.Seq.{length-take-le}
use lib.IntN.{ℤ}
use Rattle.fold.specs.Calls.{stopped, after}
use Rattle.fold.proofs.Calls.{by_good}
use Rattle.fold.proofs.Calls as calls
use Rattle.wire.specs.Numbers.{success}
use Rattle.reader.specs.Counts.{bytes_in, reports_in}
use Rattle.reader.proofs.Bounds.{one_byte}
use Rattle.replies.specs.Good.{good}
use Rattle.replies.specs.Line.{HeardLine, Long, whole, hears_line, Bounds}
use Rattle.replies.specs.Promises.{StepPromise, ReadPromise}
use Rattle.replies.specs.declared.ToldReader.{ToldReader}
use Rattle.replies.specs.Rules.{Heard}
use Rattle.replies.proofs.Permitted.{step_is, read_is}
use Rattle.replies.proofs.Goodness.{lawful, step_word}
use Rattle.replies.proofs.Refusals.{bad_state_read}
use Rattle.replies.proofs.Counting.{read_counts}

-- it stops before a word that would finish a report without room, the reply still pending: nothing is taken, told or written, and the reader comes back as it was
pub stops_for_room : (s : ToldReader) (w : ℕ) (q : List ℕ) (out : List ℤ) (h : Heard) (a : HeardLine) (after : List ℤ) → good s ≡ true → StepPromise s w h → ReadPromise s (w ∷ q) out a after
    → h.refusal ≡ success
    → length out < 5 * reports_in h.answer
    → whole a after ≡ stopped hears_line success s out
stops_for_room s w q out h a after g e f z l =
    let is = step_is s w h e ∙ step_word s w g in
    calls.stops hears_line lawful s w q out g (read_is s (w ∷ q) out a after f) (λ _. rw is at l) ∙ ap (λ (n : ℕ). stopped hears_line n s out) (rw is at z)

-- any other word is taken, and the rest is read by the reader that came back, with the places that are left
pub goes_on : (s : ToldReader) (w : ℕ) (q : List ℕ) (out : List ℤ) (h : Heard) (a b : HeardLine) (x y : List ℤ)
    → good s ≡ true
    → StepPromise s w h
    → ReadPromise s (w ∷ q) out a x
    → h.refusal ≡ success
    → 5 * reports_in h.answer ≤ length out
    → ReadPromise h.next q (drop (5 * reports_in h.answer) out) b y
    → whole a x ≡ after hears_line (record { reply = h.reply; answer = h.answer }) (whole b y)
goes_on s w q out h a b x y g e f z l i =
    let is = step_is s w h e ∙ step_word s w g in
    rw is
    (calls.goes_on hears_line lawful s w q out g (read_is s (w ∷ q) out a x f) (rw is at z) (rw is at l)
    (rw is at (read_is h.next q (drop (5 * reports_in h.answer) out) b y i)))

-- how far it goes
bytes_few : (words : List ℕ) → bytes_in words ≤ length words
unfolding bytes_in
bytes_few [] = omega arith
bytes_few (w ∷ words) = omega (arith, one_byte w, bytes_few words)

pub within : (s : ToldReader) (words : List ℕ) (out : List ℤ) (a : HeardLine) (after : List ℤ) → ReadPromise s words out a after → Bounds s words out a
within s words out a after e =
    let n = calls.within hears_line lawful s words out (read_is s words out a after e) in
    record {
      some = n.0;
      room = n.1;
      few = by_good hears_line lawful s
          (λ g. omega (arith, read_counts s words out a after g e, bytes_few (take a.taken words), length-take-le a.taken words n.0))
          (λ g.
          let i = bad_state_read s words out a after g e in
          let next = ap (λ (l : Long). l.next) i in
          omega (arith, ap (λ (l : Long). l.counts.dropped) i, ap (λ (r : ToldReader). r.reader.count) next, ap (λ (r : ToldReader). r.awaited.came.count) next));
    }
