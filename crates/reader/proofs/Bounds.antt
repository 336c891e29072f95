-- How far a long read goes: no further than the words, the places and the bytes that there are.
use Prim.Native.Nat.{ℕ, ◌+◌, ◌*◌, ◌≤◌}
use mathlib.Core.Path.{◌∙◌, ap}
use mathlib.Core.List.{List}
use native.Mathlib.Omega.{arith}
use lib.IntN.{ℤ}
use lib.ListN.{length}
use Rattle.frames.specs.Words.{is_byte}
use Rattle.fold.specs.Fold.{run}
use Rattle.fold.specs.Calls.{sum, line}
use Rattle.fold.proofs.Laws as fold
use Rattle.fold.proofs.Calls.{call_line, by_good}
use Rattle.fold.proofs.Calls as calls
use Rattle.numbers.proofs.Choices.{cases}
use Rattle.reader.specs.Line.{Reading, reading, reads, reads_line}
use Rattle.reader.specs.Counts.{byte_in}
use Rattle.reader.specs.Promises.{ReadPromise}
use Rattle.reader.specs.declared.Reader.{Reader}
use Rattle.reader.proofs.Counted.{lawful}
use Rattle.reader.proofs.Word.{word_kept}

-- a long read takes no more words than there are, writes no more reports than have room, and drops no more bytes than it took and had kept
pub record Within (r : Reader) (words : List ℕ) (out : List ℤ) (a : Reading) : Type 0 where
  pub some : a.taken ≤ length words
  pub room : 5 * a.reports ≤ length out
  pub few : a.dropped + a.next.count ≤ a.taken + r.count

-- a word brings one byte at most
pub one_byte : (w : ℕ) → byte_in w ≤ 1
one_byte w = cases (λ n. n ≤ 1) (is_byte w) (λ _. omega arith) (λ _. omega arith)

-- no more bytes are dropped than were taken and had been kept
pub dropped_few : (words : List ℕ) (r : Reader) (room : ℕ) → let f = run reads r words room in (sum reads_line f.answers).dropped + f.next.count ≤ length f.answers + r.count
unfolding sum
dropped_few words r room =
    fold.over_taken reads (λ r words answers next. (sum reads_line answers).dropped + next.count ≤ length answers + r.count) (λ r. omega arith)
    (λ r w words answers next z ih. omega (arith, ih, word_kept r w z, one_byte w)) words r room

pub within : (r : Reader) (words : List ℕ) (out : List ℤ) (a : Reading) (after : List ℤ) → ReadPromise r words out a after → Within r words out a
unfolding line
within r words out a after e =
    let n = calls.within reads_line lawful r words out e in
    record {
      some = n.0;
      room = n.1;
      few = by_good reads_line lawful r (λ g. rw (ap reading (e ∙ call_line reads_line lawful r words out g)) (dropped_few words r (length out)))
          (λ g. rw (ap reading (calls.bad_state_lem reads_line lawful r words out e g)) (omega arith));
    }
