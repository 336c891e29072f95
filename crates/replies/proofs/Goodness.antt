-- No reader that we make is ever refused: a fresh one is good, and every telling, step and read of a good one gives a good one of the same format.
use Rattle.std.proofs.Common.{None}
use Prim.Native.Nat.{ℕ}
use mathlib.Core.Path.{◌≡◌, refl, ◌∙◌, ap}
use mathlib.Core.Bool.{true}
use mathlib.Core.List.{List}
use native.Mathlib.Nat.{add-zero, zero-add, add_assoc}
use native.Mathlib.Omega.{arith}
use lib.ListN.{length}
use lib.IntN.{ℤ}
use Rattle.fold.specs.Calls.{line, Lawful}
use Rattle.fold.proofs.Laws.{stays}
use Rattle.fold.proofs.Calls.{call_line}
use Rattle.numbers.proofs.Choices.{cases}
use Rattle.reader.specs.Promises as reader
use Rattle.reader.proofs.Counted.{five_in}
use Rattle.reader.proofs.Goodness as report
use Rattle.replies.specs.Replying.{is_none}
use Rattle.replies.specs.Good.{good}
use Rattle.replies.specs.Rules.{Heard, kind_of, word_of}
use Rattle.replies.specs.Line.{HeardLine, Long, hears, hears_line}
use Rattle.replies.specs.Promises.{Telling, NewToldReader, FreshPromise, TellPromise, StepPromise, ReadPromise, tell_of, step_of, read_of}
use Rattle.replies.specs.declared.Asked.{Asked}
use Rattle.replies.specs.declared.ToldReader.{ToldReader}
use Rattle.replies.proofs.Counted.{or_nothing, or_assoc}
use Rattle.replies.proofs.Word.{made, awaiting_good, told_fine, word_fine}
use Rattle.replies.proofs.Permitted.{step_is, read_is}

-- they add up as the laws of long calls ask
pub lawful : Lawful hears_line
lawful =
    record {
      plus_none = λ k. rw (add-zero k.reports, add-zero k.dropped, or_nothing k.reply);
      none_plus = λ k. rw (zero-add k.reports, zero-add k.dropped);
      plus_plus = λ i j k. rw (add_assoc i.reports j.reports k.reports, add_assoc i.dropped j.dropped k.dropped, or_assoc i.reply j.reply k.reply);
      none_places = refl;
      plus_places = λ j k. omega arith;
      each = λ a. five_in a.answer;
      stays = λ s w g. (word_fine s w g).0;
    }

-- to a good reader a step is the word, and a read is the line
pub step_word : (s : ToldReader) (w : ℕ) → good s ≡ true → step_of s w ≡ word_of s w
unfolding step_of
step_word s w g = rw g

pub read_line : (s : ToldReader) (words : List ℕ) (out : List ℤ) → good s ≡ true → read_of s words out ≡ line hears_line s words out
read_line = call_line hears_line lawful

pub fresh_is_good : (letter : ℕ) (a : NewToldReader) → FreshPromise letter a → good a.reader ≡ true
fresh_is_good letter a e = rw e (made _ (report.fresh_is_good letter (reader.fresh_of letter) refl) (awaiting_good None))

pub tell_stays_good : (s : ToldReader) (asked : Asked) (t : Telling) → good s ≡ true → TellPromise s asked t → (good t.next ≡ true) × (t.next.reader.format ≡ s.reader.format)
unfolding tell_of
tell_stays_good s asked t g e =
    rw (e, g)
    (cases (λ (t : Telling). (good t.next ≡ true) × (t.next.reader.format ≡ s.reader.format)) (is_none (kind_of asked)) (λ _. (g, refl)) (λ _. (told_fine s (kind_of asked) g, refl)))

pub step_stays_good : (s : ToldReader) (w : ℕ) (h : Heard) → good s ≡ true → StepPromise s w h → (good h.next ≡ true) × (h.next.reader.format ≡ s.reader.format)
step_stays_good s w h g e = rw (step_is s w h e ∙ step_word s w g) (word_fine s w g)

-- over a line
pub read_stays_good : (s : ToldReader) (words : List ℕ) (out : List ℤ) (a : HeardLine) (after : List ℤ) → good s ≡ true → ReadPromise s words out a after
    → (good a.next ≡ true) × (a.next.reader.format ≡ s.reader.format)
unfolding line
read_stays_good s words out a after g e =
    rw (ap (λ (l : Long). l.next) (read_is s words out a after e ∙ read_line s words out g))
    (stays hears (λ (q : ToldReader). (good q ≡ true) × (q.reader.format ≡ s.reader.format)) (λ q w h. let k = word_fine q w h.0 in (k.0, k.1 ∙ h.1)) words s (length out) (g, refl))
