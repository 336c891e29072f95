-- "Over many words": a line of words, word by word, and a lent slice.
use Rattle.std.specs.Prelude.{ℕ, ◌+◌, ◌*◌, ◌≤◌, List, [], ◌∷◌, ◌++◌, map, length, ℤ, Option, None, Some}
use Rattle.std.specs.Option.{option_or}
use Rattle.fold.specs.Fold.{Machine}
use Rattle.fold.specs.Calls.{Call}
use Rattle.fold.specs.Calls as calls
use Rattle.wire.specs.Numbers.{bad_state}
use Rattle.wire.specs.Refusals.{number_if}
use Rattle.reader.specs.Counts.{reports_in, dropped_in, written_in}
use Rattle.reader.specs.declared.Answer.{Answer}
use Rattle.replies.specs.Good.{good}
use Rattle.replies.specs.Rules.{word_of}
use Rattle.replies.specs.declared.Reply.{Reply}
use Rattle.replies.specs.declared.ToldReader.{ToldReader}
use Rattle.replies.specs.declared.HeardLine as declared

-- the answer to a word: what became of the reply, and the report reader's own
pub record Both : Type 0 where
  pub reply : Option Reply
  pub answer : Answer

-- the reader as a machine over the words of a line
abbrev pub hears : Machine ToldReader Both ℤ
hears =
    record {
      refusal = λ s w. (word_of s w).refusal;
      next = λ s w. (word_of s w).next;
      answer = λ s w. (record { reply = (word_of s w).reply; answer = (word_of s w).answer });
      writes = λ a. written_in a.answer;
    }

-- what became of the reply, of which there is at most one in a call: the first that tells something
abbrev pub or_else : Option Reply → Option Reply → Option Reply
or_else first second = option_or first second

abbrev pub reply_among : List Both → Option Reply
reply_among [] = None
reply_among (a ∷ answers) = or_else a.reply (reply_among answers)

-- the replies among answers, whole or broken, in their order
abbrev pub told_in : Option Reply → List Reply
told_in None = []
told_in (Some r) = r ∷ []

abbrev pub replies_among : List Both → List Reply
replies_among [] = []
replies_among (a ∷ answers) = told_in a.reply ++ replies_among answers

abbrev pub own_answers : List Both → List Answer
own_answers answers = map (λ (a : Both). a.answer) answers

-- what is counted: reports, dropped bytes, and what became of the reply
pub record Counts : Type 0 where
  pub reports : ℕ
  pub dropped : ℕ
  pub reply : Option Reply

abbrev pub counts : ℕ → ℕ → Option Reply → Counts
counts reports dropped reply = record { reports = reports; dropped = dropped; reply = reply }

-- the long read: a report has five numbers. It stops, with answer 0, before a word that would finish a report when fewer
-- than five places are left, the reply still pending.
abbrev pub hears_line : Call ToldReader Both Counts ℤ
hears_line =
    record {
      machine = hears;
      tally = record {
        none = counts 0 0 None;
        plus = λ j k. counts (j.reports + k.reports) (j.dropped + k.dropped) (or_else j.reply k.reply);
        of = λ a. counts (reports_in a.answer) (dropped_in a.answer) a.reply;
        places = λ k. 5 * k.reports;
      };
      good = good;
      bad = bad_state;
    }

-- what it gives back, and every number of the lent slice after it
abbrev pub Long : Type 0
Long = calls.Long ToldReader Counts ℤ

-- the answer by itself: a number, 0 where it is not refused, the reader, the counts, and what became of the reply
pub record HeardLine : Type 0 where
  pub refusal : ℕ
  pub next : ToldReader
  pub taken : ℕ
  pub reports : ℕ
  pub dropped : ℕ
  pub reply : Option Reply

abbrev pub heard_line_in : declared.HeardLine → HeardLine
heard_line_in a =
    record {
      refusal = number_if a.refusal;
      next = a.next;
      taken = a.taken;
      reports = a.reports;
      dropped = a.dropped;
      reply = a.reply;
    }

abbrev pub whole : HeardLine → List ℤ → Long
whole a out = record { refusal = a.refusal; next = a.next; taken = a.taken; counts = counts a.reports a.dropped a.reply; out = out }

abbrev pub heard_line : Long → HeardLine
heard_line l =
    record {
      refusal = l.refusal;
      next = l.next;
      taken = l.taken;
      reports = l.counts.reports;
      dropped = l.counts.dropped;
      reply = l.counts.reply;
    }

-- how far a long read goes: no more words than there are, no more reports than have room, no more bytes dropped and
-- kept than it took and had kept
pub record Bounds (s : ToldReader) (words : List ℕ) (out : List ℤ) (a : HeardLine) : Type 0 where
  pub some : a.taken ≤ length words
  pub room : 5 * a.reports ≤ length out
  pub few : a.dropped + (a.next.reader.count + a.next.awaited.came.count) ≤ a.taken + (s.reader.count + s.awaited.came.count)
