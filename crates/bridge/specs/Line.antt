-- "line words of any format in, V bytes out": a line of words, word by word, and a lent slice. "The rest is as in the long read."
use Rattle.std.specs.Prelude.{ℕ, ◌+◌, ◌*◌, List, [], ◌∷◌, ◌++◌, map, length, Option, None, Some}
use Rattle.fold.specs.Fold.{Machine}
use Rattle.fold.specs.Calls.{Call}
use Rattle.fold.specs.Calls as fold
use Rattle.wire.specs.Numbers.{success, bad_state}
use Rattle.wire.specs.Refusals.{number_if}
use Rattle.wire.specs.declared.refusal.Refusal.{Refusal}
use Rattle.wire.specs.declared.Report.{Report}
use Rattle.reader.specs.Rules.{word_of}
use Rattle.reader.specs.Counts.{reports_in, dropped_in}
use Rattle.reader.specs.State.{Read}
use Rattle.reader.specs.declared.Answer.{Answer}
use Rattle.reader.specs.declared.Answer.TheVariants as answer
use Rattle.bridge.specs.Remembered.{noted}
use Rattle.bridge.specs.Splitting.{becomes, bytes_all}
use Rattle.bridge.specs.Good.{good}
use Rattle.bridge.specs.declared.Past.{Past}
use Rattle.bridge.specs.declared.Bridge.{Bridge}
use Rattle.bridge.specs.declared.Converted as declared

-- what is sent for what the reader answers, and what is remembered behind it: silences and breaks are not passed on; neither they nor dropped bytes
-- touch the base of A, the last middle or the count
abbrev pub sent_for : ℕ → Past → Answer → List Report
sent_for letter past answer.Nothing = []
sent_for letter past (answer.Report p) = becomes letter past p
sent_for letter past (answer.Dropped k) = []

abbrev pub past_for : ℕ → Past → Answer → Past
past_for letter past answer.Nothing = past
past_for letter past (answer.Report p) = noted letter past p
past_for letter past (answer.Dropped k) = past

-- what a word is answered by: what the reader answers, and the V reports
pub record Given : Type 0 where
  pub heard : Answer
  pub sent : List Report

abbrev pub given : Bridge → Read → Given
given b s = record { heard = s.answer; sent = sent_for b.reader.format b.past s.answer }

abbrev pub behind : Bridge → Read → Bridge
behind b s = record { reader = s.next; past = past_for b.reader.format b.past s.answer }

-- the bridge as a machine over the words of a line: the reader's step, and the bytes of the V reports
abbrev pub bridges : Machine Bridge Given ℕ
bridges =
    record {
      refusal = λ b w. (word_of b.reader w).refusal;
      next = λ b w. behind b (word_of b.reader w);
      answer = λ b w. given b (word_of b.reader w);
      writes = λ g. bytes_all g.sent;
    }

-- over many answers: what the reader answered, and the V reports, one behind the other
abbrev pub heard_in : List Given → List Answer
heard_in answers = map (λ (g : Given). g.heard) answers

abbrev pub sent_in : List Given → List Report
sent_in [] = []
sent_in (g ∷ answers) = g.sent ++ sent_in answers

-- what is counted: reports that came in, V reports, and bytes dropped
pub record Counts : Type 0 where
  pub reports : ℕ
  pub sent : ℕ
  pub dropped : ℕ

abbrev pub counts : ℕ → ℕ → ℕ → Counts
counts reports sent dropped = record { reports = reports; sent = sent; dropped = dropped }

-- the long call: a V report has three bytes. "If the lent output can't hold all V reports of one input report, none of
-- them is written and the converter stops before the word that completes it."
abbrev pub converts : Call Bridge Given Counts ℕ
converts =
    record {
      machine = bridges;
      tally = record {
        none = counts 0 0 0;
        plus = λ j k. counts (j.reports + k.reports) (j.sent + k.sent) (j.dropped + k.dropped);
        of = λ g. counts (reports_in g.heard) (length g.sent) (dropped_in g.heard);
        places = λ k. 3 * k.sent;
      };
      good = good;
      bad = bad_state;
    }

-- what it gives back, and every byte of the lent slice after it
abbrev pub Long : Type 0
Long = fold.Long Bridge Counts ℕ

-- the answer by itself: a number, 0 where it is not refused, the bridge, and the counts
pub record Converted : Type 0 where
  pub refusal : ℕ
  pub next : Bridge
  pub taken : ℕ
  pub reports : ℕ
  pub sent : ℕ
  pub dropped : ℕ

abbrev pub converted_in : declared.Converted → Converted
converted_in a =
    record {
      refusal = number_if a.refusal;
      next = a.next;
      taken = a.taken;
      reports = a.reports;
      sent = a.sent;
      dropped = a.dropped;
    }

abbrev pub whole : Converted → List ℕ → Long
whole a out = record { refusal = a.refusal; next = a.next; taken = a.taken; counts = counts a.reports a.sent a.dropped; out = out }

abbrev pub told : Long → Converted
told l = record { refusal = l.refusal; next = l.next; taken = l.taken; reports = l.counts.reports; sent = l.counts.sent; dropped = l.counts.dropped }
