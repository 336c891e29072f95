-- What is promised of `ToldReader::fresh`, `good`, `tell`, `step` and `read`. "Refusals: 12 for a command that has no reply, tested after 6."
use Rattle.std.specs.Prelude.{ℕ, ◌≡◌, Bool, not, cond, List, [], ◌∷◌, take, ℤ, Option, None, Some, Result, Ok, Err}
use Rattle.fold.specs.Calls.{stopped, with_refusal, call}
use Rattle.wire.specs.Line.{letter_of}
use Rattle.wire.specs.Numbers.{success, bad_state, bad_word, RefusesRightly}
use Rattle.wire.specs.Refusals.{number_of}
use Rattle.wire.specs.declared.Format.TheVariants.{FiveByte}
use Rattle.wire.specs.declared.refusal.Refusal.{Refusal}
use Rattle.reader.specs.State.{numbers_of}
use Rattle.reader.specs.State as readers
use Rattle.reader.specs.Promises as reader
use Rattle.replies.specs.Replying.{nothing, is_none}
use Rattle.replies.specs.Good.{good}
use Rattle.replies.specs.Rules.{Heard, told_reader, kind_of, telling, refusing, word_of}
use Rattle.replies.specs.Line.{HeardLine, Long, whole, hears_line}
use Rattle.replies.specs.declared.Asked.{Asked}
use Rattle.replies.specs.declared.Reply.{Reply}
use Rattle.replies.specs.declared.Reply.TheVariants as reply
use Rattle.replies.specs.declared.ToldReader.{ToldReader}
use Rattle.replies.specs.declared.Told.{Told}

-- "12 for a command that has no reply"
abbrev pub no_reply : ℕ
no_reply = 12

-- a new reader: a number, and the reader
pub record NewToldReader : Type 0 where
  pub refusal : ℕ
  pub reader : ToldReader

-- what a telling gives back: a number, the reader, and how many bytes of an unfinished reply it discards
pub record Telling : Type 0 where
  pub refusal : ℕ
  pub next : ToldReader
  pub discarded : ℕ

-- a fresh report reader, or the refusal 1 with a fresh one of U; no reply is awaited
abbrev pub new_told : ℕ → ToldReader → NewToldReader
new_told n s = record { refusal = n; reader = s }

-- a fresh one of U, where there is none of a letter
abbrev pub fresh_u : ToldReader
fresh_u = told_reader (readers.fresh (letter_of FiveByte)) nothing

abbrev pub new_in : Result ToldReader Refusal → NewToldReader
new_in (Ok s) = new_told success s
new_in (Err e) = new_told (number_of e) fresh_u

abbrev pub fresh_of : ℕ → NewToldReader
fresh_of letter = new_told (reader.fresh_of letter).refusal (told_reader (reader.fresh_of letter).reader nothing)

abbrev pub FreshPromise : ℕ → NewToldReader → Type 0
FreshPromise letter answer = answer ≡ fresh_of letter

abbrev pub GoodPromise : ToldReader → Bool → Type 0
GoodPromise s answer = answer ≡ good s

-- a telling: "a state that breaks the rules", 6, before "a command that has no reply", 12
abbrev pub telling_of : ℕ → ToldReader → ℕ → Telling
telling_of n s discarded = record { refusal = n; next = s; discarded = discarded }

abbrev pub telling_in : ToldReader → Result Told Refusal → Telling
telling_in s (Ok t) = telling_of success t.next t.discarded
telling_in s (Err e) = telling_of (number_of e) s 0

unfoldable pub tell_of : ToldReader → Asked → Telling
tell_of s asked =
    cond (not (good s)) (telling_of bad_state s 0)
    (cond (is_none (kind_of asked)) (telling_of no_reply s 0)
    (telling_of success (telling asked s) s.awaited.came.count))

abbrev pub TellPromise : ToldReader → Asked → Telling → Type 0
TellPromise s asked answer = answer ≡ tell_of s asked

abbrev pub TellRefusal : ToldReader → Telling → Type 0
TellRefusal s answer = RefusesRightly (λ (t : Telling). t.refusal) (telling_of bad_state s 0 ∷ telling_of no_reply s 0 ∷ []) answer

-- for each case of what became of a reply its number and values: 0 nothing yet, 1 ACK, 2 and the format, 3 and format
-- and mode, 4 and the buttons, 5 and the bytes of a broken one, how many and which
abbrev pub reply_numbers : Option Reply → List ℕ
reply_numbers None = 0 ∷ []
reply_numbers (Some reply.Ack) = 1 ∷ []
reply_numbers (Some (reply.Format f)) = 2 ∷ f ∷ []
reply_numbers (Some (reply.Letters f m)) = 3 ∷ f ∷ m ∷ []
reply_numbers (Some (reply.Buttons n)) = 4 ∷ n ∷ []
reply_numbers (Some (reply.Broken came)) = 5 ∷ came.count ∷ came.first ∷ came.second ∷ []

-- a word: 6 before "a line word above 257", 4
unfoldable pub step_of : ToldReader → ℕ → Heard
step_of s w = cond (good s) (word_of s w) (refusing bad_state s)

abbrev pub StepRefusal : ToldReader → Heard → Type 0
StepRefusal s answer = RefusesRightly (λ (h : Heard). h.refusal) (refusing bad_state s ∷ refusing bad_word s ∷ []) answer

-- what a step leaves behind: the number given back, the reader, and the numbers of the reply and of the answer
pub record Step : Type 0 where
  pub refusal : ℕ
  pub next : ToldReader
  pub reply : List ℕ
  pub numbers : List ℤ

abbrev pub outcome : Heard → Step
outcome h = record { refusal = h.refusal; next = h.next; reply = reply_numbers h.reply; numbers = numbers_of h.answer }

abbrev pub StepPromise : ToldReader → ℕ → Heard → Type 0
StepPromise s w answer = outcome answer ≡ outcome (step_of s w)

-- a long read: 6 before all, and then the line
abbrev pub read_of : ToldReader → List ℕ → List ℤ → Long
read_of s words out = call hears_line s words out

abbrev pub before_bad : ToldReader → List ℕ → List ℤ → HeardLine → Long
before_bad s words out answer = with_refusal bad_word (read_of s (take answer.taken words) out)

abbrev pub ReadRefusal : ToldReader → List ℕ → List ℤ → HeardLine → List ℤ → Type 0
ReadRefusal s words before answer after =
    RefusesRightly (λ (l : Long). l.refusal) (stopped hears_line bad_state s before ∷ before_bad s words before answer ∷ []) (whole answer after)

-- what a long read leaves behind, and the numbers of its reply
pub record Left : Type 0 where
  pub refusal : ℕ
  pub next : ToldReader
  pub taken : ℕ
  pub reports : ℕ
  pub dropped : ℕ
  pub reply : List ℕ
  pub out : List ℤ

abbrev pub left : Long → Left
left l =
    record {
      refusal = l.refusal;
      next = l.next;
      taken = l.taken;
      reports = l.counts.reports;
      dropped = l.counts.dropped;
      reply = reply_numbers l.counts.reply;
      out = l.out;
    }

abbrev pub ReadPromise : ToldReader → List ℕ → List ℤ → HeardLine → List ℤ → Type 0
ReadPromise s words before answer after = left (whole answer after) ≡ left (read_of s words before)
