-- What a telling and a word do: "It is told the command just sent [..] and reads exactly that reply, then hands over to the report reader."
use Rattle.std.specs.Prelude.{ℕ, Bool, cond, ◌&&◌, eqb, Option, None, Some, Result, Ok, Err}
use Rattle.frames.specs.Words.{is_byte}
use Rattle.wire.specs.Numbers.{success}
use Rattle.wire.specs.Refusals.{number_of}
use Rattle.wire.specs.declared.refusal.Refusal.{Refusal}
use Rattle.reader.specs.Promises as reader
use Rattle.reader.specs.declared.Reader.{Reader}
use Rattle.reader.specs.State.{Read}
use Rattle.reader.specs.declared.Answer.{Answer}
use Rattle.reader.specs.declared.Answer.TheVariants as answer
use Rattle.ballbox.specs.Commands.{space, letterf, lettert, byte05}
use Rattle.replies.specs.Replying.{none, awaiting, nothing, fitting, finishes, more, told, broken}
use Rattle.replies.specs.declared.Kind.{Kind}
use Rattle.replies.specs.declared.Kind.TheVariants as kind
use Rattle.replies.specs.declared.Asked.{Asked}
use Rattle.replies.specs.declared.Asked.TheVariants.{Command, Waking}
use Rattle.replies.specs.declared.Awaited.{Awaited}
use Rattle.replies.specs.declared.Reply.{Reply}
use Rattle.replies.specs.declared.ToldReader.{ToldReader}
use Rattle.replies.specs.declared.ToldStep.{ToldStep}

abbrev pub told_reader : Reader → Awaited → ToldReader
told_reader r a = record { reader = r; awaited = a }

-- "(space, `f`, `t`, 05H, or the byte that woke a dormant box)"; no other command has a reply
unfoldable pub reply_to : ℕ → Option Kind
reply_to byte =
    cond (eqb byte space) (Some kind.Ack)
    (cond (eqb byte letterf) (Some kind.Code)
    (cond (eqb byte lettert) (Some kind.Letters)
    (cond (eqb byte byte05) (Some kind.Buttons)
    None)))

abbrev pub kind_of : Asked → Option Kind
kind_of (Command byte) = reply_to byte
kind_of Waking = (Some kind.Ack)

-- "A new telling replaces an unfinished one."
abbrev pub telling : Asked → ToldReader → ToldReader
telling asked s = told_reader s.reader (awaiting (kind_of asked) none)

-- what a word gives back: a number, the reader, what became of the reply, where anything did, and the report reader's own answer
pub record Heard : Type 0 where
  pub refusal : ℕ
  pub next : ToldReader
  pub reply : Option Reply
  pub answer : Answer

abbrev pub heard : ToldReader → Option Reply → Answer → Heard
heard next reply answer = record { refusal = success; next = next; reply = reply; answer = answer }

-- "A refusal returns the old state", and answers nothing
abbrev pub refusing : ℕ → ToldReader → Heard
refusing n s = record { refusal = n; next = s; reply = None; answer = answer.Nothing }

-- a word that is not refused, and what a step's result comes to
abbrev pub heard_by : ToldStep → Heard
heard_by s = heard s.next s.reply s.answer

abbrev pub heard_in : ToldReader → Result ToldStep Refusal → Heard
heard_in s (Ok h) = heard_by h
heard_in s (Err e) = refusing (number_of e) s

-- the next byte of the reply; the last tells it. The report reader stays as it was.
unfoldable pub keep : ToldReader → ℕ → Heard
keep s byte =
    cond (finishes s.awaited) (heard (told_reader s.reader nothing) (told s.awaited byte) answer.Nothing)
    (heard (told_reader s.reader (more s.awaited byte)) None answer.Nothing)

-- "256, 257 or any other byte before the reply is whole ends it as broken, and that word goes to the report reader"
abbrev pub passed : ToldReader → Read → Heard
passed s r = cond (eqb r.refusal success) (heard (told_reader r.next nothing) (broken s.awaited) r.answer) (refusing r.refusal s)

unfoldable pub pass : ToldReader → ℕ → Heard
pass s w = passed s (reader.step_of s.reader w)

-- the word is the next byte of the reply that is awaited
abbrev pub continues : Awaited → ℕ → Bool
continues a w = is_byte w && fitting a w

unfoldable pub word_of : ToldReader → ℕ → Heard
word_of s w = cond (continues s.awaited w) (keep s w) (pass s w)
