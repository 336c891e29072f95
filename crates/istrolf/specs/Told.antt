-- A reader that is told of replies, as C holds it: the report reader, a number for the reply that is awaited, and what
-- has come of it; and what its functions give back.
use Rattle.std.specs.Prelude.{ℕ, Bool, cond, ◌&&◌, List, eqb, leb, ℤ, Option, None, Some}
use Rattle.wire.specs.Numbers.{bad_state}
use Rattle.reader.specs.declared.Answer.{Answer}
use Rattle.reader.specs.declared.Answer.TheVariants as answer
use Rattle.replies.specs.Replying.{none, awaiting}
use Rattle.replies.specs.Rules.{Heard, told_reader}
use Rattle.replies.specs.Line.{HeardLine, Long, heard_line}
use Rattle.replies.specs.declared.Kind.{Kind}
use Rattle.replies.specs.declared.Kind.TheVariants as kind
use Rattle.replies.specs.declared.Came.{Came}
use Rattle.replies.specs.declared.Reply.{Reply}
use Rattle.replies.specs.declared.Reply.TheVariants as reply
use Rattle.replies.specs.declared.ToldReader.{ToldReader}
use Rattle.replies.specs.Promises.{Telling, NewToldReader}
use Rattle.istrolf.specs.Readers as readers
use Rattle.istrolf.specs.declared.HeldTold.{HeldTold}
use Rattle.istrolf.specs.declared.HeldReply.{HeldReply}
use Rattle.istrolf.specs.declared.FreshTold.{FreshTold}
use Rattle.istrolf.specs.declared.ToldCommand.{ToldCommand}
use Rattle.istrolf.specs.declared.HeardWord.{HeardWord}
use Rattle.istrolf.specs.declared.HeardWords.{HeardWords}
use Rattle.istrolf.specs.declared.Own.{Own}

-- the reply that is awaited: 0 none, 1 ACK, 2 that to `f`, 3 that to `t`, 4 that to 05H
abbrev pub kind_number : Option Kind → ℕ
kind_number None = 0
kind_number (Some kind.Ack) = 1
kind_number (Some kind.Code) = 2
kind_number (Some kind.Letters) = 3
kind_number (Some kind.Buttons) = 4

unfoldable pub kind_of : ℕ → Option Kind
kind_of n =
    cond (eqb n 1) (Some kind.Ack)
    (cond (eqb n 2) (Some kind.Code)
    (cond (eqb n 3) (Some kind.Letters)
    (cond (eqb n 4) (Some kind.Buttons)
    None)))

abbrev pub packed : ToldReader → HeldTold
packed s = record { reader = readers.packed s.reader; awaited = kind_number s.awaited.kind; came = s.awaited.came }

abbrev pub unpacked : HeldTold → ToldReader
unpacked h = told_reader (readers.unpacked h.reader) (awaiting (kind_of h.awaited) h.came)

-- what stands for one
abbrev pub stands : HeldTold → Bool
stands h = readers.stands h.reader && leb h.awaited 4

abbrev pub packed_fresh : NewToldReader → FreshTold
packed_fresh n = record { refusal = n.refusal; told = packed n.reader }

-- what became of a reply, by the numbers of its cases
abbrev pub replied : ℕ → ℕ → ℕ → ℕ → Came → HeldReply
replied kind format mode buttons came = record { kind = kind; format = format; mode = mode; buttons = buttons; came = came }

abbrev pub packed_reply : Option Reply → HeldReply
packed_reply None = replied 0 0 0 0 none
packed_reply (Some reply.Ack) = replied 1 0 0 0 none
packed_reply (Some (reply.Format f)) = replied 2 f 0 0 none
packed_reply (Some (reply.Letters f m)) = replied 3 f m 0 none
packed_reply (Some (reply.Buttons n)) = replied 4 0 0 n none
packed_reply (Some (reply.Broken came)) = replied 5 0 0 0 came

abbrev pub no_reply : HeldReply
no_reply = packed_reply None

-- the report reader's own answer: how many reports, 0 or 1, how many bytes dropped, and the report
abbrev pub own_of : Answer → Own
own_of answer.Nothing = record { reports = 0; dropped = 0; report = readers.no_report }
own_of (answer.Report p) = record { reports = 1; dropped = 0; report = p }
own_of (answer.Dropped k) = record { reports = 0; dropped = k; report = readers.no_report }

abbrev pub packed_heard : Heard → HeardWord
packed_heard h =
    let own = own_of h.answer in
    record {
      refusal = h.refusal;
      reports = own.reports;
      dropped = own.dropped;
      reply = packed_reply h.reply;
      next = packed h.next;
      report = own.report;
    }

-- a refusal: the old state, and nothing
abbrev pub refused_heard : HeldTold → HeardWord
refused_heard h = record { refusal = bad_state; reports = 0; dropped = 0; reply = no_reply; next = h; report = readers.no_report }

abbrev pub packed_line : HeardLine → HeardWords
packed_line a =
    record {
      refusal = a.refusal;
      reply = packed_reply a.reply;
      next = packed a.next;
      taken = a.taken;
      reports = a.reports;
      dropped = a.dropped;
    }

abbrev pub refused_line : HeldTold → HeardWords
refused_line h = record { refusal = bad_state; reply = no_reply; next = h; taken = 0; reports = 0; dropped = 0 }

abbrev pub packed_telling : Telling → ToldCommand
packed_telling t = record { refusal = t.refusal; discarded = t.discarded; next = packed t.next }

abbrev pub refused_telling : HeldTold → ToldCommand
refused_telling h = record { refusal = bad_state; discarded = 0; next = h }

-- what a long read gives back, and every number of the lent slice after it
pub record Whole : Type 0 where
  pub line : HeardWords
  pub out : List ℤ

abbrev pub whole : HeardWords → List ℤ → Whole
whole line out = record { line = line; out = out }

abbrev pub packed_long : Long → Whole
packed_long l = whole (packed_line (heard_line l)) l.out
