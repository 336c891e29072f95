-- Worked lines with tellings, each answer computed.
use Rattle.std.proofs.Common.{None, Some}
use mathlib.Core.Path.{◌≡◌, refl, ap, ◌∙◌}
use mathlib.Core.Bool.{true, false}
use mathlib.Core.List.{List, [], ◌∷◌, ◌++◌}
use lib.Dec.{lit<, lit≤}
use lib.IntN.{ℤ, pos}
use lib.ListN.{replicate}
use Rattle.numbers.specs.Signed.{minus}
use Rattle.frames.specs.Passages.{Passage, finished}
use Rattle.frames.specs.Passages as passages
use Rattle.wire.specs.Reading.{report}
use Rattle.wire.specs.Messages.{Message, latched_in}
use Rattle.wire.specs.Messages as messages
use Rattle.wire.specs.declared.Format.TheVariants.{Microsoft}
use Rattle.reader.specs.State.{reader, ready, fresh}
use Rattle.reader.specs.DamagedLines.{no_word}
use Rattle.reader.specs.declared.Answer.{Answer}
use Rattle.reader.specs.declared.Answer.TheVariants as answer
use Rattle.ballbox.specs.Commands.{letterf, lettert, byte05}
use Rattle.replies.specs.Replying.{came, none, awaiting, nothing}
use Rattle.replies.specs.Rules.{told_reader}
use Rattle.replies.specs.Line.{HeardLine, whole}
use Rattle.replies.specs.Promises.{Telling, TellPromise, ReadPromise, telling_of}
use Rattle.tellings.specs.Items.{Item, word, telling, Done, ItemsPromise, own_answers_of, replies_of}
use Rattle.tellings.specs.Lines.{line_items}
use Rattle.tellings.specs.Damage.{ShownItems, stays, scar, TrueOf}
use Rattle.tellings.specs.Damage as damage
use Rattle.replies.specs.declared.Kind.TheVariants as kind
use Rattle.replies.specs.declared.Asked.TheVariants.{Command, Waking}
use Rattle.replies.specs.declared.Reply.{Reply}
use Rattle.replies.specs.declared.Reply.TheVariants as reply
use Rattle.replies.specs.declared.ToldReader.{ToldReader}
use Rattle.tellings.proofs.Computing.{computing}
use Rattle.replies.proofs.Permitted.{read_is}
use Rattle.tellings.proofs.Apart.{done_of, done_are}
use Rattle.tellings.proofs.Answering.{is_letters}
use Rattle.tellings.proofs.Shown.{shown_true}

-- the reader s, given the items, tells these replies, and its report reader answers the words so
pub record Answers (s : ToldReader) (items : List Item) (replies : List Reply) (own : List Answer) : Type 0 where
  pub told : (done : List Done) → ItemsPromise s items done → replies_of done ≡ replies
  pub answered : (done : List Done) → ItemsPromise s items done → own_answers_of done ≡ own

answers : {s : ToldReader} {items : List Item} {replies : List Reply} {own : List Answer} → replies_of (done_of s items) ≡ replies → own_answers_of (done_of s items) ≡ own → Answers s items replies own
answers {s} {items} e f = record { told = λ done p. ap replies_of (done_are s items done p) ∙ e; answered = λ done p. ap own_answers_of (done_are s items done p) ∙ f }

-- a reader of U that is ready, and a report of it: the middle button, 5, -3, and then 0, 0
abbrev ready_u : ToldReader
ready_u = told_reader (ready 0x55) nothing

abbrev report_u : List Item
report_u = word 0x85 ∷ word 0x05 ∷ word 0xFD ∷ word 0x00 ∷ word 0x00 ∷ []

abbrev read : List Answer
read = replicate 4 answer.Nothing ++ (answer.Report (report 2 (pos 5) (minus 3)) ∷ [])

-- A reply broken by the next command: `t`, of whose reply 55H has gone, and then `f`, which breaks it off and is
-- answered 10H.
pub broken_by_next : Answers ready_u
    (telling (Command lettert) ∷ word 0x55 ∷ word 256 ∷ telling (Command letterf) ∷ word 0x10 ∷ [])
    (reply.Broken (came 1 0x55 0) ∷ reply.Format 0x55 ∷ [])
    (replicate 3 answer.Nothing)
unfolding computing
broken_by_next = answers refl refl

-- A reply broken by a byte that finishes a report: two bytes of a report of S are kept when `t` is told, and the next
-- word is the third.
pub broken_by_report : Answers (told_reader (reader 0x53 (0x94 ∷ 0x05 ∷ 0 ∷ 0 ∷ 0 ∷ []) 2 false) nothing)
    (telling (Command lettert) ∷ word 0x03 ∷ [])
    (reply.Broken none ∷ [])
    (answer.Report (report 4 (pos 5) (minus 3)) ∷ [])
unfolding computing
broken_by_report = answers refl refl

-- A new telling over an unfinished one: 55H of `t`'s reply has come, and is discarded; then `f`'s reply is read.
pub told_again : Answers ready_u
    (telling (Command lettert) ∷ word 0x55 ∷ telling (Command letterf) ∷ word 0x1A ∷ [])
    (reply.Format 0x53 ∷ [])
    (replicate 2 answer.Nothing)
unfolding computing
told_again = answers refl refl

pub one_discarded : (t : Telling) → TellPromise (told_reader (ready 0x55) (awaiting (Some kind.Letters) (came 1 0x55 0))) (Command letterf) t
    → t ≡ telling_of 0 (told_reader (ready 0x55) (awaiting (Some kind.Code) none)) 1
unfolding computing
one_discarded t e = e

-- The last byte of a reply lost: the first byte of the report behind it is no mode, breaks the reply and goes to the
-- report reader, which has followed: the report is handed out.
pub last_lost : Answers ready_u (telling (Command lettert) ∷ word 0x55 ∷ report_u) (reply.Broken (came 1 0x55 0) ∷ []) (answer.Nothing ∷ read)
unfolding computing
last_lost = answers refl refl

-- The first byte lost: 4FH is no format, breaks the reply and goes to the report reader, which is no header either: U
-- awaits a silence, and the report behind it is dropped, byte by byte.
pub first_lost : Answers ready_u (telling (Command lettert) ∷ word 0x4F ∷ report_u) (reply.Broken none ∷ []) (replicate 6 (answer.Dropped 1))
unfolding computing
first_lost = answers refl refl

-- A silence inside a reply breaks it.
pub silence_breaks : Answers ready_u (telling (Command lettert) ∷ word 0x55 ∷ word 257 ∷ word 0x4F ∷ []) (reply.Broken (came 1 0x55 0) ∷ []) (answer.Nothing ∷ answer.Nothing ∷ answer.Dropped 1 ∷ [])
unfolding computing
silence_breaks = answers refl refl

-- 05H: any three bytes, of which the low three bits of the first tell; and a box woken by any byte.
pub low_three_bits : Answers ready_u (telling (Command byte05) ∷ word 0xFD ∷ word 0x85 ∷ word 0x85 ∷ []) (reply.Buttons 5 ∷ []) (replicate 3 answer.Nothing)
unfolding computing
low_three_bits = answers refl refl

pub woken : Answers ready_u (telling Waking ∷ word 0x06 ∷ report_u) (reply.Ack ∷ []) (answer.Nothing ∷ read)
unfolding computing
woken = answers refl refl

-- A long read stops before a word that would finish a report without room, the reply still pending; with room the word
-- breaks it.
abbrev kept_s : ToldReader
kept_s = told_reader (reader 0x53 (0x94 ∷ 0x05 ∷ 0 ∷ 0 ∷ 0 ∷ []) 2 false) (awaiting (Some kind.Letters) (came 1 0x55 0))

pub pending : (a : HeardLine) (after : List ℤ) → ReadPromise kept_s (0x03 ∷ []) (replicate 4 (pos 9)) a after
    → whole a after ≡ whole (record { refusal = 0; next = kept_s; taken = 0; reports = 0; dropped = 0; reply = None }) (replicate 4 (pos 9))
unfolding computing
pending a after p = read_is kept_s (0x03 ∷ []) (replicate 4 (pos 9)) a after p

pub with_room : (a : HeardLine) (after : List ℤ) → ReadPromise kept_s (0x03 ∷ []) (replicate 5 (pos 9)) a after
    → whole a after
    ≡ whole (record { refusal = 0; next = told_reader (ready 0x53) nothing; taken = 1; reports = 1; dropped = 0; reply = Some (reply.Broken (came 1 0x55 0)) })
    (pos 4 ∷ pos 5 ∷ minus 3 ∷ pos 0 ∷ pos 0 ∷ [])
unfolding computing
with_room a after p = read_is kept_s (0x03 ∷ []) (replicate 5 (pos 9)) a after p

-- Replies that are damaged. A reply to `t`, V's letter and O's, of which the first arrived damaged: 256 breaks it, and
-- 4FH goes to the report reader, where it is a first byte of V. It is kept until the report's own first byte comes, and
-- the report is handed out. All damage shows here, so that this is no accident.
abbrev sent_v : List (Passage Message)
sent_v = finished (messages.reply (0x56 ∷ 0x4F ∷ [])) ∷ finished (latched_in Microsoft (report 4 (pos 5) (pos 3))) ∷ []

abbrev report_v : List Item
report_v = word 0x6C ∷ word 0x05 ∷ word 0x3D ∷ []

abbrev left_v : List Item
left_v = telling (Command lettert) ∷ word 256 ∷ word 0x4F ∷ report_v

pub damaged_reply : Answers (told_reader (fresh 0x56) nothing) left_v
    (reply.Broken none ∷ [])
    (answer.Nothing ∷ answer.Nothing ∷ answer.Dropped 1 ∷ answer.Nothing ∷ answer.Report (report 4 (pos 5) (pos 3)) ∷ [])
unfolding computing
damaged_reply = answers refl refl

pub damage_shows : ShownItems true left_v (line_items sent_v ++ [])
unfolding computing
damage_shows = stays (scar (0x56 ∷ []) (stays (stays (stays (stays damage.whole)))))

pub and_so_true : TrueOf Microsoft left_v (report 4 (pos 5) (pos 3) ∷ [])
unfolding computing
and_so_true = shown_true Microsoft sent_v passages.nothing (is_letters 0x56 0x4F refl refl (lit≤ tt, lit< tt) (lit≤ tt, lit< tt), ((refl, refl), tt)) tt no_word damage_shows

-- The same in T, behind a silence: 05H is answered 0, 0, 0, of which the first byte arrived damaged. The reader awaits
-- a silence; then it hands out the next report.
abbrev report_t : List Item
report_t = word 0x00 ∷ word 0x02 ∷ word 0x03 ∷ []

abbrev ready_t : ToldReader
ready_t = told_reader (ready 0x54) nothing

pub damaged_buttons : Answers ready_t
    (telling (Command byte05) ∷ word 256 ∷ word 0x00 ∷ word 0x00 ∷ report_t ++ (word 257 ∷ report_t))
    (reply.Broken none ∷ [])
    (answer.Nothing ∷ replicate 5 (answer.Dropped 1) ++ (replicate 3 answer.Nothing ++ (answer.Report (report 0 (pos 2) (pos 3)) ∷ [])))
unfolding computing
damaged_buttons = answers refl refl

-- Where the byte is lost without a trace, the reply takes the first byte of the report behind it, and the next three
-- bytes are a report with M down: a save that nobody made.
pub lost_without_a_trace : Answers ready_t
    (telling (Command byte05) ∷ word 0x00 ∷ word 0x00 ∷ report_t ++ report_t)
    (reply.Buttons 0 ∷ [])
    (replicate 5 answer.Nothing ++ (answer.Report (report 2 (pos 3) (pos 0)) ∷ replicate 2 answer.Nothing))
unfolding computing
lost_without_a_trace = answers refl refl

-- In S, which is marked, the report behind it is lost.
pub next_lost : Answers (told_reader (ready 0x53) nothing)
    (telling (Command byte05) ∷ word 0x00 ∷ word 0x00 ∷ word 0x98 ∷ word 0x05 ∷ word 0x03 ∷ [])
    (reply.Buttons 0 ∷ [])
    (replicate 3 answer.Nothing ++ replicate 2 (answer.Dropped 1))
unfolding computing
next_lost = answers refl refl

-- Where a silence comes in, the reply itself is a report of T: here it is 2, 0, 0, M down.
pub silence_came_in : Answers ready_t
    (telling (Command byte05) ∷ word 257 ∷ word 0x02 ∷ word 0x00 ∷ word 0x00 ∷ [])
    (reply.Broken none ∷ [])
    (replicate 3 answer.Nothing ++ (answer.Report (report 2 (pos 0) (pos 0)) ∷ []))
unfolding computing
silence_came_in = answers refl refl
