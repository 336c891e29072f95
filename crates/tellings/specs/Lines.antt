-- What the theorems on lines with tellings speak of: the replies as they were sent, and what is handed out.
use Rattle.std.specs.Prelude.{ℕ, ◌+◌, ◌*◌, ◌%◌, ◌≤◌, ◌≡◌, cond, List, [], ◌∷◌, ◌++◌, length, take, drop, get_or, replicate, eqb, ℤ, Option, None, Some}
use Rattle.frames.specs.Words.{break, silence}
use Rattle.frames.specs.Passages.{Passage, silent, finished, broken, UnderWay, nothing as nothing_going, first, passage_words}
use Rattle.wire.specs.Line.{letter_of}
use Rattle.wire.specs.Messages.{Latched, Message, report, reply, message_bytes}
use Rattle.wire.specs.declared.Report.{Report}
use Rattle.wire.specs.declared.Format.{Format}
use Rattle.reader.specs.State.{five_of}
use Rattle.reader.specs.Counts.{handed_out}
use Rattle.reader.specs.declared.Answer.TheVariants as answer
use Rattle.replies.specs.Replying.{came, none, nothing, letter_of_code}
use Rattle.replies.specs.Rules.{told_reader}
use Rattle.replies.specs.Promises.{NewToldReader, FreshPromise}
use Rattle.tellings.specs.Items.{Item, telling, as_items, Done, after_done, ItemsPromise, own_answers_of, replies_of, Call, items_of}
use Rattle.tellings.specs.Items.{Called, CallsPromise, slice_after, TookAll}
use Rattle.ballbox.specs.Commands.{space, letterf, lettert, byte05}
use Rattle.replies.specs.Line.{told_in}
use Rattle.replies.specs.declared.Asked.{Asked}
use Rattle.replies.specs.declared.Asked.TheVariants.{Command}
use Rattle.replies.specs.declared.Came.{Came}
use Rattle.replies.specs.declared.Reply.{Reply}
use Rattle.replies.specs.declared.Reply.TheVariants as replies
use Rattle.replies.specs.declared.ToldReader.{ToldReader}

-- The items of a line: "the reader is told of each" reply behind the 256 that its command caused, so in front of its
-- bytes. Whose reply it is: by how many bytes it has, and of one byte by whether it is ACK.
abbrev pub asked_for : List ℕ → Asked
asked_for [] = Command space
asked_for (b ∷ []) = cond (eqb b 0x06) (Command space) (Command letterf)
asked_for (f ∷ m ∷ []) = Command lettert
asked_for (n ∷ p ∷ q ∷ bytes) = Command byte05

-- a passage, passages one after the other, and what is under way
abbrev pub passage_items : Passage Message → List Item
passage_items silent = as_items (silence ∷ [])
passage_items (finished (report l)) = as_items (message_bytes (report l))
passage_items (finished (reply bytes)) = telling (asked_for bytes) ∷ as_items bytes
passage_items (broken n (report l)) = as_items (take n (message_bytes (report l)) ++ (break ∷ []))
passage_items (broken n (reply bytes)) = telling (asked_for bytes) ∷ as_items (take n bytes ++ (break ∷ []))

abbrev pub line_items : List (Passage Message) → List Item
line_items [] = []
line_items (p ∷ passages) = passage_items p ++ line_items passages

abbrev pub part_items : UnderWay Message → List Item
part_items nothing_going = []
part_items (first n (report l)) = as_items (take n (message_bytes (report l)))
part_items (first n (reply bytes)) = telling (asked_for bytes) ∷ as_items (take n bytes)

-- a reply by its bytes: ACK, the byte of a format, the letters of format and mode, or "buttons, 0, 0"
abbrev pub reply_told : List ℕ → Option Reply
reply_told [] = None
reply_told (b ∷ []) = Some (cond (eqb b 0x06) replies.Ack (replies.Format (letter_of_code b)))
reply_told (f ∷ m ∷ []) = Some (replies.Letters f m)
reply_told (n ∷ p ∷ q ∷ bytes) = Some (replies.Buttons (n % 8))

abbrev pub came_of : List ℕ → Came
came_of [] = none
came_of (b ∷ []) = came 1 b 0
came_of (b ∷ c ∷ bytes) = came 2 b c

-- each whole reply is answered as sent, and a broken one as broken, behind the bytes that had gone
abbrev pub replies_in : Passage Message → List Reply
replies_in silent = []
replies_in (finished (report l)) = []
replies_in (finished (reply bytes)) = told_in (reply_told bytes)
replies_in (broken n (report l)) = []
replies_in (broken n (reply bytes)) = replies.Broken (came_of (take n bytes)) ∷ []

abbrev pub replies_sent : List (Passage Message) → List Reply
replies_sent [] = []
replies_sent (p ∷ passages) = replies_in p ++ replies_sent passages

-- A fresh reader of f, given the items, answers word i (the first being 0) by the report p; and calls with room for all that is found take every word and write
-- what is found, p's five numbers behind those of the reports found before word i.
pub record HandsOutAt (f : Format) (items : List Item) (i : ℕ) (p : Report) : Type 0 where
  pub by_steps : (a : NewToldReader) (done : List Done) → FreshPromise (letter_of f) a → ItemsPromise a.reader items done
      → get_or (own_answers_of done) i answer.Nothing ≡ answer.Report p
  pub by_calls : (a : NewToldReader) (done : List Done) (calls : List Call) (before : List ℤ) (called : List Called)
      → FreshPromise (letter_of f) a
      → ItemsPromise a.reader items done
      → items_of calls ≡ items
      → 5 * length (handed_out (own_answers_of done)) ≤ length before
      → CallsPromise a.reader calls before called
      → TookAll calls (handed_out (own_answers_of done)) (replies_of done) before called
      × (take 5 (drop (5 * length (handed_out (take i (own_answers_of done)))) (slice_after before called)) ≡ five_of p)

-- A fresh reader of f, given the items, hands out these reports, in this order, and no others, one by one and in calls with room for them.
pub record HandsOut (f : Format) (items : List Item) (found : List Report) : Type 0 where
  pub by_steps : (a : NewToldReader) (done : List Done) → FreshPromise (letter_of f) a → ItemsPromise a.reader items done
      → handed_out (own_answers_of done) ≡ found
  pub by_calls : (a : NewToldReader) (done : List Done) (calls : List Call) (before : List ℤ) (called : List Called)
      → FreshPromise (letter_of f) a
      → ItemsPromise a.reader items done
      → items_of calls ≡ items
      → 5 * length found ≤ length before
      → CallsPromise a.reader calls before called
      → TookAll calls found (replies_of done) before called

-- A fresh reader of f, given the items, tells these replies, in this order, and no others; what calls tell is told of them with `replies_of` above.
pub record TellsReplies (f : Format) (items : List Item) (replies : List Reply) : Type 0 where
  pub told : (a : NewToldReader) (done : List Done) → FreshPromise (letter_of f) a → ItemsPromise a.reader items done → replies_of done ≡ replies

-- The stretch `old`, behind the words `pre`, lies within the bytes of one report, a finished one, one that was broken
-- off, or the one that is under way; and the passages other than that report.
pub data InReport (pre old : List ℕ) : List (Passage Message) → UnderWay Message → List (Passage Message) → Type 0 where
  in_finished_lem : (before after : List (Passage Message)) (going : UnderWay Message) (l : Latched)
      → length (passage_words message_bytes before) ≤ length pre
      → length pre + length old ≤ length (passage_words message_bytes before) + length (message_bytes (report l))
      → InReport pre old (before ++ (finished (report l) ∷ after)) going (before ++ after)
  in_broken_lem : (before after : List (Passage Message)) (going : UnderWay Message) (n : ℕ) (l : Latched)
      → length (passage_words message_bytes before) ≤ length pre
      → length pre + length old ≤ length (passage_words message_bytes before) + length (take n (message_bytes (report l)))
      → InReport pre old (before ++ (broken n (report l) ∷ after)) going (before ++ after)
  in_going_lem : (passages : List (Passage Message)) (n : ℕ) (l : Latched)
      → length (passage_words message_bytes passages) ≤ length pre
      → InReport pre old passages (first n (report l)) passages

-- A told reader's answers to a whole reply: it is told at the last byte, all others are nothing, and the report reader is as it was.
pub record ReadsReply (s : ToldReader) (bytes : List ℕ) (value : Reply) (done : List Done) : Type 0 where
  pub told : replies_of done ≡ value ∷ []
  pub silent : own_answers_of done ≡ replicate (length bytes) answer.Nothing
  pub after : after_done s done ≡ told_reader s.reader nothing
