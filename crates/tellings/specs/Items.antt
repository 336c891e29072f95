-- What reaches the host's half: the words of the line and, between them, that a command was sent. The reader is given them one by one, or in calls.
use Rattle.std.specs.Prelude.{ℕ, ◌+◌, ◌*◌, ◌≡◌, Bool, true, not, ◌&&◌, List, [], ◌∷◌, ◌++◌, map, length, take, drop, leb, ℤ}
use Rattle.frames.specs.Words.{silence}
use Rattle.wire.specs.Numbers.{success}
use Rattle.wire.specs.declared.Report.{Report}
use Rattle.reader.specs.Counts.{numbers}
use Rattle.reader.specs.declared.Answer.{Answer}
use Rattle.replies.specs.Replying.{is_none}
use Rattle.replies.specs.Rules.{Heard, kind_of}
use Rattle.fold.specs.Calls.{unused}
use Rattle.replies.specs.Line.{HeardLine, told_in, whole, hears_line}
use Rattle.replies.specs.Promises.{Telling, TellPromise, StepPromise, ReadPromise}
use Rattle.replies.specs.declared.Asked.{Asked}
use Rattle.replies.specs.declared.Reply.{Reply}
use Rattle.replies.specs.declared.ToldReader.{ToldReader}

pub data Item : Type 0 where
  word : ℕ → Item
  telling : Asked → Item

abbrev pub as_items : List ℕ → List Item
as_items words = map word words

abbrev pub words_in : List Item → List ℕ
words_in [] = []
words_in (word w ∷ items) = w ∷ words_in items
words_in (telling asked ∷ items) = words_in items

-- items of which no word is above 257, and every telling is of a command that has a reply
abbrev pub is_legal : Item → Bool
is_legal (word w) = leb w silence
is_legal (telling asked) = not (is_none (kind_of asked))

unfoldable pub legal_items : List Item → Bool
legal_items [] = true
legal_items (i ∷ items) = is_legal i && legal_items items

-- one by one: any steps and tellings that the promises permit, each with the reader that came back from the one before
pub data Done : Type 0 where
  heard : Heard → Done
  told : Telling → Done

abbrev pub next_of : Done → ToldReader
next_of (heard h) = h.next
next_of (told t) = t.next

abbrev pub after_done : ToldReader → List Done → ToldReader
after_done s [] = s
after_done s (d ∷ done) = after_done (next_of d) done

abbrev pub ItemPromise : ToldReader → Item → Done → Type 0
ItemPromise s (word w) (heard h) = StepPromise s w h
ItemPromise s (word w) (told t) = ⊥
ItemPromise s (telling asked) (heard h) = ⊥
ItemPromise s (telling asked) (told t) = TellPromise s asked t

unfoldable pub ItemsPromise : ToldReader → List Item → List Done → Type 0
ItemsPromise s [] [] = Unit
ItemsPromise s [] (d ∷ done) = ⊥
ItemsPromise s (i ∷ items) [] = ⊥
ItemsPromise s (i ∷ items) (d ∷ done) = ItemPromise s i d × ItemsPromise (next_of d) items done

-- the report reader's own answers, one for each word; and the replies told, whole or broken, in their order
abbrev pub own_answers_of : List Done → List Answer
own_answers_of [] = []
own_answers_of (heard h ∷ done) = h.answer ∷ own_answers_of done
own_answers_of (told t ∷ done) = own_answers_of done

abbrev pub replies_of : List Done → List Reply
replies_of [] = []
replies_of (heard h ∷ done) = told_in h.reply ++ replies_of done
replies_of (told t ∷ done) = replies_of done

-- in calls: long reads, each with the unused part of the lent slice, and between them tellings
pub data Call : Type 0 where
  long : List ℕ → Call
  tell : Asked → Call

abbrev pub items_of : List Call → List Item
items_of [] = []
items_of (long words ∷ calls) = as_items words ++ items_of calls
items_of (tell asked ∷ calls) = telling asked ∷ items_of calls

pub data Called : Type 0 where
  was_read : HeardLine → List ℤ → Called
  was_told : Telling → Called

unfoldable pub CallsPromise : ToldReader → List Call → List ℤ → List Called → Type 0
CallsPromise s [] before [] = Unit
CallsPromise s [] before (c ∷ called) = ⊥
CallsPromise s (call ∷ calls) before [] = ⊥
CallsPromise s (long words ∷ calls) before (was_read a after ∷ called) = ReadPromise s words before a after
    × CallsPromise a.next calls (unused hears_line (whole a after)) called
CallsPromise s (long words ∷ calls) before (was_told t ∷ called) = ⊥
CallsPromise s (tell asked ∷ calls) before (was_read a after ∷ called) = ⊥
CallsPromise s (tell asked ∷ calls) before (was_told t ∷ called) = TellPromise s asked t × CallsPromise t.next calls before called

-- every word of every long read was taken, and no call refused
unfoldable pub AllTaken : List Call → List Called → Type 0
AllTaken [] [] = Unit
AllTaken [] (c ∷ called) = ⊥
AllTaken (call ∷ calls) [] = ⊥
AllTaken (long words ∷ calls) (was_read a after ∷ called) = (a.refusal ≡ success) × (a.taken ≡ length words) × AllTaken calls called
AllTaken (long words ∷ calls) (was_told t ∷ called) = ⊥
AllTaken (tell asked ∷ calls) (was_read a after ∷ called) = ⊥
AllTaken (tell asked ∷ calls) (was_told t ∷ called) = (t.refusal ≡ success) × AllTaken calls called

-- the reports and the replies of all calls, and every number of the lent slice after the last
abbrev pub reports_called : List Called → ℕ
reports_called [] = 0
reports_called (was_read a after ∷ called) = a.reports + reports_called called
reports_called (was_told t ∷ called) = reports_called called

abbrev pub replies_called : List Called → List Reply
replies_called [] = []
replies_called (was_read a after ∷ called) = told_in a.reply ++ replies_called called
replies_called (was_told t ∷ called) = replies_called called

abbrev pub slice_after : List ℤ → List Called → List ℤ
slice_after before [] = before
slice_after before (was_read a after ∷ called) = take (5 * a.reports) after ++ slice_after (unused hears_line (whole a after)) called
slice_after before (was_told t ∷ called) = slice_after before called

-- calls that took every word, told these replies and wrote the reports found: those numbers, and then the old ones
pub record TookAll (calls : List Call) (found : List Report) (replies : List Reply) (before : List ℤ) (called : List Called) : Type 0 where
  pub taken : AllTaken calls called
  pub reports : reports_called called ≡ length found
  pub replies_are : replies_called called ≡ replies
  pub written : slice_after before called ≡ numbers found ++ drop (5 * length found) before
