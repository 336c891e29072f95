-- The two halves apart: which reply is awaited goes by the items alone, and the report reader is given the words that are no reply's.
use Rattle.std.proofs.Common.{Option, None}
use Prim.Native.Nat.{ℕ, suc, ◌+◌, ◌≤◌, ◌<◌}
use mathlib.Core.Path.{◌≡◌, refl, sym, ◌∙◌, ap}
use mathlib.Core.Bool.{Bool, true, false, not, cond}
use mathlib.Core.List.{List, [], ◌∷◌, ◌++◌, append_assoc}
use lib.ListN.{length, get_or, get_or-append}
use lib.Seq.{get_or-append-add}
use lib.Dec.{leb}
use borrow.Author.Tests.{leb-true, not-true, eq-eqb}
use Rattle.numbers.proofs.Tested.{left, right}
use Rattle.frames.specs.Words.{silence}
use Rattle.wire.specs.Numbers.{success}
use Rattle.wire.specs.declared.Report.{Report}
use Rattle.reader.specs.Rules as report
use Rattle.reader.specs.Counts.{handed_out}
use Rattle.reader.specs.Promises as reader
use Rattle.reader.specs.Runs.{steps_of, answers, reader_after}
use Rattle.reader.specs.declared.Reader.{Reader}
use Rattle.reader.specs.State.{Read}
use Rattle.reader.specs.declared.Answer.{Answer}
use Rattle.reader.specs.declared.Answer.TheVariants as answer
use Rattle.reader.proofs.Goodness as goodness
use Rattle.reader.proofs.Refusals as refusals
use Rattle.replies.specs.Replying.{none, awaiting, nothing, is_none, finishes, told, broken}
use Rattle.replies.specs.Good.{good}
use Rattle.replies.specs.Rules.{Heard, told_reader, kind_of, continues, word_of}
use Rattle.replies.specs.Line.{told_in}
use Rattle.replies.specs.Promises.{tell_of, step_of, telling_of}
use Rattle.tellings.specs.Items.{Item, word, telling, as_items, words_in, legal_items, Done, after_done, ItemsPromise, own_answers_of, replies_of}
use Rattle.tellings.specs.Items as items
use Rattle.tellings.specs.Clear.{awaited_then, awaited_behind}
use Rattle.replies.specs.declared.Asked.{Asked}
use Rattle.replies.specs.declared.Awaited.{Awaited}
use Rattle.replies.specs.declared.Reply.{Reply}
use Rattle.replies.specs.declared.ToldReader.{ToldReader}
use Rattle.replies.proofs.Lines.{word_kept, keep_last, keep_more, word_passes, none_continues}
use Rattle.replies.proofs.Word.{good_reader, word_fine, told_fine}
use Rattle.replies.proofs.Permitted.{step_is}
use Rattle.replies.proofs.Goodness.{step_word}

-- what the definitions do with items
unfoldable pub done_of : ToldReader → List Item → List Done
done_of s [] = []
done_of s (word w ∷ is) = items.heard (step_of s w) ∷ done_of (step_of s w).next is
done_of s (telling asked ∷ is) = items.told (tell_of s asked) ∷ done_of (tell_of s asked).next is

pub done_are : (s : ToldReader) (is : List Item) (done : List Done) → ItemsPromise s is done → done ≡ done_of s is
unfolding done_of ItemsPromise
done_are s [] [] p = refl
done_are s [] (d ∷ done) p = absurd p
done_are s (i ∷ is) [] p = absurd p
done_are s (word w ∷ is) (items.heard h ∷ done) p = let e = step_is s w h p.0 in let r = done_are h.next is done p.1 in cc
done_are s (word w ∷ is) (items.told t ∷ done) p = absurd p.0
done_are s (telling asked ∷ is) (items.heard h ∷ done) p = absurd p.0
done_are s (telling asked ∷ is) (items.told t ∷ done) p = let e = p.0 in let r = done_are t.next is done p.1 in cc

-- the words that the report reader is given
abbrev pub given_of : Awaited → ℕ → List ℕ
given_of a w = cond (continues a w) [] (w ∷ [])

unfoldable pub given : Awaited → List Item → List ℕ
given a [] = []
given a (word w ∷ is) = given_of a w ++ given (awaited_then a (word w)) is
given a (telling asked ∷ is) = given (awaited_then a (telling asked)) is

-- the replies told
abbrev pub reply_of : Awaited → ℕ → Option Reply
reply_of a w = cond (continues a w) (cond (finishes a) (told a w) None) (broken a)

unfoldable pub replies_over : Awaited → List Item → List Reply
replies_over a [] = []
replies_over a (word w ∷ is) = told_in (reply_of a w) ++ replies_over (awaited_then a (word w)) is
replies_over a (telling asked ∷ is) = replies_over (awaited_then a (telling asked)) is

-- the report reader's own answers, one for each word: nothing to the bytes of replies
abbrev pub read_on : Awaited → Reader → ℕ → Read
read_on a r w = cond (continues a w) (report.answered r answer.Nothing) (reader.step_of r w)

unfoldable pub own_over : Awaited → Reader → List Item → List Answer
own_over a r [] = []
own_over a r (word w ∷ is) = (read_on a r w).answer ∷ own_over (awaited_then a (word w)) (read_on a r w).next is
own_over a r (telling asked ∷ is) = own_over (awaited_then a (telling asked)) r is

-- the report reader behind items
abbrev reader_behind : Awaited → Reader → List Item → Reader
reader_behind a r [] = r
reader_behind a r (word w ∷ is) = reader_behind (awaited_then a (word w)) (read_on a r w).next is
reader_behind a r (telling asked ∷ is) = reader_behind (awaiting (kind_of asked) none) r is

-- a legal word, by halves
record Halves (a : Awaited) (r : Reader) (w : ℕ) (h : Heard) : Type 0 where
  next : h.next ≡ told_reader (read_on a r w).next (awaited_then a (word w))
  reply : h.reply ≡ reply_of a w
  answer : h.answer ≡ (read_on a r w).answer
  number : h.refusal ≡ success

halves : (a : Awaited) (r : Reader) (w : ℕ) → good (told_reader r a) ≡ true → w ≤ silence → Halves a r w (step_of (told_reader r a) w)
unfolding word_of
halves a r w g l = rw (step_word (told_reader r a) w g) (go (continues a w) refl (finishes a) refl)
  where
    go : (t : Bool) → continues a w ≡ t → (u : Bool) → finishes a ≡ u → Halves a r w (word_of (told_reader r a) w)
    go true e true f = rw (word_kept (told_reader r a) w e, keep_last r a w f) (record { next = rw (e, f); reply = rw (e, f); answer = rw e; number = refl })
    go true e false f = rw (word_kept (told_reader r a) w e, keep_more r a w f) (record { next = rw (e, f); reply = rw (e, f); answer = rw e; number = refl })
    go false e u f =
        let k = good_reader (told_reader r a) g in
        rw (word_passes (told_reader r a) w k e, eq-eqb (report.word_of r w).refusal success (refusals.word_taken r w l))
        (record { next = rw (e, goodness.step_word r w k); reply = rw e; answer = rw (e, goodness.step_word r w k); number = refl })

step_good : (a : Awaited) (r : Reader) (w : ℕ) → good (told_reader r a) ≡ true → good (step_of (told_reader r a) w).next ≡ true
step_good a r w g = rw (step_word (told_reader r a) w g) (word_fine (told_reader r a) w g).0

-- a legal telling
pub tells : (a : Awaited) (r : Reader) (asked : Asked) → good (told_reader r a) ≡ true → not (is_none (kind_of asked)) ≡ true
    → tell_of (told_reader r a) asked ≡ telling_of success (told_reader r (awaiting (kind_of asked) none)) a.came.count
unfolding tell_of
tells a r asked g n = rw (g, not-true (is_none (kind_of asked)) n)

-- and items, by halves
pub record Decomposed (a : Awaited) (r : Reader) (is : List Item) (done : List Done) : Type 0 where
  pub own : own_answers_of done ≡ own_over a r is
  pub replies : replies_of done ≡ replies_over a is
  pub state : after_done (told_reader r a) done ≡ told_reader (reader_behind a r is) (awaited_behind a is)

pub decomposed : (is : List Item) (a : Awaited) (r : Reader) → good (told_reader r a) ≡ true → legal_items is ≡ true → Decomposed a r is (done_of (told_reader r a) is)
unfolding done_of own_over replies_over legal_items
decomposed [] a r g l = record { own = refl; replies = refl; state = refl }
decomposed (word w ∷ is) a r g l =
    let h = halves a r w g (leb-true w silence (left (leb w silence) (legal_items is) l)) in
    let k : good (told_reader (read_on a r w).next (awaited_then a (word w))) ≡ true = rw h.next at (step_good a r w g) in
    let later = decomposed is (awaited_then a (word w)) (read_on a r w).next k (right (leb w silence) (legal_items is) l) in
    record {
      own = rw (h.next, h.answer) (ap (λ (x : List Answer). (read_on a r w).answer ∷ x) later.own);
      replies = rw (h.next, h.reply) (ap (λ (x : List Reply). told_in (reply_of a w) ++ x) later.replies);
      state = rw h.next later.state;
    }
decomposed (telling asked ∷ is) a r g l =
    let t = tells a r asked g (left (not (is_none (kind_of asked))) (legal_items is) l) in
    let later = decomposed is (awaiting (kind_of asked) none) r (told_fine (told_reader r a) (kind_of asked) g) (right (not (is_none (kind_of asked))) (legal_items is) l) in
    record { own = rw t later.own; replies = rw t later.replies; state = rw t later.state }

-- the report reader hands out what it hands out of the words that it is given
same_handed : (x : Answer) (l k : List Answer) → handed_out l ≡ handed_out k → handed_out (x ∷ l) ≡ handed_out (x ∷ k)
same_handed answer.Nothing l k e = e
same_handed (answer.Report p) l k e = ap (λ (y : List Report). p ∷ y) e
same_handed (answer.Dropped n) l k e = e

pub handed_given : (is : List Item) (a : Awaited) (r : Reader) → handed_out (own_over a r is) ≡ handed_out (answers (steps_of r (given a is)))
unfolding own_over given steps_of
handed_given [] a r = refl
handed_given (word w ∷ is) a r = go (continues a w) refl (handed_given is (awaited_then a (word w)) (read_on a r w).next)
  where
    go : (t : Bool) → continues a w ≡ t → handed_out (own_over (awaited_then a (word w)) (read_on a r w).next is) ≡ handed_out (answers (steps_of (read_on a r w).next (given (awaited_then a (word w)) is)))
        → handed_out ((read_on a r w).answer ∷ own_over (awaited_then a (word w)) (read_on a r w).next is) ≡ handed_out (answers (steps_of r (given_of a w ++ given (awaited_then a (word w)) is)))
    go true e ih = rw e (rw e at ih)
    go false e ih = rw e (same_handed (reader.step_of r w).answer (own_over nothing (reader.step_of r w).next is) (answers (steps_of (reader.step_of r w).next (given nothing is))) (rw e at ih))
handed_given (telling asked ∷ is) a r = handed_given is (awaiting (kind_of asked) none) r

-- items in two parts
pub behind_append : (p q : List Item) (a : Awaited) → awaited_behind a (p ++ q) ≡ awaited_behind (awaited_behind a p) q
behind_append [] q a = refl
behind_append (i ∷ p) q a = behind_append p q (awaited_then a i)

pub given_append : (p q : List Item) (a : Awaited) → given a (p ++ q) ≡ given a p ++ given (awaited_behind a p) q
unfolding given
given_append [] q a = refl
given_append (word w ∷ p) q a = rw (given_append p q (awaited_then a (word w)), append_assoc)
given_append (telling asked ∷ p) q a = given_append p q (awaiting (kind_of asked) none)

pub replies_append : (p q : List Item) (a : Awaited) → replies_over a (p ++ q) ≡ replies_over a p ++ replies_over (awaited_behind a p) q
unfolding replies_over
replies_append [] q a = refl
replies_append (word w ∷ p) q a = rw (replies_append p q (awaited_then a (word w)), append_assoc)
replies_append (telling asked ∷ p) q a = replies_append p q (awaiting (kind_of asked) none)

own_append : (p q : List Item) (a : Awaited) (r : Reader) → own_over a r (p ++ q) ≡ own_over a r p ++ own_over (awaited_behind a p) (reader_behind a r p) q
unfolding own_over
own_append [] q a r = refl
own_append (word w ∷ p) q a r = ap (λ (x : List Answer). (read_on a r w).answer ∷ x) (own_append p q (awaited_then a (word w)) (read_on a r w).next)
own_append (telling asked ∷ p) q a r = own_append p q (awaiting (kind_of asked) none) r

pub reader_behind_lem : (is : List Item) (a : Awaited) (r : Reader) → reader_behind a r is ≡ reader_after r (steps_of r (given a is))
unfolding given steps_of
reader_behind_lem [] a r = refl
reader_behind_lem (word w ∷ is) a r = go (continues a w) refl (reader_behind_lem is (awaited_then a (word w)) (read_on a r w).next)
  where
    go : (t : Bool) → continues a w ≡ t
        → reader_behind (awaited_then a (word w)) (read_on a r w).next is ≡ reader_after (read_on a r w).next (steps_of (read_on a r w).next (given (awaited_then a (word w)) is))
        → reader_behind (awaited_then a (word w)) (read_on a r w).next is ≡ reader_after r (steps_of r (given_of a w ++ given (awaited_then a (word w)) is))
    go true e ih = rw e (rw e at ih)
    go false e ih = rw e (rw e at ih)
reader_behind_lem (telling asked ∷ is) a r = reader_behind_lem is (awaiting (kind_of asked) none) r

own_length : (is : List Item) (a : Awaited) (r : Reader) → length (own_over a r is) ≡ length (words_in is)
unfolding own_over
own_length [] a r = refl
own_length (word w ∷ is) a r = ap suc (own_length is (awaited_then a (word w)) (read_on a r w).next)
own_length (telling asked ∷ is) a r = own_length is (awaiting (kind_of asked) none) r

-- words where no reply is awaited: all go to the report reader
word_behind : (w : ℕ) → awaited_then nothing (word w) ≡ nothing
word_behind w = rw (none_continues w)

pub words_behind : (ws : List ℕ) → awaited_behind nothing (as_items ws) ≡ nothing
words_behind [] = refl
words_behind (w ∷ ws) = ap (λ (a : Awaited). awaited_behind a (as_items ws)) (word_behind w) ∙ words_behind ws

pub words_given : (ws : List ℕ) → given nothing (as_items ws) ≡ ws
unfolding given
words_given [] = refl
words_given (w ∷ ws) = rw (none_continues w) (ap (λ (x : List ℕ). w ∷ x) (words_given ws))

pub words_replies : (ws : List ℕ) → replies_over nothing (as_items ws) ≡ []
unfolding replies_over broken
words_replies [] = refl
words_replies (w ∷ ws) = rw (none_continues w) (words_replies ws)

words_own : (ws : List ℕ) (r : Reader) → own_over nothing r (as_items ws) ≡ answers (steps_of r ws)
unfolding own_over steps_of
words_own [] r = refl
words_own (w ∷ ws) r = rw (none_continues w) (ap (λ (x : List Answer). (reader.step_of r w).answer ∷ x) (words_own ws (reader.step_of r w).next))

-- steps over words, and over more
steps_append : (u v : List ℕ) (r : Reader) → answers (steps_of r (u ++ v)) ≡ answers (steps_of r u) ++ answers (steps_of (reader_after r (steps_of r u)) v)
unfolding steps_of
steps_append [] v r = refl
steps_append (w ∷ u) v r = ap (λ (x : List Answer). (reader.step_of r w).answer ∷ x) (steps_append u v (reader.step_of r w).next)

steps_length : (u : List ℕ) (r : Reader) → length (answers (steps_of r u)) ≡ length u
unfolding steps_of
steps_length [] r = refl
steps_length (w ∷ u) r = ap suc (steps_length u (reader.step_of r w).next)

-- The answer to a word of a report, in front of which items stand that leave no reply awaited: the report reader's, at its place among the words that it is given.
module _ (is : List Item) (ws : List ℕ) (rest : List Item) (r : Reader) (k : ℕ) (c : awaited_behind nothing is ≡ nothing) (h : k < length ws) where
  abbrev behind_them : Reader
  behind_them = reader_behind nothing r is

  its_own : Answer
  its_own = get_or (answers (steps_of behind_them ws)) k answer.Nothing

  short : k < length (answers (steps_of behind_them ws))
  short = rw (steps_length ws behind_them) h

  own_place : get_or (own_over nothing r (is ++ (as_items ws ++ rest))) (length (words_in is) + k) answer.Nothing ≡ its_own
  unfolding its_own
  own_place =
      rw (own_append is (as_items ws ++ rest) nothing r, c, own_append (as_items ws) rest nothing behind_them, words_own ws behind_them, ← own_length is nothing r)
      (get_or-append-add (own_over nothing r is) _ k answer.Nothing ∙ get_or-append (answers (steps_of behind_them ws)) _ answer.Nothing k short)

  given_place : get_or (answers (steps_of r (given nothing (is ++ (as_items ws ++ rest))))) (length (given nothing is) + k) answer.Nothing ≡ its_own
  unfolding its_own
  given_place =
      rw (given_append is (as_items ws ++ rest) nothing, c, given_append (as_items ws) rest nothing, words_given ws, steps_append (given nothing is) (ws ++ given (awaited_behind nothing (as_items ws)) rest) r, ← reader_behind_lem is nothing r, steps_append ws (given (awaited_behind nothing (as_items ws)) rest) behind_them, ← steps_length (given nothing is) r)
      (get_or-append-add (answers (steps_of r (given nothing is))) _ k answer.Nothing ∙ get_or-append (answers (steps_of behind_them ws)) _ answer.Nothing k short)

  pub same_place : get_or (own_over nothing r (is ++ (as_items ws ++ rest))) (length (words_in is) + k) answer.Nothing
      ≡ get_or (answers (steps_of r (given nothing (is ++ (as_items ws ++ rest))))) (length (given nothing is) + k) answer.Nothing
  same_place = own_place ∙ sym given_place
