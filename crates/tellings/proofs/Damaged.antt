-- Demand 3 with replies, as far as the reader goes: what a fresh reader that is told of each reply hands out of a line on which one stretch of words was replaced.
use Prim.Native.Nat.{ℕ, zero, suc, ◌+◌, ◌-◌, ◌*◌, ◌<◌, ◌≤◌}
use mathlib.Core.Path.{◌≡◌, refl, sym, ◌∙◌, ap}
use mathlib.Core.Bool.{true}
use mathlib.Core.List.{List, [], ◌∷◌, ◌++◌, append_assoc, append-nil, map-append}
use native.Mathlib.Omega.{arith}
use lib.ListN.{length, take, drop, get_or, length-append}
use lib.Seq.{take_all}
use lib.Dec.{leb}
use lib.IntN.{ℤ}
use borrow.Author.Tests.{leb-true, le-leb}
use Rattle.numbers.proofs.Choices.{both}
use Rattle.numbers.proofs.Tested.{left, right}
use Rattle.frames.specs.Words.{is_byte, silence, break, line_words}
use Rattle.frames.specs.Passages.{Passage, silent, finished, broken, UnderWay, nothing, first, Unbroken, Sub, InOne, passage_words, part_words, words_of, Sound, SoundOf, SoundPart}
use Rattle.frames.specs.Passages as frames
use Rattle.frames.proofs.Passages.{passages_append, sound_left, sound_right}
use Rattle.frames.proofs.Replaced.{in_one}
use Rattle.wire.specs.Line.{letter_of, marked_of, size_of}
use Rattle.wire.specs.Holds.{carried}
use Rattle.wire.specs.Messages.{Latched, Message, report, reply, message_bytes, HeldBy, SoundEnd, finished_reports}
use Rattle.wire.specs.declared.Report.{Report}
use Rattle.wire.specs.declared.Format.{Format}
use Rattle.wire.proofs.Front.{size_between}
use Rattle.wire.proofs.Codec.{bytes_length}
use Rattle.reader.specs.Counts.{handed_out}
use Rattle.reader.specs.Promises as reader
use Rattle.reader.specs.Runs.{steps_of}
use Rattle.reader.specs.DamagedLines as narrow
use Rattle.reader.specs.DamagedLines.{Given}
use Rattle.reader.specs.declared.Reader.{Reader}
use Rattle.reader.specs.declared.Answer.TheVariants as answer
use Rattle.reader.proofs.Damaged as damaged
use Rattle.reader.proofs.Lines.{line_sent}
use Rattle.reader.proofs.AsSent.{sent_legal}
use Rattle.reader.proofs.Handed.{permitted, found_at, numbers_at, given_sent}
use Rattle.replies.specs.Replying as replying
use Rattle.replies.specs.Replying.{more, fitting}
use Rattle.replies.specs.Good.{good}
use Rattle.replies.specs.Rules.{told_reader, continues}
use Rattle.replies.specs.Promises.{NewToldReader, FreshPromise}
use Rattle.tellings.specs.Items.{Item, word, telling, as_items, words_in, is_legal, legal_items, Done, ItemsPromise, own_answers_of, replies_of, Call, items_of, Called, CallsPromise, TookAll}
use Rattle.tellings.specs.Clear.{awaited_behind, Clear}
use Rattle.tellings.specs.Lines.{asked_for, passage_items, line_items, part_items, replies_sent, HandsOutAt, HandsOut, TellsReplies, InReport, in_finished_lem, in_broken_lem, in_going_lem}
use Rattle.replies.specs.declared.Awaited.{Awaited}
use Rattle.replies.specs.declared.Reply.{Reply}
use Rattle.replies.proofs.Goodness.{fresh_is_good}
use Rattle.tellings.proofs.Apart.{done_of, done_are, given, replies_over, own_over, decomposed, handed_given, behind_append, given_append, replies_append, words_behind, words_given, words_replies, same_place}
use Rattle.tellings.proofs.Calls.{took_all_lem, legal_left}
use Rattle.tellings.proofs.Passed.{WholeFrom, IsReply, awaited_for, HeldOrReply, without_replies, without_reply, over_line, end_given, sound_without, end_without, without_append, unbroken_without, finished_without, items_append, words_same, words_append, line_words_lem}
use Rattle.tellings.proofs.Meeting.{meet, meet_bytes, only_words}

-- from what the halves do to what the public reader does
module _ (f : Format) (items : List Item) (legal : legal_items items ≡ true) where
  abbrev fresh_reader : Reader
  fresh_reader = (reader.fresh_of (letter_of f)).reader

  module _ (a : NewToldReader) (new : FreshPromise (letter_of f) a) (done : List Done) (p : ItemsPromise a.reader items done) where
    fresh_good : good (told_reader fresh_reader replying.nothing) ≡ true
    fresh_good = rw (ap (λ (x : NewToldReader). x.reader) new) at (fresh_is_good (letter_of f) a new)

    is_done : done ≡ done_of (told_reader fresh_reader replying.nothing) items
    is_done = done_are a.reader items done p ∙ rw (ap (λ (x : NewToldReader). x.reader) new)

    own : own_answers_of done ≡ own_over replying.nothing fresh_reader items
    own = ap own_answers_of is_done ∙ (decomposed items replying.nothing fresh_reader fresh_good legal).own

    replies_told : replies_of done ≡ replies_over replying.nothing items
    replies_told = ap replies_of is_done ∙ (decomposed items replying.nothing fresh_reader fresh_good legal).replies

    called_all : (calls : List Call) (before : List ℤ) (called : List Called) → items_of calls ≡ items → 5 * length (handed_out (own_answers_of done)) ≤ length before
        → CallsPromise a.reader calls before called
        → TookAll calls (handed_out (own_answers_of done)) (replies_of done) before called
    called_all calls before called same room q =
        let s = ap (λ (x : NewToldReader). x.reader) new in
        let is : done ≡ done_of a.reader (items_of calls) = is_done ∙ rw (← same, ← s) in
        rw is (took_all_lem calls a.reader before called (fresh_is_good (letter_of f) a new) (rw same legal) (rw (← is) room) q)

  pub hands_out_at : (i : ℕ) (p : Report) → get_or (own_over replying.nothing fresh_reader items) i answer.Nothing ≡ answer.Report p → HandsOutAt f items i p
  hands_out_at i p h =
      record {
        by_steps = λ a done n q. rw (own a n done q) h;
        by_calls = λ a done calls before called n q same room c.
            let t = called_all a n done q calls before called same room c in
            let l = own_answers_of done in
            let at = found_at l i p (rw (own a n done q) h) in (
              t,
              rw (t.written, at)
                  (numbers_at (handed_out (take i l)) p (handed_out (drop (suc i) l)) (drop (5 * length (handed_out (take i l) ++ (p ∷ handed_out (drop (suc i) l)))) before)),
            );
      }

  pub hands_out : (found : List Report) → handed_out (own_over replying.nothing fresh_reader items) ≡ found → HandsOut f items found
  hands_out found h =
      record {
        by_steps = λ a done n q. rw (own a n done q) h;
        by_calls = λ a done calls before called n q same room c.
            let e = ap handed_out (own a n done q) ∙ h in
            rw e at (called_all a n done q calls before called same (rw e room) c);
      }

  pub tells_replies : (rs : List Reply) → replies_over replying.nothing items ≡ rs → TellsReplies f items rs
  tells_replies rs h = record { told = λ a done n q. replies_told a n done q ∙ h }

-- the items of a line are legal
pub legal_words : (ws : List ℕ) → legal_items (as_items ws) ≡ line_words ws
unfolding legal_items line_words
legal_words [] = refl
legal_words (w ∷ ws) = rw (legal_words ws)

legal_append : (p q : List Item) → legal_items p ≡ true → legal_items q ≡ true → legal_items (p ++ q) ≡ true
unfolding legal_items
legal_append [] q h k = k
legal_append (i ∷ p) q h k = rw (left (is_legal i) (legal_items p) h) (legal_append p q (right (is_legal i) (legal_items p) h) k)

its_byte : (a : Awaited) (w : ℕ) → continues a w ≡ true → leb w silence ≡ true
its_byte a w e = le-leb w silence (omega (arith, leb-true w 255 (left (is_byte w) (fitting a w) e)))

no_words : (n : ℕ) → line_words (take n []) ≡ true
unfolding line_words
no_words zero = refl
no_words (suc n) = refl

pub legal_reply : (n : ℕ) (bytes : List ℕ) (a : Awaited) → WholeFrom a bytes → line_words (take n bytes) ≡ true
unfolding line_words
legal_reply zero bytes a h = refl
legal_reply (suc n) [] a h = absurd h
legal_reply (suc n) (b ∷ []) a h = both (leb b silence) (line_words (take n [])) (its_byte a b h.0) (no_words n)
legal_reply (suc n) (b ∷ c ∷ bytes) a h = both (leb b silence) (line_words (take n (c ∷ bytes))) (its_byte a b h.0) (legal_reply n (c ∷ bytes) (more a b) h.2)

module _ (f : Format) where
  legal_report : (p : Passage Message) → SoundOf message_bytes (HeldBy f) p → line_words (words_of message_bytes p) ≡ true
  legal_report p s = rw (append-nil, append-nil) at (sent_legal f (passage_words message_bytes (p ∷ []) ++ part_words message_bytes nothing) (line_sent f (p ∷ []) nothing (s, tt) tt))

  legal_going : (n : ℕ) (m : Message) → SoundEnd f (first n m) → line_words (take n (message_bytes m)) ≡ true
  legal_going n m s = sent_legal f (take n (message_bytes m)) (line_sent f [] (first n m) tt s)

  legal_telling : (bytes : List ℕ) (ws : List ℕ) → IsReply bytes → line_words ws ≡ true → legal_items (telling (asked_for bytes) ∷ as_items ws) ≡ true
  unfolding legal_items
  legal_telling bytes ws r h = rw (r.some, legal_words ws) h

  legal_cut : (n : ℕ) (bytes : List ℕ) → IsReply bytes → line_words (take n bytes ++ (break ∷ [])) ≡ true
  unfolding line_words legal_items
  legal_cut n bytes r =
      sym (legal_words (take n bytes ++ (break ∷ [])))
      ∙ rw (map-append word (take n bytes) (break ∷ [])) (legal_append (as_items (take n bytes)) (word break ∷ []) (rw (legal_words (take n bytes)) (legal_reply n bytes (awaited_for bytes) r.whole)) refl)

  legal_one : (p : Passage Message) → SoundOf message_bytes (HeldOrReply f) p → legal_items (passage_items p) ≡ true
  unfolding legal_items
  legal_one silent s = refl
  legal_one (finished (report l)) s = rw (legal_words (message_bytes (report l))) (legal_report (finished (report l)) s)
  legal_one (finished (reply bytes)) s =
      legal_telling bytes bytes s (rw (take_all (length bytes) bytes (omega arith)) at (legal_reply (length bytes) bytes (awaited_for bytes) s.whole))
  legal_one (broken n (report l)) s = rw (legal_words (take n (message_bytes (report l)) ++ (break ∷ []))) (legal_report (broken n (report l)) s)
  legal_one (broken n (reply bytes)) s = legal_telling bytes (take n bytes ++ (break ∷ [])) s.0 (legal_cut n bytes s.0)

  legal_line : (l : List (Passage Message)) → Sound message_bytes (HeldOrReply f) l → legal_items (line_items l) ≡ true
  unfolding legal_items
  legal_line [] s = refl
  legal_line (p ∷ l) s = legal_append (passage_items p) (line_items l) (legal_one p s.0) (legal_line l s.1)

  legal_end : (g : UnderWay Message) → SoundPart message_bytes (HeldOrReply f) g → legal_items (part_items g) ≡ true
  unfolding legal_items
  legal_end nothing s = refl
  legal_end (first n (report l)) s = rw (legal_words (take n (message_bytes (report l)))) (legal_going n (report l) s)
  legal_end (first n (reply bytes)) s = legal_telling bytes (take n bytes) s.0 (legal_reply n bytes (awaited_for bytes) s.0.whole)

-- A stretch within one report lies within it in the line without its replies, too.
module _ (f : Format) (pre : List Item) (old : List ℕ) (post : List Item) (some : 0 < length old) where
  abbrev seen : List ℕ
  seen = given replying.nothing pre

  -- the passages before the report, and the bytes of it in front of the stretch
  pre_seen : (before : List (Passage Message)) (m : List Item) → Sound message_bytes (HeldOrReply f) before → pre ≡ line_items before ++ m
      → (seen ≡ passage_words message_bytes (without_replies f before) ++ given replying.nothing m) × (words_in pre ≡ passage_words message_bytes before ++ words_in m)
  pre_seen before m s e =
      let o = over_line f before s in (
        ap (given replying.nothing) e ∙ given_append (line_items before) m replying.nothing ∙ rw (o.gives, o.awaits),
        ap words_in e ∙ words_append (line_items before) m ∙ rw (line_words_lem before),
      )

  -- `bytes` are its words
  bounds : (before : List (Passage Message)) (bytes : List ℕ) (rest : List Item) (n : ℕ) → Sound message_bytes (HeldOrReply f) before
      → line_items before ++ (as_items bytes ++ rest) ≡ pre ++ (as_items old ++ post)
      → n ≤ length bytes
      → length (passage_words message_bytes before) ≤ length (words_in pre)
      → length (words_in pre) + length old ≤ length (passage_words message_bytes before) + n
      → (length (passage_words message_bytes (without_replies f before)) ≤ length seen) × (length seen + length old ≤ length (passage_words message_bytes (without_replies f before)) + n)
  bounds before bytes rest n s e t h k =
      let (m, first_part, last_part) = meet_bytes old post pre (line_items before) (as_items bytes ++ rest) some (sym e) (rw (line_words_lem before) h) in
      let (u, v) = pre_seen before m s first_part in
      let count = simp length-append at (ap length v) in
      let (ws, is) = only_words bytes m rest (as_items old ++ post) last_part (omega arith) in
      let same : length (given replying.nothing m) ≡ length (words_in m) = rw (is, words_given ws, words_same ws) in
      let all = simp length-append at (ap length u) in
      (omega arith, omega arith)

  in_seen : {passages others : List (Passage Message)} {going : UnderWay Message} → Sound message_bytes (HeldOrReply f) passages
      → line_items passages ++ part_items going ≡ pre ++ (as_items old ++ post)
      → InReport (words_in pre) old passages going others
      → InOne message_bytes seen old (without_replies f passages) (without_reply f going) (without_replies f others)
  in_seen s e (in_finished_lem before after going r h k) =
      let b = bounds before (message_bytes (report r)) (line_items after ++ part_items going) (length (message_bytes (report r))) (sound_left message_bytes (HeldOrReply f) before (finished (report r) ∷ after) s) (simp (items_append, append_assoc) at e) (omega arith) h k in
      rw (without_append f before (finished (report r) ∷ after), without_append f before after)
      (frames.in_finished_lem (without_replies f before) (without_replies f after) (without_reply f going) (report r) b.0 b.1)
  in_seen s e (in_broken_lem before after going n r h k) =
      let b = bounds before (take n (message_bytes (report r)) ++ (break ∷ [])) (line_items after ++ part_items going) (length (take n (message_bytes (report r)))) (sound_left message_bytes (HeldOrReply f) before (broken n (report r) ∷ after) s) (simp (items_append, append_assoc) at e) (simp length-append (omega arith)) h k in
      rw (without_append f before (broken n (report r) ∷ after), without_append f before after)
      (frames.in_broken_lem (without_replies f before) (without_replies f after) (without_reply f going) n (report r) b.0 b.1)
  in_seen s e (in_going_lem passages n r h) =
      let (m, first_part, last_part) = meet_bytes old post pre (line_items passages) (as_items (take n (message_bytes (report r)))) some (sym e) (rw (line_words_lem passages) h) in
      let all = simp length-append at (ap length (pre_seen passages m s first_part).0) in
      frames.in_going_lem (without_replies f passages) n (report r) (omega arith)

-- A line of f with its replies and tellings, `passages` and then `going`; of its words the stretch `old`, clear of replies, was replaced by the legal words `new`;
-- `front` stands in front.
pub record Replaced (f : Format) (passages : List (Passage Message)) (going : UnderWay Message) (front : List ℕ) (pre : List Item) (old new : List ℕ) (post : List Item) : Type 0 where
  pub sound : Sound message_bytes (HeldOrReply f) passages
  pub sound_going : SoundPart message_bytes (HeldOrReply f) going
  pub in_front : Given front
  pub as_sent_lem : line_items passages ++ part_items going ≡ pre ++ (as_items old ++ post)
  pub clear : Clear pre
  pub legal : line_words new ≡ true

module _ (f : Format) (passages : List (Passage Message)) (going : UnderWay Message) (front : List ℕ) (pre : List Item) (old new : List ℕ) (post : List Item)
    (l : Replaced f passages going front pre old new post) where
  abbrev line : List Item
  line = as_items front ++ (pre ++ (as_items new ++ post))

  line_legal : legal_items line ≡ true
  line_legal =
      let all : legal_items (pre ++ (as_items old ++ post)) ≡ true = rw l.as_sent_lem at (legal_append (line_items passages) (part_items going) (legal_line f passages l.sound) (legal_end f going l.sound_going)) in
      let parts = legal_left pre (as_items old ++ post) all in
      let last = legal_left (as_items old) post parts.1 in
      legal_append (as_items front) (pre ++ (as_items new ++ post)) (rw (legal_words front) (sent_legal f front (given_sent f l.in_front)))
      (legal_append pre (as_items new ++ post) parts.0 (legal_append (as_items new) post (rw (legal_words new) l.legal) last.1))

  -- words in the place of the stretch: the report reader is given them, and no reply is told of them
  abbrev seen_pre : List ℕ
  seen_pre = given replying.nothing pre

  abbrev seen_post : List ℕ
  seen_post = given replying.nothing post

  seen_with : (ws : List ℕ) (q : List Item) → given replying.nothing (pre ++ (as_items ws ++ q)) ≡ seen_pre ++ (ws ++ given replying.nothing q)
  seen_with ws q = given_append pre (as_items ws ++ q) replying.nothing ∙ rw (l.clear, given_append (as_items ws) q replying.nothing, words_given ws, words_behind ws)

  behind_with : (ws : List ℕ) (q : List Item) → awaited_behind replying.nothing (pre ++ (as_items ws ++ q)) ≡ awaited_behind replying.nothing q
  behind_with ws q = behind_append pre (as_items ws ++ q) replying.nothing ∙ rw (l.clear, behind_append (as_items ws) q replying.nothing, words_behind ws)

  words_with : (ws : List ℕ) (q : List Item) → words_in (pre ++ (as_items ws ++ q)) ≡ words_in pre ++ (ws ++ words_in q)
  words_with ws q = words_append pre (as_items ws ++ q) ∙ rw (words_append (as_items ws) q, words_same ws)

  seen_line : given replying.nothing line ≡ front ++ (seen_pre ++ (new ++ seen_post))
  seen_line = given_append (as_items front) (pre ++ (as_items new ++ post)) replying.nothing ∙ rw (words_given front, words_behind front, seen_with new post)

  replies_with : (ws : List ℕ) → replies_over replying.nothing (pre ++ (as_items ws ++ post)) ≡ replies_over replying.nothing pre ++ replies_over replying.nothing post
  replies_with ws = replies_append pre (as_items ws ++ post) replying.nothing ∙ rw (l.clear, replies_append (as_items ws) post replying.nothing, words_replies ws, words_behind ws)

  -- each whole reply is answered as sent
  pub replies_as_sent : TellsReplies f line (replies_sent passages)
  replies_as_sent =
      tells_replies f line line_legal (replies_sent passages)
      (replies_append (as_items front) (pre ++ (as_items new ++ post)) replying.nothing
      ∙ rw (words_replies front, words_behind front, replies_with new, ← replies_with old, ← l.as_sent_lem, replies_append (line_items passages) (part_items going) replying.nothing, (over_line f passages l.sound).tells, (over_line f passages l.sound).awaits, (end_given f going l.sound_going).1, append-nil))

  -- the line without its replies, as the narrower theorem has it
  seen_sent : passage_words message_bytes (without_replies f passages) ++ part_words message_bytes (without_reply f going) ≡ seen_pre ++ (old ++ seen_post)
  seen_sent =
      let o = over_line f passages l.sound in
      sym (given_append (line_items passages) (part_items going) replying.nothing ∙ rw (o.gives, o.awaits, (end_given f going l.sound_going).0)) ∙ ap (given replying.nothing) l.as_sent_lem ∙ seen_with old post

  without : narrow.Replaced f (without_replies f passages) (without_reply f going) front seen_pre old new seen_post
  without =
      record {
        sound = sound_without f passages l.sound;
        sound_going = end_without f going l.sound_going;
        in_front = l.in_front;
        as_sent_lem = seen_sent;
        legal = l.legal;
      }

  -- "If the stretch only removed bytes of a single report of a marked format, exactly the finished reports other than that one are handed out, in
  -- the order sent."
  pub exactly : {others : List (Passage Message)} → marked_of f ≡ true → InReport (words_in pre) old passages going others → Sub new old → length new < length old
      → HandsOut f line (finished_reports f others)
  exactly {others} t one d less =
      let r = (reader.fresh_of (letter_of f)).reader in
      let seen = front ++ (seen_pre ++ (new ++ seen_post)) in
      let inside = in_seen f pre old post (omega arith) l.sound l.as_sent_lem one in
      let lost = in_one message_bytes seen_post new seen_sent inside d less in
      let h = (damaged.exactly f t without.sound without.sound_going l.in_front lost (reader.fresh_of (letter_of f)) refl).by_steps (steps_of r seen) (permitted r seen) in
      hands_out f line line_legal (finished_reports f others) (handed_given line replying.nothing r ∙ rw seen_line h ∙ finished_without f others)

  -- passages that end behind the stretch do so without their replies, too
  within_seen : (ahead : List (Passage Message)) (w : ℕ) (b : List Item) → Sound message_bytes (HeldOrReply f) ahead → line_items ahead ++ (word w ∷ b) ≡ pre ++ (as_items old ++ post)
      → narrow.Within ahead (words_in pre) old
      → narrow.Within (without_replies f ahead) seen_pre old
  within_seen ahead w b s e h =
      let (m, first_part, last_part) = meet w b (line_items ahead) (pre ++ as_items old) post (e ∙ sym (append_assoc pre (as_items old) post))
      (rw (words_append pre (as_items old), words_same old, length-append (words_in pre) old, line_words_lem ahead) h) in
      let is = sym (over_line f ahead s).gives ∙ ap (given replying.nothing) (first_part ∙ append_assoc pre (as_items old) m) ∙ seen_with old m in
      rw is (simp length-append (omega arith))

  -- The passages are `before`, the finished report r, and `after`; i is the place of the word that ends r.
  module _ (before : List (Passage Message)) (r : Latched) (after : List (Passage Message)) (is : passages ≡ before ++ (finished (report r) ∷ after))
      (i : ℕ) (place : narrow.EndsAt f before front old new i) where
    abbrev bytes : List ℕ
    bytes = message_bytes (report r)

    abbrev rest : List Item
    rest = line_items after ++ part_items going

    held : HeldBy f (report r)
    held = (sound_right message_bytes (HeldOrReply f) before (finished (report r) ∷ after) (rw is at l.sound)).0

    before_sound : Sound message_bytes (HeldOrReply f) before
    before_sound = sound_left message_bytes (HeldOrReply f) before (finished (report r) ∷ after) (rw is at l.sound)

    size_is : length bytes ≡ size_of f
    size_is = rw held.0 (bytes_length f r.report)

    met : narrow.Within before (words_in pre) old → (m : List Item) × (line_items before ≡ (pre ++ as_items old) ++ m) × (post ≡ m ++ (as_items bytes ++ rest))
    met h =
        let e : line_items before ++ (as_items bytes ++ rest) ≡ pre ++ (as_items old ++ post) = simp (is, items_append, append_assoc) at l.as_sent_lem in
        meet_bytes bytes rest (line_items before) (pre ++ as_items old) post (omega (arith, size_is, (size_between f).0)) (e ∙ sym (append_assoc pre (as_items old) post))
        (rw (words_append pre (as_items old), words_same old, length-append (words_in pre) old, line_words_lem before) h)

    -- Where the line without its replies has the report at its place, so has the line itself.
    module _ (p : Report) (m : List Item) (first_part : line_items before ≡ (pre ++ as_items old) ++ m) (last_part : post ≡ m ++ (as_items bytes ++ rest)) where
      abbrev ahead : List Item
      ahead = as_items front ++ (pre ++ (as_items new ++ m))

      before_is : line_items before ≡ pre ++ (as_items old ++ m)
      before_is = first_part ∙ append_assoc pre (as_items old) m

      m_clear : awaited_behind replying.nothing m ≡ replying.nothing
      m_clear = sym (behind_with old m) ∙ ap (awaited_behind replying.nothing) (sym before_is) ∙ (over_line f before before_sound).awaits

      ahead_clear : awaited_behind replying.nothing ahead ≡ replying.nothing
      ahead_clear = behind_append (as_items front) (pre ++ (as_items new ++ m)) replying.nothing ∙ rw (words_behind front, behind_with new m) m_clear

      ahead_given : given replying.nothing ahead ≡ front ++ (seen_pre ++ (new ++ given replying.nothing m))
      ahead_given = given_append (as_items front) (pre ++ (as_items new ++ m)) replying.nothing ∙ rw (words_given front, words_behind front, seen_with new m)

      ahead_words : words_in ahead ≡ front ++ (words_in pre ++ (new ++ words_in m))
      ahead_words = words_append (as_items front) (pre ++ (as_items new ++ m)) ∙ rw (words_same front, words_with new m)

      pub before_given : passage_words message_bytes (without_replies f before) ≡ seen_pre ++ (old ++ given replying.nothing m)
      before_given = sym (over_line f before before_sound).gives ∙ ap (given replying.nothing) before_is ∙ seen_with old m

      before_words : passage_words message_bytes before ≡ words_in pre ++ (old ++ words_in m)
      before_words = sym (line_words_lem before) ∙ ap words_in before_is ∙ words_with old m

      line_is : line ≡ ahead ++ (as_items bytes ++ rest)
      line_is = rw last_part (simp append_assoc)

      abbrev k : ℕ
      k = size_of f - 1

      abbrev j : ℕ
      j = length (given replying.nothing ahead) + k

      seen_place : narrow.EndsAt f (without_replies f before) front old new j
      seen_place = rw (ahead_given, before_given) (simp length-append (omega (arith, (size_between f).0)))

      same_i : length (words_in ahead) + k ≡ i
      same_i =
          let e = simp length-append at (rw before_words at place) in
          rw ahead_words (simp length-append (omega (arith, (size_between f).0, e)))

      pub handed : (narrow.EndsAt f (without_replies f before) front old new j → narrow.HandsOutAt f (front ++ (seen_pre ++ (new ++ seen_post))) j p) → HandsOutAt f line i p
      handed n =
          let r = (reader.fresh_of (letter_of f)).reader in
          let seen = front ++ (seen_pre ++ (new ++ seen_post)) in
          let h = (n seen_place).by_steps (reader.fresh_of (letter_of f)) (steps_of r seen) refl (permitted r seen) in
          hands_out_at f line line_legal i p
          (rw (← same_i, line_is) (same_place ahead bytes rest r k ahead_clear (omega (arith, size_is, (size_between f).0)) ∙ rw (← line_is, seen_line) h))

    is_without : without_replies f passages ≡ without_replies f before ++ (finished (report r) ∷ without_replies f after)
    is_without = rw is (without_append f before (finished (report r) ∷ after))

    -- "In the four formats with a marked first byte, each finished report that begins after the stretch is handed out as the box sent it."
    pub marked : marked_of f ≡ true → narrow.Within before (words_in pre) old → HandsOutAt f line i (carried f r.report)
    marked t h =
        let (m, a, b) = met h in
        handed (carried f r.report) m a b
        (λ at. damaged.marked f (without_replies f passages) (without_reply f going) front seen_pre old new seen_post without (without_replies f before) r (without_replies f after) is_without
        _ at t (rw (before_given (carried f r.report) m a b) (simp length-append (omega arith))))

    -- "In the other three this holds for each finished report that begins after a silence following the stretch, with no broken-off report between."
    pub unmarked : (quietly ahead : List (Passage Message)) → before ≡ ahead ++ (silent ∷ quietly) → Unbroken quietly → narrow.Within ahead (words_in pre) old
        → HandsOutAt f line i (carried f r.report)
    unmarked quietly ahead e u h =
        let longer : length (passage_words message_bytes ahead) ≤ length (passage_words message_bytes before) = rw (e, passages_append message_bytes, length-append) (omega arith) in
        let (m, a, b) = met (omega arith) in
        handed (carried f r.report) m a b
        (λ at. damaged.unmarked f (without_replies f passages) (without_reply f going) front seen_pre old new seen_post without (without_replies f before) r (without_replies f after) is_without
        _ at (without_replies f ahead) (without_replies f quietly) (rw e (without_append f ahead (silent ∷ quietly))) (unbroken_without f quietly u)
        (within_seen ahead silence (line_items quietly ++ (as_items bytes ++ rest)) (sound_left message_bytes (HeldOrReply f) ahead (silent ∷ quietly) (rw e at before_sound)) (simp (is, e, items_append, append_assoc) at l.as_sent_lem) h))
