-- A fresh reader that is told of each reply, over a line with replies: as it was sent, and where all damage shows.
use Prim.Native.Nat.{ℕ, zero, suc, ◌+◌, ◌≤◌, ◌<◌}
use mathlib.Core.Path.{◌≡◌, refl, sym, ◌∙◌}
use mathlib.Core.Bool.{Bool, true, false, not, ◌&&◌}
use mathlib.Core.List.{List, [], ◌∷◌, ◌++◌, append_assoc, append-nil, map-append}
use native.Mathlib.Omega.{arith}
use lib.ListN.{length, take}
use lib.Seq.{take_all}
use lib.Dec.{T, leb, eqb}
use lib.Count.{ones, ones_in}
use borrow.Author.Tests.{le-leb, eq-eqb, eqb-true, not-true}
use Rattle.numbers.specs.Bits.{number, bit, bits}
use Rattle.numbers.specs.Tests.{each}
use Rattle.numbers.proofs.Choices.{both, cases}
use Rattle.numbers.proofs.Tested.{holds, left, right, ranged, equal}
use Rattle.frames.specs.Words.{break, silence}
use Rattle.frames.specs.Passages.{Passage, silent, finished, broken, UnderWay, nothing, first, Unpaused, Sub, words_of, passage_words, part_words, Sound, SoundOf, SoundPart}
use Rattle.frames.specs.Frame.{Whole, Part, read}
use Rattle.frames.proofs.Passages.{finished_append}
use Rattle.frames.proofs.Sub.{sub_all, sub_none, sub_append}
use Rattle.frames.proofs.Reading.{part_of}
use Rattle.frames.proofs.Words.{passing, passing_append}
use Rattle.wire.specs.Line.{letter_of, marked_of}
use Rattle.wire.specs.Places.{like, fits_first, fits_later, fits_at}
use Rattle.wire.specs.Messages.{Message, report, reply, message_bytes, HeldBy, carried_in, finished_reports}
use Rattle.wire.specs.declared.Report.{Report}
use Rattle.wire.specs.declared.Format.{Format}
use Rattle.wire.specs.declared.Format.TheVariants.{Mm, Microsoft, Absolute, Relative, FiveByte, ThreeByte, Hexadecimal}
use Rattle.reader.specs.Rules.{entered}
use Rattle.reader.specs.Counts.{handed_out}
use Rattle.reader.specs.Promises as reader
use Rattle.reader.specs.Runs.{steps_of, answers}
use Rattle.reader.specs.DamagedLines as narrow
use Rattle.reader.specs.DamagedLines.{Given, no_word, a_break, is_fresh}
use Rattle.reader.specs.declared.Reader.{Reader}
use Rattle.reader.proofs.Entered.{enters_in_v, enters_outside_v}
use Rattle.reader.proofs.Framed.{frame_of, laws, is_marked, state_of, fresh_of_lem}
use Rattle.reader.proofs.AsSent.{plain, as_sent, sent_legal, sent_enters, break_plain, silence_plain}
use Rattle.reader.proofs.Lines.{held_framed, line_sent}
use Rattle.reader.proofs.Handed.{permitted, hands_out_by, given_sent}
use Rattle.reader.proofs.Followed.{fresh_followed_marked, fresh_followed}
use Rattle.reader.proofs.Shown as shown
use Rattle.replies.specs.Replying as replying
use Rattle.replies.specs.Replying.{is_none, more}
use Rattle.replies.specs.Rules.{kind_of, continues}
use Rattle.replies.specs.declared.Awaited.{Awaited}
use Rattle.tellings.specs.Items.{Item, word, telling, as_items, legal_items}
use Rattle.tellings.specs.Clear.{awaited_then}
use Rattle.tellings.specs.Lines.{asked_for, passage_items, line_items, part_items, HandsOut}
use Rattle.tellings.specs.Damage.{ShownItems, whole, stays, unheard, scar, comes_in, Followed, marked, since, TrueOf}
use Rattle.tellings.proofs.Apart.{given, given_of, handed_given, given_append, words_given, words_behind}
use Rattle.tellings.proofs.Passed.{WholeFrom, OfSort, AllOfSort, IsReply, awaited_for, HeldOrReply, without_replies, without_reply, over_line, end_given, sound_without, end_without, without_append, unbroken_without, finished_without}
use Rattle.tellings.proofs.Damaged.{hands_out}
use Rattle.tellings.proofs.Strays.{Place, between, inside, in_reply, Way, ends, pauses, breaks, begins, goes_on, ends_report, tells, replies, ends_reply, outside, same, Erased, erased}

-- Bytes below 40H begin no report of a marked format. Letters begin none of S, and go on with none of V, A and B.
none_begun : (f : Format) (lo : ℕ) → T (each (λ k. not (fits_first f (lo + k))) 0x40) → (b : ℕ) → lo ≤ b → b < lo + 0x40 → fits_first f b ≡ true → ⊥
none_begun f lo t b h k e = holds (rw e at (ranged (λ b. not (fits_first f b)) lo 0x40 t b h k))

none_later : (f : Format) (lo : ℕ) → T (each (λ k. not (fits_later f (lo + k))) 0x40) → (c : ℕ) → lo ≤ c → c < lo + 0x40 → fits_later f c ≡ false
none_later f lo t c h k = not-true (fits_later f c) (ranged (λ c. not (fits_later f c)) lo 0x40 t c h k)

kept_apart : (f : Format) → marked_of f ≡ true → (letters : Bool) (b c : ℕ) → OfSort letters b → OfSort letters c → fits_first f b ≡ true → fits_later f c ≡ false
unfolding fits_first fits_later like bit ones ones_in
kept_apart Mm m true b c o q h = absurd (none_begun Mm 0x40 tt b o.0 o.1 h)
kept_apart Mm m false b c o q h = absurd (none_begun Mm 0 tt b o.0 o.1 h)
kept_apart Microsoft m true b c o q h = none_later Microsoft 0x40 tt c q.0 q.1
kept_apart Microsoft m false b c o q h = absurd (none_begun Microsoft 0 tt b o.0 o.1 h)
kept_apart Absolute m true b c o q h = none_later Absolute 0x40 tt c q.0 q.1
kept_apart Absolute m false b c o q h = absurd (none_begun Absolute 0 tt b o.0 o.1 h)
kept_apart Relative m true b c o q h = none_later Relative 0x40 tt c q.0 q.1
kept_apart Relative m false b c o q h = absurd (none_begun Relative 0 tt b o.0 o.1 h)
kept_apart FiveByte m letters b c o q h = absurd (holds m)
kept_apart ThreeByte m letters b c o q h = absurd (holds m)
kept_apart Hexadecimal m letters b c o q h = absurd (holds m)

apart_in_place : (f : Format) → marked_of f ≡ true → (letters : Bool) (b c : ℕ) → OfSort letters b → OfSort letters c → fits_at f 0 b ≡ true → fits_at f 1 c ≡ false
unfolding fits_at
apart_in_place f m letters b c o q h = kept_apart f m letters b c o q h

-- a reply's bytes enter as they are
seven : (letters : Bool) (b : ℕ) → OfSort letters b → b < 0x80
seven true b o = omega arith
seven false b o = omega arith

low_enters : (f : Format) (b : ℕ) → b < 0x80 → entered (letter_of f) b ≡ b
unfolding bit bits number
low_enters f b l = go (eqb (letter_of f) (letter_of Microsoft)) refl
  where
    go : (t : Bool) → eqb (letter_of f) (letter_of Microsoft) ≡ t → entered (letter_of f) b ≡ b
    go true e = rw (eqb-true (letter_of f) (letter_of Microsoft) e, enters_in_v b) (equal (λ n. number (bits 7 0 n)) (λ n. n) 0x80 tt b l)
    go false e = enters_outside_v (letter_of f) b e

low_plain : (f : Format) (b : ℕ) → b < 0x80 → plain f b ≡ true
low_plain f b l = rw (le-leb b silence (omega arith), le-leb b 255 (omega arith), low_enters f b l, eq-eqb b b refl)

module _ (f : Format) where
  -- items of which each word enters as it is
  abbrev is_plain : Item → Bool
  is_plain (word w) = plain f w
  is_plain (telling asked) = not (is_none (kind_of asked))

  unfoldable pub plain_items : List Item → Bool
  plain_items [] = true
  plain_items (i ∷ items) = is_plain i && plain_items items

  pub plain_append : (p q : List Item) → plain_items p ≡ true → plain_items q ≡ true → plain_items (p ++ q) ≡ true
  unfolding plain_items
  plain_append [] q h k = k
  plain_append (i ∷ p) q h k = both (is_plain i) (plain_items (p ++ q)) (left (is_plain i) (plain_items p) h) (plain_append p q (right (is_plain i) (plain_items p) h) k)

  plain_right : (p q : List Item) → plain_items (p ++ q) ≡ true → plain_items q ≡ true
  unfolding plain_items
  plain_right [] q h = h
  plain_right (i ∷ p) q h = plain_right p q (right (is_plain i) (plain_items (p ++ q)) h)

  pub plain_words : (ws : List ℕ) → as_sent f ws ≡ true → plain_items (as_items ws) ≡ true
  unfolding plain_items passing
  plain_words [] h = refl
  plain_words (w ∷ ws) h = both (plain f w) (plain_items (as_items ws)) (left (plain f w) (as_sent f ws) h) (plain_words ws (right (plain f w) (as_sent f ws) h))

  pub plain_legal : (items : List Item) → plain_items items ≡ true → legal_items items ≡ true
  unfolding plain_items legal_items
  plain_legal [] h = refl
  plain_legal (word w ∷ items) h =
      both (leb w silence) (legal_items items) (left (leb w silence) _ (left (plain f w) (plain_items items) h)) (plain_legal items (right (plain f w) (plain_items items) h))
  plain_legal (telling asked ∷ items) h =
      let t = not (is_none (kind_of asked)) in both t (legal_items items) (left t (plain_items items) h) (plain_legal items (right t (plain_items items) h))

  pub plain_given : (items : List Item) (a : Awaited) → plain_items items ≡ true → as_sent f (given a items) ≡ true
  unfolding plain_items given passing
  plain_given [] a h = refl
  plain_given (word w ∷ items) a h =
      passing_append (plain f) (given_of a w) (given (awaited_then a (word w)) items)
      (cases (λ (l : List ℕ). as_sent f l ≡ true) (continues a w) (λ _. refl) (λ _. both (plain f w) true (left (plain f w) (plain_items items) h) refl))
      (plain_given items (awaited_then a (word w)) (right (plain f w) (plain_items items) h))
  plain_given (telling asked ∷ items) a h = plain_given items (awaited_then a (telling asked)) (right (not (is_none (kind_of asked))) (plain_items items) h)

  -- and so does each that is left
  pub plain_shown : {rest items : List Item} → ShownItems (marked_of f) rest items → plain_items items ≡ true → plain_items rest ≡ true
  unfolding plain_items
  plain_shown whole h = h
  plain_shown (stays {i = i} {left = ds} {items = is} d) h = both (is_plain i) (plain_items ds) (left (is_plain i) (plain_items is) h) (plain_shown d (right (is_plain i) (plain_items is) h))
  plain_shown (unheard {items = is} d) h = plain_shown d (right (plain f silence) (plain_items is) h)
  plain_shown (scar lost {left = ds} {items = is} d) h = both (plain f break) (plain_items ds) (break_plain f) (plain_shown d (plain_right (as_items lost) is h))
  plain_shown (comes_in {left = ds} m d) h = both (plain f silence) (plain_items ds) (silence_plain f) (plain_shown d h)

  -- a line with its replies is such
  reply_plain : (letters : Bool) (bytes : List ℕ) → AllOfSort letters bytes → (n : ℕ) → as_sent f (take n bytes) ≡ true
  unfolding passing
  reply_plain letters bytes o zero = refl
  reply_plain letters [] o (suc n) = refl
  reply_plain letters (b ∷ bytes) o (suc n) = both (plain f b) (as_sent f (take n bytes)) (low_plain f b (seven letters b o.0)) (reply_plain letters bytes o.1 n)

  pub report_plain : (p : Passage Message) → SoundOf message_bytes (HeldBy f) p → as_sent f (words_of message_bytes p) ≡ true
  report_plain p s = rw (append-nil, append-nil) at (line_sent f (p ∷ []) nothing (s, tt) tt)

  told_plain : (bytes ws : List ℕ) → IsReply bytes → as_sent f ws ≡ true → plain_items (telling (asked_for bytes) ∷ as_items ws) ≡ true
  unfolding plain_items
  told_plain bytes ws r h = both (not (is_none (kind_of (asked_for bytes)))) (plain_items (as_items ws)) (rw r.some) (plain_words ws h)

  cut_plain : (bytes : List ℕ) → IsReply bytes → (n : ℕ) → as_sent f (take n bytes ++ (break ∷ [])) ≡ true
  unfolding passing
  cut_plain bytes r n = passing_append (plain f) (take n bytes) (break ∷ []) (reply_plain r.letters bytes r.alike n) (both (plain f break) true (break_plain f) refl)

  one_plain : (p : Passage Message) → SoundOf message_bytes (HeldOrReply f) p → plain_items (passage_items p) ≡ true
  one_plain silent s = plain_words (silence ∷ []) (report_plain silent s)
  one_plain (finished (report l)) s = plain_words (message_bytes (report l)) (report_plain (finished (report l)) s)
  one_plain (finished (reply bytes)) s =
      told_plain bytes bytes s (rw (take_all (length bytes) bytes (omega arith)) at (reply_plain s.letters bytes s.alike (length bytes)))
  one_plain (broken n (report l)) s = plain_words (take n (message_bytes (report l)) ++ (break ∷ [])) (report_plain (broken n (report l)) s)
  one_plain (broken n (reply bytes)) s = told_plain bytes (take n bytes ++ (break ∷ [])) s.0 (cut_plain bytes s.0 n)

  pub line_plain : (l : List (Passage Message)) → Sound message_bytes (HeldOrReply f) l → plain_items (line_items l) ≡ true
  unfolding plain_items
  line_plain [] s = refl
  line_plain (p ∷ l) s = plain_append (passage_items p) (line_items l) (one_plain p s.0) (line_plain l s.1)

  pub end_plain : (g : UnderWay Message) → SoundPart message_bytes (HeldOrReply f) g → plain_items (part_items g) ≡ true
  unfolding plain_items
  end_plain nothing s = refl
  end_plain (first n (report l)) s = plain_words (take n (message_bytes (report l))) (line_sent f [] (first n (report l)) tt s)
  end_plain (first n (reply bytes)) s = told_plain bytes (take n bytes) s.0 (reply_plain s.0.letters bytes s.0.alike n)

  -- and goes its way: reports, whole or in part, and replies
  abbrev pub Goes : Place → List Item → Type 0
  Goes p items = Way (frame_of f) p items

  rest_way : (b : ℕ) (bytes : List ℕ) {items : List Item} → Goes between items → Goes inside (word b ∷ as_items bytes ++ items)
  rest_way b [] l = ends_report l
  rest_way b (c ∷ bytes) l = goes_on (rest_way c bytes l)

  whole_way : (bytes : List ℕ) {items : List Item} → Whole (frame_of f) bytes → Goes between items → Goes between (as_items bytes ++ items)
  whole_way [] w l = absurd w.1
  whole_way (b ∷ []) w l = absurd (omega (arith, (laws f).long b w.0.0, w.1))
  whole_way (b ∷ c ∷ bytes) w l = begins w.0.0 (rest_way c bytes l)

  more_way : (bytes : List ℕ) {items : List Item} → ((p : Place) → Goes p items) → Goes inside (as_items bytes ++ items)
  more_way [] l = l inside
  more_way (b ∷ bytes) l = goes_on (more_way bytes l)

  part_way : (bytes : List ℕ) {items : List Item} → Part (frame_of f) bytes → ((p : Place) → Goes p items) → Goes between (as_items bytes ++ items)
  part_way [] w l = l between
  part_way (b ∷ bytes) w l = begins w.0.0 (more_way bytes l)

  reply_way : (bytes : List ℕ) (a : Awaited) (letters : Bool) {items : List Item} → WholeFrom a bytes → AllOfSort letters bytes → Goes between items
      → Goes (in_reply a letters) (as_items bytes ++ items)
  reply_way [] a letters w o l = absurd w
  reply_way (b ∷ []) a letters w o l = ends_reply w.0 o.0 w.1 l
  reply_way (b ∷ c ∷ bytes) a letters w o l = replies w.0 o.0 w.1 (reply_way (c ∷ bytes) (more a b) letters w.2 o.1 l)

  reply_part : (n : ℕ) (bytes : List ℕ) (a : Awaited) (letters : Bool) {items : List Item} → WholeFrom a bytes → AllOfSort letters bytes → n < length bytes
      → ((p : Place) → Goes p items)
      → Goes (in_reply a letters) (as_items (take n bytes) ++ items)
  reply_part zero bytes a letters w o h l = l (in_reply a letters)
  reply_part (suc n) [] a letters w o h l = absurd w
  reply_part (suc n) (b ∷ []) a letters w o h l = absurd (omega arith)
  reply_part (suc n) (b ∷ c ∷ bytes) a letters w o h l = replies w.0 o.0 w.1 (reply_part n (c ∷ bytes) (more a b) letters w.2 o.1 (omega arith) l)

  report_part : (n : ℕ) (m : Message) {items : List Item} → HeldBy f m → n < length (message_bytes m) → ((p : Place) → Goes p items) → Goes between (as_items (take n (message_bytes m)) ++ items)
  report_part n m h k l = part_way (take n (message_bytes m)) (part_of (frame_of f) (message_bytes m) n (held_framed f m h) k) l

  one_way : (p : Passage Message) {items : List Item} → SoundOf message_bytes (HeldOrReply f) p → Goes between items → Goes between (passage_items p ++ items)
  one_way silent s l = pauses l
  one_way (finished (report m)) s l = whole_way (message_bytes (report m)) (held_framed f (report m) s) l
  one_way (finished (reply bytes)) s l = tells (reply_way bytes (awaited_for bytes) s.letters s.whole s.alike l)
  one_way (broken n (report m)) s l =
      rw (map-append word (take n (message_bytes (report m))) (break ∷ []), append_assoc (as_items (take n (message_bytes (report m)))))
      (report_part n (report m) s.0 s.1 (λ p. breaks l))
  one_way (broken n (reply bytes)) s l =
      rw (map-append word (take n bytes) (break ∷ []), append_assoc (as_items (take n bytes)))
      (tells (reply_part n bytes (awaited_for bytes) s.0.letters s.0.whole s.0.alike s.1 (λ p. breaks l)))

  pub line_way : (l : List (Passage Message)) {items : List Item} → Sound message_bytes (HeldOrReply f) l → Goes between items → Goes between (line_items l ++ items)
  line_way [] s w = w
  line_way (p ∷ l) s w = rw append_assoc (one_way p s.0 (line_way l s.1 w))

  end_way : (g : UnderWay Message) → SoundPart message_bytes (HeldOrReply f) g → Goes between (part_items g)
  end_way nothing s = ends
  end_way (first n (report m)) s = rw append-nil at (report_part n (report m) {items = []} s.0 s.1 (λ p. ends))
  end_way (first n (reply bytes)) s =
      tells (rw append-nil at (reply_part n bytes (awaited_for bytes) s.0.letters {items = []} s.0.whole s.0.alike s.1 (λ p. ends)))

  pub front_way : {front : List ℕ} {items : List Item} → Given front → Goes between items → Goes between (as_items front ++ items)
  front_way no_word l = l
  front_way a_break l = breaks l

  -- no silence is among passages without their replies where none is among them
  unpaused_without : (l : List (Passage Message)) → Unpaused l → Unpaused (without_replies f l)
  unpaused_without [] u = tt
  unpaused_without (silent ∷ l) u = absurd u
  unpaused_without (finished (report x) ∷ l) u = unpaused_without l u
  unpaused_without (finished (reply bytes) ∷ l) u = unpaused_without l u
  unpaused_without (broken n (report x) ∷ l) u = unpaused_without l u
  unpaused_without (broken n (reply bytes) ∷ l) u = unpaused_without l u

-- what is handed out of a line that is followed is some of its finished reports, or all
pub followed_some : {f : Format} {passages : List (Passage Message)} {found : List Report} → Followed f passages found → Sub found (finished_reports f passages)
followed_some {f} {passages} (marked m) = sub_all (finished_reports f passages)
followed_some {f} (since front rest m is u v) =
    rw (is, finished_append (carried_in f) front (silent ∷ rest)) (sub_append (sub_none (finished_reports f front)) (sub_all (finished_reports f rest)))

-- The line: `passages` and then `going`, with their tellings; `front` stands in front.
module _ (f : Format) (passages : List (Passage Message)) (going : UnderWay Message) (s : Sound message_bytes (HeldOrReply f) passages) (e : SoundPart message_bytes (HeldOrReply f) going) where
  abbrev line : List Item
  line = line_items passages ++ part_items going

  abbrev seen : List ℕ
  seen = passage_words message_bytes (without_replies f passages) ++ part_words message_bytes (without_reply f going)

  -- the report reader is given the line without its replies
  line_seen : given replying.nothing line ≡ seen
  line_seen =
      let o = over_line f passages s in
      given_append (line_items passages) (part_items going) replying.nothing ∙ rw (o.gives, o.awaits, (end_given f going e).0)

  all_plain : plain_items f line ≡ true
  all_plain = plain_append f (line_items passages) (part_items going) (line_plain f passages s) (end_plain f going e)

  abbrev fresh_reader : Reader
  fresh_reader = (reader.fresh_of (letter_of f)).reader

  as_seen : {found : List Report} → narrow.HandsOut f seen found → HandsOut f line found
  as_seen {found} h =
      hands_out f line (plain_legal f line all_plain) found
      (handed_given line replying.nothing fresh_reader ∙ rw line_seen ((h (reader.fresh_of (letter_of f)) refl).by_steps (steps_of fresh_reader seen) (permitted fresh_reader seen)))

  -- As it was sent: the finished reports, or those behind the first silence.
  pub followed : {found : List Report} → Followed f passages found → HandsOut f line found
  followed (marked m) =
      as_seen (λ a p. rw (finished_without f passages) at (fresh_followed_marked f (without_replies f passages) (without_reply f going) (sound_without f passages s) (end_without f going e) m a p))
  followed (since front rest m is u v) =
      as_seen (λ a p.
      rw (finished_without f rest) at
      (fresh_followed f (without_replies f passages) (without_reply f going) (sound_without f passages s) (end_without f going e) (without_replies f front) (without_replies f rest)
      (rw is (without_append f front (silent ∷ rest))) m (unpaused_without f front u) (unbroken_without f rest v) a p))

  -- Where all damage shows: some of them, or all.
  module _ {front : List ℕ} (in_front : Given front) where
    abbrev line_behind : List Item
    line_behind = as_items front ++ line

    behind_seen : given replying.nothing line_behind ≡ front ++ seen
    behind_seen = given_append (as_items front) line replying.nothing ∙ rw (words_given front, words_behind front, line_seen)

    behind_way : Goes f between line_behind
    behind_way = front_way f in_front (line_way f passages s (end_way f going e))

    behind_plain : plain_items f line_behind ≡ true
    behind_plain = plain_append f (as_items front) line (plain_words f front (given_sent f in_front)) all_plain

    seen_sent : as_sent f (front ++ seen) ≡ true
    seen_sent =
        passing_append (plain f) front seen (given_sent f in_front)
        (line_sent f (without_replies f passages) (without_reply f going) (sound_without f passages s) (end_without f going e))

    -- the frame's reader, and the public one
    read_out : (ws : List ℕ) → as_sent f ws ≡ true → handed_out (answers (steps_of fresh_reader ws)) ≡ read (frame_of f) (state_of fresh_reader) ws
    read_out ws h =
        (hands_out_by f ws ws (sent_legal f ws h) (sent_enters f ws h) fresh_reader (fresh_of_lem f (reader.fresh_of (letter_of f)) refl) (read (frame_of f) (state_of fresh_reader) ws) refl).by_steps
        (steps_of fresh_reader ws) (permitted fresh_reader ws)

    pub shown_true : {rest : List Item} → ShownItems (marked_of f) rest line_behind → TrueOf f rest (finished_reports f passages)
    shown_true {rest} d =
        let r = state_of fresh_reader in
        let x : Erased (frame_of f) r r (given replying.nothing rest) (front ++ seen) =
        rw behind_seen at (erased (frame_of f) (laws f) (is_marked f) (apart_in_place f) d between replying.nothing r r behind_way (outside same)) in
        let t = shown.shown_true f (without_replies f passages) (without_reply f going) (sound_without f passages s) (end_without f going e) in_front (is_fresh (reader.fresh_of (letter_of f)) refl) x.shown in
        let p = plain_shown f d behind_plain in
        let same_found : handed_out (answers (steps_of fresh_reader (given replying.nothing rest))) ≡ t.found =
        read_out (given replying.nothing rest) (plain_given f rest replying.nothing p)
        ∙ (x.same_read ∙ (sym (read_out x.rest (shown.shown_plain f x.shown seen_sent)) ∙ t.hands_out.by_steps (steps_of fresh_reader x.rest) (permitted fresh_reader x.rest))) in
        record {
          found = t.found;
          hands_out = hands_out f rest (plain_legal f rest p) t.found (handed_given rest replying.nothing fresh_reader ∙ same_found);
          among = rw (finished_without f passages) at t.among;
        }
