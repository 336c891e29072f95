-- A finished report of which every byte stays is handed out by a told reader, whatever is damaged before and behind it,
-- replies too: in a marked format, and in an unmarked one behind a silence.
use Prim.Native.Nat.{ℕ, suc, ◌+◌, ◌-◌}
use mathlib.Core.Path.{◌≡◌, refl, sym, ◌∙◌, ap}
use mathlib.Core.Bool.{Bool, true}
use mathlib.Core.List.{List, [], ◌∷◌, ◌++◌, append_assoc, append-nil}
use mathlib.Core.Logic.{◌⊎◌, inl, inr, ⊎_elim}
use native.Mathlib.Omega.{arith}
use lib.ListN.{length, length-append}
use Rattle.numbers.proofs.Choices.{both}
use Rattle.numbers.proofs.Tested.{holds}
use Rattle.frames.specs.Words.{silence}
use Rattle.frames.specs.Passages.{Passage, silent, finished, UnderWay, Unbroken, passage_words, Sound, SoundPart}
use Rattle.frames.specs.Frame.{Frame}
use Rattle.frames.proofs.Passages.{sound_left, sound_right}
use Rattle.frames.proofs.Replaced as replaced
use Rattle.wire.specs.Line.{letter_of, size_of, marked_of}
use Rattle.wire.specs.Holds.{carried}
use Rattle.wire.specs.Reading.{report_of}
use Rattle.wire.specs.Messages.{Latched, Message, report, message_bytes, HeldBy}
use Rattle.wire.specs.declared.Format.{Format}
use Rattle.wire.proofs.Front.{size_between}
use Rattle.wire.proofs.Codec.{bytes_length, there}
use Rattle.reader.specs.Promises as reader
use Rattle.reader.specs.Runs.{steps_of}
use Rattle.reader.specs.DamagedLines.{Given}
use Rattle.reader.specs.declared.Reader.{Reader}
use Rattle.reader.proofs.Framed.{frame_of, laws, is_marked}
use Rattle.reader.proofs.AsSent.{sent_legal, sent_enters, silence_plain}
use Rattle.reader.proofs.Lines.{held_framed, framed_line}
use Rattle.reader.proofs.Handed as narrow
use Rattle.reader.proofs.Handed.{permitted, given_sent}
use Rattle.replies.specs.Replying.{none, awaiting, nothing, more}
use Rattle.replies.specs.Rules.{kind_of}
use Rattle.replies.specs.declared.Awaited.{Awaited}
use Rattle.replies.proofs.Lines.{none_continues}
use Rattle.tellings.specs.Items.{Item, word, telling, as_items, words_in}
use Rattle.tellings.specs.Clear.{awaited_then, awaited_behind}
use Rattle.tellings.specs.Lines.{line_items, part_items, HandsOutAt}
use Rattle.tellings.specs.Damage.{ShownItems, whole, stays, unheard, scar, comes_in}
use Rattle.tellings.proofs.Apart.{given, given_append, behind_append, words_given, words_behind, same_place}
use Rattle.tellings.proofs.Passed.{HeldOrReply, without_replies, over_line, sound_without, unbroken_without, words_append, line_words_lem}
use Rattle.tellings.proofs.Damaged.{hands_out_at}
use Rattle.tellings.proofs.Strays.{given_past, Place, between, inside, in_reply, awaited_at, Way, ends, pauses, breaks, begins, goes_on, ends_report, tells, replies, ends_reply}
use Rattle.tellings.proofs.Shown.{plain_items, plain_append, plain_words, plain_legal, plain_given, plain_shown, report_plain, line_plain, end_plain, line_way, front_way}

-- What is awaited behind damaged items: what is awaited behind those that were sent, or nothing.
word_past : (w : ℕ) → awaited_then nothing (word w) ≡ nothing
word_past w = rw (none_continues w)

abbrev Stands : Awaited → Place → Type 0
Stands a p = (a ≡ awaited_at p) ⊎ (a ≡ nothing)

stands_then : (a : Awaited) (p q : Place) (i : Item) → Stands a p → awaited_then (awaited_at p) i ≡ awaited_at q → Stands (awaited_then a i) q
stands_then a p q (word w) (inl h) e = inl (ap (λ (b : Awaited). awaited_then b (word w)) h ∙ e)
stands_then a p q (word w) (inr h) e = inr (ap (λ (b : Awaited). awaited_then b (word w)) h ∙ word_past w)
stands_then a p q (telling asked) s e = inl e

module _ {R : Type 0} (F : Frame R) where
  -- where the line stands behind an item, and behind words
  record Next (p : Place) (i : Item) (items : List Item) : Type 0 where
    place : Place
    way : Way F place items
    is : awaited_then (awaited_at p) i ≡ awaited_at place

  next : {p : Place} {i : Item} {items : List Item} → Way F p (i ∷ items) → Next p i items
  next (pauses l) = record { place = between; way = l; is = refl }
  next (breaks l) = record { place = between; way = l; is = refl }
  next (begins {b = b} h l) = record { place = inside; way = l; is = word_past b }
  next (goes_on {b = b} l) = record { place = inside; way = l; is = word_past b }
  next (ends_report {b = b} l) = record { place = between; way = l; is = word_past b }
  next (tells {asked = asked} {letters = letters} l) = record { place = in_reply (awaiting (kind_of asked) none) letters; way = l; is = refl }
  next (replies {a = a} {letters = letters} {b = b} h o e l) = record { place = in_reply (more a b) letters; way = l; is = rw (h, e) }
  next (ends_reply h o e l) = record { place = between; way = l; is = rw (h, e) }

  record Behind (p : Place) (lost : List ℕ) (items : List Item) : Type 0 where
    place : Place
    way : Way F place items
    is : awaited_behind (awaited_at p) (as_items lost ++ items) ≡ awaited_behind (awaited_at place) items

  skipped : {p : Place} (lost : List ℕ) (items : List Item) → Way F p (as_items lost ++ items) → Behind p lost items
  skipped {p = p} [] items l = record { place = p; way = l; is = refl }
  skipped {p = p} (w ∷ lost) items l =
      let x = next l in
      let y = skipped {p = (next l).place} lost items x.way in
      record { place = y.place; way = y.way; is = ap (λ (a : Awaited). awaited_behind a (as_items lost ++ items)) x.is ∙ y.is }

  -- no silence stands in a reply
  no_reply : {p : Place} {items : List Item} → Way F p (word silence ∷ items) → awaited_at p ≡ nothing
  no_reply (pauses l) = refl
  no_reply (begins h l) = refl
  no_reply (goes_on l) = refl
  no_reply (ends_report l) = refl
  no_reply (replies h o e l) = absurd (holds h)
  no_reply (ends_reply h o e l) = absurd (holds h)

  clear : {marked : Bool} {left items : List Item} → ShownItems marked left items → (p : Place) (a : Awaited) → Way F p items → Stands a p
      → awaited_behind (awaited_at p) items ≡ nothing
      → awaited_behind a left ≡ nothing
  clear whole p a l s e = ⊎_elim (λ h. h ∙ e) (λ h. h) s
  clear (stays {i = i} {items = is} d) p a l s e =
      let x = next l in
      clear d x.place (awaited_then a i) x.way (stands_then a p x.place i s x.is) (ap (λ (b : Awaited). awaited_behind b is) (sym x.is) ∙ e)
  clear (unheard {items = is} d) p a l s e =
      let x = next l in
      clear d x.place a x.way (inr (⊎_elim (λ h. h ∙ no_reply l) (λ h. h) s)) (ap (λ (b : Awaited). awaited_behind b is) (sym x.is) ∙ e)
  clear (scar lost {items = is} d) p a l s e = let x = skipped lost is l in clear d x.place nothing x.way (inr refl) (sym x.is ∙ e)
  clear (comes_in m d) p a l s e = clear d p nothing l (inr refl) e

-- A report between items, behind `ahead`, where no reply is awaited: where the frame's reader hands it out, so does the
-- told reader.
module _ (f : Format) (r : Latched) (held : HeldBy f (report r)) where
  abbrev bytes : List ℕ
  bytes = message_bytes (report r)

  size_is : length bytes ≡ size_of f
  size_is = rw held.0 (bytes_length f r.report)

  carried_is : report_of f bytes ≡ carried f r.report
  carried_is = rw (held.0, there f r.report held.1)

  abbrev fresh_reader : Reader
  fresh_reader = (reader.fresh_of (letter_of f)).reader

  module _ (ahead late : List Item) (plain : plain_items f (ahead ++ (as_items bytes ++ late)) ≡ true) (clears : awaited_behind nothing ahead ≡ nothing)
      (seen : List ℕ) (is : given nothing ahead ≡ seen) where
    abbrev words : List ℕ
    words = seen ++ (bytes ++ given nothing late)

    words_are : given nothing (ahead ++ (as_items bytes ++ late)) ≡ words
    words_are = given_append ahead (as_items bytes ++ late) nothing ∙ rw (is, clears, given_append (as_items bytes) late nothing, words_given bytes, words_behind bytes)

    told_at : replaced.Handed (frame_of f) words (length seen + (size_of f - 1)) (report_of f bytes) → (i : ℕ) → suc i ≡ length (words_in ahead) + size_of f
        → HandsOutAt f (ahead ++ (as_items bytes ++ late)) i (carried f r.report)
    told_at h i at =
        let all = rw words_are at (plain_given f (ahead ++ (as_items bytes ++ late)) nothing plain) in
        let k = size_of f - 1 in
        let place : length (words_in ahead) + k ≡ i = omega (arith, (size_between f).0) in
        let n = narrow.hands_out_at f words words (sent_legal f words all) (sent_enters f words all) (length seen + k) (carried f r.report) (rw carried_is at h) in
        hands_out_at f (ahead ++ (as_items bytes ++ late)) (plain_legal f (ahead ++ (as_items bytes ++ late)) plain) i (carried f r.report)
        (rw (← place)
        (same_place ahead bytes late fresh_reader k clears (omega (arith, size_is, (size_between f).0))
        ∙ rw (words_are, is) (n.by_steps (reader.fresh_of (letter_of f)) (steps_of fresh_reader words) refl (permitted fresh_reader words))))

-- The line: `front`, `before`, the finished report r, `after` and then `going`, with their tellings; what is left
-- before r and behind it.
module _ (f : Format) (before : List (Passage Message)) (r : Latched) (after : List (Passage Message)) (going : UnderWay Message)
    (s : Sound message_bytes (HeldOrReply f) (before ++ (finished (report r) ∷ after))) (e : SoundPart message_bytes (HeldOrReply f) going)
    {front : List ℕ} (in_front : Given front)
    {late : List Item} (behind : ShownItems (marked_of f) late (line_items after ++ part_items going)) where
  is_held : HeldBy f (report r)
  is_held = (sound_right message_bytes (HeldOrReply f) before (finished (report r) ∷ after) s).0

  before_sound : Sound message_bytes (HeldOrReply f) before
  before_sound = sound_left message_bytes (HeldOrReply f) before (finished (report r) ∷ after) s

  late_plain : plain_items f (as_items (message_bytes (report r)) ++ late) ≡ true
  late_plain =
      let rest = (sound_right message_bytes (HeldOrReply f) before (finished (report r) ∷ after) s).1 in
      plain_append f (as_items (message_bytes (report r))) late (plain_words f (message_bytes (report r)) (report_plain f (finished (report r)) is_held))
      (plain_shown f behind (plain_append f (line_items after) (part_items going) (line_plain f after rest) (end_plain f going e)))

  early_plain : {early : List Item} (l : List (Passage Message)) → Sound message_bytes (HeldOrReply f) l → ShownItems (marked_of f) early (as_items front ++ line_items l)
      → plain_items f early ≡ true
  early_plain l t d = plain_shown f d (plain_append f (as_items front) (line_items l) (plain_words f front (given_sent f in_front)) (line_plain f l t))

  pub spared_marked : {early : List Item} → marked_of f ≡ true → ShownItems (marked_of f) early (as_items front ++ line_items before)
      → (i : ℕ) → suc i ≡ length (words_in early) + size_of f
      → HandsOutAt f (early ++ (as_items (message_bytes (report r)) ++ late)) i (carried f r.report)
  spared_marked {early} m d i at =
      let way = front_way f in_front (rw append-nil at (line_way f before {items = []} before_sound ends)) in
      let sent_clear : awaited_behind nothing (as_items front ++ line_items before) ≡ nothing =
      behind_append (as_items front) (line_items before) nothing ∙ rw (words_behind front) (over_line f before before_sound).awaits in
      let seen = given nothing early in
      let bs = message_bytes (report r) in
      told_at f r is_held early late (plain_append f early (as_items bs ++ late) (early_plain before before_sound d) late_plain)
      (clear (frame_of f) d between nothing way (inl refl) sent_clear) seen refl
      (replaced.marked (frame_of f) message_bytes [] (report r) (held_framed f (report r) is_held) (given nothing late) [] [] (bs ++ given nothing late) seen refl
      (length seen + (size_of f - 1)) (omega (arith, size_is f r is_held, (size_between f).0)) (is_marked f m) (omega arith)) i at

  pub spared_unmarked : {early : List Item} (ahead quietly : List (Passage Message)) → before ≡ ahead ++ (silent ∷ quietly) → Unbroken quietly
      → ShownItems (marked_of f) early (as_items front ++ line_items ahead)
      → (i : ℕ) → suc i ≡ length (words_in early) + suc (length (passage_words message_bytes quietly)) + size_of f
      → HandsOutAt f (early ++ (word silence ∷ line_items quietly ++ (as_items (message_bytes (report r)) ++ late))) i (carried f r.report)
  unfolding plain_items
  spared_unmarked {early} ahead quietly is u d i at =
      let sound : Sound message_bytes (HeldOrReply f) (ahead ++ (silent ∷ quietly)) = rw is at before_sound in
      let quiet = (sound_right message_bytes (HeldOrReply f) ahead (silent ∷ quietly) sound).1 in
      let o = over_line f quietly quiet in
      let mid = word silence ∷ line_items quietly in
      let bs = message_bytes (report r) in
      let pw = passage_words message_bytes (without_replies f quietly) in
      let seen = given nothing early ++ (silence ∷ pw) in
      let seen_is : given nothing (early ++ mid) ≡ seen =
      given_append early mid nothing ∙ rw (given_past (awaited_behind nothing early) silence (line_items quietly) refl, o.gives) in
      let clears : awaited_behind nothing (early ++ mid) ≡ nothing = behind_append early mid nothing ∙ o.awaits in
      let mid_plain : plain_items f mid ≡ true = both _ (plain_items f (line_items quietly)) (silence_plain f) (line_plain f quietly quiet) in
      let early_is = early_plain ahead (sound_left message_bytes (HeldOrReply f) ahead (silent ∷ quietly) sound) d in
      let words_is : words_in (early ++ mid) ≡ words_in early ++ (silence ∷ passage_words message_bytes quietly) = words_append early mid ∙ rw (line_words_lem quietly) in
      let count = simp length-append at (ap length words_is) in
      rw (append_assoc early mid) at
      (told_at f r is_held (early ++ mid) late (plain_append f (early ++ mid) (as_items bs ++ late) (plain_append f early mid early_is mid_plain) late_plain) clears seen seen_is
      (rw (append_assoc (given nothing early))
      (replaced.unmarked (frame_of f) message_bytes (silent ∷ without_replies f quietly) (report r) (held_framed f (report r) is_held) (given nothing late) [] []
      (silence ∷ pw ++ (bs ++ given nothing late)) (given nothing early) refl (length seen + (size_of f - 1))
      (omega (arith, size_is f r is_held, (size_between f).0, length-append (given nothing early) (silence ∷ pw))) (laws f) [] (without_replies f quietly) refl
      (framed_line f (without_replies f quietly) (sound_without f quietly quiet)) (unbroken_without f quietly u) (omega arith))) i (omega (arith, count)))
