-- Where the reader is told of each reply, the report reader is given the line without them, a broken one leaving a lone 256.
use Rattle.std.proofs.Common.{Option, None}
use Prim.Native.Nat.{ℕ, zero, suc, ◌+◌, ◌<◌, ◌≤◌}
use mathlib.Core.Path.{◌≡◌, refl, ◌∙◌, ap}
use mathlib.Core.Bool.{Bool, true, false}
use mathlib.Core.List.{List, [], ◌∷◌, ◌++◌, append_assoc, append-nil, map-append}
use native.Mathlib.Omega.{arith}
use lib.ListN.{length, take}
use lib.IntN.{pos}
use Rattle.frames.specs.Words.{break, silence}
use Rattle.frames.specs.Passages.{Passage, silent, finished, broken, UnderWay, nothing, first, Unbroken, words_of, passage_words, part_words, Unfinished, Sound, SoundOf, SoundPart}
use Rattle.frames.proofs.Passages.{passages_append, sound_append}
use Rattle.wire.specs.Reading as reading
use Rattle.wire.specs.Messages.{Message, report, reply, latched_in, message_bytes, HeldBy, carried_in, SoundIn, SoundEnd, finished_reports}
use Rattle.wire.specs.declared.Report.{Report}
use Rattle.wire.specs.Holds.{accepted, holds}
use Rattle.wire.specs.declared.Format.{Format}
use Rattle.wire.specs.declared.Format.TheVariants.{Mm, Microsoft, Absolute, Relative, FiveByte, ThreeByte, Hexadecimal}
use Rattle.wire.proofs.Front.{size_between}
use Rattle.wire.proofs.Codec.{bytes_length}
use Rattle.history.specs.Carried.{HeldWith}
use Rattle.replies.specs.Replying as replying
use Rattle.replies.specs.Replying.{none, awaiting, is_none, finishes, more, told}
use Rattle.replies.specs.Rules.{kind_of, continues}
use Rattle.replies.specs.Line.{told_in}
use Rattle.tellings.specs.Items.{Item, word, telling, as_items, words_in}
use Rattle.tellings.specs.Clear.{awaited_behind}
use Rattle.tellings.specs.Lines.{asked_for, passage_items, line_items, part_items, reply_told, came_of, replies_in, replies_sent}
use Rattle.replies.specs.declared.Kind.{Kind}
use Rattle.replies.specs.declared.Awaited.{Awaited}
use Rattle.replies.specs.declared.Reply.{Reply}
use Rattle.replies.specs.declared.Reply.TheVariants as replies
use Rattle.tellings.proofs.Apart.{given, replies_over, behind_append, given_append, replies_append, words_behind, words_given, words_replies}

-- items behind which this is awaited: what the report reader is given of them, and the replies told
pub record Over (a : Awaited) (is : List Item) (ws : List ℕ) (b : Awaited) (rs : List Reply) : Type 0 where
  pub gives : given a is ≡ ws
  pub awaits : awaited_behind a is ≡ b
  pub tells : replies_over a is ≡ rs

pub over_append : {a b c : Awaited} {p q : List Item} {ws vs : List ℕ} {rs ts : List Reply} → Over a p ws b rs → Over b q vs c ts → Over a (p ++ q) (ws ++ vs) c (rs ++ ts)
over_append {a} {p = p} {q = q} x y =
    record {
      gives = given_append p q a ∙ rw (x.gives, x.awaits, y.gives);
      awaits = behind_append p q a ∙ rw (x.awaits, y.awaits);
      tells = replies_append p q a ∙ rw (x.tells, x.awaits, y.tells);
    }

pub over_words : (ws : List ℕ) → Over replying.nothing (as_items ws) ws replying.nothing []
over_words ws = record { gives = words_given ws; awaits = words_behind ws; tells = words_replies ws }

-- the bytes of a reply: each is its next, and the last ends it
abbrev pub WholeFrom : Awaited → List ℕ → Type 0
WholeFrom a [] = ⊥
WholeFrom a (b ∷ []) = (continues a b ≡ true) × (finishes a ≡ true)
WholeFrom a (b ∷ c ∷ bytes) = (continues a b ≡ true) × (finishes a ≡ false) × WholeFrom (more a b) (c ∷ bytes)

abbrev pub value_from : Awaited → List ℕ → Option Reply
value_from a [] = None
value_from a (b ∷ []) = told a b
value_from a (b ∷ c ∷ bytes) = value_from (more a b) (c ∷ bytes)

abbrev state_from : ℕ → Awaited → List ℕ → Awaited
state_from zero a bytes = a
state_from (suc n) a [] = a
state_from (suc n) a (b ∷ bytes) = state_from n (more a b) bytes

-- one byte, which is not the last, and the last
over_next : (a : Awaited) (b : ℕ) → continues a b ≡ true → finishes a ≡ false → Over a (word b ∷ []) [] (more a b) []
unfolding given replies_over
over_next a b e f = record { gives = rw e; awaits = rw (e, f); tells = rw (e, f) }

over_last : (a : Awaited) (b : ℕ) → continues a b ≡ true → finishes a ≡ true → Over a (word b ∷ []) [] replying.nothing (told_in (told a b) ++ [])
unfolding given replies_over
over_last a b e f = record { gives = rw e; awaits = rw (e, f); tells = rw (e, f) }

pub over_whole : (bytes : List ℕ) (a : Awaited) → WholeFrom a bytes → Over a (as_items bytes) [] replying.nothing (told_in (value_from a bytes) ++ [])
over_whole [] a h = absurd h
over_whole (b ∷ []) a h = over_last a b h.0 h.1
over_whole (b ∷ c ∷ bytes) a h = over_append {p = word b ∷ []} {q = as_items (c ∷ bytes)} (over_next a b h.0 h.1) (over_whole (c ∷ bytes) (more a b) h.2)

-- or the first of them
over_part : (n : ℕ) (bytes : List ℕ) (a : Awaited) → WholeFrom a bytes → n < length bytes → Over a (as_items (take n bytes)) [] (state_from n a bytes) []
unfolding given replies_over
over_part zero bytes a h l = record { gives = refl; awaits = refl; tells = refl }
over_part (suc n) [] a h l = absurd h
over_part (suc n) (b ∷ []) a h l = absurd (omega arith)
over_part (suc n) (b ∷ c ∷ bytes) a h l =
    over_append {p = word b ∷ []} {q = as_items (take n (c ∷ bytes))} (over_next a b h.0 h.1) (over_part n (c ∷ bytes) (more a b) h.2 (omega arith))

-- and a break, which is none of its bytes
over_break : (a : Awaited) → Over a (word break ∷ []) (break ∷ []) replying.nothing (told_in (replying.broken a) ++ [])
unfolding given replies_over
over_break a = record { gives = refl; awaits = refl; tells = refl }

-- what is awaited of it
abbrev pub awaited_for : List ℕ → Awaited
awaited_for bytes = awaiting (kind_of (asked_for bytes)) none

-- the two sorts of bytes in replies: letters, from 40H to 7FH, and those below 40H
abbrev pub lowest : Bool → ℕ
lowest true = 0x40
lowest false = 0

abbrev pub OfSort : Bool → ℕ → Type 0
OfSort letters b = (lowest letters ≤ b) × (b < lowest letters + 0x40)

abbrev pub AllOfSort : Bool → List ℕ → Type 0
AllOfSort letters [] = Unit {0}
AllOfSort letters (b ∷ bytes) = OfSort letters b × AllOfSort letters bytes

-- the bytes of a reply as the box sends it; all are of one sort
pub record IsReply (bytes : List ℕ) : Type 0 where
  pub whole : WholeFrom (awaited_for bytes) bytes
  pub value : told_in (value_from (awaited_for bytes) bytes) ≡ told_in (reply_told bytes)
  pub short : length bytes ≤ 3
  pub some : is_none (kind_of (asked_for bytes)) ≡ false
  pub letters : Bool
  pub alike : AllOfSort letters bytes

came_from : (n : ℕ) (bytes : List ℕ) (k : Option Kind) → n < length bytes → length bytes ≤ 3 → state_from n (awaiting k none) bytes ≡ awaiting k (came_of (take n bytes))
unfolding more
came_from zero bytes k h l = refl
came_from (suc zero) [] k h l = absurd (omega arith)
came_from (suc zero) (b ∷ bytes) k h l = refl
came_from (suc (suc zero)) [] k h l = absurd (omega arith)
came_from (suc (suc zero)) (b ∷ []) k h l = absurd (omega arith)
came_from (suc (suc zero)) (b ∷ c ∷ bytes) k h l = refl
came_from (suc (suc (suc n))) bytes k h l = absurd (omega arith)

broken_from : (n : ℕ) (bytes : List ℕ) → IsReply bytes → n < length bytes → told_in (replying.broken (state_from n (awaited_for bytes) bytes)) ≡ replies.Broken (came_of (take n bytes)) ∷ []
unfolding replying.broken
broken_from n bytes r h = rw (came_from n bytes (kind_of (asked_for bytes)) h r.short, r.some)

over_telling : {b : Awaited} {is : List Item} {ws : List ℕ} {rs : List Reply} (bytes : List ℕ) → Over (awaited_for bytes) is ws b rs → Over replying.nothing (telling (asked_for bytes) ∷ is) ws b rs
unfolding given replies_over
over_telling bytes x = record { gives = x.gives; awaits = x.awaits; tells = x.tells }

zero_accepted : (f : Format) → accepted f (reading.report 0 (pos 0) (pos 0)) ≡ true
unfolding accepted holds
zero_accepted Mm = refl
zero_accepted Microsoft = refl
zero_accepted Absolute = refl
zero_accepted Relative = refl
zero_accepted FiveByte = refl
zero_accepted ThreeByte = refl
zero_accepted Hexadecimal = refl

module _ (f : Format) where
  -- a report that f holds, or a reply
  abbrev pub HeldOrReply : Message → Type 0
  HeldOrReply m = HeldWith IsReply f m

  -- the line without its replies; a broken one "counts in demand 3 as a broken-off report", of which no byte has gone
  abbrev zero_report : Message
  zero_report = latched_in f (reading.report 0 (pos 0) (pos 0))

  abbrev without : Passage Message → List (Passage Message)
  without silent = silent ∷ []
  without (finished (report l)) = finished (report l) ∷ []
  without (finished (reply bytes)) = []
  without (broken n (report l)) = broken n (report l) ∷ []
  without (broken n (reply bytes)) = broken 0 zero_report ∷ []

  abbrev pub without_replies : List (Passage Message) → List (Passage Message)
  without_replies [] = []
  without_replies (p ∷ passages) = without p ++ without_replies passages

  abbrev pub without_reply : UnderWay Message → UnderWay Message
  without_reply nothing = nothing
  without_reply (first n (report l)) = first n (report l)
  without_reply (first n (reply bytes)) = nothing

  over_passage : (p : Passage Message) → SoundOf message_bytes HeldOrReply p → Over replying.nothing (passage_items p) (passage_words message_bytes (without p)) replying.nothing (replies_in p)
  over_passage silent s = over_words (silence ∷ [])
  over_passage (finished (report l)) s = rw append-nil (over_words (message_bytes (report l)))
  over_passage (finished (reply bytes)) s = over_telling bytes (rw (s.value, append-nil) at (over_whole bytes (awaited_for bytes) s.whole))
  over_passage (broken n (report l)) s = rw append-nil (over_words (take n (message_bytes (report l)) ++ (break ∷ [])))
  over_passage (broken n (reply bytes)) s =
      let a = awaited_for bytes in
      let all = over_append {p = as_items (take n bytes)} {q = word break ∷ []} (over_part n bytes a s.0.whole s.1) (over_break (state_from n a bytes)) in
      over_telling bytes (rw (map-append word (take n bytes) (break ∷ [])) (rw (broken_from n bytes s.0 s.1) at all))

  pub over_line : (l : List (Passage Message)) → Sound message_bytes HeldOrReply l → Over replying.nothing (line_items l) (passage_words message_bytes (without_replies l)) replying.nothing (replies_sent l)
  unfolding given replies_over
  over_line [] s = record { gives = refl; awaits = refl; tells = refl }
  over_line (p ∷ l) s = rw (passages_append message_bytes (without p) (without_replies l)) (over_append (over_passage p s.0) (over_line l s.1))

  -- and what is under way: nothing goes to the report reader of a reply, and none is told yet
  pub end_given : (g : UnderWay Message) → SoundPart message_bytes HeldOrReply g
      → (given replying.nothing (part_items g) ≡ part_words message_bytes (without_reply g)) × (replies_over replying.nothing (part_items g) ≡ [])
  unfolding given replies_over
  end_given nothing s = (refl, refl)
  end_given (first n (report l)) s = (words_given (take n (message_bytes (report l))), words_replies (take n (message_bytes (report l))))
  end_given (first n (reply bytes)) s = let x = over_part n bytes (awaited_for bytes) s.0.whole s.1 in (x.gives, x.tells)

  -- without its replies it is a sound line of the format
  zero_held : Unfinished message_bytes (HeldBy f) 0 zero_report
  zero_held = ((refl, zero_accepted f), rw (bytes_length f (reading.report 0 (pos 0) (pos 0))) (omega (arith, (size_between f).0)))

  sound_one : (p : Passage Message) → SoundOf message_bytes HeldOrReply p → SoundIn f (without p)
  sound_one silent s = (tt, tt)
  sound_one (finished (report l)) s = (s, tt)
  sound_one (finished (reply bytes)) s = tt
  sound_one (broken n (report l)) s = (s, tt)
  sound_one (broken n (reply bytes)) s = (zero_held, tt)

  pub sound_without : (l : List (Passage Message)) → Sound message_bytes HeldOrReply l → SoundIn f (without_replies l)
  sound_without [] s = tt
  sound_without (p ∷ l) s = sound_append message_bytes (HeldBy f) (without p) (without_replies l) (sound_one p s.0) (sound_without l s.1)

  pub end_without : (g : UnderWay Message) → SoundPart message_bytes HeldOrReply g → SoundEnd f (without_reply g)
  end_without nothing s = tt
  end_without (first n (report l)) s = s
  end_without (first n (reply bytes)) s = tt

  pub without_append : (a b : List (Passage Message)) → without_replies (a ++ b) ≡ without_replies a ++ without_replies b
  without_append [] b = refl
  without_append (p ∷ a) b = rw (without_append a b, append_assoc)

  -- no passage is broken off, and the finished reports are the same
  pub unbroken_without : (l : List (Passage Message)) → Unbroken l → Unbroken (without_replies l)
  unbroken_without [] u = tt
  unbroken_without (silent ∷ l) u = unbroken_without l u
  unbroken_without (finished (report x) ∷ l) u = unbroken_without l u
  unbroken_without (finished (reply bytes) ∷ l) u = unbroken_without l u
  unbroken_without (broken n k ∷ l) u = absurd u

  pub finished_without : (l : List (Passage Message)) → finished_reports f (without_replies l) ≡ finished_reports f l
  finished_without [] = refl
  finished_without (silent ∷ l) = finished_without l
  finished_without (finished (report x) ∷ l) = ap (λ (r : List Report). carried_in f (report x) ++ r) (finished_without l)
  finished_without (finished (reply bytes) ∷ l) = finished_without l
  finished_without (broken n (report x) ∷ l) = finished_without l
  finished_without (broken n (reply bytes) ∷ l) = finished_without l

-- items of passages in two parts, and their words
pub items_append : (a b : List (Passage Message)) → line_items (a ++ b) ≡ line_items a ++ line_items b
items_append [] b = refl
items_append (p ∷ a) b = rw (items_append a b, append_assoc)

pub words_same : (ws : List ℕ) → words_in (as_items ws) ≡ ws
words_same [] = refl
words_same (w ∷ ws) = ap (λ (x : List ℕ). w ∷ x) (words_same ws)

pub words_append : (p q : List Item) → words_in (p ++ q) ≡ words_in p ++ words_in q
words_append [] q = refl
words_append (word w ∷ p) q = ap (λ (x : List ℕ). w ∷ x) (words_append p q)
words_append (telling asked ∷ p) q = words_append p q

words_one : (p : Passage Message) → words_in (passage_items p) ≡ words_of message_bytes p
words_one silent = refl
words_one (finished (report l)) = words_same (message_bytes (report l))
words_one (finished (reply bytes)) = words_same bytes
words_one (broken n (report l)) = words_same (take n (message_bytes (report l)) ++ (break ∷ []))
words_one (broken n (reply bytes)) = words_same (take n bytes ++ (break ∷ []))

pub line_words_lem : (l : List (Passage Message)) → words_in (line_items l) ≡ passage_words message_bytes l
line_words_lem [] = refl
line_words_lem (p ∷ l) = words_append (passage_items p) (line_items l) ∙ rw (words_one p, line_words_lem l)
