-- The reader of each format does what the reader of its frame does, word by word.
use Prim.Native.Nat.{ℕ, zero, suc, ◌<◌, ◌≤◌}
use mathlib.Core.Path.{◌≡◌, refl, sym, ◌∙◌, ap}
use mathlib.Core.Bool.{Bool, true, false, not, cond, ◌&&◌}
use mathlib.Core.List.{List, [], ◌∷◌, ◌++◌, map}
use native.Mathlib.Numerals.{add-one}
use native.Mathlib.Omega.{arith}
use lib.ListN.{length, take, length-append}
use lib.Seq.{length-take-le, take-suc-set, get_or-take}
use lib.Dec.{leb, eqb}
use borrow.Author.Tests.{leb-true, leb-false, eqb-true, eqb-false, ne_eqb}
use Rattle.reader.proofs.Sentences.{awaits_only_unmarked}
use Rattle.numbers.proofs.Tested.{left, right}
use Rattle.frames.specs.Words.{is_byte, line_words}
use Rattle.wire.specs.Line.{letter_of, named_by, size_of, marked_of, size_by, marked_by, known}
use Rattle.wire.specs.Places.{fits_at}
use Rattle.wire.specs.Reading.{report_of, report_by}
use Rattle.wire.specs.Numbers.{success}
use Rattle.wire.specs.declared.Report.{Report}
use Rattle.wire.specs.declared.Format.{Format}
use Rattle.std.proofs.Common.{Some}
use Rattle.wire.proofs.Letters.{letter_named, size_named, marked_named, fits_named}
use Rattle.wire.proofs.Front.{same_front, size_between}
use Rattle.wire.proofs.Codec.{fits_byte, mark}
use Rattle.frames.specs.Frame.{Frame, Laws, Marked, State, has, waits, move_of, fresh, complete, keep, step}
use Rattle.frames.specs.Frame as frame
use Rattle.reader.specs.State.{kept_in, NewReader, Read}
use Rattle.reader.specs.State as reader
use Rattle.reader.specs.Good.{good}
use Rattle.reader.specs.Rules.{entered, dropping, fitting, more, starting, byte_of, break_of, silence_of, word_of}
use Rattle.reader.specs.Rules as rules
use Rattle.reader.specs.Promises.{FreshPromise, step_of, fresh_of}
use Rattle.reader.specs.Runs.{steps_of, StepsPromise, answers}
use Rattle.reader.specs.declared.Reader.{Reader}
use Rattle.reader.specs.declared.Answer.{Answer}
use Rattle.reader.specs.declared.Answer.TheVariants as answer
use Rattle.reader.proofs.Entered.{byte_enters, entered_word, entered_all}
use Rattle.reader.proofs.Parts.{one_more_lem}
use Rattle.reader.proofs.Word.{by_rules, word_format}
use Rattle.reader.proofs.Keeps.{ready_good, word_good}
use Rattle.reader.proofs.Goodness.{step_word, fresh_is_good}
use Rattle.reader.proofs.Permitted.{steps_are}

-- the frame of a format: its bytes, size and mark by the table
abbrev pub frame_of : Format → Frame Report
frame_of f = record { fits = λ k b. fits_at f (length k) b; size = λ b. size_of f; marked = marked_of f; decode = report_of f }

pub laws : (f : Format) → Laws (frame_of f)
laws f = record { byte = λ k b h. fits_byte f (length k) b h; long = λ b h. omega (arith, (size_between f).0) }

pub is_marked : (f : Format) → marked_of f ≡ true → Marked (frame_of f)
unfolding fits_at
is_marked f m = record { laws = laws f; is = m; first_only = λ a k b h. rw (ne_eqb (suc (length k)) 0 (λ e. omega arith)) (mark f b m h) }

-- what a reader keeps, or that it waits; and what it answers
abbrev pub state_of : Reader → State
state_of r = cond r.awaiting waits (has (kept_in r))

abbrev pub told : frame.Answer Report → Answer
told frame.nothing = answer.Nothing
told (frame.report p) = answer.Report p
told (frame.dropped k) = answer.Dropped k

-- a word that is answered as the frame's reader answers it, with the same kept after it
pub record Like (s : Read) (x : State × frame.Answer Report) : Type 0 where
  pub taken : s.refusal ≡ success
  pub answered : s.answer ≡ told x.1
  pub next : state_of s.next ≡ x.0

-- the frame's step at a byte
at_byte : (f : Format) (s : State) (w : ℕ) → w < 256
    → step (frame_of f) s w ≡ frame.act (frame_of f) (cond (frame.in_place (frame_of f) s w) frame.fit (cond (marked_of f && fits_at f 0 w) frame.start frame.bad)) (frame.kept s) w
unfolding move_of
at_byte f s w byte = rw (ne_eqb w 257 (λ e. omega arith), ne_eqb w 256 (λ e. omega arith))

whole_is : (f : Format) (k : List ℕ) (w : ℕ) → complete (frame_of f) (k ++ (w ∷ [])) ≡ eqb (suc (length k)) (size_of f)
whole_is f [] w = refl
whole_is f (a ∷ k) w = rw (length-append k (w ∷ []), add-one (length k))

dropping_told : (k : ℕ) → dropping k ≡ told (frame.drops k)
unfolding dropping
dropping_told zero = refl
dropping_told (suc k) = rw (ne_eqb (suc k) 0 (λ e. omega arith))

-- a good reader of the format
module _ (f : Format) (r : Reader) (g : good r ≡ true) (named : named_by r.format ≡ Some f) where
  abbrev size_is : size_by r.format ≡ size_of f
  size_is = size_named r.format named

  abbrev marked_is : marked_by r.format ≡ marked_of f
  marked_is = marked_named r.format named

  abbrev room : r.count < length r.kept
  room = one_more_lem r g

  count_is : length (kept_in r) ≡ r.count
  count_is = length-take-le r.count r.kept (omega (arith, room))

  -- as many bytes are kept as it counts
  kept_count : length (frame.kept (state_of r)) ≡ r.count
  kept_count = go r.awaiting refl
    where
      go : (t : Bool) → r.awaiting ≡ t → length (frame.kept (state_of r)) ≡ r.count
      go true e = rw e (sym (awaits_only_unmarked r g e).1)
      go false e = rw e count_is

  fresh_like : state_of (reader.fresh r.format) ≡ fresh (frame_of f)
  fresh_like = rw marked_is (go (marked_of f))
    where
      go : (t : Bool) → cond (not t) waits (has []) ≡ cond t (has []) waits
      go true = refl
      go false = refl

  -- the last byte gives the report of those kept and it
  pub report_like : (w : ℕ) → suc r.count ≡ size_of f → report_by r.format (more r w) ≡ report_of f (kept_in r ++ (w ∷ []))
  unfolding report_by
  report_like w e =
      rw (named, ← take-suc-set r.kept r.count w room)
      (same_front f (more r w) (take (suc r.count) (more r w)) (λ i l. sym (get_or-take (suc r.count) (more r w) i 0 (omega arith))))

  kept_like : (w : ℕ) → Like (rules.keep r w) (keep (frame_of f) (kept_in r ++ (w ∷ [])))
  unfolding rules.keep
  kept_like w = rw (whole_is f (kept_in r) w, count_is, size_is, add-one r.count) (go (eqb (suc r.count) (size_of f)) refl)
    where
      go : (t : Bool) → eqb (suc r.count) (size_of f) ≡ t
          → Like
          (cond t (rules.answered (reader.ready r.format) (answer.Report (report_by r.format (more r w))))
          (rules.answered (reader.reader r.format (more r w) (suc r.count) false) answer.Nothing))
          (cond t (has [], frame.report (report_of f (kept_in r ++ (w ∷ [])))) (has (kept_in r ++ (w ∷ [])), frame.nothing))
      go true e = record { taken = refl; answered = ap answer.Report (report_like w (eqb-true (suc r.count) (size_of f) e)); next = refl }
      go false e = record { taken = refl; answered = refl; next = ap has (take-suc-set r.kept r.count w room) }

  byte_like : (w : ℕ) → w < 256 → Like (byte_of r w) (step (frame_of f) (state_of r) w)
  unfolding rules.start rules.lose
  byte_like w b =
      by_rules (λ s. Like s (step (frame_of f) (state_of r) w)) r w
      (λ a. rw (waiting a, at_byte f waits w b, sym marked_is ∙ (awaits_only_unmarked r g a).0) (record { taken = refl; answered = refl; next = waiting a }))
      (λ a h. rw (keeping a, at_byte f (has (kept_in r)) w b, fit h) (kept_like w))
      (λ a h s. rw (keeping a, at_byte f (has (kept_in r)) w b, fit h, start s, count_is) (record { taken = refl; answered = dropping_told r.count; next = refl }))
      (λ a h s. rw (keeping a, at_byte f (has (kept_in r)) w b, fit h, start s, count_is) (record { taken = refl; answered = ap answer.Dropped (add-one r.count); next = fresh_like }))
    where
      waiting : r.awaiting ≡ true → state_of r ≡ waits
      waiting a = rw a

      keeping : r.awaiting ≡ false → state_of r ≡ has (kept_in r)
      keeping a = rw a

      fit : {t : Bool} → fitting r w ≡ t → fits_at f (length (kept_in r)) w ≡ t
      fit h = rw count_is (sym (fits_named r.format named r.count w) ∙ h)

      start : {t : Bool} → starting r w ≡ t → marked_of f && fits_at f 0 w ≡ t
      start h = rw (marked_is, fits_named r.format named 0 w) at h

  -- a word, as it enters
  word_like : (w : ℕ) → w ≤ 257 → Like (word_of r w) (step (frame_of f) (state_of r) (entered_word r.format w))
  unfolding word_of break_of silence_of move_of
  word_like w l = go (is_byte w) refl (eqb w 256) refl
    where
      go : (t : Bool) → is_byte w ≡ t → (u : Bool) → eqb w 256 ≡ u → Like (word_of r w) (step (frame_of f) (state_of r) (entered_word r.format w))
      go true e u q = rw e (byte_like (entered r.format w) (omega (arith, byte_enters r.format w (leb-true w 255 e))))
      go false e true q = rw (eqb-true w 256 q, kept_count) (record { taken = refl; answered = dropping_told r.count; next = fresh_like })
      go false e false q =
          let h : w ≡ 257 = omega (arith, leb-false w 255 e, eqb-false w 256 q) in
          rw (h, kept_count) (record { taken = refl; answered = dropping_told r.count; next = refl })

  -- so that the public step does what the frame's step does
  pub step_like : (w : ℕ) → w ≤ 257 → Like (step_of r w) (step (frame_of f) (state_of r) (entered_word r.format w))
  step_like w l = rw (step_word r w g) (word_like w l)

-- a good reader of the format f
pub record ReaderOf (f : Format) (r : Reader) : Type 0 where
  pub is_good : good r ≡ true
  pub letter : r.format ≡ letter_of f

-- over legal words, as they enter
module _ (f : Format) where
  steps_like : (words : List ℕ) (r : Reader) → good r ≡ true → named_by r.format ≡ Some f → line_words words ≡ true
      → answers (steps_of r words) ≡ map told (frame.answers (frame_of f) (state_of r) (entered_all r.format words))
  unfolding steps_of line_words
  steps_like [] r g named l = refl
  steps_like (w ∷ words) r g named l =
      let like = step_like f r g named w (leb-true w 257 (left (leb w 257) (line_words words) l)) in
      let same : (step_of r w).next.format ≡ r.format = rw (step_word r w g) (word_format r w) in
      let rest = steps_like words (step_of r w).next (rw (step_word r w g) (word_good r g w)) (rw same named) (right (leb w 257) (line_words words) l) in
      rw (like.answered, rest, like.next, ap (λ (letter : ℕ). entered_all letter words) same)

  pub framed : (words : List ℕ) (r : Reader) (steps : List Read) → line_words words ≡ true → ReaderOf f r → StepsPromise r words steps
      → answers steps ≡ map told (frame.answers (frame_of f) (state_of r) (entered_all (letter_of f) words))
  framed words r steps l o p =
      rw (steps_are r words steps p, ← o.letter) (steps_like words r o.is_good (rw o.letter (letter_named f)) l)

  -- a fresh reader
  pub fresh_named : (a : NewReader) → FreshPromise (letter_of f) a → a.reader ≡ reader.fresh (letter_of f)
  unfolding fresh_of known
  fresh_named a e = rw (e, letter_named f)

  pub fresh_of_lem : (a : NewReader) → FreshPromise (letter_of f) a → ReaderOf f a.reader
  fresh_of_lem a e = record { is_good = fresh_is_good (letter_of f) a e; letter = ap (λ (r : Reader). r.format) (fresh_named a e) }

  pub fresh_state : (a : NewReader) → FreshPromise (letter_of f) a → state_of a.reader ≡ fresh (frame_of f)
  fresh_state a e =
      let i = fresh_named a e in
      ap state_of i ∙ rw i at (fresh_like f a.reader (fresh_is_good (letter_of f) a e) (rw i (letter_named f)))

  -- a ready one
  pub ready_of : ReaderOf f (reader.ready (letter_of f))
  unfolding known
  ready_of = record { is_good = ready_good (letter_of f) (rw (letter_named f)); letter = refl }
