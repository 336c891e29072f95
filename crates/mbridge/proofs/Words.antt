-- What a word gives: a call that has room for all of it, and how many bytes are written of what is found at most.
use Prim.Native.Nat.{ℕ, zero, suc, ◌*◌, ◌^◌, ◌<◌, ◌≤◌}
use mathlib.Core.Path.{◌≡◌, refl, sym, ◌∙◌, ap, subst}
use mathlib.Core.Bool.{Bool, true, false}
use mathlib.Core.List.{List, [], ◌∷◌, append-nil}
use native.Mathlib.Nat.{add-zero}
use native.Mathlib.Omega.{arith}
use lib.Dec.{leb, eqb}
use lib.ListN.{length, take, drop, length-append}
use lib.Seq.{take_at}
use borrow.Author.Tests.{leb-true, leb-false}
use Rattle.numbers.proofs.Choices.{cases}
use Rattle.fold.specs.Fold.{run}
use Rattle.fold.specs.Calls.{sum, line}
use Rattle.fold.proofs.Laws.{taken}
use Rattle.frames.specs.Words.{silence}
use Rattle.wire.specs.Table.{bytes_of}
use Rattle.wire.specs.declared.Report.{Report}
use Rattle.wire.specs.declared.Format.TheVariants.{Microsoft}
use Rattle.wire.proofs.Codec.{bytes_length, bytes_below}
use Rattle.reader.specs.Rules.{word_of}
use Rattle.reader.specs.State.{Read}
use Rattle.reader.specs.declared.Answer.{Answer}
use Rattle.reader.specs.declared.Answer.TheVariants as answer
use Rattle.reader.proofs.Refusals.{above, word_taken}
use Rattle.listing.specs.Scanning.{width, scanned_byte, closed_of, end_of}
use Rattle.listing.specs.declared.Found.{Found}
use Rattle.listing.specs.declared.Found.TheVariants.{Nothing, Format, Word, Bad, Over, End}
use Rattle.listing.specs.declared.Scanner.{Scanner}
use Rattle.listing.proofs.Few.{Numbered, numbered_byte, numbered_closed}
use Rattle.bridge.specs.Remembered.{movement}
use Rattle.bridge.specs.Splitting.{count_of, rest, report_v, split, becomes, bytes_all}
use Rattle.bridge.specs.Good.{good}
use Rattle.bridge.specs.Line.{Converted, Long, sent_for, given, behind, whole, bridges, converts}
use Rattle.bridge.specs.Promises.{ConvertPromise, fresh_of}
use Rattle.bridge.specs.declared.Bridge.{Bridge}
use Rattle.bridge.specs.declared.Move.{Move}
use Rattle.bridge.proofs.Writing.{accepted_v, three_each, split_length}
use Rattle.bridge.proofs.Keeps.{word_keeps}
use Rattle.bridge.proofs.Goodness.{convert_line, fresh_is_good}
use Rattle.bridge.proofs.Progress.{at_most_33}
use Rattle.mbridge.specs.Lines.{byte_lines}
use Rattle.mbridge.specs.Recording.{bridge_behind, lines_for}
use Rattle.mbridge.specs.Blocks.{most}
use Rattle.mbridge.proofs.Filling.{numbered_few, lines_append, lines_few}

module _ (b : Bridge) (w : ℕ) (g : good b ≡ true) where
  abbrev s : Read
  s = word_of b.reader w

  abbrev sent : List Report
  sent = (given b s).sent

  -- 33 V reports at most
  pub few_sent : length sent ≤ 33
  few_sent = go s.answer refl
    where
      go : (a : Answer) → s.answer ≡ a → length (sent_for b.reader.format b.past a) ≤ 33
      go answer.Nothing e = omega arith
      go (answer.Report p) e = at_most_33 b w g p e
      go (answer.Dropped k) e = omega arith

  -- with 99 places a call of the word gives them all
  abbrev All : Long → Type 0
  All l = (l.next ≡ behind b s) × (l.counts.sent ≡ length sent) × (take (3 * length sent) l.out ≡ bytes_all sent)

  all_given : (out : List ℕ) → 99 ≤ length out → All (line converts b (w ∷ []) out)
  unfolding line run sum
  all_given out room = go (leb w silence) refl
    where
      go : (t : Bool) → leb w silence ≡ t → All (line converts b (w ∷ []) out)
      go true e =
          let legal = word_taken b.reader w (leb-true w silence e) in
          let n = three_each sent in
          rw (taken bridges b w (length out) legal (omega (arith, n, few_sent)), append-nil (bytes_all sent), add-zero (length sent))
          (refl, refl, take_at (bytes_all sent) (drop (length (bytes_all sent)) out) (3 * length sent) n)
      go false e = rw (above b.reader w (leb-false w silence e)) (refl, refl, refl)

  pub word_all : (out : List ℕ) (a : Converted) (x : List ℕ) → 99 ≤ length out → ConvertPromise b (w ∷ []) out a x → All (whole a x)
  word_all out a x room e = subst All (sym (e ∙ convert_line b (w ∷ []) out g)) (all_given out room)

-- eighteen bytes at most for each V report
split_few : (n buttons : ℕ) (m : Move) → length (byte_lines (bytes_all (split n buttons m))) ≤ 18 * n
unfolding split byte_lines
split_few zero buttons m = omega arith
split_few (suc n) buttons m =
    let v = bytes_of Microsoft (report_v buttons m) in
    let later = bytes_all (split n buttons (rest m)) in
    omega (arith, ap length (lines_append v later), length-append (byte_lines v) (byte_lines later), lines_few v (bytes_below Microsoft (report_v buttons m) (accepted_v buttons m)), bytes_length Microsoft (report_v buttons m), split_few n buttons (rest m))

word_few : (b : Bridge) (w : ℕ) → good b ≡ true → length (byte_lines (bytes_all (given b (word_of b.reader w)).sent)) ≤ most
unfolding becomes byte_lines
word_few b w g = go (word_of b.reader w).answer refl
  where
    go : (a : Answer) → (word_of b.reader w).answer ≡ a → length (byte_lines (bytes_all (sent_for b.reader.format b.past a))) ≤ most
    go answer.Nothing e = omega arith
    go (answer.Report p) e =
        let m = movement b.reader.format b.past p in
        omega (arith, split_few (count_of m) p.buttons m, split_length (count_of m) p.buttons m, at_most_33 b w g p e)
    go (answer.Dropped k) e = omega arith

-- the number of a bad line has six digits at most
abbrev pub Small : Found → Type 0
Small Nothing = Unit {0}
Small (Format f) = Unit {0}
Small (Word n w) = Unit {0}
Small (Bad n) = n < 10 ^ width
Small Over = Unit {0}
Small End = Unit {0}

small : (f : Found) → Numbered f → Small f
small Nothing h = tt
small (Format f) h = tt
small (Word n w) h = tt
small (Bad n) h = h
small Over h = tt
small End h = tt

pub byte_small : (s : Scanner) (c : ℕ) → Small (scanned_byte s c).found
byte_small s c = small (scanned_byte s c).found (numbered_byte s c)

pub closed_small : (s : Scanner) → Small (closed_of s).found
closed_small s = small (closed_of s).found (numbered_closed s)

pub end_small : (s : Scanner) → Small (end_of s).found
unfolding end_of
end_small s = cases Small s.ended (λ _. tt) (λ _. cases Small (eqb s.line 0) (λ _. omega arith) (λ _. tt))

-- MOST: what is found is written in so many bytes at most
pub found_few : (b : Bridge) (f : Found) → good b ≡ true → Small f → length (lines_for b f) ≤ most
unfolding lines_for
found_few b Nothing g h = omega arith
found_few b (Format f) g h = omega arith
found_few b (Word n w) g h = word_few b w g
found_few b (Bad n) g h = omega (arith, numbered_few 0x45 n 5 h)
found_few b Over g h = omega arith
found_few b End g h = omega arith

-- and leaves a good bridge good
pub found_good : (b : Bridge) (f : Found) → good b ≡ true → good (bridge_behind b f) ≡ true
unfolding bridge_behind
found_good b Nothing g = g
found_good b (Format f) g = fresh_is_good f (fresh_of f) refl
found_good b (Word n w) g = word_keeps b g w
found_good b (Bad n) g = g
found_good b Over g = g
found_good b End g = g
