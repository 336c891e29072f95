-- A log in its slice: a word more, one too many, and what stands alone; and the log of an input byte by byte.
use Rattle.std.proofs.Common.{Option, None, Some}
use Prim.Native.Nat.{ℕ, ◌+◌, ◌<◌, ◌≤◌}
use mathlib.Core.Path.{◌≡◌, refl, ap, ◌∙◌}
use mathlib.Core.List.{List, [], ◌∷◌}
use native.Mathlib.Omega.{arith}
use native.Mathlib.Numerals.{add-one}
use lib.ListN.{length, take, drop, get_or, set, length-set}
use lib.Seq.{length-take-le, take-suc-set, drop-cons}
use lib.Dec.{eqb}
use borrow.Author.Tests.{le-leb, lt-leb}
use Rattle.numbers.proofs.Choices.{cases}
use Rattle.wire.specs.Line.{marked_by}
use Rattle.salvage.specs.Picking.{most_words}
use Rattle.listing.specs.Scanning.{unfed, scanned_byte, closed_of, end_of}
use Rattle.listing.specs.declared.Found.{Found}
use Rattle.listing.specs.declared.Found.TheVariants as found
use Rattle.listing.specs.declared.Item.{Item}
use Rattle.listing.specs.declared.Item.TheVariants as item
use Rattle.listing.specs.declared.Scanner.{Scanner}
use Rattle.listing.proofs.Scanned.{all_found, told, scanned}
use Rattle.listing.proofs.Few.{ShortGiven}
use Rattle.listing.proofs.Few as few
use Rattle.salvaged.specs.Log.{Log, log, empty, marked, word_heard, new_heard, unless, heard, heard_all, log_of}
use Rattle.salvaged.specs.Hearing.{Numbered, log_in, Fine, Hears}
use Rattle.salvaged.specs.declared.Heard.{Heard}

module _ {h : Heard} {slice : List ℕ} (fine : Fine h slice) where
  -- the words in the slice are as many as are counted
  counted : length (take h.count slice) ≡ h.count
  counted = length-take-le h.count slice (omega (arith, fine.few, fine.long))

  pub word_over : (w : ℕ) → most_words ≤ h.count → Hears (word_heard (log_in h slice) w) (record { letter = h.letter; count = h.count; alone = Some item.Over }) slice
  unfolding word_heard
  word_over w l = record { fine = record { few = fine.few; long = fine.long; short = tt }; same = rw (counted, le-leb most_words h.count l) }

  pub word_more : (w : ℕ) → h.count < most_words → Hears (word_heard (log_in h slice) w) (record { letter = h.letter; count = h.count + 1; alone = None }) (set slice h.count w)
  unfolding word_heard
  word_more w l =
      record {
        fine = record { few = omega arith; long = length-set slice h.count w ∙ fine.long; short = tt };
        same = rw (counted, lt-leb most_words h.count l, add-one, take-suc-set slice h.count w (omega (arith, fine.long)));
      }

  -- what stands alone, with a short line
  pub beside : (letter : ℕ) (alone : Option Item) → ShortGiven alone → Hears (log letter (take h.count slice) alone) (record { letter = letter; count = h.count; alone = alone }) slice
  beside letter alone short = record { fine = record { few = fine.few; long = fine.long; short = short }; same = refl }

  pub as_it_was : Hears (log_in h slice) h slice
  as_it_was = record { fine = fine; same = refl }

pub marked_short : (letter : ℕ) → ShortGiven (marked letter)
unfolding marked
marked_short letter = cases ShortGiven (marked_by letter) (λ _. (omega arith, tt)) (λ _. tt)

-- the scanner's lines are within the width
numbered : (f : Found) → few.Numbered f → Numbered f
numbered found.Nothing h = tt
numbered (found.Format f) h = tt
numbered (found.Word n w) h = tt
numbered (found.Bad n) h = h
numbered found.Over h = tt
numbered found.End h = tt

pub byte_numbered : (s : Scanner) (c : ℕ) → Numbered (scanned_byte s c).found
byte_numbered s c = numbered (scanned_byte s c).found (few.numbered_byte s c)

pub closed_numbered : (s : Scanner) → Numbered (closed_of s).found
closed_numbered s = numbered (closed_of s).found (few.numbered_closed s)

pub end_numbered : (s : Scanner) → Numbered (end_of s).found
unfolding end_of
end_numbered s = cases Numbered s.ended (λ _. tt) (λ _. cases Numbered (eqb s.line 0) (λ _. omega arith) (λ _. tt))

-- a byte more, and the end
pub byte_heard : (l : Log) (s : Scanner) (input : List ℕ) (at : ℕ) → at < length input
    → heard_all l (all_found s (drop at input)) ≡ heard_all (heard l (scanned_byte s (get_or input at 0)).found) (all_found (scanned_byte s (get_or input at 0)).next (drop (at + 1) input))
unfolding all_found heard_all
byte_heard l s input at h = rw (add-one, drop-cons input at 0 h)

pub end_heard : (l : Log) (s : Scanner) → heard_all l (all_found s []) ≡ heard (heard l (closed_of s).found) (end_of (closed_of s).next).found
unfolding all_found heard_all
end_heard l s = refl

-- nothing that is found leaves the log; and what is found where nothing stands alone yet, and behind what does
pub heard_nothing : (l : Log) → heard l found.Nothing ≡ l
unfolding heard
heard_nothing l = go l.alone
  where
    go : (g : Option Item) → unless g l l ≡ l
    go None = refl
    go (Some i) = refl

pub heard_new : (l : Log) (f : Found) → l.alone ≡ None → heard l f ≡ new_heard l f
unfolding heard
heard_new l f e = ap (λ (g : Option Item). unless g l (new_heard l f)) e

pub heard_behind : (l : Log) (f : Found) {i : Item} → l.alone ≡ Some i → heard l f ≡ l
unfolding heard
heard_behind l f e = ap (λ (g : Option Item). unless g l (new_heard l f)) e

-- one after the other
pub then : {l : Log} {h next : Heard} {slice later : List ℕ} (f : Found) → Hears l h slice → Hears (heard (log_in h slice) f) next later → Hears (heard l f) next later
then f p q = record { fine = q.fine; same = q.same ∙ ap (λ (l : Log). heard l f) p.same }

-- where nothing is found nothing is heard
pub nothing_heard : (l : Log) → heard l found.Nothing ≡ l
unfolding heard
nothing_heard l = go l.alone
  where
    go : (g : Option Item) → unless g l l ≡ l
    go None = refl
    go (Some i) = refl

pub told_heard : (fs : List Found) (l : Log) → heard_all l fs ≡ heard_all l (told fs)
unfolding heard_all
told_heard [] l = refl
told_heard (found.Nothing ∷ fs) l = rw (nothing_heard l) (told_heard fs l)
told_heard (found.Format f ∷ fs) l = told_heard fs (heard l (found.Format f))
told_heard (found.Word n w ∷ fs) l = told_heard fs (heard l (found.Word n w))
told_heard (found.Bad n ∷ fs) l = told_heard fs (heard l (found.Bad n))
told_heard (found.Over ∷ fs) l = told_heard fs (heard l found.Over)
told_heard (found.End ∷ fs) l = told_heard fs (heard l found.End)

-- the log of an input
pub all_heard : (input : List ℕ) → heard_all empty (all_found unfed input) ≡ log_of input
all_heard input = told_heard (all_found unfed input) empty ∙ ap (heard_all empty) (scanned input)
