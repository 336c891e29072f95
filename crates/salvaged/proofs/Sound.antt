-- The log of an input is one that may be salvaged, or something stands alone, with a short line.
use Rattle.std.proofs.Common.{Option, None, Some}
use Prim.Native.Nat.{ℕ, ◌+◌, ◌≤◌}
use mathlib.Core.Path.{◌≡◌, refl, sym, ◌∙◌}
use mathlib.Core.Bool.{Bool, true, false, cond}
use mathlib.Core.List.{List, [], ◌∷◌, ◌++◌}
use native.Mathlib.Omega.{arith}
use lib.Dec.{leb, eqb}
use lib.ListN.{length, length-append}
use borrow.Author.Tests.{le-leb, leb-false, eqb-false}
use Rattle.numbers.proofs.Tested.{left, right}
use Rattle.numbers.proofs.Choices.{cases, both}
use Rattle.frames.specs.Words.{silence, line_words}
use Rattle.wire.specs.Line.{known, marked_by}
use Rattle.wire.specs.Numbers.{success}
use Rattle.salvage.specs.Picking.{most_words, refusal_of}
use Rattle.salvage.proofs.Refusals.{none_left}
use Rattle.listing.specs.Lines.{lines_in, said_by}
use Rattle.listing.specs.Scanning.{width, most_lines, line_in, ends, end_in, found_in}
use Rattle.listing.specs.declared.Found.{Found}
use Rattle.listing.specs.declared.Found.TheVariants as found
use Rattle.listing.specs.declared.Item.{Item}
use Rattle.listing.specs.declared.Item.TheVariants as item
use Rattle.listing.proofs.Few.{ShortGiven}
use Rattle.listing.proofs.Ordered.{Ordered}
use Rattle.listing.proofs.Viewed.{View, is_over, is_bad, is_format, is_word, viewed}
use Rattle.salvaged.specs.Log.{Log, log, empty, marked, word_heard, new_heard, heard, heard_all, log_of}
use Rattle.salvaged.proofs.Hearing.{marked_short, heard_new, heard_behind}

-- what stands alone is the last item of a listing, as its first
abbrev pub Last : Option Item → Type 0
Last None = Unit {0}
Last (Some i) = Ordered most_lines 0 (i ∷ [])

-- a log as it should be: few words, all of a line, and what stands alone is short
pub record Sound (l : Log) : Type 0 where
  pub short : ShortGiven l.alone
  pub last : Last l.alone
  pub few : length l.words ≤ most_words
  pub line : line_words l.words ≡ true

abbrev Fits : Log → Type 0
Fits l = (known l.letter ≡ true) × (marked_by l.letter ≡ false)

-- and where nothing stands alone, its format is one that may be salvaged
pub record Settled (l : Log) : Type 0 where
  pub sound : Sound l
  pub fits : l.alone ≡ None → Fits l

one_not : {i : Item} → Some i ≡ None → ⊥
one_not e = let z : ◌≡◌ {A = ℕ} 0 1 = cc in omega arith

-- what stands alone stands
alone_settled : (l : Log) (i : Item) → l.alone ≡ Some i → Sound l → Settled l
alone_settled l i e s = record { sound = s; fits = λ n. absurd (one_not (sym e ∙ n)) }

made_alone : (l : Log) (i : Item) → ShortGiven (Some i) → Last (Some i) → Sound l → Settled (log l.letter l.words (Some i))
made_alone l i h z s = record { sound = record { short = h; last = z; few = s.few; line = s.line }; fits = λ e. absurd (one_not e) }

line_more : (ws : List ℕ) (w : ℕ) → line_words ws ≡ true → w ≤ silence → line_words (ws ++ w ∷ []) ≡ true
unfolding line_words
line_more [] w h l = rw (le-leb w silence l)
line_more (v ∷ ws) w h l = both (leb v silence) (line_words (ws ++ w ∷ [])) (left (leb v silence) (line_words ws) h) (line_more ws w (right (leb v silence) (line_words ws) h) l)

-- one found more
word_settled : (l : Log) (w : ℕ) → w ≤ silence → Settled l → l.alone ≡ None → Settled (word_heard l w)
unfolding word_heard
word_settled l w h s e =
    cases Settled (leb most_words (length l.words)) (λ _. made_alone l item.Over tt refl s.sound)
    (λ f. record {
      sound = record {
        short = tt;
        last = tt;
        few = omega (arith, leb-false most_words (length l.words) f, length-append l.words (w ∷ []));
        line = line_more l.words w s.sound.line h;
      };
      fits = λ _. s.fits e;
    })

none_marked : (f : ℕ) → marked f ≡ None → marked_by f ≡ false
unfolding marked
none_marked f e = go (marked_by f) refl e
  where
    go : (t : Bool) → marked_by f ≡ t → cond t (Some (item.E 1)) None ≡ None → marked_by f ≡ false
    go true m e = absurd (one_not e)
    go false m e = m

marked_last : (f : ℕ) → Last (marked f)
unfolding marked
marked_last f = cases Last (marked_by f) (λ _. ((omega arith, omega arith), refl)) (λ _. tt)

format_settled : (l : Log) (f : ℕ) → known f ≡ true → Sound l → Settled (log f l.words (marked f))
format_settled l f k s =
    record {
      sound = record { short = marked_short f; last = marked_last f; few = s.few; line = s.line };
      fits = λ e. (k, none_marked f e);
    }

-- what is heard behind n lines, where the format has been heard on the first of them
module _ (n : ℕ) (l : Log) (s : Sound l) (k : 1 ≤ n → Settled l) where
  unless_alone : (f : Found) → (l.alone ≡ None → Settled (new_heard l f)) → Settled (heard l f)
  unless_alone f r = go l.alone refl
    where
      go : (g : Option Item) → l.alone ≡ g → Settled (heard l f)
      go None e = rw (heard_new l f e) (r e)
      go (Some i) e = rw (heard_behind l f e) (alone_settled l i e s)

  heard_settled : (f : Found) → View n f → Settled (heard l f)
  heard_settled f v = unless_alone f (λ e. go f v e)
    where
      go : (f : Found) → View n f → l.alone ≡ None → Settled (new_heard l f)
      go found.Nothing v e = elim v [ ]
      go found.End v e = elim v [ ]
      go found.Over is_over e = made_alone l item.Over tt refl s
      go (found.Bad m) (is_bad h) e = made_alone l (item.E (n + 1)) (h, tt) ((omega arith, omega (arith, h)), refl) s
      go (found.Format f) (is_format z p) e = format_settled l f p s
      go (found.Word m w) (is_word h p) e = word_settled l w p (k h) e

  end_settled : Settled (heard l (end_in n))
  end_settled =
      cases (λ (f : Found). Settled (heard l f)) (eqb n 0) (λ _. unless_alone (found.Bad 1) (λ _. made_alone l (item.E 1) (omega arith, tt) ((omega arith, omega arith), refl) s))
      (λ e. unless_alone found.End (λ _. k (omega (arith, eqb-false n 0 e))))

by_lines : (ls : List (List ℕ)) (n : ℕ) (l : Log) → Sound l → (1 ≤ n → Settled l) → Settled (heard_all l (found_in width n ls))
unfolding heard_all found_in
by_lines [] n l s k = end_settled n l s k
by_lines (x ∷ ls) n l s k =
    let f = line_in width n (said_by x) in
    let t = heard_settled n l s k f (viewed n x) in
    cases (λ (fs : List Found). Settled (heard_all (heard l f) fs)) (ends f) (λ _. t) (λ _. by_lines ls (n + 1) (heard l f) t.sound (λ _. t))

-- the log of an input
pub settled : (input : List ℕ) → Settled (log_of input)
unfolding line_words
settled input = by_lines (lines_in input) 0 empty (record { short = tt; last = tt; few = omega arith; line = refl }) (λ h. absurd (omega arith))

-- where nothing stands alone it may be salvaged
pub may_be : (input : List ℕ) → (log_of input).alone ≡ None → refusal_of (log_of input).letter (log_of input).words ≡ success
may_be input e =
    let l = log_of input in
    let s = settled input in
    none_left l.letter l.words (s.fits e).0 (s.fits e).1 s.sound.few s.sound.line
