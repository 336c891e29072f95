-- What a scanner finds byte by byte is what is found in the lines of its input.
use Prim.Native.Nat.{ℕ, zero, suc, ◌+◌, ◌<◌}
use mathlib.Core.Path.{◌≡◌, refl, ◌∙◌, ap}
use mathlib.Core.Bool.{Bool, true, false, cond, true≢false}
use mathlib.Core.List.{List, [], ◌∷◌, ◌++◌, append-nil}
use native.Mathlib.Omega.{arith}
use native.Mathlib.Numerals.{add-one}
use lib.Dec.{leb, eqb}
use lib.ListN.{length, take, set, length-set}
use lib.Seq.{take-suc-set, take_all}
use borrow.Author.Tests.{eqb-true, eqb-false, leb-true, leb-false}
use Rattle.numbers.proofs.Choices.{cases}
use Rattle.listing.specs.Lines.{newline, front, lines_in, said_by}
use Rattle.listing.specs.Scanning.{width, most_lines, on_line, line_in, ends, end_in, found_in, recording_of, scan, unfed, unfinished, passing, taken_of, scanned_byte, closed_of, end_of}
use Rattle.listing.specs.declared.Line.{Line}
use Rattle.listing.specs.declared.Line.TheVariants as line
use Rattle.listing.specs.declared.Found.{Found}
use Rattle.listing.specs.declared.Found.TheVariants.{Nothing, Format, Word, Bad, Over, End}
use Rattle.listing.specs.declared.Scan.{Scan}
use Rattle.listing.specs.declared.Scanner.{Scanner}
use Rattle.listing.proofs.Long.{long_bad}

-- what a scanner finds of an input, and of its end
unfoldable pub all_found : Scanner → List ℕ → List Found
all_found s [] = (closed_of s).found ∷ (end_of (closed_of s).next).found ∷ []
all_found s (c ∷ cs) = (scanned_byte s c).found ∷ all_found (scanned_byte s c).next cs

-- without the bytes at which nothing was found
abbrev pub told : List Found → List Found
told [] = []
told (Nothing ∷ fs) = told fs
told (Format f ∷ fs) = Format f ∷ told fs
told (Word n w ∷ fs) = Word n w ∷ told fs
told (Bad n ∷ fs) = Bad n ∷ told fs
told (Over ∷ fs) = Over ∷ told fs
told (End ∷ fs) = End ∷ told fs

-- where a line goes on, there may be one more
pub goes_on : (n : ℕ) (l : Line) → ends (line_in width n l) ≡ false → n < most_lines
unfolding line_in
goes_on n l =
    cases (λ (f : Found). ends f ≡ false → n < most_lines) (leb most_lines n) (λ _ h. absurd (true≢false h)) (λ e _. leb-false _ _ e)

-- a bad line is the end
bad_last : (n : ℕ) → ends (line_in width n line.Bad) ≡ true
unfolding line_in
bad_last n = cases (λ (f : Found). ends f ≡ true) (leb most_lines n) (λ _. refl) (λ _. refl)

pub bad_ends : (s : Scanner) → (taken_of s line.Bad).next.ended ≡ true
unfolding taken_of
bad_ends s = cases (λ (k : Scan). k.next.ended ≡ true) s.ended (λ _. refl) (λ _. bad_last s.line)

-- something is found on every line, and at the end
module _ (n : ℕ) (fs : List Found) where
  abbrev Tells : Found → Type 0
  Tells f = told (f ∷ fs) ≡ f ∷ told fs

  tell_on : (l : Line) → Tells (on_line n l)
  tell_on line.Bad = refl
  tell_on (line.Format f) = cases Tells (eqb n 0) (λ _. refl) (λ _. refl)
  tell_on (line.Word w) = cases Tells (eqb n 0) (λ _. refl) (λ _. refl)

  tell_line : (l : Line) → Tells (line_in width n l)
  unfolding line_in
  tell_line l = cases Tells (leb most_lines n) (λ _. refl) (λ _. tell_on l)

  tell_end : Tells (end_in n)
  tell_end = cases Tells (eqb n 0) (λ _. refl) (λ _. refl)

-- bytes in front of the first line
abbrev pub ahead : List ℕ → List (List ℕ) → List (List ℕ)
ahead [] ls = ls
ahead (c ∷ cs) ls = front c (ahead cs ls)

pub ahead_none : (c : ℕ) (cs : List ℕ) → ahead (c ∷ cs) [] ≡ (c ∷ cs) ∷ []
ahead_none c [] = refl
ahead_none c (d ∷ cs) = ap (front c) (ahead_none d cs)

pub ahead_line : (p l : List ℕ) (ls : List (List ℕ)) → ahead p (l ∷ ls) ≡ (p ++ l) ∷ ls
ahead_line [] l ls = refl
ahead_line (c ∷ p) l ls = ap (front c) (ahead_line p l ls)

pub ahead_more : (p : List ℕ) (c : ℕ) (ls : List (List ℕ)) → ahead (p ++ (c ∷ [])) ls ≡ ahead p (front c ls)
ahead_more [] c ls = refl
ahead_more (d ∷ p) c ls = ap (front d) (ahead_more p c ls)

-- what is found from a scanner on, if these are the lines behind the start of its own
abbrev Rest : Scanner → List (List ℕ) → List Found
Rest s ls = cond s.ended [] (found_in width s.line ls)

-- a line, if what is found later is this
line_told : (s : Scanner) (l : Line) (ls : List (List ℕ)) (later : List Found) → told later ≡ Rest (taken_of s l).next ls
    → told ((taken_of s l).found ∷ later) ≡ cond s.ended [] (line_in width s.line l ∷ cond (ends (line_in width s.line l)) [] (found_in width (s.line + 1) ls))
unfolding taken_of
line_told s l ls later = go s.ended
  where
    n : ℕ
    n = s.line

    f : Found
    f = line_in width n l

    passes : (t : Bool) → cond t [] (found_in width (cond t n (n + 1)) ls) ≡ cond t [] (found_in width (n + 1) ls)
    passes true = refl
    passes false = refl

    go : (t : Bool) → let k = cond t (scan n true Nothing) (passing n f) in told later ≡ Rest k.next ls
        → told (k.found ∷ later) ≡ cond t [] (f ∷ cond (ends f) [] (found_in width (n + 1) ls))
    go true h = h
    go false h = tell_line n later l ∙ ap (λ (fs : List Found). f ∷ fs) (h ∙ passes (ends f))

end_told : (s : Scanner) → told ((end_of s).found ∷ []) ≡ Rest s []
unfolding end_of found_in
end_told s = go s.ended
  where
    go : (t : Bool) → told (cond t Nothing (end_in s.line) ∷ []) ≡ cond t [] (end_in s.line ∷ [])
    go true = refl
    go false = tell_end s.line []

-- a line whose first five bytes are followed by more
long : (n : ℕ) (l : List ℕ) (c : ℕ) (ls : List (List ℕ)) → length l ≡ 5 → found_in width n (ahead l (front c ls)) ≡ line_in width n line.Bad ∷ []
unfolding found_in
long n (a ∷ b ∷ d ∷ e ∷ f ∷ []) c [] h = rw (long_bad a b d e f c [], bad_last n)
long n (a ∷ b ∷ d ∷ e ∷ f ∷ []) c (l ∷ ls) h = rw (long_bad a b d e f c l, bad_last n)
long n [] c ls h = absurd (omega arith)
long n (a ∷ []) c ls h = absurd (omega arith)
long n (a ∷ b ∷ []) c ls h = absurd (omega arith)
long n (a ∷ b ∷ d ∷ []) c ls h = absurd (omega arith)
long n (a ∷ b ∷ d ∷ e ∷ []) c ls h = absurd (omega arith)
long n (a ∷ b ∷ d ∷ e ∷ f ∷ g ∷ l) c ls h = absurd (omega arith)

-- some bytes are held
held : (l : List ℕ) (n : ℕ) → length l ≡ 5 → (n ≡ 0 → ⊥) → take n l ≡ [] → ⊥
held [] n h k e = omega arith
held (a ∷ l) zero h k e = k refl
held (a ∷ l) (suc n) h k e = omega (arith, ap length e)

at_end : (s : Scanner) → length s.held ≡ 5 → told (all_found s []) ≡ Rest s (ahead (unfinished s) [])
unfolding all_found closed_of found_in
at_end s five = go (eqb s.count 0) refl (unfinished s) refl
  where
    go : (t : Bool) → eqb s.count 0 ≡ t → (u : List ℕ) → unfinished s ≡ u → told (all_found s []) ≡ Rest s (ahead (unfinished s) [])
    go true e u eu =
        let none : unfinished s ≡ [] = ap (λ (n : ℕ). take n s.held) (eqb-true s.count 0 e) in
        rw (e, none) (end_told s)
    go false e [] eu = absurd (held s.held s.count five (eqb-false _ _ e) eu)
    go false e (x ∷ xs) eu =
        let next = (taken_of s (said_by (x ∷ xs))).next in
        rw (e, eu, ahead_none x xs) (line_told s (said_by (x ∷ xs)) [] ((end_of next).found ∷ []) (end_told next))

-- a line that was taken leaves none unfinished
starts : (s : Scanner) (l : Line) → (length (taken_of s l).next.held ≡ 5) × (unfinished (taken_of s l).next ≡ [])
unfolding taken_of
starts s l = cases (λ (k : Scan). (length k.next.held ≡ 5) × (unfinished k.next ≡ [])) s.ended (λ _. (refl, refl)) (λ _. (refl, refl))

-- the scanner goes through the lines: what is unfinished stands in front of the rest
abbrev Through : List ℕ → Type 0
Through input = (s : Scanner) → length s.held ≡ 5 → told (all_found s input) ≡ Rest s (ahead (unfinished s) (lines_in input))

by_bytes : (input : List ℕ) → Through input
unfolding all_found lines_in scanned_byte found_in
by_bytes [] s five = at_end s five
by_bytes (c ∷ cs) s five = go (by_bytes cs) (eqb c newline) refl (leb 5 s.count) refl
  where
    taken : Through cs → (l : Line) → told ((taken_of s l).found ∷ all_found (taken_of s l).next cs)
        ≡ cond s.ended [] (line_in width s.line l ∷ cond (ends (line_in width s.line l)) [] (found_in width (s.line + 1) (lines_in cs)))
    taken ih l =
        let next = (taken_of s l).next in line_told s l (lines_in cs) (all_found next cs) (ih next (starts s l).0 ∙ rw (starts s l).1)

    go : Through cs → (t : Bool) → eqb c newline ≡ t → (u : Bool) → leb 5 s.count ≡ u → told (all_found s (c ∷ cs)) ≡ Rest s (ahead (unfinished s) (lines_in (c ∷ cs)))
    go ih true e u eu = rw (e, ahead_line (unfinished s) [] (lines_in cs), append-nil (unfinished s)) (taken ih (said_by (unfinished s)))
    go ih false e true eu =
        let all : length (unfinished s) ≡ 5 = ap length (take_all s.count s.held (omega (arith, leb-true 5 s.count eu))) ∙ five in
        rw (e, eu, long s.line (unfinished s) c (lines_in cs) all) (taken ih line.Bad ∙ rw (bad_last s.line))
    go ih false e false eu =
        let k : s.count < length s.held = omega (arith, leb-false 5 s.count eu) in
        let more : take (s.count + 1) (set s.held s.count c) ≡ unfinished s ++ (c ∷ []) = rw add-one (take-suc-set s.held s.count c k) in
        rw (e, eu) (ih _ (length-set s.held s.count c ∙ five) ∙ rw (more, ahead_more (unfinished s) c (lines_in cs)))

-- SCANNED: what is found in an input, byte by byte, is its recording
pub scanned : (input : List ℕ) → told (all_found unfed input) ≡ recording_of width input
scanned input = by_bytes input unfed refl
