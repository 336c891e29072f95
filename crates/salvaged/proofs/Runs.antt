-- A run that starts at a place of the words: its bytes, the report that they stand for, and that its line is short.
use Prim.Native.Nat.{ℕ, zero, suc, ◌+◌, ◌-◌, ◌%◌, ◌<◌, ◌≤◌}
use mathlib.Core.Path.{◌≡◌, refl, sym, ◌∙◌}
use mathlib.Core.Bool.{true, ◌&&◌, true≢false}
use mathlib.Core.Logic.{◌⊎◌, inl, inr}
use mathlib.Core.List.{List, [], ◌∷◌}
use native.Mathlib.Omega.{arith}
use native.Mathlib.Nat.{mod-eq_of_lt}
use lib.ListN.{length, take, drop, length-drop}
use lib.Dec.{leb}
use lib.IntN.{pos}
use borrow.Author.Tests.{leb-true}
use Rattle.numbers.proofs.Tested.{left, right}
use Rattle.frames.specs.Words.{is_byte}
use Rattle.wire.specs.Line.{named_by, of_named, size_of, size_by}
use Rattle.wire.specs.Reading.{report, report_of, report_by}
use Rattle.wire.specs.declared.Format.{Format}
use Rattle.wire.specs.declared.Format.TheVariants.{Mm, Microsoft, Absolute, Relative, FiveByte, ThreeByte, Hexadecimal}
use Rattle.std.proofs.Common.{Option, Some, None}
use Rattle.reader.proofs.WholeReports.{three_or_five}
use Rattle.choosing.specs.Choice.{all_bytes}
use Rattle.choosing.specs.Earliest.{starts}
use Rattle.choosing.specs.Pieces as piece
use Rattle.choosing.proofs.Walk.{reaches}
use Rattle.salvage.specs.Picking.{most_words, valid_by, starts_by}
use Rattle.salvage.proofs.Fitting.{starts_none}
use Rattle.listing.specs.Printing.{form_of}
use Rattle.listing.proofs.Few.{Short}
use Rattle.listing.proofs.Small.{small_report}
use Rattle.salvaged.specs.Items.{bytes_at, item_of}
use Rattle.salvaged.specs.Walk.{RunOf, five_in}

-- a byte is itself modulo 256
one_byte : (w : ℕ) (l : List ℕ) → all_bytes (w ∷ l) ≡ true → w % 256 ≡ w
unfolding all_bytes
one_byte w l h = mod-eq_of_lt (omega (arith, leb-true w 255 (left (is_byte w) (all_bytes l) h)))

later_bytes : (w : ℕ) (l : List ℕ) → all_bytes (w ∷ l) ≡ true → all_bytes l ≡ true
unfolding all_bytes
later_bytes w l h = right (is_byte w) (all_bytes l) h

-- a report of three bytes takes nothing from behind them
no_more : (f : Format) (a b c : ℕ) → size_of f ≡ 3 → report_of f (a ∷ b ∷ c ∷ 0 ∷ 0 ∷ []) ≡ report_of f (a ∷ b ∷ c ∷ [])
no_more Mm a b c e = refl
no_more Microsoft a b c e = refl
no_more ThreeByte a b c e = refl
no_more Absolute a b c e = absurd (omega arith)
no_more Relative a b c e = absurd (omega arith)
no_more FiveByte a b c e = absurd (omega arith)
no_more Hexadecimal a b c e = absurd (omega arith)

three_bytes : (f : Format) (l : List ℕ) → size_of f ≡ 3 → 3 ≤ length l → all_bytes (take 3 l) ≡ true → report_of f (five_in 3 l) ≡ report_of f (take 3 l)
three_bytes f [] e h b = absurd (omega arith)
three_bytes f (x ∷ []) e h b = absurd (omega arith)
three_bytes f (x ∷ y ∷ []) e h b = absurd (omega arith)
three_bytes f (x ∷ y ∷ z ∷ l) e h b =
    let b1 = later_bytes x (y ∷ z ∷ []) b in
    rw (one_byte x (y ∷ z ∷ []) b, one_byte y (z ∷ []) b1, one_byte z [] (later_bytes y (z ∷ []) b1)) (no_more f x y z e)

five_bytes : (f : Format) (l : List ℕ) → 5 ≤ length l → all_bytes (take 5 l) ≡ true → report_of f (five_in 5 l) ≡ report_of f (take 5 l)
five_bytes f [] h b = absurd (omega arith)
five_bytes f (x ∷ []) h b = absurd (omega arith)
five_bytes f (x ∷ y ∷ []) h b = absurd (omega arith)
five_bytes f (x ∷ y ∷ z ∷ []) h b = absurd (omega arith)
five_bytes f (x ∷ y ∷ z ∷ u ∷ []) h b = absurd (omega arith)
five_bytes f (x ∷ y ∷ z ∷ u ∷ v ∷ l) h b =
    let b1 = later_bytes x (y ∷ z ∷ u ∷ v ∷ []) b in
    let b2 = later_bytes y (z ∷ u ∷ v ∷ []) b1 in
    let b3 = later_bytes z (u ∷ v ∷ []) b2 in
    rw (one_byte x (y ∷ z ∷ u ∷ v ∷ []) b, one_byte y (z ∷ u ∷ v ∷ []) b1, one_byte z (u ∷ v ∷ []) b2, one_byte u (v ∷ []) b3, one_byte v [] (later_bytes u (v ∷ []) b3))

sized_bytes : (f : Format) (n : ℕ) (l : List ℕ) → size_of f ≡ n → (n ≡ 3) ⊎ (n ≡ 5) → n ≤ length l → all_bytes (take n l) ≡ true → report_of f (five_in n l) ≡ report_of f (take n l)
sized_bytes f n l e (inl t) h b = rw t (three_bytes f l (e ∙ t) (omega arith) (rw t at b))
sized_bytes f n l e (inr t) h b = rw t (five_bytes f l (omega arith) (rw t at b))

same_report : (letter : ℕ) (l : List ℕ) → (size_by letter ≡ 3) ⊎ (size_by letter ≡ 5) → size_by letter ≤ length l → all_bytes (take (size_by letter) l) ≡ true
    → report_by letter (five_in (size_by letter) l) ≡ report_by letter (take (size_by letter) l)
unfolding report_by size_by
same_report letter l t h b = go (named_by letter) t h b
  where
    go : (n : Option Format) → let size = of_named 0 size_of n in
        (size ≡ 3) ⊎ (size ≡ 5) → size ≤ length l → all_bytes (take size l) ≡ true
        → of_named (report 0 (pos 0) (pos 0)) (λ f. report_of f (five_in size l)) n ≡ of_named (report 0 (pos 0) (pos 0)) (λ f. report_of f (take size l)) n
    go (Some f) t h b = sized_bytes f (size_of f) l refl t h b
    go None t h b = refl

module _ (letter : ℕ) (words : List ℕ) (at : ℕ) (h : at < length words) (e : starts_by letter (drop at words) ≡ true) where
  pub sized : 0 < size_by letter
  sized = go (size_by letter) refl
    where
      go : (n : ℕ) → size_by letter ≡ n → 0 < n
      go zero z = absurd (true≢false (sym e ∙ starts_none letter (drop at words) z))
      go (suc n) z = omega arith

  pub two : (size_by letter ≡ 3) ⊎ (size_by letter ≡ 5)
  two = three_or_five letter 0 sized

  pub within : at + size_by letter ≤ length words
  within = reaches (size_by letter) (valid_by letter) words at h sized e

  bytes : all_bytes (take (size_by letter) (drop at words)) ≡ true
  unfolding starts
  bytes =
      let d = drop at words in
      let b = take (size_by letter) d in
      right (leb (size_by letter) (length d)) (all_bytes b) (left (leb (size_by letter) (length d) && all_bytes b) (valid_by letter b) e)

  pub run_of : RunOf (size_by letter) (drop at words)
  run_of = record { two = two; within = omega (arith, within, length-drop at words) }

  pub report_is : report_by letter (five_in (size_by letter) (drop at words)) ≡ report_by letter (bytes_at letter words at)
  report_is = same_report letter (drop at words) two (omega (arith, within, length-drop at words)) bytes

  pub run_short : length words ≤ most_words → Short (form_of (item_of letter words (piece.picked at))).fields
  unfolding item_of
  run_short few =
      let s = small_report letter (bytes_at letter words at) in
      (omega (arith, within), (s.0, (s.1, tt)))

pub left_short : (letter at n : ℕ) (words : List ℕ) → n ≤ at → at ≤ most_words → Short (form_of (item_of letter words (piece.left (at - n) n))).fields
unfolding item_of
left_short letter at n words h k = (omega arith, (omega arith, tt))
