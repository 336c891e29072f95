-- What answers count, added up: their reports and dropped bytes, and the numbers that they write.
use Prim.Native.Nat.{◌+◌, ◌*◌}
use mathlib.Core.Path.{◌≡◌, refl}
use mathlib.Core.List.{List, [], ◌∷◌}
use native.Mathlib.Omega.{arith}
use lib.ListN.{length, length-append}
use Rattle.fold.specs.Fold.{written}
use Rattle.fold.specs.Calls.{counts, sum, Lawful}
use Rattle.fold.proofs.Calls.{reports_lawful}
use Rattle.wire.specs.Numbers.{bad_state}
use Rattle.reader.specs.Good.{good}
use Rattle.reader.specs.Line.{reads, reads_line}
use Rattle.reader.specs.Telling.{tells_line}
use Rattle.reader.specs.Counts.{reports_in, dropped_in, written_in, handed_out, numbers, dropped_among}
use Rattle.reader.specs.declared.Answer.{Answer}
use Rattle.reader.specs.declared.Answer.TheVariants as answer
use Rattle.reader.proofs.Keeps.{word_good}

pub empty : {A : Type 0} (l : List A) → length l ≡ 0 → l ≡ []
empty [] e = refl
empty (x ∷ l) e = absurd (omega arith)

-- an answer, and then those behind it
pub reports_first : (a : Answer) (l : List Answer) → length (handed_out (a ∷ l)) ≡ reports_in a + length (handed_out l)
reports_first answer.Nothing l = omega arith
reports_first (answer.Report p) l = omega arith
reports_first (answer.Dropped k) l = omega arith

-- five numbers for each report
pub five_in : (a : Answer) → length (written_in a) ≡ 5 * reports_in a
five_in answer.Nothing = refl
five_in (answer.Report p) = refl
five_in (answer.Dropped k) = refl

pub five_each : (l : List Answer) → length (written reads l) ≡ 5 * length (handed_out l)
five_each [] = refl
five_each (a ∷ l) = omega (arith, length-append (written_in a) (written reads l), five_in a, reports_first a l, five_each l)

pub numbers_written : (l : List Answer) → written reads l ≡ numbers (handed_out l)
numbers_written [] = refl
numbers_written (answer.Nothing ∷ l) = numbers_written l
numbers_written (answer.Report p ∷ l) = rw (numbers_written l)
numbers_written (answer.Dropped k ∷ l) = numbers_written l

-- they add up as the laws of long calls ask
pub lawful : Lawful reads_line
lawful = reports_lawful reads 5 reports_in dropped_in good bad_state five_in (λ r w g. word_good r g w)

pub told_lawful : Lawful tells_line
told_lawful =
    record {
      plus_none = λ k. omega arith;
      none_plus = λ k. omega arith;
      plus_plus = λ i j k. omega arith;
      none_places = refl;
      plus_places = λ j k. refl;
      each = λ a. refl;
      stays = λ r w g. word_good r g w;
    }

-- the same of the list of reports
pub sum_is : (l : List Answer) → sum reads_line l ≡ counts (length (handed_out l)) (dropped_among l)
unfolding sum dropped_among
sum_is [] = refl
sum_is (a ∷ l) = rw (sum_is l, reports_first a l)
