-- What answers count, added up: their replies, reports and dropped bytes, and the numbers that they write.
use Rattle.std.proofs.Common.{Option, None, Some, is_some}
use mathlib.Core.Path.{◌≡◌, refl, ap}
use mathlib.Core.Bool.{Bool, true, false, not}
use mathlib.Core.List.{List, [], ◌∷◌, ◌++◌}
use lib.ListN.{length}
use lib.IntN.{ℤ}
use Rattle.fold.specs.Fold.{written}
use Rattle.fold.specs.Calls.{sum}
use Rattle.reader.specs.Line.{reads}
use Rattle.reader.specs.Counts.{written_in, handed_out, dropped_among}
use Rattle.reader.specs.declared.Answer.{Answer}
use Rattle.reader.proofs.Counted as report
use Rattle.replies.specs.Line.{Both, hears, or_else, reply_among, own_answers, counts, hears_line}
use Rattle.replies.specs.Replying.{is_none}
use Rattle.replies.specs.declared.Kind.{Kind}
use Rattle.replies.specs.declared.Reply.{Reply}

abbrev pub both : Option Reply → Answer → Both
both r a = record { reply = r; answer = a }

-- the first that tells something
pub or_nothing : (r : Option Reply) → or_else r None ≡ r
or_nothing None = refl
or_nothing (Some r) = refl

pub or_assoc : (p q r : Option Reply) → or_else (or_else p q) r ≡ or_else p (or_else q r)
or_assoc None q r = refl
or_assoc (Some p) q r = refl

-- what they count
pub sum_is : (l : List Both) → sum hears_line l ≡ counts (length (handed_out (own_answers l))) (dropped_among (own_answers l)) (reply_among l)
unfolding sum dropped_among
sum_is [] = refl
sum_is (a ∷ l) = rw (sum_is l, report.reports_first a.answer (own_answers l))

-- the numbers written are those of the report reader's answers
pub own_written : (l : List Both) → written hears l ≡ written reads (own_answers l)
own_written [] = refl
own_written (a ∷ l) = ap (λ (x : List ℤ). written_in a.answer ++ x) (own_written l)

-- as `Option::is_none` tests it
pub none_is : (k : Option Kind) (b : Bool) → is_some k ≡ not b → is_none k ≡ b
none_is None true e = refl
none_is None false e = cc
none_is (Some k) true e = cc
none_is (Some k) false e = refl
