-- What answers count, added up: their reports, V reports and dropped bytes.
use Prim.Native.Nat.{◌*◌, ◌≤◌}
use mathlib.Core.Path.{◌≡◌, refl, ◌∙◌, ap}
use mathlib.Core.List.{List, [], ◌∷◌}
use native.Mathlib.Nat.{add-zero, zero-add, add_assoc}
use native.Mathlib.Omega.{arith}
use lib.ListN.{length, length-append}
use Rattle.fold.specs.Fold.{written}
use Rattle.fold.specs.Calls.{sum, Lawful}
use Rattle.reader.specs.Counts.{reports_in, handed_out, dropped_among}
use Rattle.reader.specs.declared.Answer.{Answer}
use Rattle.reader.specs.declared.Answer.TheVariants as answer
use Rattle.reader.proofs.Counted.{reports_first}
use Rattle.bridge.specs.Splitting.{bytes_all}
use Rattle.bridge.specs.Line.{Given, counts, bridges, heard_in, sent_in, converts}
use Rattle.bridge.proofs.Writing.{three_each, bytes_append}
use Rattle.bridge.proofs.Keeps.{word_keeps}

-- they add up as the laws of long calls ask
pub lawful : Lawful converts
lawful =
    record {
      plus_none = λ k. rw (add-zero k.reports, add-zero k.sent, add-zero k.dropped);
      none_plus = λ k. rw (zero-add k.reports, zero-add k.sent, zero-add k.dropped);
      plus_plus = λ i j k. rw (add_assoc i.reports j.reports k.reports, add_assoc i.sent j.sent k.sent, add_assoc i.dropped j.dropped k.dropped);
      none_places = refl;
      plus_places = λ j k. omega arith;
      each = λ g. three_each g.sent;
      stays = λ b w g. word_keeps b g w;
    }

-- the bytes written are those of the V reports, three for each
pub sent_bytes : (l : List Given) → written bridges l ≡ bytes_all (sent_in l)
sent_bytes [] = refl
sent_bytes (g ∷ l) = rw (bytes_append g.sent (sent_in l), sent_bytes l)

pub three_sent : (l : List Given) → length (written bridges l) ≡ 3 * length (sent_in l)
three_sent l = ap length (sent_bytes l) ∙ three_each (sent_in l)

-- an answer has one report at most
pub one_report : (a : Answer) → reports_in a ≤ 1
one_report answer.Nothing = omega arith
one_report (answer.Report p) = omega arith
one_report (answer.Dropped k) = omega arith

pub reports_few : (l : List Given) → (sum converts l).reports ≤ length l
unfolding sum
reports_few [] = omega arith
reports_few (g ∷ l) = omega (arith, one_report g.heard, reports_few l)

-- the same of the lists of reports
pub sum_is : (l : List Given) → sum converts l ≡ counts (length (handed_out (heard_in l))) (length (sent_in l)) (dropped_among (heard_in l))
unfolding sum dropped_among
sum_is [] = refl
sum_is (g ∷ l) = rw (sum_is l, reports_first g.heard (heard_in l), length-append g.sent (sent_in l))
