-- What a recorder calls: a long read, and then the watch over the numbers that it wrote.
use Rattle.std.specs.Prelude.{ℕ, ◌*◌, ◌≤◌, ◌≡◌, refl, List, [], ◌∷◌, ℤ, length, take, drop}
use Rattle.std.proofs.Common.{◌∙◌, arith, take_at}
use Rattle.wire.specs.Buttons.{Button, is_down, presses_from, presses_among}
use Rattle.wire.specs.declared.Report.{Report}
use Rattle.reader.specs.Counts.{numbers}
use Rattle.reader.specs.Promises.{ReadPromise}
use Rattle.reader.specs.DamagedLines.{HandsOutBy}
use Rattle.reader.specs.declared.Reader.{Reader}
use Rattle.saves.specs.State.{watching, unaware}
use Rattle.saves.specs.Rules.{fives}
use Rattle.saves.specs.Promises.{OverPromise}
use Rattle.saves.specs.declared.Watch.{Watch}
use Rattle.saves.specs.declared.Watched.{Watched}
use Rattle.saves.proofs.Over.{counted, over_known, over_fresh}
use Rattle.reader.specs.Line.{Reading}

-- the numbers that a long read writes are those that the watch reads
as_written : (reports : List Report) → numbers reports ≡ fives reports
as_written [] = refl
as_written (p ∷ reports) = rw (as_written reports)

five_each : (reports : List Report) → length (numbers reports) ≡ 5 * length reports
five_each [] = refl
five_each (p ∷ reports) = omega (arith, five_each reports)

-- A reader that hands out these reports of the words, by a long read with room for them; and the watch over what it
-- wrote.
pub record ReadAndWatched (r : Reader) (words : List ℕ) (found : List Report) (w : Watch) (answer : Watched) : Type 0 where
  pub before : List ℤ
  pub after : List ℤ
  pub reading : Reading
  pub hands_out : HandsOutBy r words found
  pub read : ReadPromise r words before reading after
  pub room : 5 * length found ≤ length before
  pub over : OverPromise w (take (5 * reading.reports) after) answer

wrote : {r : Reader} {words : List ℕ} {found : List Report} {w : Watch} {answer : Watched} → ReadAndWatched r words found w answer
    → OverPromise w (fives found) answer
wrote {found = found} {w = w} {answer = answer} h =
    let t = h.hands_out.by_read h.before h.after h.reading h.read h.room in
    let front : take (5 * h.reading.reports) h.after ≡ fives found =
    rw (t.reports, t.written) (take_at (numbers found) (drop (5 * length found) h.before) (5 * length found) (five_each found) ∙ as_written found) in
    rw front at h.over

-- The watch counts the presses among the reports: behind buttons that it was told or has seen, and, where it is fresh,
-- from the first report on.
pub read_known : (button : Button) (n : ℕ) (r : Reader) (words : List ℕ) (found : List Report) (answer : Watched)
    → ReadAndWatched r words found (watching n) answer
    → counted button answer ≡ presses_from (is_down button) n found
read_known button n r words found answer h = over_known button n found answer (wrote h)

pub read_fresh : (button : Button) (r : Reader) (words : List ℕ) (found : List Report) (answer : Watched) → ReadAndWatched r words found unaware answer
    → counted button answer ≡ presses_among (is_down button) found
read_fresh button r words found answer h = over_fresh button found answer (wrote h)
