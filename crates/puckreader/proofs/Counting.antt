-- "bytes in plus kept before equal bytes in reports plus dropped plus kept after": of a word, and of the words taken.
use Prim.Native.Nat.{ℕ, zero, suc, ◌+◌, ◌*◌, ◌<◌, ◌≤◌}
use mathlib.Core.Path.{◌≡◌, refl}
use mathlib.Core.Bool.{Bool, true, false}
use mathlib.Core.List.{List, [], ◌∷◌, ◌++◌}
use native.Mathlib.Omega.{arith}
use lib.ListN.{length, take}
use borrow.Author.Tests.{le-leb, lt-leb}
use Rattle.numbers.proofs.Choices.{cases}
use Rattle.frames.specs.Words.{is_byte}
use Rattle.frames.specs.Frame.{keep, drops}
use Rattle.fold.specs.Fold.{run}
use Rattle.fold.specs.Calls.{sum, Lawful}
use Rattle.fold.proofs.Calls.{reports_lawful}
use Rattle.fold.proofs.Laws as fold
use Rattle.vsxxx.specs.SelfTests.{is_test}
use Rattle.vsxxx.specs.Reports.{PuckReport, puck_frame}
use Rattle.puckreader.specs.State.{PuckRead, kept_in, told}
use Rattle.wire.specs.Numbers.{bad_state}
use Rattle.puckreader.specs.Good.{good}
use Rattle.puckreader.specs.Rules.{answered, word_of}
use Rattle.puckreader.specs.Line.{report_of, handed_out, bytes_reported, reports_in, dropped_in, byte_in, bytes_in, numbers, reads, reads_line}
use Rattle.puckreader.specs.declared.PuckReader.{PuckReader}
use Rattle.puckreader.specs.declared.PuckAnswer.{PuckAnswer}
use Rattle.puckreader.specs.declared.PuckAnswer.TheVariants.{Nothing, Movement, Test, Dropped}
use Rattle.puckreader.proofs.Kept.{Held, none, one, two, three, kept_count, keep_none, keep_one, keep_two, keep_move, keep_test}
use Rattle.puckreader.proofs.Word.{by_rules, word_held, word_good}

-- six numbers for each report
pub six_each : (a : PuckAnswer) → length (numbers (report_of a)) ≡ 6 * reports_in a
six_each Nothing = refl
six_each (Movement r) = refl
six_each (Test t) = refl
six_each (Dropped k) = refl

-- reports and dropped bytes add up as the laws of long calls ask
pub lawful : Lawful reads_line
lawful = reports_lawful reads 6 reports_in dropped_in good bad_state six_each (λ r w g. word_good r g w)

drops_count : (k : ℕ) → dropped_in (told (drops k)) ≡ k
drops_count zero = refl
drops_count (suc k) = refl

drops_none : (k : ℕ) → report_of (told (drops k)) ≡ []
drops_none zero = refl
drops_none (suc k) = refl

abbrev Balanced : PuckReader → ℕ → PuckRead → Type 0
Balanced r bytes s = s.refusal ≡ 0 → bytes + r.count ≡ bytes_reported (report_of s.answer) + dropped_in s.answer + s.next.count

keep_counts : (r : PuckReader) (w : ℕ) → Held r → Balanced r 1 (answered (keep puck_frame (kept_in r ++ (w ∷ []))))
keep_counts r w none z = rw (keep_none w)
keep_counts r w (one a h) z = rw (keep_one a w)
keep_counts r w (two a b h k) z = go (is_test a) refl
  where
    go : (t : Bool) → is_test a ≡ t → let s = answered (keep puck_frame (a ∷ b ∷ w ∷ [])) in 3 ≡ bytes_reported (report_of s.answer) + dropped_in s.answer + s.next.count
    go true e = rw (keep_two a b w e)
    go false e = rw (keep_move a b w e)
keep_counts r w (three a b c h t k l) z = rw (keep_test a b c w t)

is_byte_lem : (w : ℕ) → w < 256 → byte_in w ≡ 1
is_byte_lem w l = rw (le-leb w 255 (omega arith))

no_byte : (w : ℕ) → 255 < w → byte_in w ≡ 0
no_byte w l = rw (lt-leb w 255 l)

pub word_counts : (r : PuckReader) (w : ℕ) → Held r → Balanced r (byte_in w) (word_of r w)
word_counts r w h =
    let n = kept_count r h in
    by_rules (Balanced r (byte_in w)) r w (λ l f z. rw (is_byte_lem w l) (keep_counts r w h z))
    (λ l f z. rw (is_byte_lem w l, drops_none (length (kept_in r))) (omega (arith, drops_count (length (kept_in r)))))
    (λ l z. omega (arith, is_byte_lem w l))
    (λ l z. rw (no_byte w l, drops_none (length (kept_in r))) (omega (arith, drops_count (length (kept_in r)))))
    (λ l z. absurd (omega (arith, z)))

bytes_append : (u v : List PuckReport) → bytes_reported (u ++ v) ≡ bytes_reported u + bytes_reported v
bytes_append [] v = omega arith
bytes_append (p ∷ u) v = omega (arith, bytes_append u v)

-- over the words taken
pub line_counts : (words : List ℕ) (r : PuckReader) (room : ℕ) → Held r → let f = run reads r words room in
    bytes_in (take (length f.answers) words) + r.count ≡ bytes_reported (handed_out f.answers) + (sum reads_line f.answers).dropped + f.next.count
unfolding bytes_in sum
line_counts =
    fold.over_taken reads (λ r words answers next. Held r → bytes_in words + r.count ≡ bytes_reported (handed_out answers) + (sum reads_line answers).dropped + next.count)
    (λ r h. omega arith)
    (λ r w words answers next z ih h.
    omega (arith, ih (word_held r w h), word_counts r w h z, bytes_append (report_of (word_of r w).answer) (handed_out answers)))

-- so that no more bytes are dropped than words were taken and bytes kept
pub bytes_few : (words : List ℕ) → bytes_in words ≤ length words
unfolding bytes_in
bytes_few [] = omega arith
bytes_few (w ∷ words) = let one : byte_in w ≤ 1 = cases (λ (n : ℕ). n ≤ 1) (is_byte w) (λ _. omega arith) (λ _. omega arith) in omega (arith, bytes_few words, one)
