-- V reports as they are written: the encoder accepts each, and their bytes stand one behind the other.
use Prim.Native.Nat.{ℕ, zero, suc, ◌+◌, ◌-◌, ◌*◌, ◌/◌, ◌<◌, ◌≤◌}
use mathlib.Core.Path.{◌≡◌, refl, sym, ◌∙◌, ap}
use mathlib.Core.Bool.{true}
use mathlib.Core.List.{List, [], ◌∷◌, ◌++◌, append_assoc}
use native.Mathlib.Omega.{arith}
use lib.ListN.{length, take, drop, length-append, length-drop}
use lib.Seq.{length-take-le, take_at, drop_at, drop-drop}
use lib.IntN.{ℤ, pos}
use borrow.Author.Tests.{le-leb, lt-leb}
use Rattle.numbers.specs.Bits.{O, bit}
use Rattle.numbers.specs.Signed.{minus}
use Rattle.numbers.proofs.Rows.{number_below}
use Rattle.numbers.proofs.Held.{held_inside}
use Rattle.wire.specs.Line.{letter_of}
use Rattle.wire.specs.Table.{bytes_of}
use Rattle.wire.specs.Holds.{◌to◌, within, x_range, y_range, accepted}
use Rattle.wire.specs.Encoder.{outcome, written as writes, Encoded}
use Rattle.wire.specs.Promises.{EncodePromise}
use Rattle.wire.specs.declared.Report.{Report}
use Rattle.wire.specs.declared.Format.TheVariants.{Microsoft}
use Rattle.wire.proofs.Accepts.{accepts}
use Rattle.wire.proofs.Letters.{letter_named}
use Rattle.wire.proofs.Codec.{bytes_length}
use Rattle.wire.proofs.Codec.Ranges.{wider}
use Rattle.wire.proofs.Codec.Accepted.{one_pair, parts_accepted}
use Rattle.reader.specs.declared.Reader.{Reader}
use Rattle.bridge.specs.Remembered.{movement, noted}
use Rattle.bridge.specs.Splitting.{carries, count_of, rest, report_v, split, becomes, bytes_all}
use Rattle.fold.specs.Calls.{stopped}
use Rattle.bridge.specs.Line.{whole, converts}
use Rattle.bridge.specs.Parts.{reported_of}
use Rattle.bridge.specs.declared.Bridge.{Bridge}
use Rattle.bridge.specs.declared.Move.{Move}

-- "each within -127 to 127"
pub carries_within : (d : ℤ) → within (minus 127 to pos 127) (carries d) ≡ true
carries_within d = held_inside (minus 127) (pos 127) d refl

-- the encoder accepts such a report
pub accepted_v : (buttons : ℕ) (m : Move) → accepted Microsoft (report_v buttons m) ≡ true
accepted_v buttons m =
    parts_accepted Microsoft (report_v buttons m)
    (one_pair Microsoft refl (number_below (bit 2 buttons ∷ O ∷ bit 0 buttons ∷ []))
    (wider (minus 127 to pos 127) (x_range Microsoft) (carries m.x) refl refl (carries_within m.x))
    (wider (minus 127 to pos 127) (y_range Microsoft) (carries m.y) refl refl (carries_within m.y)))

-- and writes its three bytes
pub written : (buttons : ℕ) (m : Move) (out : List ℕ) → 3 ≤ length out → (e : Encoded) (after : List ℕ) {v : Report} → v ≡ report_v buttons m → EncodePromise (letter_of Microsoft) v out e after
    → outcome e after ≡ writes Microsoft (report_v buttons m) out
written buttons m out h e after i p = (rw (i, letter_named Microsoft) at p) ∙ accepts Microsoft (report_v buttons m) out (accepted_v buttons m) h

-- three bytes for each report
pub three_each : (l : List Report) → length (bytes_all l) ≡ 3 * length l
three_each [] = refl
three_each (v ∷ l) = omega (arith, length-append (bytes_of Microsoft v) (bytes_all l), bytes_length Microsoft v, three_each l)

pub bytes_append : (l k : List Report) → bytes_all (l ++ k) ≡ bytes_all l ++ bytes_all k
bytes_append [] k = refl
bytes_append (v ∷ l) k = rw (bytes_append l k) (sym (append_assoc (bytes_of Microsoft v) (bytes_all l) (bytes_all k)))

-- so many of them
pub split_length : (n buttons : ℕ) (m : Move) → length (split n buttons m) ≡ n
unfolding split
split_length zero buttons m = refl
split_length (suc n) buttons m = ap suc (split_length n buttons (rest m))

-- one more is written behind those that are, in front of those that are to come
module _ (out v later : List ℕ) (at k : ℕ) (three : length v ≡ 3) (room : at + 3 * suc k ≤ length out) where
  abbrev now : List ℕ
  now = take at out ++ (v ++ drop 3 (drop at out))

  front : length (take at out ++ v) ≡ at + 3
  front = length-append (take at out) v ∙ omega (arith, length-take-le at out (omega arith))

  behind_it : drop (at + 3) now ≡ drop 3 (drop at out)
  behind_it = rw (← (append_assoc (take at out) v (drop 3 (drop at out)))) (drop_at (take at out ++ v) (drop 3 (drop at out)) (at + 3) front)

  before_it : take (at + 3) now ≡ take at out ++ v
  before_it = rw (← (append_assoc (take at out) v (drop 3 (drop at out)))) (take_at (take at out ++ v) (drop 3 (drop at out)) (at + 3) front)

  pub one_more_lem : take (at + 3) now ++ (later ++ drop (at + 3 + 3 * k) now) ≡ take at out ++ ((v ++ later) ++ drop (at + 3 * suc k) out)
  one_more_lem =
      let there : at + (3 + 3 * k) ≡ at + 3 * suc k = omega arith in
      let last : drop (at + 3 + 3 * k) now ≡ drop (at + 3 * suc k) out =
      sym (drop-drop (3 * k) (at + 3) now) ∙ ap (drop (3 * k)) behind_it ∙ drop-drop (3 * k) 3 (drop at out) ∙ drop-drop (3 + 3 * k) at out ∙ ap (λ (n : ℕ). drop n out) there in
      rw (before_it, last) (simp append_assoc)

  pub same_length : length now ≡ length out
  same_length =
      rw (← (append_assoc (take at out) v (drop 3 (drop at out))))
      (length-append (take at out ++ v) (drop 3 (drop at out)) ∙ rw (front, length-drop 3 (drop at out), length-drop at out) (omega arith))

-- the loop's turn: of so many reports the first is written
pub again : (n buttons at : ℕ) (m : Move) (out new all : List ℕ) → (n ≡ 0 → ⊥) → at + 3 * n ≤ length out
    → new ≡ take at out ++ (bytes_of Microsoft (report_v buttons m) ++ drop 3 (drop at out))
    → take at out ++ (bytes_all (split n buttons m) ++ drop (at + 3 * n) out) ≡ all
    → (at + 3 + 3 * (n - 1) ≤ length new)
    × (length new ≡ length out)
    × (take (at + 3) new ++ (bytes_all (split (n - 1) buttons (rest m)) ++ drop (at + 3 + 3 * (n - 1)) new) ≡ all)
unfolding split
again zero buttons at m out new all some room is whole = absurd (some refl)
again (suc k) buttons at m out new all some room is whole =
    let v = bytes_of Microsoft (report_v buttons m) in
    let later = bytes_all (split k buttons (rest m)) in
    let three = bytes_length Microsoft (report_v buttons m) in
    let less : suc k - 1 ≡ k = omega arith in
    let long = same_length out v later at k three room in
    rw (is, less) (omega (arith, long), long, one_more_lem out v later at k three room ∙ whole)

-- a report that came in: where its V reports have no room, and where they have
module _ (b : Bridge) (next : Reader) (p : Report) (out : List ℕ) where
  abbrev m : Move
  m = movement b.reader.format b.past p

  pub no_room : length out / 3 < count_of m → stopped converts 0 b out ≡ reported_of b next p out
  unfolding reported_of becomes
  no_room h = rw (split_length (count_of m) p.buttons m, lt-leb (3 * count_of m) (length out) (omega arith))

  pub all_written : count_of m ≤ length out / 3
      → whole (record { refusal = 0; next = record { reader = next; past = noted b.reader.format b.past p }; taken = 1; reports = 1; sent = count_of m; dropped = 0 })
      (bytes_all (split (count_of m) p.buttons m) ++ drop (3 * count_of m) out)
      ≡ reported_of b next p out
  unfolding reported_of becomes
  all_written h = rw (split_length (count_of m) p.buttons m, le-leb (3 * count_of m) (length out) (omega arith))
