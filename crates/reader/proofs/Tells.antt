-- The telling's loop: an answer at the front of places, where the telling stands, and how it goes on and ends.
use Prim.Native.Nat.{ℕ, suc, ◌+◌, ◌-◌, ◌<◌, ◌≤◌}
use mathlib.Core.Path.{◌≡◌, refl, sym, ◌∙◌}
use mathlib.Core.Bool.{Bool, true, false}
use mathlib.Core.List.{List, ◌∷◌, [], ◌++◌}
use native.Mathlib.Omega.{arith}
use lib.ListN.{length, get_or, take, drop, set, length-drop, take-append-drop}
use lib.Seq.{drop-cons, drop-drop, set_split}
use lib.IntN.{ℤ, negsuc}
use borrow.Author.Tests.{leb-true, leb-false, le-leb, lt-leb}
use borrow.Rule.Slice.PartMut.{put_mid}
use Rattle.fold.specs.Fold.{ran, run, Part}
use Rattle.fold.specs.Calls.{line}
use Rattle.fold.proofs.Laws.{taken, stops}
use Rattle.fold.proofs.Calls.{places_sum}
use Rattle.fold.proofs.Parts.{rest_is, back, none, one, joins, part_left, part_all, part_ends}
use Rattle.wire.specs.declared.Report.{Report}
use Rattle.reader.specs.State.{five_of, Read}
use Rattle.reader.specs.Rules.{word_of}
use Rattle.reader.specs.Telling.{told_in, tells, tells_line, told, has_room, places_of, front_of}
use Rattle.reader.specs.declared.Reader.{Reader}
use Rattle.reader.specs.declared.Answer.{Answer}
use Rattle.reader.specs.declared.Answer.TheVariants as answer
use Rattle.reader.proofs.Counted.{told_lawful}

-- an answer is told by a number or more
some_told : (a : Answer) → 0 < length (told_in a)
some_told answer.Nothing = omega arith
some_told (answer.Report p) = omega arith
some_told (answer.Dropped k) = omega arith

-- it has room, or not
module _ (a : Answer) (out : List ℤ) where
  pub has_room_lem : length (told_in a) ≤ length out → (length (told_in a) ≡ places_of a out) × (told_in a ++ drop (length (told_in a)) out ≡ front_of a out)
  has_room_lem h = rw (le-leb (length (told_in a)) (length out) h) (refl, refl)

  pub has_none : length out < length (told_in a) → (0 ≡ places_of a out) × (out ≡ front_of a out)
  has_none h = rw (lt-leb (length (told_in a)) (length out) h) (refl, refl)

  had_none : places_of a out ≡ 0 → length out < length (told_in a)
  had_none = go (has_room a out) refl
    where
      go : (b : Bool) → has_room a out ≡ b → places_of a out ≡ 0 → length out < length (told_in a)
      go true k z = absurd (omega (arith, rw k at z, some_told a))
      go false k z = leb-false (length (told_in a)) (length out) k

  had_room : (places_of a out ≡ 0 → ⊥) → length (told_in a) ≤ length out
  had_room = go (has_room a out) refl
    where
      go : (b : Bool) → has_room a out ≡ b → (places_of a out ≡ 0 → ⊥) → length (told_in a) ≤ length out
      go true k n = leb-true (length (told_in a)) (length out) k
      go false k n = absurd ((rw k at n) refl)

-- a report, behind its minus 1
pub report_told : (p : Report) (out : List ℤ) {last : List ℤ} → 6 ≤ length out → let l = set out 0 (negsuc 0) in last ≡ five_of p ++ drop 5 (take (length l - 1) (drop 1 l))
    → put_mid 1 (length l - 1) l last ≡ told_in (answer.Report p) ++ drop 6 out
report_told p out {last} h e =
    let l = set out 0 (negsuc 0) in
    let i : l ≡ negsuc 0 ∷ drop 1 out = set_split out 0 (negsuc 0) (omega arith) in
    back l last 1 ∙ rw (e, rest_is l 1, i, drop-drop 5 1 out)

-- words at the front of a line are taken, with these answers told: the reader behind them, and the slice
pub record Telling (r : Reader) (words : List ℕ) (before : List ℤ) (next : Reader) (taken used : ℕ) (after : List ℤ) : Type 0 where
  pub answers : List Answer
  pub part : Part tells r words before answers taken used next after

pub starts : (r : Reader) (words : List ℕ) (out : List ℤ) → Telling r words out r 0 0 out
starts r words out = record { answers = []; part = none tells r words out }

module _ {words : List ℕ} {out₀ out : List ℤ} {r₀ r : Reader} {at used : ℕ} (t : Telling r₀ words out₀ r at used out) where
  -- the telling ends here
  ends : (n : ℕ) → run tells r₀ words (length out₀) ≡ ran n r t.answers → told (record { refusal = n; next = r; taken = at; written = used }) out ≡ line tells_line r₀ words out₀
  unfolding line
  ends n e = rw (e, t.part.words_are, t.part.wrote, t.part.places_are, places_sum tells_line told_lawful t.answers)

  pub ends_all : length words ≤ at → told (record { refusal = 0; next = r; taken = at; written = used }) out ≡ line tells_line r₀ words out₀
  ends_all h = ends 0 (part_all tells t.part h)

  -- by the next word
  module _ {s : Read} (some : at < length words) (is : s ≡ word_of r (get_or words at 0)) where
    ends_before : (s.refusal ≡ 0 → length out₀ - used < length (told_in s.answer))
        → told (record { refusal = s.refusal; next = r; taken = at; written = used }) out ≡ line tells_line r₀ words out₀
    unfolding run
    ends_before h = ends s.refusal (part_ends tells t.part s.refusal (rw (drop-cons words at 0 some, is, stops tells r (get_or words at 0) (length out₀ - used) (rw is at h))))

    pub refused : (s.refusal ≡ 0 → ⊥) → told (record { refusal = s.refusal; next = r; taken = at; written = used }) out ≡ line tells_line r₀ words out₀
    refused n = ends_before (λ z. absurd (n z))

    -- its answer, told to the places that are left, as the code lends them
    module _ (z : s.refusal ≡ 0) {n : ℕ} {last : List ℤ} (places : n ≡ places_of s.answer (take (length out - used) (drop used out))) (front : last ≡ front_of s.answer (take (length out - used) (drop used out))) where
      -- it has no room: the slice is as it was
      pub unchanged : n ≡ 0 → put_mid used (length out - used) out last ≡ out
      unchanged e =
          let room = had_none s.answer (drop used out) (rw (rest_is out used) at (sym places ∙ e)) in
          back out last used ∙ rw (front, rest_is out used, ← (has_none s.answer (drop used out) room).1) (take-append-drop used out)

      pub full : n ≡ 0 → told (record { refusal = 0; next = r; taken = at; written = used }) out ≡ line tells_line r₀ words out₀
      full e =
          let room = had_none s.answer (drop used out) (rw (rest_is out used) at (sym places ∙ e)) in
          rw z at (ends_before (λ _. rw (part_left tells t.part, length-drop used out₀) at room))

      pub more : (n ≡ 0 → ⊥) → Telling r₀ words out₀ s.next (at + 1) (used + n) (put_mid used (length out - used) out last)
      more ne =
          let w = get_or words at 0 in
          let rest = drop used out in
          let room = had_room s.answer rest (λ e. ne (places ∙ rw (rest_is out used) e)) in
          let k = has_room_lem s.answer rest room in
          let p = one tells r w (drop (suc at) words) rest (taken tells r w (length rest) (rw is at z) (rw is at room)) in
          record {
            answers = t.answers ++ (word_of r w).answer ∷ [];
            part = rw (back out last used, front, places, rest_is out used, ← k.0, ← k.1, is) (joins tells t.part (rw (drop-cons words at 0 some) p));
          }
