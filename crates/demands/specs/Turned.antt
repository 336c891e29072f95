-- Laws for EighthBit, which no statement cites: a line of V with bit 7 of any of its bytes turned over, in parts; and
-- what is handed out of it is what is handed out of the line as it was.
use Rattle.std.specs.Prelude.{ℕ, ◌≡◌, refl, List, [], ◌∷◌, ◌++◌, length, ℤ}
use Rattle.std.proofs.Common.{sym, ◌∙◌, ap, subst, arith}
use Rattle.frames.specs.Passages as passages
use Rattle.frames.specs.Passages.{Passage, UnderWay, Sub, InOne, in_finished_lem, in_broken_lem, in_going_lem}
use Rattle.wire.specs.Line.{letter_of, named_by, known}
use Rattle.wire.specs.declared.Report.{Report}
use Rattle.wire.specs.declared.Format.TheVariants.{Microsoft}
use Rattle.reader.specs.Promises.{FreshPromise, ReadPromise, fresh_of, read_of}
use Rattle.reader.specs.Line.{Reading, reading}
use Rattle.reader.specs.Runs.{steps_of, StepsPromise}
use Rattle.reader.specs.EighthBit.{TurnedOver, none, stays, turns}
use Rattle.reader.specs.DamagedLines.{Took, HandsOut, HandsOutAt}
use Rattle.reader.specs.declared.Reader.{Reader}
use Rattle.reader.specs.State.{NewReader, Read}
use Rattle.reader.proofs.EighthBit.{turned_steps, turned_read}
use Rattle.reader.proofs.Handed.{permitted}

-- no bit, some bits in either of two parts, as many words
pub turned_none : (u : List ℕ) → TurnedOver u u
turned_none [] = none
turned_none (w ∷ u) = stays (turned_none u)

pub turned_both : {u v x y : List ℕ} → TurnedOver u v → TurnedOver x y → TurnedOver (u ++ x) (v ++ y)
turned_both none s = s
turned_both (stays t) s = stays (turned_both t s)
turned_both (turns byte t) s = turns byte (turned_both t s)

pub turned_length : {u v : List ℕ} → TurnedOver u v → length u ≡ length v
turned_length none = refl
turned_length (stays t) = rw (turned_length t)
turned_length (turns byte t) = rw (turned_length t)

-- the parts of the line as it was, for the parts of the one that came
pub turned_parts : {u : List ℕ} (p q : List ℕ) → TurnedOver u (p ++ q) → (x : List ℕ) × (y : List ℕ) × (u ≡ x ++ y) × TurnedOver x p × TurnedOver y q
turned_parts {u} [] q t = ([], u, refl, none, t)
turned_parts (w ∷ p) q (stays t) = let r = turned_parts p q t in (w ∷ r.0, r.1, ap (λ (l : List ℕ). w ∷ l) r.2, stays r.3, r.4)
turned_parts (v ∷ p) q (turns {w} byte t) = let r = turned_parts p q t in (w ∷ r.0, r.1, ap (λ (l : List ℕ). w ∷ l) r.2, turns byte r.3, r.4)

-- what is left of a part of it
pub turned_left : {old new was : List ℕ} → Sub new old → TurnedOver was old → (left : List ℕ) × Sub left was × TurnedOver left new
turned_left passages.none none = ([], passages.none, none)
turned_left (passages.gone d) (stays t) = let r = turned_left d t in (r.0, passages.gone r.1, r.2)
turned_left (passages.gone d) (turns byte t) = let r = turned_left d t in (r.0, passages.gone r.1, r.2)
turned_left (passages.stays d) (stays {w} t) = let r = turned_left d t in (w ∷ r.0, passages.stays r.1, stays r.2)
turned_left (passages.stays d) (turns {w} byte t) = let r = turned_left d t in (w ∷ r.0, passages.stays r.1, turns byte r.2)

-- a stretch as long, behind as many words, lies within the same report
pub in_one_long : {K : Type 0} (bytes : K → List ℕ) {pre old x y : List ℕ} {l others : List (Passage K)} {g : UnderWay K}
    → length x ≡ length pre
    → length y ≡ length old
    → InOne bytes pre old l g others
    → InOne bytes x y l g others
in_one_long bytes e f (in_finished_lem before after g k h m) = in_finished_lem before after g k (omega (arith, e)) (omega (arith, e, f))
in_one_long bytes e f (in_broken_lem before after g n k h m) = in_broken_lem before after g n k (omega (arith, e)) (omega (arith, e, f))
in_one_long bytes e f (in_going_lem l n k h) = in_going_lem l n k (omega (arith, e))

-- what is permitted of the line as it came is permitted of it as it was
module _ {u v : List ℕ} (t : TurnedOver u v) (r : Reader) (f : r.format ≡ letter_of Microsoft) where
  steps_before : (steps : List Read) → StepsPromise r v steps → StepsPromise r u steps
  steps_before steps s = subst (StepsPromise r u) (turned_steps r (steps_of r u) steps f t (permitted r u) s) (permitted r u)

  read_before : (out after : List ℤ) (a : Reading) → ReadPromise r v out a after → ReadPromise r u out a after
  read_before out after a p =
      let l = read_of r u out in
      let e = turned_read r out (reading l) a l.out after f t refl p in
      rw (sym e.0, sym e.1) refl

fresh_v : (a : NewReader) → FreshPromise (letter_of Microsoft) a → a.reader.format ≡ letter_of Microsoft
unfolding fresh_of known named_by
fresh_v a e = ap (λ (x : NewReader). x.reader.format) e

took_as : {u v : List ℕ} {found : List Report} {before after : List ℤ} {b : Reading} → TurnedOver u v → Took u found before b after
    → Took v found before b after
took_as t k = record { refusal = k.refusal; taken = k.taken ∙ turned_length t; reports = k.reports; written = k.written }

pub turned_at : {u v : List ℕ} {i : ℕ} {p : Report} → TurnedOver u v → HandsOutAt Microsoft u i p → HandsOutAt Microsoft v i p
turned_at t h =
    record {
      by_steps = λ a steps e s. h.by_steps a steps e (steps_before t a.reader (fresh_v a e) steps s);
      by_read = λ a steps before after b e s q room.
          let k = h.by_read a steps before after b e (steps_before t a.reader (fresh_v a e) steps s)
          (read_before t a.reader (fresh_v a e) before after b q) room in
          (took_as t k.0, k.1);
    }

pub turned_out : {u v : List ℕ} {found : List Report} → TurnedOver u v → HandsOut Microsoft u found → HandsOut Microsoft v found
turned_out t h a e =
    record {
      by_steps = λ steps s. (h a e).by_steps steps (steps_before t a.reader (fresh_v a e) steps s);
      by_read = λ before after b q room. took_as t ((h a e).by_read before after b (read_before t a.reader (fresh_v a e) before after b q) room);
    }
