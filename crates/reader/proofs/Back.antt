-- Back: for every good reader and every word that it answers by a report, the encoder accepts that report into any buffer that is long enough
-- and writes the kept bytes and this word as it entered, in V with bit 7 cleared, a minus zero's sign bit set to 1 and nothing else changed.
use Prim.Native.Nat.{ℕ, suc, ◌+◌, ◌<◌, ◌≤◌}
use mathlib.Core.Path.{◌≡◌, refl, sym, ◌∙◌, ap}
use mathlib.Core.Bool.{Bool, true, false}
use mathlib.Core.List.{List, [], ◌∷◌, ◌++◌}
use native.Mathlib.Omega.{arith}
use lib.ListN.{length, get_or, take, drop, length-append}
use lib.Seq.{take-suc-set, get_or-take, get_or-set_same, get_or-set_other, length-take-le}
use lib.Dec.{eqb}
use borrow.Author.Tests.{lt-ltb, eqb-true, eqb-false}
use Rattle.wire.proofs.Codec.Shapes.{fits_valid}
use Rattle.numbers.proofs.Tested.{holds}
use Rattle.wire.specs.Line.{named_by, size_of, size_by, known}
use Rattle.wire.specs.Places.{fits_at, fits_by, valid}
use Rattle.wire.specs.Reading.{report_of, report_by, settled_by}
use Rattle.wire.specs.Holds.{accepted}
use Rattle.wire.specs.Numbers.{success}
use Rattle.wire.specs.Encoder.{Encoding, refusal_of, length_of, encode_in, Encoded}
use Rattle.wire.specs.Promises.{EncodePromise}
use Rattle.wire.specs.declared.Report.{Report}
use Rattle.wire.specs.declared.Format.{Format}
use Rattle.std.proofs.Common.{Option, Some, None}
use Rattle.wire.proofs.Accepts.{accepts}
use Rattle.wire.proofs.Letters.{size_named}
use Rattle.wire.proofs.Codec as codec
use Rattle.reader.specs.State.{kept_in, Read}
use Rattle.reader.specs.Good.{placed, good}
use Rattle.reader.specs.Rules.{entered, dropping, more, word_of}
use Rattle.reader.specs.Counts.{reports_in}
use Rattle.reader.specs.Promises.{StepPromise}
use Rattle.reader.specs.declared.Reader.{Reader}
use Rattle.reader.specs.declared.Answer.{Answer}
use Rattle.reader.specs.declared.Answer.TheVariants as answer
use Rattle.reader.proofs.Framed.{report_like}
use Rattle.reader.proofs.Parts.{Parts, parts, one_more_lem}
use Rattle.reader.proofs.Word.{dropping_reports, by_word}
use Rattle.reader.proofs.Permitted.{step_is}
use Rattle.reader.proofs.Goodness.{step_word}

-- a word that is answered by a report is a byte that, as it enters, fits the last place
record Finished (r : Reader) (b : ℕ) (p : Report) : Type 0 where
  fit : fits_by r.format r.count b ≡ true
  last : r.count + 1 ≡ size_by r.format
  is : p ≡ report_by r.format (more r b)

abbrev Finishing : Reader → ℕ → Report → Read → Type 0
Finishing r b p s = s.answer ≡ answer.Report p → Finished r b p

finished : (r : Reader) (w : ℕ) (p : Report) → (word_of r w).answer ≡ answer.Report p → Finished r (entered r.format w) p
finished r w p =
    by_word (Finishing r (entered r.format w) p) r w (λ _ _ e. no refl e)
    (λ _ _ fit last e. record { fit = fit; last = eqb-true (r.count + 1) (size_by r.format) last; is = cc })
    (λ _ _ _ _ e. no refl e) (λ _ _ _ _ e. no dropped e) (λ _ _ _ _ e. no refl e) (λ _ e. no dropped e) (λ _ e. no dropped e) (λ _ e. no refl e)
  where
    no : {A : Type 0} {a : Answer} → reports_in a ≡ 0 → a ≡ answer.Report p → A
    no z e = absurd (omega (arith, z, ap reports_in e))

    dropped : reports_in (dropping r.count) ≡ 0
    dropped = dropping_reports r.count

-- the kept bytes and the last one
module _ (r : Reader) (b : ℕ) (p : Report) (f : Format) (g : good r ≡ true) (named : named_by r.format ≡ Some f) (d : Finished r b p) where
  abbrev has : Parts r
  has = parts r g

  abbrev bytes : List ℕ
  bytes = kept_in r ++ b ∷ []

  abbrev size_is : size_by r.format ≡ size_of f
  size_is = size_named r.format named

  abbrev room : r.count < length r.kept
  room = one_more_lem r g

  bytes_are : bytes ≡ take (suc r.count) (more r b)
  bytes_are = sym (take-suc-set r.kept r.count b room)

  bytes_at : (i : ℕ) → i < suc r.count → get_or bytes i 0 ≡ get_or (more r b) i 0
  bytes_at i h = rw (bytes_are, get_or-take (suc r.count) (more r b) i 0 h)

  bytes_length : length bytes ≡ size_of f
  bytes_length = rw (length-append (kept_in r) (b ∷ []), length-take-le r.count r.kept (omega (arith, room))) (d.last ∙ size_is)

  more_fits : (i : ℕ) → i < suc r.count → fits_at f i (get_or (more r b) i 0) ≡ true
  unfolding fits_by placed
  more_fits i h = go (eqb i r.count) refl
    where
      go : (t : Bool) → eqb i r.count ≡ t → fits_at f i (get_or (more r b) i 0) ≡ true
      go true e = rw (eqb-true i r.count e, get_or-set_same r.kept r.count b 0 room) (rw named at d.fit)
      go false e =
          let ne = eqb-false i r.count e in
          let at_i = has.places i (omega (arith, room, has.five)) in
          rw (get_or-set_other r.kept r.count i b 0 ne) (rw (lt-ltb i r.count (omega arith), named) at at_i)

  bytes_valid : valid f bytes ≡ true
  bytes_valid =
      fits_valid f bytes bytes_length (omega (arith, bytes_length, size_is, d.last))
      (λ i h. rw (bytes_at i (omega (arith, bytes_length, size_is, d.last))) (more_fits i (omega (arith, bytes_length, size_is, d.last))))

  report_is : p ≡ report_of f bytes
  report_is = d.is ∙ report_like f r g named b (omega (arith, size_is, d.last))

  encodes : (buffer : List ℕ) → size_of f ≤ length buffer → encode_in (Some f) p buffer ≡ record { refusal = success; told = size_of f; buffer = settled_by r.format bytes ++ drop (size_of f) buffer }
  unfolding settled_by
  encodes buffer h =
      rw report_is (accepts f (report_of f bytes) buffer (codec.read_accepted f bytes bytes_valid) h ∙ rw (named, codec.back f bytes bytes_valid))

-- a report that a good reader hands out is that of valid bytes, and so one that the format holds
pub record Reported (f : Format) (p : Report) : Type 0 where
  pub of_bytes : List ℕ
  pub fit : valid f of_bytes ≡ true
  pub stands_for : p ≡ report_of f of_bytes

pub reported : (r : Reader) (w : ℕ) (p : Report) (f : Format) → good r ≡ true → named_by r.format ≡ Some f → (word_of r w).answer ≡ answer.Report p → Reported f p
reported r w p f g named a =
    let b = entered r.format w in
    let d = finished r w p a in
    record { of_bytes = bytes r b p f g named d; fit = bytes_valid r b p f g named d; stands_for = report_is r b p f g named d }

pub reported_accepted : {f : Format} {p : Report} → Reported f p → accepted f p ≡ true
reported_accepted {f} h = rw h.stands_for (codec.read_accepted f h.of_bytes h.fit)

pub back : (r : Reader) (w : ℕ) (s : Read) (p : Report) (before after : List ℕ) (e : Encoded)
    → good r ≡ true
    → StepPromise r w s
    → s.answer ≡ answer.Report p
    → size_by r.format ≤ length before
    → EncodePromise r.format p before e after
    → (refusal_of e ≡ success)
    × (length_of e ≡ size_by r.format)
    × (after ≡ settled_by r.format (kept_in r ++ entered r.format w ∷ []) ++ drop (size_by r.format) before)
unfolding known
back r w s p before after e g h a room n = go (named_by r.format) refl
  where
    go : (m : Option Format) → named_by r.format ≡ m → (refusal_of e ≡ success) × (length_of e ≡ size_by r.format) × (after ≡ settled_by r.format (kept_in r ++ entered r.format w ∷ []) ++ drop (size_by r.format) before)
    go None q = absurd (holds (rw q at (parts r g).of_known))
    go (Some f) q =
        let i = ap (λ (t : Read). t.answer) (step_is r w s h ∙ step_word r w g) in
        let d = finished r w p (sym i ∙ a) in
        let z = size_named r.format q in
        let out = (rw q at n) ∙ encodes r (entered r.format w) p f g q d before (rw z at room) in
        rw z (ap (λ (l : Encoding). l.refusal) out, ap (λ (l : Encoding). l.told) out, ap (λ (l : Encoding). l.buffer) out)
