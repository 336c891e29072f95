-- A reader as C holds it: the same fields, and a number for its mark; and what its functions give back.
use Rattle.std.specs.Prelude.{ℕ, Bool, List, ℤ, pos, ◌≡◌, true, false, Result, MatchResult}
use Rattle.wire.specs.Numbers.{bad_state}
use Rattle.wire.specs.declared.refusal.Refusal.{Refusal}
use Rattle.wire.specs.declared.refusal.Refusal.TheVariants.{BadState}
use Rattle.wire.specs.declared.Report.{Report}
use Rattle.reader.specs.Line.{Reading, Long, reading as reading_of}
use Rattle.reader.specs.declared.Answer.{Answer}
use Rattle.reader.specs.declared.Answer.TheVariants as answer
use Rattle.reader.specs.declared.Reader.{Reader}
use Rattle.reader.specs.State.{NewReader, Read}
use Rattle.ballbox.specs.Marks.{mark, marked, is_mark}
use Rattle.istrolf.specs.declared.HeldReader.{HeldReader}
use Rattle.istrolf.specs.declared.FreshReader.{FreshReader}
use Rattle.istrolf.specs.declared.ReadWord.{ReadWord}
use Rattle.istrolf.specs.declared.ReadWords.{ReadWords}

abbrev pub packed : Reader → HeldReader
packed r = record { format = r.format; kept = r.kept; count = r.count; awaiting = mark r.awaiting }

abbrev pub unpacked : HeldReader → Reader
unpacked h = record { format = h.format; kept = h.kept; count = h.count; awaiting = marked h.awaiting }

-- what stands for a reader
abbrev pub stands : HeldReader → Bool
stands h = is_mark h.awaiting

-- what C holds opens as the state it stands for, and with 6 where it stands for none
abbrev pub Opens : {H S : Type 0} → (H → Bool) → (H → S) → H → Result S Refusal → Type 0
Opens is_state state_of h r = MatchResult r (λ s. (is_state h ≡ true) × (s ≡ state_of h)) (λ refusal. (is_state h ≡ false) × (refusal ≡ BadState))

abbrev pub packed_fresh : NewReader → FreshReader
packed_fresh n = record { refusal = n.refusal; reader = packed n.reader }

-- no report, as C sees it
abbrev pub no_report : Report
no_report = record { buttons = 0; x1 = pos 0; y1 = pos 0; x2 = pos 0; y2 = pos 0 }

-- what a word is answered by: nothing, a report, or a number of bytes dropped
abbrev pub answered : ℕ → HeldReader → Answer → ReadWord
answered n next answer.Nothing = record { refusal = n; reports = 0; dropped = 0; next = next; report = no_report }
answered n next (answer.Report p) = record { refusal = n; reports = 1; dropped = 0; next = next; report = p }
answered n next (answer.Dropped k) = record { refusal = n; reports = 0; dropped = k; next = next; report = no_report }

abbrev pub packed_read : Read → ReadWord
packed_read s = answered s.refusal (packed s.next) s.answer

-- a refusal: the old state, and nothing
abbrev pub refused_read : HeldReader → ReadWord
refused_read h = answered bad_state h answer.Nothing

abbrev pub packed_reading : Reading → ReadWords
packed_reading a =
    record {
      refusal = a.refusal;
      next = packed a.next;
      taken = a.taken;
      reports = a.reports;
      dropped = a.dropped;
    }

-- a refusal: the old state, and nothing taken
abbrev pub refused_reading : HeldReader → ReadWords
refused_reading h = record { refusal = bad_state; next = h; taken = 0; reports = 0; dropped = 0 }

-- what a long read gives back, and every number of the lent slice after it
pub record Whole : Type 0 where
  pub reading : ReadWords
  pub out : List ℤ

abbrev pub whole : ReadWords → List ℤ → Whole
whole reading out = record { reading = reading; out = out }

abbrev pub packed_long : Long → Whole
packed_long l = whole (packed_reading (reading_of l)) l.out
