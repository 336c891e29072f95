-- The bytes are the encoder's, and a ready reader of V reads them back as the V reports that were sent.
use Prim.Native.Nat.{ℕ, ◌≤◌}
use mathlib.Core.Path.{◌≡◌, refl, ap₂}
use mathlib.Core.Bool.{Bool, true}
use mathlib.Core.List.{List, [], ◌∷◌, ◌++◌, append-nil}
use lib.ListN.{length}
use Rattle.numbers.specs.Bits.{O, number}
use Rattle.frames.specs.Passages.{Passage, finished, nothing, passage_words}
use Rattle.wire.specs.Line.{letter_of}
use Rattle.wire.specs.Holds.{accepted, carried}
use Rattle.wire.specs.Messages.{Message, latched_in, message_bytes, SoundIn, finished_reports}
use Rattle.wire.specs.Encoder.{outcome, written as writes, Encoded}
use Rattle.wire.specs.Promises.{EncodePromise}
use Rattle.wire.specs.declared.Report.{Report}
use Rattle.wire.specs.declared.Format.TheVariants.{Microsoft}
use Rattle.wire.proofs.Codec.Accepted.{same_report}
use Rattle.reader.specs.State.{ready}
use Rattle.reader.specs.DamagedLines.{HandsOutBy}
use Rattle.reader.proofs.Followed.{followed_marked}
use Rattle.bridge.specs.Remembered.{movement, noted}
use Rattle.bridge.specs.Splitting.{count_of, report_v, becomes, bytes_all}
use Rattle.bridge.specs.Sums.{Every}
use Rattle.bridge.specs.Sent.{sends}
use Rattle.bridge.specs.declared.Past.{Past}
use Rattle.bridge.specs.declared.Move.{Move}
use Rattle.bridge.proofs.Writing.{accepted_v, written}
use Rattle.bridge.proofs.Splits.{every_split, same_buttons}

-- the encoder of V accepts it, and writes the three bytes that the bridge writes
abbrev pub encoded_so : Report → Type 0
encoded_so v = (before after : List ℕ) (e : Encoded) → 3 ≤ length before → EncodePromise (letter_of Microsoft) v before e after → outcome e after ≡ writes Microsoft v before

pub encoders_bytes : (letter : ℕ) (past : Past) (p : Report) → Every encoded_so (becomes letter past p)
unfolding becomes
encoders_bytes letter past p =
    let m = movement letter past p in
    every_split encoded_so p.buttons (λ m before after e h q. written p.buttons m before h e after refl q) (count_of m) m

-- a report of V that V carries whole
pub record WholeV (v : Report) : Type 0 where
  pub taken : accepted Microsoft v ≡ true
  pub carries : carried Microsoft v ≡ v

whole_v : (p : Report) (m : Move) → WholeV (report_v p.buttons m)
whole_v p m =
    let s = same_buttons p m in
    record { taken = accepted_v p.buttons m; carries = same_report (ap₂ (λ (l r : Bool). number (l ∷ O ∷ r ∷ [])) s.left_is s.right_is) refl refl refl refl }

becomes_whole : (letter : ℕ) (past : Past) (p : Report) → Every WholeV (becomes letter past p)
unfolding becomes
becomes_whole letter past p = let m = movement letter past p in every_split WholeV p.buttons (whole_v p) (count_of m) m

every_both : (P : Report → Type 0) (l k : List Report) → Every P l → Every P k → Every P (l ++ k)
every_both P [] k h e = e
every_both P (v ∷ l) k h e = (h.0, every_both P l k h.1 e)

sends_whole : (letter : ℕ) (past : Past) (reports : List Report) → Every WholeV (sends letter past reports)
unfolding sends
sends_whole letter past [] = tt
sends_whole letter past (p ∷ reports) = every_both WholeV (becomes letter past p) (sends letter (noted letter past p) reports) (becomes_whole letter past p) (sends_whole letter (noted letter past p) reports)

-- a line of such reports
abbrev line : List Report → List (Passage Message)
line [] = []
line (v ∷ l) = finished (latched_in Microsoft v) ∷ line l

line_words_lem : (l : List Report) → passage_words message_bytes (line l) ≡ bytes_all l
line_words_lem [] = refl
line_words_lem (v ∷ l) = rw (line_words_lem l)

line_sound : (l : List Report) → Every WholeV l → SoundIn Microsoft (line l)
line_sound [] h = tt
line_sound (v ∷ l) h = ((refl, h.0.taken), line_sound l h.1)

line_reports : (l : List Report) → Every WholeV l → finished_reports Microsoft (line l) ≡ l
line_reports [] h = refl
line_reports (v ∷ l) h = ap₂ (λ (u : Report) (k : List Report). u ∷ k) h.0.carries (line_reports l h.1)

read : (l : List Report) → Every WholeV l → HandsOutBy (ready (letter_of Microsoft)) (bytes_all l) l
read l h = rw (append-nil (passage_words message_bytes (line l)), line_words_lem l, line_reports l h) at (followed_marked Microsoft (line l) nothing (line_sound l h) tt refl)

-- one report, and many
pub read_back : (letter : ℕ) (past : Past) (p : Report) → HandsOutBy (ready (letter_of Microsoft)) (bytes_all (becomes letter past p)) (becomes letter past p)
read_back letter past p = read (becomes letter past p) (becomes_whole letter past p)

pub all_read_back : (letter : ℕ) (past : Past) (reports : List Report) → HandsOutBy (ready (letter_of Microsoft)) (bytes_all (sends letter past reports)) (sends letter past reports)
all_read_back letter past reports = read (sends letter past reports) (sends_whole letter past reports)
