-- What the bridge sends is what the reader handed out, report by report.
use Prim.Native.Nat.{ℕ, ◌*◌}
use mathlib.Core.Path.{◌≡◌, refl, ◌∙◌, ap}
use mathlib.Core.Bool.{true}
use mathlib.Core.List.{List, ◌∷◌, ◌++◌}
use lib.ListN.{length, take, drop}
use Rattle.fold.specs.Fold.{run}
use Rattle.fold.proofs.Laws.{over_taken}
use Rattle.wire.specs.declared.Report.{Report}
use Rattle.reader.specs.Rules.{word_of}
use Rattle.reader.specs.Counts.{handed_out, dropped_among}
use Rattle.reader.specs.Runs.{steps_of, StepsPromise, answers, reader_after}
use Rattle.reader.specs.State.{Read}
use Rattle.reader.specs.declared.Answer.{Answer}
use Rattle.reader.specs.declared.Answer.TheVariants as answer
use Rattle.reader.proofs.Word.{word_format}
use Rattle.reader.proofs.Permitted.{steps_are}
use Rattle.reader.proofs.Goodness.{step_word}
use Rattle.bridge.specs.Splitting.{bytes_all}
use Rattle.bridge.specs.Good.{good}
use Rattle.bridge.specs.Line.{Converted, Given, Long, sent_for, past_for, bridges, heard_in, sent_in, converts}
use Rattle.bridge.specs.Line as long
use Rattle.fold.specs.Calls.{line}
use Rattle.bridge.specs.Promises.{ConvertPromise}
use Rattle.bridge.specs.Sent.{sends, past_after, Told}
use Rattle.bridge.specs.declared.Past.{Past}
use Rattle.bridge.specs.declared.Bridge.{Bridge}
use Rattle.bridge.proofs.Counted.{sent_bytes, three_sent, sum_is}
use Rattle.bridge.proofs.Keeps.{good_reader, word_keeps}
use Rattle.bridge.proofs.Goodness.{convert_line}

-- what it heard are the reader's answers to the words taken
abbrev Heard : Bridge → List ℕ → List Given → Bridge → Type 0
Heard b words l next =
    good b ≡ true → (heard_in l ≡ answers (steps_of b.reader words)) × (next.reader ≡ reader_after b.reader (steps_of b.reader words))

heard : (words : List ℕ) (b : Bridge) (room : ℕ) → let f = run bridges b words room in Heard b (take (length f.answers) words) f.answers f.next
unfolding steps_of
heard =
    over_taken bridges Heard (λ b g. (refl, refl))
    (λ b w words l next z ih g.
    let s = word_of b.reader w in
    let k = ih (word_keeps b g w) in
    rw (step_word b.reader w (good_reader b g)) (ap (λ (t : List Answer). s.answer ∷ t) k.0, k.1))

-- what it sent, and remembers, is told by the reports among them
first_sent : (letter : ℕ) (past : Past) (a : Answer) (l : List Answer) → sent_for letter past a ++ sends letter (past_for letter past a) (handed_out l) ≡ sends letter past (handed_out (a ∷ l))
unfolding sends
first_sent letter past answer.Nothing l = refl
first_sent letter past (answer.Report p) l = refl
first_sent letter past (answer.Dropped k) l = refl

first_past : (letter : ℕ) (past : Past) (a : Answer) (l : List Answer) → past_after letter (past_for letter past a) (handed_out l) ≡ past_after letter past (handed_out (a ∷ l))
unfolding past_after
first_past letter past answer.Nothing l = refl
first_past letter past (answer.Report p) l = refl
first_past letter past (answer.Dropped k) l = refl

abbrev Sent : Bridge → List ℕ → List Given → Bridge → Type 0
Sent b words l next =
    let letter : ℕ = b.reader.format in
    let reports : List Report = handed_out (heard_in l) in
    (sent_in l ≡ sends letter b.past reports) × (next.past ≡ past_after letter b.past reports)

sent : (words : List ℕ) (b : Bridge) (room : ℕ) → let f = run bridges b words room in Sent b (take (length f.answers) words) f.answers f.next
unfolding sends past_after
sent =
    over_taken bridges Sent (λ b. (refl, refl))
    (λ b w words l next z ih.
    let letter = b.reader.format in
    let a = (word_of b.reader w).answer in
    let k = rw (word_format b.reader w) at ih in
    (ap (λ (t : List Report). sent_for letter b.past a ++ t) k.0 ∙ first_sent letter b.past a (heard_in l), k.1 ∙ first_past letter b.past a (heard_in l)))

same_bridge : {b c : Bridge} → b.reader ≡ c.reader → b.past ≡ c.past → b ≡ c
same_bridge r p = λ i. record { reader = r i; past = p i }

-- over the reader's steps of the words taken, also at a stop for room and at a bad word
line_told : (b : Bridge) (words out : List ℕ) → good b ≡ true → let l = line converts b words out in Told b (steps_of b.reader (take l.taken words)) out (long.told l) l.out
unfolding line
line_told b words out g =
    let f = run bridges b words (length out) in
    let h = heard words b (length out) g in
    let s = sent words b (length out) in
    let reports = ap handed_out h.0 in
    let v = s.0 ∙ ap (sends b.reader.format b.past) reports in
    rw (sum_is f.answers)
    (record {
      next = same_bridge h.1 (s.1 ∙ ap (past_after b.reader.format b.past) reports);
      reports = ap length reports;
      sent = ap length v;
      dropped = ap dropped_among h.0;
      written = rw (three_sent f.answers, sent_bytes f.answers) (ap (λ (t : List Report). bytes_all t ++ drop (3 * length (sent_in f.answers)) out) v);
    })

pub told : (b : Bridge) (words out : List ℕ) (a : Converted) (after : List ℕ) (steps : List Read) → good b ≡ true → ConvertPromise b words out a after → StepsPromise b.reader (take a.taken words) steps
    → Told b steps out a after
told b words out a after steps g e p =
    let i = e ∙ convert_line b words out g in
    rw (steps_are b.reader (take a.taken words) steps p, ap long.told i, ap (λ (l : Long). l.out) i) (line_told b words out g)
