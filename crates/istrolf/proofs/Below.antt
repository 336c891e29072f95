-- Runs of the readers' C functions are runs of the functions below them.
use Prim.Native.Nat.{ℕ, zero, suc, ◌*◌}
use mathlib.Core.Path.{◌≡◌, refl, sym, ◌∙◌, ap, ap₂, subst}
use mathlib.Core.List.{List, [], ◌∷◌, map}
use native.Mathlib.Omega.{arith}
use lib.IntN.{ℤ}
use lib.ListN.{length, take, drop, get_or}
use Rattle.wire.specs.Line.{letter_of}
use Rattle.wire.specs.declared.Report.{Report}
use Rattle.wire.specs.declared.Format.{Format}
use Rattle.reader.specs.Counts as counts
use Rattle.reader.specs.DamagedLines as lines
use Rattle.reader.specs.Promises as reader
use Rattle.reader.specs.Runs.{steps_of, answers}
use Rattle.reader.specs.declared.Answer.{Answer}
use Rattle.reader.specs.declared.Answer.TheVariants as answer
use Rattle.reader.specs.State.{Read}
use Rattle.reader.specs.declared.Reader.{Reader}
use Rattle.reader.proofs.Handed.{permitted}
use Rattle.replies.specs.Promises as replies
use Rattle.replies.specs.declared.Asked.{Asked}
use Rattle.replies.specs.declared.ToldReader.{ToldReader}
use Rattle.istrolf.specs.Told as told
use Rattle.reader.specs.Line.{reading}
use Rattle.istrolf.specs.Readers.{packed, answered, packed_read, Whole, packed_long}
use Rattle.istrolf.specs.Promises.{FreshReaderPromise, reader_step_of, read_of, ReadPromise, tell_of, told_step_of, told_read_of}
use Rattle.istrolf.specs.Runs.{StepsPromise, handed_out, handed_out_at, Took, HandsOutBy, HandsOut, HandsOutAt}
use Rattle.istrolf.specs.declared.HeldReader.{HeldReader}
use Rattle.istrolf.specs.declared.FreshReader.{FreshReader}
use Rattle.istrolf.specs.declared.ReadWord.{ReadWord}
use Rattle.istrolf.specs.declared.ReadWords.{ReadWords}
use Rattle.istrolf.proofs.RoundTrip.{reader_there, reader_stands, told_there, told_stands}

-- a word to a reader in C is one to the library's own
pub step_as : (r : Reader) (w : ℕ) → reader_step_of (packed r) w ≡ packed_read (reader.step_of r w)
unfolding reader_step_of
step_as r w = simp (reader_stands r) (ap (λ (q : Reader). packed_read (reader.step_of q w)) (reader_there r))

next_is : (n : ℕ) (next : HeldReader) (a : Answer) → (answered n next a).next ≡ next
next_is n next answer.Nothing = refl
next_is n next (answer.Report p) = refl
next_is n next (answer.Dropped k) = refl

pub steps_as : (r : Reader) (words : List ℕ) (steps : List ReadWord) → StepsPromise (packed r) words steps → steps ≡ map packed_read (steps_of r words)
unfolding StepsPromise steps_of
steps_as r [] [] e = refl
steps_as r [] (s ∷ steps) e = absurd e
steps_as r (w ∷ words) [] e = absurd e
steps_as r (w ∷ words) (s ∷ steps) e =
    let t = reader.step_of r w in
    let i : s ≡ packed_read t = e.0 ∙ step_as r w in
    let n : s.next ≡ packed t.next = ap (λ (x : ReadWord). x.next) i ∙ next_is t.refusal (packed t.next) t.answer in
    let j = steps_as t.next words steps (subst (λ (h : HeldReader). StepsPromise h words steps) n e.1) in
    ap₂ (λ (x : ReadWord) (l : List ReadWord). x ∷ l) i j

-- what they hand out is what the answers below do
handed_first : (n : ℕ) (next : HeldReader) (a : Answer) (steps : List ReadWord) (given : List Answer)
    → handed_out steps ≡ counts.handed_out given
    → handed_out (answered n next a ∷ steps) ≡ counts.handed_out (a ∷ given)
handed_first n next answer.Nothing steps given e = e
handed_first n next (answer.Report p) steps given e = ap (λ (l : List Report). p ∷ l) e
handed_first n next (answer.Dropped k) steps given e = e

handed_as : (steps : List Read) → handed_out (map packed_read steps) ≡ counts.handed_out (answers steps)
handed_as [] = refl
handed_as (s ∷ steps) = handed_first s.refusal (packed s.next) s.answer (map packed_read steps) (answers steps) (handed_as steps)

handed_until : (i : ℕ) (steps : List Read) → handed_out (take i (map packed_read steps)) ≡ counts.handed_out (take i (answers steps))
handed_until zero steps = refl
handed_until (suc i) [] = refl
handed_until (suc i) (s ∷ steps) =
    handed_first s.refusal (packed s.next) s.answer (take i (map packed_read steps)) (take i (answers steps)) (handed_until i steps)

handed_at : (i : ℕ) (steps : List Read) (p : Report) → get_or (answers steps) i answer.Nothing ≡ answer.Report p → handed_out_at i (map packed_read steps) ≡ p ∷ []
handed_at zero [] p e = absurd (omega (arith, ap (λ (a : Answer). length (counts.handed_out (a ∷ []))) e))
handed_at (suc i) [] p e = absurd (omega (arith, ap (λ (a : Answer). length (counts.handed_out (a ∷ []))) e))
handed_at zero (s ∷ steps) p e =
    handed_first s.refusal (packed s.next) s.answer [] [] refl ∙ ap (λ (a : Answer). counts.handed_out (a ∷ [])) e
handed_at (suc i) (s ∷ steps) p e = handed_at i steps p e

-- and so is a long read
pub read_as : (r : Reader) (words : List ℕ) (out : List ℤ) → read_of (packed r) words out ≡ packed_long (reader.read_of r words out)
unfolding read_of
read_as r words out = simp (reader_stands r) (ap (λ (q : Reader). packed_long (reader.read_of q words out)) (reader_there r))

took_as : (r : Reader) (words : List ℕ) (found : List Report) (before after : List ℤ) (b : ReadWords)
    → ReadPromise (packed r) words before b after
    → lines.Took words found before (reading (reader.read_of r words before)) (reader.read_of r words before).out
    → Took words found before b after
took_as r words found before after b e t =
    let i = e ∙ read_as r words before in
    record {
      refusal = ap (λ (w : Whole). w.reading.refusal) i ∙ t.refusal;
      taken = ap (λ (w : Whole). w.reading.taken) i ∙ t.taken;
      reports = ap (λ (w : Whole). w.reading.reports) i ∙ t.reports;
      written = ap (λ (w : Whole). w.out) i ∙ t.written;
    }

-- a reader in C hands out what the library's own does
pub hands_out_by : {r : Reader} {words : List ℕ} {found : List Report} → lines.HandsOutBy r words found → HandsOutBy (packed r) words found
hands_out_by {r} {words} {found} d =
    record {
      by_steps = λ steps p.
          ap handed_out (steps_as r words steps p) ∙ handed_as (steps_of r words) ∙ d.by_steps (steps_of r words) (permitted r words);
      by_read = λ before after b p room.
          took_as r words found before after b p
          (d.by_read before (reader.read_of r words before).out (reading (reader.read_of r words before)) refl room);
    }

pub hands_out : (f : Format) (words : List ℕ) (found : List Report) → lines.HandsOut f words found → HandsOut f words found
hands_out f words found d a e =
    subst (λ (n : FreshReader). HandsOutBy n.reader words found) (sym e) (hands_out_by (d (reader.fresh_of (letter_of f)) refl))

fresh_steps : (f : Format) (words : List ℕ) (a : FreshReader) (steps : List ReadWord)
    → FreshReaderPromise (letter_of f) a
    → StepsPromise a.reader words steps
    → steps ≡ map packed_read (steps_of (reader.fresh_of (letter_of f)).reader words)
fresh_steps f words a steps e s =
    steps_as (reader.fresh_of (letter_of f)).reader words steps (subst (λ (n : FreshReader). StepsPromise n.reader words steps) e s)

pub hands_out_at : (f : Format) (words : List ℕ) (i : ℕ) (p : Report) → lines.HandsOutAt f words i p → HandsOutAt f words i p
hands_out_at f words i p d =
    let n = reader.fresh_of (letter_of f) in
    let r = n.reader in
    let below = steps_of r words in
    record {
      by_steps = λ a steps e s.
          ap (handed_out_at i) (fresh_steps f words a steps e s) ∙ handed_at i below p (d.by_steps n below refl (permitted r words));
      by_read = λ a steps before after b e s read room.
          let k = fresh_steps f words a steps e s in
          let all : handed_out steps ≡ counts.handed_out (answers below) = ap handed_out k ∙ handed_as below in
          let until : handed_out (take i steps) ≡ counts.handed_out (take i (answers below)) = ap (λ (l : List ReadWord). handed_out (take i l)) k ∙ handed_until i below in
          let l = reader.read_of r words before in
          let q = subst (λ (m : FreshReader). ReadPromise m.reader words before b after) e read in
          let t = d.by_read n below before l.out (reading l) refl (permitted r words) refl (rw all at room) in
          rw (all, until) (
            took_as r words (counts.handed_out (answers below)) before after b q t.0,
            ap (λ (w : Whole). take 5 (drop (5 * length (counts.handed_out (take i (answers below)))) w.out)) (q ∙ read_as r words before) ∙ t.1,
          );
    }

-- a telling, a word and a long read of a told reader in C are those of the library's own
pub tell_as : (s : ToldReader) (asked : Asked) → tell_of (told.packed s) asked ≡ told.packed_telling (replies.tell_of s asked)
unfolding tell_of
tell_as s asked = simp (told_stands s) (ap (λ (q : ToldReader). told.packed_telling (replies.tell_of q asked)) (told_there s))

pub told_step_as : (s : ToldReader) (w : ℕ) → told_step_of (told.packed s) w ≡ told.packed_heard (replies.step_of s w)
unfolding told_step_of
told_step_as s w = simp (told_stands s) (ap (λ (q : ToldReader). told.packed_heard (replies.step_of q w)) (told_there s))

pub told_read_as : (s : ToldReader) (words : List ℕ) (out : List ℤ) → told_read_of (told.packed s) words out ≡ told.packed_long (replies.read_of s words out)
unfolding told_read_of
told_read_as s words out = simp (told_stands s) (ap (λ (q : ToldReader). told.packed_long (replies.read_of q words out)) (told_there s))
