-- A long read is the reply at its front, and then the report reader's own long read.
use Rattle.std.proofs.Common.{Option, None}
use Prim.Native.Nat.{ℕ, suc, ◌+◌, ◌-◌, ◌≤◌}
use mathlib.Core.Path.{◌≡◌, refl, sym, ◌∙◌, ap}
use mathlib.Core.Bool.{Bool, true, false, cond, ◌&&◌}
use mathlib.Core.List.{List, [], ◌∷◌, ◌++◌, map}
use native.Mathlib.Nat.{zero-add, add_assoc}
use native.Mathlib.Numerals.{one-add}
use native.Mathlib.Omega.{arith}
use lib.ListN.{length, drop, length-map}
use lib.Dec.{eqb, leb}
use lib.IntN.{ℤ}
use borrow.Author.Tests.{eqb-true, eq-eqb, ne_eqb}
use Rattle.numbers.proofs.Choices.{cases}
use Rattle.fold.proofs.Laws.{taken, accepted}
use Rattle.fold.specs.Fold.{Ran, ran, behind, written, places, takes, run}
use Rattle.fold.specs.Calls.{sum, counted, line}
use Rattle.frames.specs.Words.{is_byte}
use Rattle.wire.specs.Numbers.{success}
use Rattle.reader.specs.Good.{good}
use Rattle.reader.specs.Rules as readers
use Rattle.reader.specs.Line as report
use Rattle.reader.specs.Counts.{written_in}
use Rattle.reader.specs.declared.Reader.{Reader}
use Rattle.reader.specs.State.{Read}
use Rattle.reader.specs.declared.Answer.{Answer}
use Rattle.reader.specs.declared.Answer.TheVariants as answer
use Rattle.reader.proofs.Keeps.{word_good}
use Rattle.reader.proofs.Goodness.{step_word}
use Rattle.replies.specs.Replying.{nothing, fits, finishes, more, told, broken}
use Rattle.replies.specs.Rules.{told_reader, heard, keep, passed, pass, continues, word_of}
use Rattle.replies.specs.Line.{Long, Both, hears, or_else, counts, hears_line}
use Rattle.replies.specs.Fronts.{front, ahead, front_of, closed}
use Rattle.replies.specs.declared.Awaited.{Awaited}
use Rattle.replies.specs.declared.Front.{Front}
use Rattle.replies.specs.declared.Reply.{Reply}
use Rattle.replies.specs.declared.ToldReader.{ToldReader}
use Rattle.replies.proofs.Counted.{both, or_nothing}

-- a word that is not the reply's goes to the report reader
pub word_passes : (s : ToldReader) (w : ℕ) → good s.reader ≡ true → continues s.awaited w ≡ false → word_of s w ≡ passed s (readers.word_of s.reader w)
unfolding word_of pass
word_passes s w g e = rw (e, step_word s.reader w g)

-- one that is does not
pub word_kept : (s : ToldReader) (w : ℕ) → continues s.awaited w ≡ true → word_of s w ≡ keep s w
unfolding word_of
word_kept s w e = rw e

pub none_continues : (w : ℕ) → continues nothing w ≡ false
unfolding fits
none_continues w = go (is_byte w)
  where
    go : (t : Bool) → t && false ≡ false
    go true = refl
    go false = refl

-- and it is taken just where the report reader takes it
module _ (s : ToldReader) (w room : ℕ) (g : good s.reader ≡ true) (e : continues s.awaited w ≡ false) where
  abbrev own : Read
  own = readers.word_of s.reader w

  takes_passed : takes hears s w room ≡ takes report.reads s.reader w room
  takes_passed = rw (word_passes s w g e) (go (eqb own.refusal success) refl)
    where
      go : (t : Bool) → eqb own.refusal success ≡ t
          → eqb (passed s own).refusal 0 && leb (length (written_in (passed s own).answer)) room ≡ eqb own.refusal 0 && leb (length (written_in own.answer)) room
      go true n = rw n
      go false n = rw (n, n)

  number_passed : (passed s own).refusal ≡ own.refusal
  number_passed = go (eqb own.refusal success) refl
    where
      go : (t : Bool) → eqb own.refusal success ≡ t → (passed s own).refusal ≡ own.refusal
      go true n = rw n (sym (eqb-true own.refusal success n))
      go false n = rw n

  pub run_passed : (words : List ℕ) → run hears s (w ∷ words) room
      ≡ cond (takes report.reads s.reader w room)
      (behind (both (broken s.awaited) own.answer ∷ []) (run hears (told_reader own.next nothing) words (room - places report.reads s.reader w)))
      (ran own.refusal s [])
  unfolding run
  run_passed words = rw (takes_passed, word_passes s w g e) (go (takes report.reads s.reader w room) refl)
    where
      go : (t : Bool) → takes report.reads s.reader w room ≡ t
          → cond t (behind (both (passed s own).reply (passed s own).answer ∷ []) (run hears (passed s own).next words (room - length (written_in (passed s own).answer))))
          (ran (passed s own).refusal s [])
          ≡ cond t (behind (both (broken s.awaited) own.answer ∷ []) (run hears (told_reader own.next nothing) words (room - length (written_in own.answer)))) (ran own.refusal s [])
      go true t = rw (eq-eqb own.refusal success (accepted report.reads s.reader w room t))
      go false t = rw number_passed

-- the report reader's run, as that of a reader that awaits no reply
abbrev lifted : Ran Reader Answer → Ran ToldReader Both
lifted f = ran f.refusal (told_reader f.next nothing) (map (both None) f.answers)

pub plain_run : (words : List ℕ) (r : Reader) (room : ℕ) → good r ≡ true → run hears (told_reader r nothing) words room ≡ lifted (run report.reads r words room)
unfolding run broken
plain_run [] r room g = refl
plain_run (w ∷ words) r room g = run_passed (told_reader r nothing) w room g (none_continues w) words ∙ go (takes report.reads r w room) (plain_run words (readers.word_of r w).next (room - places report.reads r w) (word_good r g w))
  where
    go : (t : Bool)
        → run hears (told_reader (readers.word_of r w).next nothing) words (room - places report.reads r w) ≡ lifted (run report.reads (readers.word_of r w).next words (room - places report.reads r w))
        → cond t (behind (both None (readers.word_of r w).answer ∷ []) (run hears (told_reader (readers.word_of r w).next nothing) words (room - places report.reads r w))) (ran (readers.word_of r w).refusal (told_reader r nothing) [])
        ≡ lifted (cond t (behind ((readers.word_of r w).answer ∷ []) (run report.reads (readers.word_of r w).next words (room - places report.reads r w))) (ran (readers.word_of r w).refusal r []))
    go true ih = ap (behind (both None (readers.word_of r w).answer ∷ [])) ih
    go false ih = refl

-- its answers tell of no reply
sum_lifted : (l : List Answer) → let k = sum report.reads_line l in sum hears_line (map (both None) l) ≡ counts k.reports k.dropped None
unfolding sum
sum_lifted [] = refl
sum_lifted (a ∷ l) = rw (sum_lifted l)

written_lifted : (l : List Answer) → written hears (map (both None) l) ≡ written report.reads l
written_lifted [] = refl
written_lifted (a ∷ l) = ap (λ (x : List ℤ). written_in a ++ x) (written_lifted l)

-- words in front that are the reply's: they write nothing
abbrev in_front : ℕ → Option Reply → Long → Long
in_front k y l =
    record {
      refusal = l.refusal;
      next = l.next;
      taken = k + l.taken;
      counts = counts l.counts.reports l.counts.dropped (or_else y l.counts.reply);
      out = l.out;
    }

quiet_first : (y : Option Reply) (f : Ran ToldReader Both) (out : List ℤ) → counted hears_line (behind (both y answer.Nothing ∷ []) f) out ≡ in_front 1 y (counted hears_line f out)
unfolding sum
quiet_first y f out = rw (one-add (length f.answers), zero-add (sum hears_line f.answers).reports, zero-add (sum hears_line f.answers).dropped)

-- what a reply at the front and the report reader's own long read behind it come to
abbrev pub assembled : Front → report.Long → Long
assembled f l =
    let g = closed f l.taken in
    record {
      refusal = l.refusal;
      next = told_reader l.next g.awaited;
      taken = f.taken + l.taken;
      counts = counts l.counts.reports l.counts.dropped g.reply;
      out = l.out;
    }

-- where the reply is whole, or none is awaited
closed_whole : (n k : ℕ) (y : Option Reply) → closed (front nothing k y) n ≡ front nothing k y
unfolding closed broken
closed_whole n k y = cases (λ (f : Front). f ≡ front nothing k y) (eqb n 0) (λ _. refl) (λ _. ap (front nothing k) (or_nothing y))

counted_lifted : (f : Ran Reader Answer) (k : ℕ) (y : Option Reply) (out : List ℤ) → in_front k y (counted hears_line (lifted f) out) ≡ assembled (front nothing k y) (counted report.reads_line f out)
counted_lifted f k y out =
    rw (closed_whole (length f.answers) k y, length-map f.answers (both None), sum_lifted f.answers, written_lifted f.answers, or_nothing y)

-- where the first word is the report reader's
abbrev later_of : Reader → ℕ → List ℕ → ℕ → Ran Reader Answer
later_of r w words room = run report.reads (readers.word_of r w).next words (room - places report.reads r w)

counted_passed : (a : Awaited) (r : Reader) (w : ℕ) (words : List ℕ) (out : List ℤ) → good r ≡ true → continues a w ≡ false
    → counted hears_line (run hears (told_reader r a) (w ∷ words) (length out)) out ≡ assembled (front a 0 None) (counted report.reads_line (run report.reads r (w ∷ words) (length out)) out)
unfolding run closed sum
counted_passed a r w words out g e =
    rw (run_passed (told_reader r a) w (length out) g e words) (go (takes report.reads r w (length out)))
  where
    go : (t : Bool)
        → counted hears_line (cond t (behind (both (broken a) (readers.word_of r w).answer ∷ []) (run hears (told_reader (readers.word_of r w).next nothing) words (length out - places report.reads r w))) (ran (readers.word_of r w).refusal (told_reader r a) [])) out
        ≡ assembled (front a 0 None) (counted report.reads_line (cond t (behind ((readers.word_of r w).answer ∷ []) (later_of r w words (length out))) (ran (readers.word_of r w).refusal r [])) out)
    go true =
        rw (plain_run words (readers.word_of r w).next (length out - places report.reads r w) (word_good r g w), length-map (later_of r w words (length out)).answers (both None), sum_lifted (later_of r w words (length out)).answers, written_lifted (later_of r w words (length out)).answers, or_nothing (broken a), ne_eqb (suc (length (later_of r w words (length out)).answers)) 0 (λ z. omega arith), zero-add)
    go false = refl

-- one byte of a reply more in front
closed_ahead : (f : Front) (n : ℕ) → closed (ahead 1 f) n ≡ ahead 1 (closed f n)
unfolding closed
closed_ahead f n = go (eqb n 0)
  where
    go : (t : Bool) → cond t (ahead 1 f) (front nothing (1 + f.taken) (or_else f.reply (broken f.awaited))) ≡ ahead 1 (cond t f (front nothing f.taken (or_else f.reply (broken f.awaited))))
    go true = refl
    go false = refl

ahead_one : (f : Front) (l : report.Long) → in_front 1 None (assembled f l) ≡ assembled (ahead 1 f) l
ahead_one f l = rw (closed_ahead f l.taken, add_assoc 1 f.taken l.taken)

-- the last byte of a reply, and one before it
pub keep_last : (r : Reader) (a : Awaited) (w : ℕ) → finishes a ≡ true → keep (told_reader r a) w ≡ heard (told_reader r nothing) (told a w) answer.Nothing
unfolding keep
keep_last r a w f = rw f

pub keep_more : (r : Reader) (a : Awaited) (w : ℕ) → finishes a ≡ false → keep (told_reader r a) w ≡ heard (told_reader r (more a w)) None answer.Nothing
unfolding keep
keep_more r a w f = rw f

room_same : (room : ℕ) → room - 0 ≡ room
room_same room = omega arith

pub run_kept : (s : ToldReader) (w : ℕ) (words : List ℕ) (room : ℕ) (next : ToldReader) (y : Option Reply) → word_of s w ≡ heard next y answer.Nothing
    → run hears s (w ∷ words) room ≡ behind (both y answer.Nothing ∷ []) (run hears next words room)
unfolding run
run_kept s w words room next y e =
    let none : length (written_in (word_of s w).answer) ≤ room = rw e (omega arith) in
    rw (taken hears s w room (rw e) none, e, room_same room)

drop_one : (w : ℕ) (words : List ℕ) (n : ℕ) → drop n words ≡ drop (1 + n) (w ∷ words)
drop_one w words n = rw (one-add n)

pub line_front : (words : List ℕ) (a : Awaited) (r : Reader) (out : List ℤ) → good r ≡ true
    → line hears_line (told_reader r a) words out ≡ assembled (front_of a words) (line report.reads_line r (drop (front_of a words).taken words) out)
unfolding line front_of run closed sum
line_front [] a r out g = refl
line_front (w ∷ words) a r out g = go (continues a w) refl (finishes a) refl (line_front words (more a w) r out g)
  where
    go : (t : Bool) → continues a w ≡ t → (u : Bool) → finishes a ≡ u
        → line hears_line (told_reader r (more a w)) words out ≡ assembled (front_of (more a w) words) (line report.reads_line r (drop (front_of (more a w) words).taken words) out)
        → line hears_line (told_reader r a) (w ∷ words) out ≡ assembled (front_of a (w ∷ words)) (line report.reads_line r (drop (front_of a (w ∷ words)).taken (w ∷ words)) out)
    go true e true f ih =
        rw (e, f)
        (ap (λ (x : Ran ToldReader Both). counted hears_line x out) (run_kept (told_reader r a) w words (length out) (told_reader r nothing) (told a w) (word_kept (told_reader r a) w e ∙ keep_last r a w f) ∙ ap (behind (both (told a w) answer.Nothing ∷ [])) (plain_run words r (length out) g))
        ∙ quiet_first (told a w) (lifted (run report.reads r words (length out))) out
        ∙ counted_lifted (run report.reads r words (length out)) 1 (told a w) out)
    go true e false f ih =
        rw (e, f)
        (ap (λ (x : Ran ToldReader Both). counted hears_line x out) (run_kept (told_reader r a) w words (length out) (told_reader r (more a w)) None (word_kept (told_reader r a) w e ∙ keep_more r a w f))
        ∙ quiet_first None (run hears (told_reader r (more a w)) words (length out)) out
        ∙ ap (in_front 1 None) ih
        ∙ ahead_one (front_of (more a w) words) (line report.reads_line r (drop (front_of (more a w) words).taken words) out)
        ∙ ap (λ (l : List ℕ). assembled (ahead 1 (front_of (more a w) words)) (line report.reads_line r l out)) (drop_one w words (front_of (more a w) words).taken))
    go false e u f ih = rw e (counted_passed a r w words out g e)
