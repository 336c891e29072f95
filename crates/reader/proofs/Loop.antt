-- The long read's loop: where it stands, the first word of what is left, and how it goes on and ends.
use mathlib.Core.Path.{◌≡◌, refl, ◌∙◌, ap, subst}
use mathlib.Core.Bool.{Bool, true, false, ◌&&◌}
use mathlib.Core.List.{List, [], ◌∷◌, ◌++◌}
use Prim.Native.Nat.{ℕ, zero, suc, ◌+◌, ◌-◌, ◌*◌, ◌<◌, ◌≤◌}
use native.Mathlib.Omega.{arith}
use native.Mathlib.Nat.{add-zero, zero-add, zero-mul, suc-mul, mul-one, mul-zero}
use lib.ListN.{length, get_or, take, drop, set, take-append-drop, drop_of_length-le}
use lib.Seq.{sets-eq, get_or-drop}
use lib.IntN.{ℤ, pos}
use lib.Dec.{leb, eqb}
use borrow.Author.Tests.{eqb-true, eqb-false, eq-eqb, leb-true, leb-false, le-leb}
use borrow.Rule.Slice.PartMut.{put_mid}
use Rattle.numbers.proofs.Tested.{left, right}
use Rattle.fold.specs.Fold.{behind, run}
use Rattle.fold.specs.Calls.{Counts, sum, line}
use Rattle.fold.specs.Calls as calls
use Rattle.fold.proofs.Laws.{within}
use Rattle.fold.proofs.Parts.{rest_is, back, part_long, part_none}
use Rattle.fold.proofs.Calls.{sum_append}
use Rattle.fold.proofs.Loops as loops
use Rattle.frames.specs.Words.{is_byte}
use Rattle.wire.specs.Line.{marked_by}
use Rattle.wire.specs.declared.Report.{Report}
use Rattle.reader.specs.State.{ready, five_of, Read}
use Rattle.reader.specs.Good.{good}
use Rattle.reader.specs.Rules.{answered, byte_of, dropping, silence_of, word_of}
use Rattle.reader.specs.Counts.{reports_in, dropped_in, written_in}
use Rattle.reader.specs.Line.{Reading, Long, whole, reading, reads, reads_line}
use Rattle.reader.specs.Parts.{Stands, Begins, first_of, Alike, AwaitsBehind}
use Rattle.reader.specs.declared.Reader.{Reader}
use Rattle.reader.specs.declared.Answer.{Answer}
use Rattle.reader.specs.declared.Answer.TheVariants.{Nothing, Dropped}
use Rattle.reader.proofs.Word.{word_format, lost_awaits}
use Rattle.reader.proofs.Counted.{lawful, five_in}
use Rattle.reader.proofs.Bounds.{dropped_few}

-- five stores at the front
pub put_is : (l : List ℤ) (p : Report) (a b c d e : ℤ) → 5 ≤ length l → a ≡ pos p.buttons → b ≡ p.x1 → c ≡ p.y1 → d ≡ p.x2 → e ≡ p.y2 → set (set (set (set (set l 0 a) 1 b) 2 c) 3 d) 4 e ≡ five_of p ++ drop 5 l
put_is l p a b c d e h ea eb ec ed ee = sets-eq (a ∷ b ∷ c ∷ d ∷ e ∷ []) l 0 h ∙ rw (ea, eb, ec, ed, ee)

pub starts : (r : Reader) (words : List ℕ) (out : List ℤ) → Stands r words out r 0 0 0 0 out
starts = loops.stands_none reads_line lawful

module _ {r : Reader} (words : List ℕ) (out : List ℤ) {s : Read} (sound : good r ≡ true) (some : 0 < length words) (is : s ≡ word_of r (get_or words 0 0)) where
  -- its first word stops the read, or is taken
  pub stopping : (s.refusal ≡ 0 → length out < 5 * reports_in s.answer) → Begins r words out (record { refusal = s.refusal; next = r; taken = 0; reports = 0; dropped = 0 }) out
  stopping h =
      let b = loops.stopping reads_line lawful r words out sound some (rw is at h) in
      rw is (record { stands = b.stands; stops = b.stops; sound = b.sound; same_format = refl })

  pub taking : s.refusal ≡ 0 → 5 * reports_in s.answer ≤ length out
      → Begins r words out (record { refusal = 0; next = s.next; taken = 1; reports = reports_in s.answer; dropped = dropped_in s.answer }) (written_in s.answer ++ drop (5 * reports_in s.answer) out)
  taking z h =
      let b = loops.taking reads_line lawful r words out sound some (rw is at z) (rw is at h) in
      rw is (record { stands = b.stands; stops = b.stops; sound = b.sound; same_format = word_format r (get_or words 0 0) })

-- where it was a byte that an unmarked format dropped, a silence is awaited
pub awaited : (r : Reader) (w : ℕ) {s : Read} → s ≡ word_of r w → marked_by r.format ≡ false → is_byte w ≡ true → (dropped_in s.answer ≡ 0 → ⊥) → s.next.awaiting ≡ true
awaited r w is m i n = rw is (lost_awaits r w m i (rw is at n))

-- how far it has come
pub record Far (r : Reader) (words : List ℕ) (before : List ℤ) (taken used reports dropped : ℕ) (after : List ℤ) : Type 0 where
  pub within : taken ≤ length words
  pub places : used ≡ 5 * reports
  pub room : used ≤ length before
  pub long : length after ≡ length before
  pub few : dropped ≤ length words + r.count

module _ {words : List ℕ} {out₀ out : List ℤ} {r₀ r : Reader} {at used reports dropped : ℕ} (s : Stands r₀ words out₀ r at used reports dropped out) where
  pub far : Far r₀ words out₀ at used reports dropped out
  far =
      let later = (run reads r (drop at words) (length out₀ - used)).answers in
      let d = rw s.part.is at (dropped_few words r₀ (length out₀)) in
      let w = rw s.part.is at (within reads words r₀ (length out₀)) in
      let both = ap (λ (k : Counts). k.dropped) (sum_append reads_line lawful s.answers later) in
      let h = loops.stands_within reads_line lawful s in
      record { within = h.0; places = h.3; room = h.1; long = h.2; few = omega (arith, d, w.0, both, ap (λ (k : Counts). k.dropped) s.counts_are) }

  pub ends_all : length words ≤ at → whole (record { refusal = 0; next = r; taken = at; reports = reports; dropped = dropped }) out ≡ line reads_line r₀ words out₀
  ends_all h = loops.ends_all reads_line lawful s h

  -- a part, and then a part of the rest
  then : {u : Reader} {taken places n d : ℕ} {last : List ℤ} → Stands r (drop at words) (drop used out) u taken places n d last
      → Stands r₀ words out₀ u (at + taken) (used + places) (reports + n) (dropped + d) (take used out ++ last)
  then q = loops.stands_then reads_line lawful s q

  -- the rest as the code lends it, with the slice back
  pub on : {u : Reader} {taken places n d : ℕ} {last : List ℤ} → Stands r (take (length words - at) (drop at words)) (take (length out - used) (drop used out)) u taken places n d last
      → Stands r₀ words out₀ u (at + taken) (used + places) (reports + n) (dropped + d) (put_mid used (length out - used) out last)
  on {last = last} q = rw (back out last used) (then (rw (rest_is words at, rest_is out used) at q))

  -- words that write nothing
  pub over : {u : Reader} {taken d : ℕ} → Stands r (take (length words - at) (drop at words)) (drop used out) u taken 0 0 d (drop used out)
      → Stands r₀ words out₀ u (at + taken) used reports (dropped + d) out
  over q = rw (add-zero used, add-zero reports, take-append-drop used out) at (then (rw (rest_is words at) at q))

  module _ {t : Reading} {last : List ℤ} (b : Begins r (take (length words - at) (drop at words)) (take (length out - used) (drop used out)) t last) where
    begins : calls.Begins reads_line r (take (length words - at) (drop at words)) (take (length out - used) (drop used out)) (whole t last)
    begins = record { stands = b.stands; stops = b.stops; sound = b.sound }

    -- it took no word: the slice is as it was, and the read ends
    module _ (z : t.taken ≡ 0) where
      pub unchanged : put_mid used (length out - used) out last ≡ out
      unchanged = loops.unchanged reads_line lawful s begins z

      pub ends_before : whole (record { refusal = t.refusal; next = r; taken = at; reports = reports; dropped = dropped }) out ≡ line reads_line r₀ words out₀
      ends_before = loops.ends_before reads_line lawful s begins z

-- the first word, by what it gives; and where it is all of the line
module _ (r : Reader) (words : List ℕ) (out : List ℤ) {s : Read} (sound : good r ≡ true) (some : 0 < length words) (is : s ≡ word_of r (get_or words 0 0)) {t : Reading} {last : List ℤ} (e : whole t last ≡ first_of r s out) where
  abbrev taken_one : Bool
  taken_one = eqb s.refusal 0 && leb (5 * reports_in s.answer) (length out)

  goes : taken_one ≡ true → Begins r words out (record { refusal = 0; next = s.next; taken = 1; reports = reports_in s.answer; dropped = dropped_in s.answer }) (written_in s.answer ++ drop (5 * reports_in s.answer) out)
  goes k = taking words out sound some is (eqb-true s.refusal 0 (left (eqb s.refusal 0) _ k)) (leb-true _ _ (right (eqb s.refusal 0) _ k))

  stays : taken_one ≡ false → Begins r words out (record { refusal = s.refusal; next = r; taken = 0; reports = 0; dropped = 0 }) out
  stays k = stopping words out sound some is (λ z. leb-false _ _ (rw (eq-eqb s.refusal 0 z) at k))

  pub first_begins : Begins r words out t last × AwaitsBehind r words t
  first_begins = go taken_one refl
    where
      go : (b : Bool) → taken_one ≡ b → Begins r words out t last × AwaitsBehind r words t
      go true k = let i = rw k at e in rw (ap reading i, ap (λ (l : Long). l.out) i) (goes k, awaited r (get_or words 0 0) is)
      go false k = let i = rw k at e in rw (ap reading i, ap (λ (l : Long). l.out) i) (stays k, λ _ _ n. absurd (n refl))

  pub first_ends : length words ≡ 1 → whole t last ≡ line reads_line r words out
  first_ends one = go taken_one refl
    where
      go : (b : Bool) → taken_one ≡ b → whole t last ≡ line reads_line r words out
      go true k = rw k at e ∙ ends_all (goes k).stands (omega arith)
      go false k = rw k at e ∙ loops.stops_at_once reads_line lawful r words out s.refusal ((stays k).stops refl)

-- words at the front of a line that lie between two: none yet, and one more
pub none_alike : {low high : ℕ} {words : List ℕ} → Alike low high 0 words
none_alike = record { within = omega arith; between = λ i h. absurd (omega arith) }

pub alike_more : {low high n : ℕ} {words : List ℕ} → Alike low high n words → n < length words → low ≤ get_or words n 0 → get_or words n 0 ≤ high → Alike low high (n + 1) words
alike_more {low} {high} {n} {words} b h l k = record { within = omega arith; between = λ i j. go i j (eqb i n) refl }
  where
    go : (i : ℕ) → i < n + 1 → (e : Bool) → eqb i n ≡ e → (low ≤ get_or words i 0) × (get_or words i 0 ≤ high)
    go i j true e = rw (eqb-true i n e) (l, k)
    go i j false e = b.between i (omega (arith, eqb-false i n e))

-- what becomes of them where each leaves the reader as it is, with the same answer, and that writes nothing
module _ (r : Reader) (a : Answer) {low high : ℕ} (same : (w : ℕ) → low ≤ w → w ≤ high → word_of r w ≡ answered r a) (quiet : written_in a ≡ []) where
  passing : (w : ℕ) → low ≤ w → w ≤ high → (words : List ℕ) (room : ℕ) → run reads r (w ∷ words) room ≡ behind (a ∷ []) (run reads r words room)
  unfolding run
  passing w l h words room = let z : room - 0 ≡ room = omega arith in rw (same w l h, quiet, le-leb 0 room (omega arith), z)

  alike_stands : (n : ℕ) (words : List ℕ) (out : List ℤ) → Alike low high n words → Stands r words out r n 0 0 (n * dropped_in a) out
  unfolding sum
  alike_stands zero words out b = rw (zero-mul (dropped_in a)) (starts r words out)
  alike_stands (suc n) [] out b = absurd (omega (arith, b.within))
  alike_stands (suc n) (w ∷ words) out b =
      let rest = alike_stands n words out (record { within = omega (arith, b.within); between = λ i h. b.between (suc i) (omega arith) }) in
      let w_is = b.between 0 (omega arith) in
      let none : reports_in a ≡ 0 = omega (arith, five_in a, ap length quiet) in
      let one_more_lem : suc n * dropped_in a ≡ dropped_in a + n * dropped_in a = rw (suc-mul n (dropped_in a)) (omega arith) in
      record {
        answers = a ∷ rest.answers;
        part = record {
          words_are = omega (arith, rest.part.words_are);
          places_are = rw quiet rest.part.places_are;
          wrote = rw quiet rest.part.wrote;
          is = passing w w_is.0 w_is.1 words (length out) ∙ ap (behind (a ∷ [])) rest.part.is;
        };
        counts_are = rw (← rest.counts_are, none, one_more_lem);
      }

-- bytes while a silence is awaited, and silences to a reader that is ready
pub lost_stands : (r : Reader) → r.awaiting ≡ true → (n : ℕ) (words : List ℕ) (out : List ℤ) → Alike 0 255 n words → Stands r words out r n 0 0 n out
unfolding word_of byte_of
lost_stands r a n words out b = rw (mul-one n) at (alike_stands r (Dropped 1) (λ w _ h. rw (le-leb w 255 h, a)) refl n words out b)

pub silences_stand : (letter n : ℕ) (words : List ℕ) (out : List ℤ) → Alike 257 257 n words → Stands (ready letter) words out (ready letter) n 0 0 0 out
unfolding word_of silence_of dropping
silences_stand letter n words out b = rw (mul-zero n) at (alike_stands (ready letter) Nothing (λ w l h. let k : w ≡ 257 = omega arith in rw k) refl n words out b)

-- words one by one, while nothing is written
module _ {words : List ℕ} {out₀ out : List ℤ} {r₀ r : Reader} {at dropped : ℕ} (s : Stands r₀ words out₀ r at 0 0 dropped out) (sound : good r ≡ true) (format : r.format ≡ r₀.format) where
  -- the line is at its end
  pub all_taken : (at ≡ 0 → r ≡ r₀) → length words ≤ at → Begins r₀ words out₀ (record { refusal = 0; next = r; taken = at; reports = 0; dropped = dropped }) out
  unfolding run
  all_taken same h = record { stands = s; stops = λ e. loops.stops_here reads_line lawful s 0 (rw (drop_of_length-le words h)) e (same e); sound = sound; same_format = format }

  module _ {t : Reading} {last : List ℤ} (b : Begins r (take (length words - at) (drop at words)) out t last) where
    pub took : Stands r₀ words out₀ t.next (at + t.taken) (5 * t.reports) t.reports (dropped + t.dropped) last
    took = rw (zero-add (5 * t.reports), zero-add t.reports) at (then s (rw (rest_is words at) at b.stands))

    -- it took no word
    pub none_taken : (at ≡ 0 → r ≡ r₀) → t.taken ≡ 0
        → Begins r₀ words out₀ (record { refusal = t.refusal; next = r; taken = at; reports = 0; dropped = dropped }) last
    none_taken same z =
        let room : length out₀ - 0 ≡ length out = omega (arith, part_long reads s.part) in
        record {
          stands = rw (part_none reads b.stands.part z) s;
          stops = λ e. loops.stops_here reads_line lawful s t.refusal (rw room (rw (rest_is words at) at (b.stops z))) e (same e);
          sound = sound;
          same_format = format;
        }

    -- bytes behind one that an unmarked format dropped
    pub skipped : t.reports ≡ 0 → AwaitsBehind r (take (length words - at) (drop at words)) t → marked_by r.format ≡ false → (t.dropped ≡ 0 → ⊥) → get_or words at 0 ≤ 255
        → {n : ℕ} → Alike 0 255 n (take (length words - (at + t.taken)) (drop (at + t.taken) words)) → Stands r₀ words out₀ t.next (at + t.taken + n) 0 0 (dropped + t.dropped + n) last
    skipped none waits m some small b =
        let first : get_or (take (length words - at) (drop at words)) 0 0 ≡ get_or words at 0 = rw (rest_is words at, get_or-drop at words 0 0, add-zero at) in
        over (rw none at took) (lost_stands t.next (waits m (rw first (le-leb (get_or words at 0) 255 small)) some) _ _ _ b)

-- how a loop goes on, with five places for each report: a run or silences, where the reader is ready; or another part
module _ {words : List ℕ} {out₀ out : List ℤ} {r₀ r : Reader} {at reports dropped : ℕ} (s : Stands r₀ words out₀ r at (5 * reports) reports dropped out) where
  pub and_part : {u : Reader} {taken n d : ℕ} {last : List ℤ}
      → Stands r (take (length words - at) (drop at words)) (take (length out - 5 * reports) (drop (5 * reports) out)) u taken (5 * n) n d last
      → Stands r₀ words out₀ u (at + taken) (5 * (reports + n)) (reports + n) (dropped + d) (put_mid (5 * reports) (length out - 5 * reports) out last)
  and_part {n = n} q = let sum : 5 * reports + 5 * n ≡ 5 * (reports + n) = omega arith in rw sum at (on s q)

  module _ (calm : r ≡ ready r.format) where
    pub and_run : {taken n : ℕ} {last : List ℤ}
        → Stands (ready r.format) (take (length words - at) (drop at words)) (take (length out - 5 * reports) (drop (5 * reports) out)) (ready r.format) taken (5 * n) n 0 last
        → Stands r₀ words out₀ r (at + taken) (5 * (reports + n)) (reports + n) dropped (put_mid (5 * reports) (length out - 5 * reports) out last)
    and_run q = rw (add-zero dropped) at (and_part (rw (← calm) at q))

    pub and_silences : {n : ℕ} → Alike 257 257 n (take (length words - at) (drop at words)) → Stands r₀ words out₀ r (at + n) (5 * reports) reports dropped out
    and_silences {n} b = rw (add-zero dropped) at (over s {u = r} {taken = n} {d = 0} (rw calm (silences_stand r.format n _ _ b)))

  -- with another name for the reader that is left; and for the one that was handed in
  pub leaves : {u : Reader} → r ≡ u → Stands r₀ words out₀ u at (5 * reports) reports dropped out
  leaves e = subst (λ (u : Reader). Stands r₀ words out₀ u at (5 * reports) reports dropped out) e s

  pub handed : {u : Reader} → r₀ ≡ u → Stands u words out₀ r at (5 * reports) reports dropped out
  handed e = subst (λ (u : Reader). Stands u words out₀ r at (5 * reports) reports dropped out) e s
