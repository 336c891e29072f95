-- What a fresh reader hands out where a stretch of a line's words was replaced.
use mathlib.Core.Path.{◌≡◌, refl, sym, ap, ◌∙◌}
use mathlib.Core.List.{List, [], ◌∷◌, ◌++◌, append_assoc, append-nil, tail-eq_of_cons-eq, head-eq_of_cons-eq}
use Prim.Native.Nat.{ℕ, suc, ◌+◌, ◌≤◌, ◌<◌}
use native.Mathlib.Omega.{arith}
use lib.ListN.{length, take, length-append, length-take, replicate, length-replicate, get_or}
use lib.Seq.{get_or_at}
use Rattle.frames.specs.Words as words
use Rattle.frames.specs.Words.{break}
use Rattle.frames.specs.Passages.{Passage, silent, finished, broken, UnderWay, nothing, Unbroken, Sub, finished_by, passage_words, part_words, Lost, of_finished, of_broken, of_going, InOne, in_finished_lem, in_broken_lem, in_going_lem, Sound, SoundPart}
use Rattle.frames.specs.Frame.{Frame, State, has, kept, report, drops, fresh, answers, after, read, Whole, Framed, decoded, Laws, Marked}
use Rattle.frames.specs.Frame as frame
use Rattle.frames.proofs.Sub.{sub_length, sub_all, sub_append, sub_then, sub_take}
use Rattle.frames.proofs.Passages.{passages_append, sound_left, sound_right, finished_append}
use Rattle.frames.proofs.Reading.{answers_append, after_append, length_answers, read_append, ready_reads, after_silence}
use Rattle.frames.proofs.Marks.{any_reads, lost_read, synced, resync}

-- the place where two ways to split one list meet
meet : (a b c d : List ℕ) → a ++ b ≡ c ++ d → length c ≤ length a → (m : List ℕ) × (a ≡ c ++ m) × (d ≡ m ++ b)
meet a b [] d e l = (a, refl, sym e)
meet [] b (x ∷ c) d e l = absurd (omega arith)
meet (y ∷ a) b (x ∷ c) d e l =
    let r : (m : List ℕ) × (a ≡ c ++ m) × (d ≡ m ++ b) = meet a b c d (tail-eq_of_cons-eq e) (omega arith) in
    (r.0, cc (head-eq_of_cons-eq e, r.1), r.2)

-- the report r is the answer to word i, of words read from the first by a fresh reader
abbrev pub Handed : {R : Type 0} → Frame R → List ℕ → ℕ → R → Type 0
Handed F ws i r = get_or (answers F (fresh F) ws) i frame.nothing ≡ report r

module _ {R : Type 0} (F : Frame R) where
  -- read in the state s, the bytes give their report at the last of them
  abbrev Ends : State → List ℕ → Type 0
  Ends s bytes =
      (ws : List ℕ)
      → (n m : ℕ) × (suc (suc m) ≡ length bytes) × (answers F s (bytes ++ ws) ≡ drops n ∷ (replicate m frame.nothing ++ (report (F.decode bytes) ∷ answers F (has []) ws)))

  ends_marked : Marked F → (s : State) (bytes : List ℕ) → Whole F bytes → Ends s bytes
  ends_marked M s [] p ws = absurd p.1
  ends_marked M s (b ∷ []) p ws = absurd (omega (arith, M.laws.long b p.0.0, p.1))
  ends_marked M s (b ∷ c ∷ cs) p ws = (length (kept s), length cs, refl, any_reads F M s b c cs ws p.0 p.1)

  ends_ready : Laws F → (bytes : List ℕ) → Whole F bytes → Ends (has []) bytes
  ends_ready L [] p ws = absurd p.1
  ends_ready L (b ∷ []) p ws = absurd (omega (arith, L.long b p.0.0, p.1))
  ends_ready L (b ∷ c ∷ cs) p ws = (0, length cs, refl, ready_reads F L b c cs ws p.0 p.1)

  ends_at : (u bytes v : List ℕ) (i : ℕ) → Ends (after F (fresh F) u) bytes → suc i ≡ length u + length bytes → Handed F (u ++ (bytes ++ v)) i (F.decode bytes)
  ends_at u bytes v i e h =
      let (n, m, l, a) = e v in
      rw (answers_append F (fresh F) u (bytes ++ v), a)
      (rw append_assoc at
      (get_or_at (answers F (fresh F) u ++ (drops n ∷ replicate m frame.nothing)) (report (F.decode bytes)) (answers F (has []) v) frame.nothing i
      (simp (length-append, length_answers, length-replicate) (omega arith))))

-- The words are those of a line, `before`, then a finished report k, then `rest`; of them the stretch `old` is replaced by `new`. `i` is then the
-- place of the report's last byte.
module _ {R K : Type 0} (F : Frame R) (bytes : K → List ℕ) (before : List (Passage K)) (k : K) (p : Framed F bytes k) (rest : List ℕ)
    (pre old post new : List ℕ) (line : passage_words bytes before ++ (bytes k ++ rest) ≡ pre ++ (old ++ post))
    (i : ℕ) (at : suc i + length old ≡ length (passage_words bytes before) + length (bytes k) + length new) where
  -- `front`: words that end behind the stretch. After them and `mid`, whatever came before, the report is read
  behind : (front mid : List ℕ) → passage_words bytes before ≡ front ++ mid → length pre + length old ≤ length front
      → ((u : List ℕ) → Ends F (after F (fresh F) (u ++ mid)) (bytes k))
      → Handed F (pre ++ (new ++ post)) i (F.decode (bytes k))
  behind front mid e h r = go (meet front (mid ++ (bytes k ++ rest)) (pre ++ old) post (simp append_assoc (simp (e, append_assoc) at line)) (simp length-append h))
    where
      go : ((m : List ℕ) × (front ≡ pre ++ old ++ m) × (post ≡ m ++ (mid ++ (bytes k ++ rest)))) → Handed F (pre ++ (new ++ post)) i (F.decode (bytes k))
      go c =
          rw c.2
          (simp append_assoc at
          (ends_at F (pre ++ (new ++ c.0) ++ mid) (bytes k) rest i (r (pre ++ (new ++ c.0)))
          (simp length-append (omega (arith, simp length-append at (ap length e), simp length-append at (ap length c.1))))))

  -- in a marked format each finished report that begins after the stretch is handed out
  pub marked : Marked F → length pre + length old ≤ length (passage_words bytes before) → Handed F (pre ++ (new ++ post)) i (F.decode (bytes k))
  marked M h = behind (passage_words bytes before) [] (sym (append-nil (passage_words bytes before))) h (λ u. ends_marked F M (after F (fresh F) (u ++ [])) (bytes k) p)

  -- in any format so is each that begins after a silence behind the stretch, with no broken-off report between
  pub unmarked : Laws F → (front quiet : List (Passage K)) → before ≡ front ++ (silent ∷ quiet) → Sound bytes (Framed F bytes) quiet → Unbroken quiet
      → length pre + length old ≤ length (passage_words bytes front)
      → Handed F (pre ++ (new ++ post)) i (F.decode (bytes k))
  unmarked L front quiet e s c h =
      let mid = words.silence ∷ passage_words bytes quiet in
      behind (passage_words bytes front) mid (rw (e, passages_append bytes)) h
      (λ u. rw (after_append F (fresh F) u mid, after_silence F L bytes (after F (fresh F) u) quiet s c) (ends_ready F L (bytes k) p))

-- A line in a marked format of which one report lost bytes
module _ {R K : Type 0} (F : Frame R) (M : Marked F) (bytes : K → List ℕ) where
  -- between the lines `before` and `after`, with `going` at the end
  lost : (before : List (Passage K)) (left : List ℕ) (after : List (Passage K)) (going : UnderWay K)
      → Sound bytes (Framed F bytes) before
      → read F (has []) left ≡ []
      → Sound bytes (Framed F bytes) after
      → SoundPart bytes (Framed F bytes) going
      → read F (fresh F) (passage_words bytes before ++ (left ++ (passage_words bytes after ++ part_words bytes going)))
      ≡ finished_by (decoded F bytes) before ++ finished_by (decoded F bytes) after
  lost before left later going s e t g =
      let ready : fresh F ≡ has [] = rw M.is in
      rw (ready, synced F M bytes before (left ++ (passage_words bytes later ++ part_words bytes going)) s, read_append F (has []) left, e)
      (ap (λ (r : List R). finished_by (decoded F bytes) before ++ r) (resync F M bytes (after F (has []) left) later going t g))

  part_left : (n : ℕ) (k : K) (left : List ℕ) → Framed F bytes k → n < length (bytes k) → Sub left (take n (bytes k)) → read F (has []) left ≡ []
  part_left n k left w l d = lost_read F M bytes k left w (sub_then d (sub_take n (bytes k))) (omega (arith, sub_length d, length-take n (bytes k)))

  -- exactly the finished reports of the other passages are handed out, in the order sent
  pub exactly : {passages others : List (Passage K)} {going : UnderWay K} {ws : List ℕ}
      → Sound bytes (Framed F bytes) passages
      → SoundPart bytes (Framed F bytes) going
      → Lost bytes passages going ws others
      → read F (fresh F) ws ≡ finished_by (decoded F bytes) others
  exactly s g (of_finished before later going k left d h) =
      let b = sound_left bytes (Framed F bytes) before (finished k ∷ later) s in
      let t = sound_right bytes (Framed F bytes) before (finished k ∷ later) s in
      rw (finished_append (decoded F bytes)) (lost before left later going b (lost_read F M bytes k left t.0 d h) t.1 g)
  exactly s g (of_broken before later going n k left d) =
      let b = sound_left bytes (Framed F bytes) before (broken n k ∷ later) s in
      let t = sound_right bytes (Framed F bytes) before (broken n k ∷ later) s in
      rw (finished_append (decoded F bytes))
      (lost before left (broken 0 k ∷ later) going b (part_left n k left t.0.0 t.0.1 d) ((t.0.0, omega (arith, t.0.1)), t.1) g)
  exactly s g (of_going passages n k left d) =
      simp append-nil at (lost passages left [] nothing s (part_left n k left g.0 g.1 d) tt tt)

-- of the words `a`, `bs` and `z`, in this order, the stretch `old`, which lies within `bs`, is replaced by what is left of it
pub record Cut (a bs z line old new : List ℕ) : Type 0 where
  pub left : List ℕ
  pub is : line ≡ a ++ (left ++ z)
  pub sub : Sub left bs
  pub less : length left + length old ≡ length bs + length new

cut : (a bs z pre old post new : List ℕ) → a ++ (bs ++ z) ≡ pre ++ (old ++ post) → length a ≤ length pre → length pre + length old ≤ length a + length bs → Sub new old
    → Cut a bs z (pre ++ (new ++ post)) old new
cut a bs z pre old post new e h l d = go (meet pre (old ++ post) a (bs ++ z) (sym e) h)
  where
    go : ((m : List ℕ) × (pre ≡ a ++ m) × (bs ++ z ≡ m ++ (old ++ post))) → Cut a bs z (pre ++ (new ++ post)) old new
    go (m, p, q) =
        let within : length (m ++ old) ≤ length bs = simp length-append (omega (arith, simp length-append at (ap length p))) in
        last (meet bs z (m ++ old) post (q ∙ sym (append_assoc m old post)) within)
      where
        last : ((t : List ℕ) × (bs ≡ m ++ old ++ t) × (post ≡ t ++ z)) → Cut a bs z (pre ++ (new ++ post)) old new
        last (t, x, y) =
            record {
              left = m ++ (new ++ t);
              is = rw (p, y) (simp append_assoc);
              sub = rw (x, append_assoc m old t) (sub_append (sub_all m) (sub_append d (sub_all t)));
              less = rw x (simp length-append (omega arith));
            }

-- one byte or more of one report was removed, and nothing else
module _ {K : Type 0} (bytes : K → List ℕ) where
  pub in_one : {passages others : List (Passage K)} {going : UnderWay K} {pre old : List ℕ} (post new : List ℕ)
      → passage_words bytes passages ++ part_words bytes going ≡ pre ++ (old ++ post)
      → InOne bytes pre old passages going others
      → Sub new old
      → length new < length old
      → Lost bytes passages going (pre ++ (new ++ post)) others
  in_one {pre} {old} post new e (in_finished_lem before later going k h l) d n =
      let z = passage_words bytes later ++ part_words bytes going in
      let c = cut (passage_words bytes before) (bytes k) z pre old post new (simp (passages_append, append_assoc) at e) h l d in
      rw c.is (of_finished before later going k c.left c.sub (omega arith))
  in_one {pre} {old} post new e (in_broken_lem before later going n k h l) d less =
      let z = break ∷ (passage_words bytes later ++ part_words bytes going) in
      let c = cut (passage_words bytes before) (take n (bytes k)) z pre old post new (simp (passages_append, append_assoc) at e) h l d in
      rw c.is (of_broken before later going n k c.left c.sub)
  in_one {pre} {old} post new e (in_going_lem passages n k h) d less =
      let within = ap length e in
      let c = cut (passage_words bytes passages) (take n (bytes k)) [] pre old post new (rw append-nil e) h (omega (arith, simp length-append at within)) d in
      rw (c.is, append-nil) (of_going passages n k c.left c.sub)
