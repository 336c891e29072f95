-- The end of the input: the newline that the last line lacks, and the end behind it.
use Prim.Native.Nat.{ℕ, ◌+◌, ◌-◌, ◌<◌, ◌≤◌}
use mathlib.Core.Path.{◌≡◌, refl, sym, ◌∙◌, ap}
use mathlib.Core.Bool.{Bool, true, false, not, cond, ◌&&◌, ◌||◌}
use mathlib.Core.List.{List, [], ◌∷◌, ◌++◌, append-nil}
use native.Mathlib.Omega.{arith}
use lib.Dec.{eqb}
use lib.ListN.{length, take, drop, length-append, length-drop}
use lib.Seq.{take_at, drop-drop, drop-append_seam}
use borrow.Author.Tests.{eqb-true, eqb-false, not-true, not-false}
use Rattle.numbers.proofs.Choices.{cases, or_else, neither}
use Rattle.numbers.proofs.Tested.{left, right}
use Rattle.fold.specs.Fold.{Ran, ran, behind, run}
use Rattle.fold.specs.Fold as fold
use Rattle.fold.proofs.Laws.{written_append, taken, stops, within}
use Rattle.text.specs.Growth.{text_of, fits_at, put_of}
use Rattle.text.specs.declared.Text.{Text}
use Rattle.text.proofs.Laws.{put_none}
use Rattle.listing.proofs.Feeds.{size, put_room, put_wrote, put_short}
use Rattle.listing.specs.Lines.{newline}
use Rattle.driver.specs.Feeding.{end_of, end_tick, tick_of, drives, ticks_from, feed_in, lacking, closing, good}
use Rattle.driver.specs.Promises.{Driven, Whole, whole, written, finish_of}
use Rattle.driver.specs.declared.Driver.{Driver}
use Rattle.driver.proofs.Ticks.{no_tick, byte_first, run_all, run_part, NoSlot, took_all_lem, took_part}
use Rattle.driver.proofs.Feeds.{not_zero, answer_of}

no_slot : (m : Driver) → NoSlot (lacking m)
no_slot m = cases NoSlot (eqb m.count 0) (λ _. tt) (λ _. ((λ e. absurd (omega arith)), tt))

-- what is still to come, by the test of it
abbrev Lacks : Driver → Driven → Bool
Lacks m k = not (eqb k.next.owed 0) || (not (eqb m.count 0) && eqb k.taken 0)

some_lacks : (m : Driver) (k : Driven) → Lacks m k ≡ true → k.next.owed ≡ 0 → k.taken < length (lacking m)
some_lacks m k t z =
    or_else (not (eqb k.next.owed 0)) (not (eqb m.count 0) && eqb k.taken 0) (λ e. absurd (eqb-false k.next.owed 0 (not-true (eqb k.next.owed 0) e) z))
    (λ e.
    let held = not-true (eqb m.count 0) (left (not (eqb m.count 0)) (eqb k.taken 0) e) in
    let none = eqb-true k.taken 0 (right (not (eqb m.count 0)) (eqb k.taken 0) e) in
    rw (held, none) (omega arith)) t

none_lacks : (m : Driver) (k : Driven) → Lacks m k ≡ false → (k.next.owed ≡ 0) × (length (lacking m) ≤ k.taken)
none_lacks m k t =
    let e = neither (not (eqb k.next.owed 0)) (not (eqb m.count 0) && eqb k.taken 0) t in
    (eqb-true k.next.owed 0 (not-false (eqb k.next.owed 0) e.0), go (eqb m.count 0) e.1)
  where
    go : (b : Bool) → not b && eqb k.taken 0 ≡ false → length (cond b [] (newline ∷ [])) ≤ k.taken
    go true h = omega arith
    go false h = omega (arith, not_zero k.taken (eqb-false k.taken 0 h))

-- the slice stays as long as it was
pub finish_long : (m : Driver) (out : List ℕ) (r : Driven) (out' : List ℕ) → whole r out' ≡ finish_of m out → length out' ≡ length out
unfolding finish_of feed_in
finish_long m out r out' e =
    ap (λ (w : Whole). length w.out) e
    ∙ cases (λ (w : Whole). length w.out ≡ length out) (good m)
    (λ _.
    let t = fold.written drives (run drives m (ticks_from (closing m) m) (length out)).answers in
    omega (arith, (within drives (ticks_from (closing m) m) m (length out)).1, length-append t (drop (length t) out), length-drop (length t) out)) (λ _. refl)

-- the end alone, from a driver that owes nothing: its text has no room, or it has
module _ (m : Driver) (z : m.owed ≡ 0) (room : ℕ) where
  ends_alone : ticks_from (end_tick ∷ []) m ≡ end_tick ∷ []
  unfolding tick_of end_of
  ends_alone = byte_first m end_tick [] z ∙ ap (λ (l : List ℕ). end_tick ∷ l) (no_tick (tick_of m end_tick).next z)

  end_stops : room < length (end_of m).text → run drives m (ticks_from (end_tick ∷ []) m) room ≡ ran 0 m []
  unfolding run tick_of
  end_stops h = rw (ends_alone, stops drives m end_tick room (λ _. h))

  end_goes : length (end_of m).text ≤ room → run drives m (ticks_from (end_tick ∷ []) m) room ≡ ran 0 (end_of m).next ((end_of m).text ∷ [])
  unfolding run tick_of
  end_goes h = rw (ends_alone, taken drives m end_tick room refl h)

-- behind the newline, if one was lacking
module _ (m : Driver) (out mid : List ℕ) (g : good m ≡ true) (k : Driven) (closed : whole k mid ≡ written (feed_in m (lacking m) (length out)) out) where
  abbrev f : Ran Driver (List ℕ)
  f = run drives m (ticks_from (lacking m) m) (length out)

  abbrev all : Ran Driver (List ℕ)
  all = run drives m (ticks_from (lacking m ++ end_tick ∷ []) m) (length out)

  abbrev text : List ℕ
  text = fold.written drives f.answers

  next_is : k.next ≡ f.next
  unfolding feed_in
  next_is = ap (λ (w : Whole). w.driven.next) closed

  used_is : k.written ≡ length text
  unfolding feed_in
  used_is = ap (λ (w : Whole). w.driven.written) closed

  mid_is : mid ≡ text ++ drop (length text) out
  unfolding feed_in
  mid_is = ap (λ (w : Whole). w.out) closed

  lacks_some : Lacks m k ≡ true → length f.answers < length (ticks_from (lacking m) m)
  unfolding feed_in
  lacks_some t =
      took_part (lacking m) (no_slot m) m (length out)
      (λ z. rw (ap (λ (w : Whole). w.driven.taken) closed) at (some_lacks m k t (next_owes z)))
    where
      next_owes : f.next.owed ≡ 0 → k.next.owed ≡ 0
      next_owes z = ap (λ (d : Driver). d.owed) next_is ∙ z

  lacks_none : Lacks m k ≡ false → length f.answers ≡ length (ticks_from (lacking m) m)
  unfolding feed_in
  lacks_none t =
      let e = none_lacks m k t in
      took_all_lem (lacking m) (no_slot m) m (length out) (rw (ap (λ (w : Whole). w.driven.taken) closed) at e.1) (ap (λ (d : Driver). d.owed) (sym next_is) ∙ e.0)

  -- what the whole run gives
  finished : (n : Driver) (answers : List (List ℕ)) (r : Driven) (out' : List ℕ) → all.next ≡ n → all.answers ≡ answers → let t = fold.written drives answers in r ≡ answer_of 0 n 0 (length t)
      → out' ≡ t ++ drop (length t) out → whole r out' ≡ finish_of m out
  unfolding finish_of feed_in
  finished n answers r out' en ea er eo = rw (g, en, ea, er, eo)

  -- as far as the newline, where the end is not reached, or its text has no room
  no_further : (r : Driven) → all.next ≡ f.next → all.answers ≡ f.answers → r ≡ answer_of 0 k.next 0 k.written → whole r mid ≡ finish_of m out
  no_further r en ea e = finished f.next f.answers r mid en ea (e ∙ rw (next_is, used_is)) mid_is

  pub finish_lacks : (r : Driven) → Lacks m k ≡ true → r ≡ answer_of 0 k.next 0 k.written → whole r mid ≡ finish_of m out
  finish_lacks r t e =
      let same = run_part (end_tick ∷ []) (lacking m) m (length out) (lacks_some t) in
      no_further r (ap (λ (x : Ran Driver (List ℕ)). x.next) same) (ap (λ (x : Ran Driver (List ℕ)). x.answers) same) e

  -- the end, behind all that was lacking
  module _ (done : Lacks m k ≡ false) (t : Text) (is : t ≡ text_of (end_of k.next).text) (few : length (end_of k.next).text ≤ 40) where
    abbrev last : List ℕ
    last = (end_of f.next).text

    owes_none : f.next.owed ≡ 0
    owes_none = ap (λ (d : Driver). d.owed) (sym next_is) ∙ (none_lacks m k done).0

    all_is : all ≡ behind f.answers (run drives f.next (ticks_from (end_tick ∷ []) f.next) (length out - length text))
    all_is = run_all (end_tick ∷ []) (lacking m) m (length out) (lacks_none done)

    long : (length mid ≡ length out) × (length text ≤ length out) × (t.len ≡ length last)
    long =
        let w = (within drives (ticks_from (lacking m) m) m (length out)).1 in
        let e : length mid ≡ length text + length (drop (length text) out) = ap length mid_is ∙ length-append text (drop (length text) out) in
        (omega (arith, e, w, length-drop (length text) out), w, size (end_of k.next).text t is few 0 out ∙ ap (λ (d : Driver). length (end_of d).text) next_is)

    pub finish_stops : (r : Driven) (out' : List ℕ) → fits_at t k.written mid ≡ false → out' ≡ put_of t k.written mid → r ≡ answer_of 0 k.next 0 k.written → whole r out' ≡ finish_of m out
    finish_stops r out' unfit put e =
        let short = put_short (end_of k.next).text t is few k.written mid unfit in
        let stop = end_stops f.next owes_none (length out - length text) (omega (arith, short, used_is, long)) in
        let same = all_is ∙ ap (behind f.answers) stop in
        ap (whole r) (put ∙ put_none t k.written mid unfit) ∙ no_further r (ap (λ (x : Ran Driver (List ℕ)). x.next) same) (ap (λ (x : Ran Driver (List ℕ)). x.answers) same ∙ append-nil f.answers) e

    pub finish_room : fits_at t k.written mid ≡ true → k.written + t.len ≤ length out
    finish_room fits = omega (arith, put_room t k.written mid fits, long)

    both_texts : fold.written drives (f.answers ++ last ∷ []) ≡ text ++ last
    both_texts = written_append drives f.answers (last ∷ []) ∙ ap (λ (l : List ℕ). text ++ l) (append-nil last)

    behind_it : drop (k.written + t.len) mid ≡ drop (length (text ++ last)) out
    behind_it =
        rw (mid_is, used_is, long.2, ← drop-drop (length last) (length text) (text ++ drop (length text) out), drop-append_seam text (drop (length text) out), drop-drop (length last) (length text) out, length-append text last)

    pub finish_goes : (r : Driven) (out' : List ℕ) → fits_at t k.written mid ≡ true → out' ≡ put_of t k.written mid → r ≡ answer_of 0 (end_of k.next).next 0 (k.written + t.len) → whole r out' ≡ finish_of m out
    finish_goes r out' fits put e =
        let room = put_room t k.written mid fits in
        let go = end_goes f.next owes_none (length out - length text) (omega (arith, room, used_is, long)) in
        let same = all_is ∙ ap (behind f.answers) go in
        let wrote = put_wrote (end_of k.next).text t is few k.written mid fits in
        finished (end_of f.next).next (f.answers ++ last ∷ []) r out' (ap (λ (x : Ran Driver (List ℕ)). x.next) same) (ap (λ (x : Ran Driver (List ℕ)). x.answers) same)
        (e ∙ rw (both_texts, next_is, used_is, long.2, length-append text last))
        (put ∙ wrote ∙ rw (both_texts, behind_it, next_is) (ap (λ (l : List ℕ). l ++ last ++ drop (length (text ++ last)) out) front))
      where
        front : take k.written mid ≡ text
        front = ap (take k.written) mid_is ∙ take_at text (drop (length text) out) k.written (sym used_is)
