-- Laws of long calls: joining, a bad state or word, a stop, what stays good, bounds, word by word, all words taken.
use Prim.Native.Nat.{ℕ, ◌-◌, ◌*◌, ◌<◌, ◌≤◌}
use mathlib.Core.Path.{◌≡◌, refl, sym, ◌∙◌, ap}
use mathlib.Core.Bool.{Bool, true, false}
use mathlib.Core.Logic.{◌⊎◌, inl, inr, ⊎_elim}
use mathlib.Core.List.{List, [], ◌∷◌, ◌++◌, append_assoc}
use native.Mathlib.Omega.{arith}
use native.Mathlib.Nat.{add-zero, zero-add, add_assoc}
use native.Mathlib.Numerals.{one-add}
use lib.ListN.{length, get_or, take, drop, length-append, length-drop}
use lib.Seq.{take-append_seam, drop-append_seam, drop-drop}
use Rattle.fold.specs.Fold.{Machine, Ran, ran, behind, written, places, run, answers_over, state_over}
use Rattle.fold.specs.Calls.{Tally, Call, Long, with_refusal, sum, stopped, counted, line, call, unused, as_one, after, took_all, Lawful, Refuses, UpTo, reporting, Each}
use Rattle.fold.proofs.Laws as fold

module _ {S A K X : Type 0} (c : Call S A K X) (law : Lawful c) where
  abbrev m : Machine S A X
  m = c.machine

  abbrev t : Tally A K
  t = c.tally

  pub sum_append : (l k : List A) → sum c (l ++ k) ≡ t.plus (sum c l) (sum c k)
  unfolding sum
  sum_append [] k = sym (law.none_plus (sum c k))
  sum_append (a ∷ l) k = rw (sum_append l k) (sym (law.plus_plus (t.of a) (sum c l) (sum c k)))

  pub places_sum : (l : List A) → length (written m l) ≡ t.places (sum c l)
  unfolding sum
  places_sum [] = sym law.none_places
  places_sum (a ∷ l) = omega (arith, length-append (m.writes a) (written m l), law.each a, places_sum l, law.plus_places (t.of a) (sum c l))

  -- of a good state a call is the line, and of any other it is refused
  pub call_line : (s : S) (words : List ℕ) (out : List X) → c.good s ≡ true → call c s words out ≡ line c s words out
  unfolding call
  call_line s words out g = rw g

  call_bad : (s : S) (words : List ℕ) (out : List X) → c.good s ≡ false → call c s words out ≡ stopped c c.bad s out
  unfolding call
  call_bad s words out g = rw g

  pub by_good : (s : S) {P : Type 0} → (c.good s ≡ true → P) → (c.good s ≡ false → P) → P
  by_good s {P} when otherwise = go (c.good s) refl
    where
      go : (b : Bool) → c.good s ≡ b → P
      go true g = when g
      go false g = otherwise g

  counted_both : (l : List A) (f : Ran S A) (out : List X)
      → counted c (behind l f) out ≡ as_one c (counted c (ran 0 f.next l) out) (counted c f (drop (length (written m l)) out))
  counted_both l f out =
      rw (length-append l f.answers, sum_append l f.answers, fold.written_append m l f.answers, length-append (written m l) (written m f.answers), ← drop-drop (length (written m f.answers)) (length (written m l)) out, ← places_sum l, take-append_seam (written m l), append_assoc)

  line_good : (s : S) (words : List ℕ) (out : List X) → c.good s ≡ true → c.good (line c s words out).next ≡ true
  unfolding line
  line_good s words out g = fold.stays m (λ (s : S). c.good s ≡ true) law.stays words s (length out) g

  line_joins : (s : S) (p q : List ℕ) (out : List X) → (line c s p out).taken ≡ length p
      → line c s (p ++ q) out ≡ as_one c (line c s p out) (line c (line c s p out).next q (unused c (line c s p out)))
  unfolding line
  line_joins s p q out h =
      let f = run m s p (length out) in
      let n = length (written m f.answers) in
      rw (← places_sum f.answers, drop-append_seam (written m f.answers) (drop n out), length-drop n out)
      (ap (λ (g : Ran S A). counted c g out) (fold.join m q p s (length out) h) ∙ rw (← places_sum f.answers) at (counted_both f.answers (run m f.next q (length out - n)) out))

  call_joins : (s : S) (p q : List ℕ) (out : List X) {k : Long S K X} → k ≡ call c s p out → k.taken ≡ length p
      → call c s (p ++ q) out ≡ as_one c k (call c k.next q (unused c k))
  call_joins s p q out {k} e h =
      by_good s
      (λ g. let i = e ∙ call_line s p out g in rw (call_line s (p ++ q) out g, i, call_line (line c s p out).next q (unused c (line c s p out)) (line_good s p out g)) (line_joins s p q out (rw i at h)))
      (λ g. let i = e ∙ call_bad s p out g in refused p g i (rw i at h))
    where
      refused : (p : List ℕ) → c.good s ≡ false → k ≡ stopped c c.bad s out → 0 ≡ length p → call c s (p ++ q) out ≡ as_one c k (call c k.next q (unused c k))
      refused [] g i z = rw (i, call_bad s q out g, law.none_places, call_bad s q out g, law.none_plus t.none)
      refused (w ∷ p) g i z = absurd (omega arith)

  -- "if the words before it were all taken, the results join as one"
  pub joining : (s : S) (p q : List ℕ) (out : List X) {l k j : Long S K X}
      → k ≡ call c s p out
      → k.taken ≡ length p
      → j ≡ call c k.next q (unused c k)
      → l ≡ call c s (p ++ q) out
      → l ≡ as_one c k j
  joining s p q out {l} {k} f h i e = e ∙ call_joins s p q out f h ∙ ap (as_one c k) (sym i)

  -- where words are left, what follows them changes nothing
  pub not_reached : (s : S) (p q : List ℕ) (out : List X) {l k : Long S K X} → k ≡ call c s p out → k.taken < length p → l ≡ call c s (p ++ q) out → l ≡ k
  unfolding line
  not_reached s p q out {l} {k} f h e =
      by_good s
      (λ g.
      let i = f ∙ call_line s p out g in
      e ∙ call_line s (p ++ q) out g ∙ ap (λ (f : Ran S A). counted c f out) (fold.not_reached m q p s (length out) (rw i at h)) ∙ sym i)
      (λ g. e ∙ call_bad s (p ++ q) out g ∙ sym (f ∙ call_bad s p out g))

  module _ (s : S) (words : List ℕ) (out : List X) {l : Long S K X} (e : l ≡ call c s words out) where
    -- a bad state: nothing is taken
    pub bad_state_lem : c.good s ≡ false → l ≡ stopped c c.bad s out
    bad_state_lem g = e ∙ call_bad s words out g

    -- a good one stays good
    pub stays_good : c.good s ≡ true → c.good l.next ≡ true
    stays_good g = rw (e, call_line s words out g) (line_good s words out g)

    -- no more words than there are, and no more places
    pub within : (l.taken ≤ length words) × (t.places l.counts ≤ length out)
    unfolding line
    within =
        by_good s
        (λ g.
        let b = fold.within m words s (length out) in
        rw (e ∙ call_line s words out g) (b.0, omega (arith, b.1, places_sum (run m s words (length out)).answers)))
        (λ g. rw (bad_state_lem g) (omega arith, omega (arith, law.none_places)))

  -- word by word: one that is refused or has no room, one that is taken, and none
  module _ (s : S) (w : ℕ) (q : List ℕ) (out : List X) {l : Long S K X} (g : c.good s ≡ true) (e : l ≡ call c s (w ∷ q) out) where
    abbrev k : K
    k = t.of (m.answer s w)

    pub stops : (m.refusal s w ≡ 0 → length out < t.places k) → l ≡ stopped c (m.refusal s w) s out
    unfolding line run sum
    stops h =
        let full : m.refusal s w ≡ 0 → length out < places m s w = λ z. omega (arith, h z, law.each (m.answer s w)) in
        e ∙ rw (call_line s (w ∷ q) out g, fold.stops m s w (length out) full)

    pub goes_on : {j : Long S K X} → m.refusal s w ≡ 0 → t.places k ≤ length out → j ≡ call c (m.next s w) q (drop (t.places k) out) → l ≡ after c (m.answer s w) j
    unfolding line run sum
    goes_on z h i =
        let a = m.answer s w in
        let e' = law.each a in
        let f = run m (m.next s w) q (length out - places m s w) in
        e ∙ rw (i, call_line s (w ∷ q) out g, call_line (m.next s w) q (drop (t.places k) out) (law.stays s w g), fold.taken m s w (length out) z (omega (arith, e')), ← e', length-drop (places m s w) out, one-add (length f.answers), length-append (m.writes a) (written m f.answers), drop-drop (length (written m f.answers)) (length (m.writes a)) out, append_assoc)

  pub no_words : (s : S) (out : List X) → c.good s ≡ true → call c s [] out ≡ stopped c 0 s out
  unfolding line run sum
  no_words s out g = call_line s [] out g

  -- words that are not refused are all taken where there is room for what they write
  module _ (P : ℕ → Type 0) (free : (s : S) (w : ℕ) → c.good s ≡ true → P w → m.refusal s w ≡ 0) where
    all_taken : (words : List ℕ) (s : S) (room : ℕ) → c.good s ≡ true → Each P words → length (written m (answers_over m s words)) ≤ room
        → run m s words room ≡ ran 0 (state_over m s words) (answers_over m s words)
    unfolding run answers_over state_over
    all_taken [] s room g u h = refl
    all_taken (w ∷ words) s room g u h =
        let n = length-append (m.writes (m.answer s w)) (written m (answers_over m (m.next s w) words)) in
        rw (fold.taken m s w room (free s w g u.0) (omega (arith, n)))
        (ap (behind (m.answer s w ∷ [])) (all_taken words (m.next s w) (room - places m s w) (law.stays s w g) u.1 (omega (arith, n))))

    answers_each : (words : List ℕ) (s : S) → length (answers_over m s words) ≡ length words
    unfolding answers_over
    answers_each [] s = refl
    answers_each (w ∷ words) s = omega (arith, answers_each words (m.next s w))

    pub took_each : (s : S) (words : List ℕ) (out : List X) {l : Long S K X}
        → c.good s ≡ true
        → Each P words
        → t.places (sum c (answers_over m s words)) ≤ length out
        → l ≡ call c s words out
        → l ≡ took_all c s words out
    unfolding line
    took_each s words out g u h e =
        let n = places_sum (answers_over m s words) in
        e ∙ call_line s words out g ∙ ap (λ (f : Ran S A). counted c f out) (all_taken words s (length out) g u (omega (arith, n))) ∙ rw (n, answers_each words s)

  -- where a word's number is 0, or one number for a word above `top`
  module _ {number top : ℕ} (ref : Refuses c number top) where
    -- that number: behind words that were all taken, what they gave, but for the number
    pub bad_word_lem : (s : S) (p q : List ℕ) (w : ℕ) (out : List X) {l k : Long S K X}
        → c.good s ≡ true
        → top < w
        → k ≡ call c s p out
        → k.taken ≡ length p
        → l ≡ call c s (p ++ w ∷ q) out
        → l ≡ with_refusal number k
    unfolding line
    bad_word_lem s p q w out {l} {k} g h f n e =
        let i = f ∙ call_line s p out g in
        let z = ref.above (line c s p out).next w (line_good s p out g) h in
        e ∙ rw (i, call_line s (p ++ w ∷ q) out g, fold.refused_behind m q w p s (length out) (rw i at n) (λ y. ref.some (sym z ∙ y)), z)

    -- a word up to `top` is taken
    pub word_taken : (s : S) (w : ℕ) → c.good s ≡ true → w ≤ top → m.refusal s w ≡ 0
    word_taken s w g h = ⊎_elim (λ z. z) (λ b. absurd (omega (arith, b.1))) (ref.either s w g)

    module _ (s : S) (words : List ℕ) (out : List X) {l : Long S K X} (e : l ≡ call c s words out) where
      -- a call of a good state ends with 0, or before a word above `top`, as the words before it but for the number
      ending : c.good s ≡ true → (l.refusal ≡ 0) ⊎ ((l ≡ with_refusal number (call c s (take l.taken words) out)) × (top < get_or words l.taken 0))
      unfolding line
      ending g =
          let still = stays_good s words out e g in
          rw (e ∙ call_line s words out g)
          (⊎_elim (λ x. inl x.1)
          (λ x.
          ⊎_elim (λ z. inl (x.number ∙ z))
          (λ b. inr (rw (call_line s (take (line c s words out).taken words) out g, fold.up_to m words s (length out), x.number ∙ b.0), b.1))
          (ref.either (line c s words out).next (get_or words (line c s words out).taken 0) (rw (e ∙ call_line s words out g) at still)))
          (fold.ends m words s (length out)))

      pub ends : c.good s ≡ true → (l.refusal ≡ 0) ⊎ ((l.refusal ≡ number) × (top < get_or words l.taken 0))
      ends g = ⊎_elim inl (λ x. inr (ap (λ (k : Long S K X). k.refusal) x.0, x.1)) (ending g)

      pub before_bad_lem : c.good s ≡ true → l.refusal ≡ number → l ≡ with_refusal number (call c s (take l.taken words) out)
      before_bad_lem g z = ⊎_elim (λ y. absurd (ref.some (sym z ∙ y))) (λ x. x.0) (ending g)

      -- every outcome is a success, or that of a bad state, or that of the words before a bad one
      pub outcomes : {P : Type 0} → (l.refusal ≡ 0 → P) → (l ≡ stopped c c.bad s out → P) → (l ≡ with_refusal number (call c s (take l.taken words) out) → P) → P
      outcomes success bad before = by_good s (λ g. ⊎_elim success (λ x. before x.0) (ending g)) (λ g. bad (bad_state_lem s words out e g))

    pub took_all_lem : (s : S) (words : List ℕ) (out : List X) {l : Long S K X}
        → c.good s ≡ true
        → UpTo top words
        → t.places (sum c (answers_over m s words)) ≤ length out
        → l ≡ call c s words out
        → l ≡ took_all c s words out
    took_all_lem = took_each (λ w. w ≤ top) word_taken

-- reports and dropped bytes add up as the laws ask
module _ {S A X : Type 0} (m : Machine S A X) (width : ℕ) (reports dropped : A → ℕ) (good : S → Bool) (bad : ℕ)
    (each : (a : A) → length (m.writes a) ≡ width * reports a) (stays : (s : S) (w : ℕ) → good s ≡ true → good (m.next s w) ≡ true) where
  pub reports_lawful : Lawful (record { machine = m; tally = reporting width reports dropped; good = good; bad = bad })
  reports_lawful =
      record {
        plus_none = λ k. rw (add-zero k.reports, add-zero k.dropped);
        none_plus = λ k. rw (zero-add k.reports, zero-add k.dropped);
        plus_plus = λ i j k. rw (add_assoc i.reports j.reports k.reports, add_assoc i.dropped j.dropped k.dropped);
        none_places = omega arith;
        plus_places = λ j k. omega arith;
        each = each;
        stays = stays;
      }
