-- Laws of a machine over a line: joining, a stop, bounds, and what stays.
use Prim.Native.Nat.{ℕ, ◌+◌, ◌-◌, ◌<◌, ◌≤◌}
use mathlib.Core.Path.{◌≡◌, refl, sym, ◌∙◌, ap}
use mathlib.Core.Bool.{true, false}
use mathlib.Core.Logic.{◌⊎◌, inl, inr, ⊎_elim}
use mathlib.Core.List.{List, [], ◌∷◌, ◌++◌, append_assoc, append-nil}
use native.Mathlib.Omega.{arith}
use lib.ListN.{length, get_or, take, length-append}
use lib.Dec.{leb, eqb}
use borrow.Author.Tests.{eqb-true, leb-true, leb-false, eq-eqb, le-leb}
use Rattle.numbers.proofs.Choices.{cases}
use Rattle.numbers.proofs.Tested.{refused, left, right}
use Rattle.fold.specs.Fold.{Machine, MachineOver, Ran, ran, behind, written, places, takes, run}

module _ {W S A X : Type 0} (m : MachineOver W S A X) where
  pub written_append : (l k : List A) → written m (l ++ k) ≡ written m l ++ written m k
  written_append [] k = refl
  written_append (a ∷ l) k = rw (written_append l k) (sym (append_assoc (m.writes a) (written m l) (written m k)))

  -- a word is taken where it is not refused and its answer has room
  module _ (s : S) (w : W) (room : ℕ) where
    pub taken : m.refusal s w ≡ 0 → places m s w ≤ room → takes m s w room ≡ true
    taken z h = rw (eq-eqb (m.refusal s w) 0 z, le-leb (places m s w) room h)

    pub accepted : takes m s w room ≡ true → m.refusal s w ≡ 0
    accepted e = eqb-true (m.refusal s w) 0 (left (eqb (m.refusal s w) 0) (leb (places m s w) room) e)

    fits : takes m s w room ≡ true → places m s w ≤ room
    fits e = leb-true (places m s w) room (right (eqb (m.refusal s w) 0) (leb (places m s w) room) e)

    pub stops : (m.refusal s w ≡ 0 → room < places m s w) → takes m s w room ≡ false
    stops h = refused (takes m s w room) (λ e. omega (arith, h (accepted e), fits e))

    full : takes m s w room ≡ false → m.refusal s w ≡ 0 → room < places m s w
    full e z = leb-false (places m s w) room (rw (eq-eqb (m.refusal s w) 0 z) at e)

  -- what holds of a line: of no words, of a stop before a word, and of a word that is taken where it holds of what the words behind it give
  module _ (P : S → List W → ℕ → Ran S A → Type 0)
      (none : (s : S) (room : ℕ) → P s [] room (ran 0 s []))
      (stop : (s : S) (w : W) (words : List W) (room : ℕ) → takes m s w room ≡ false → P s (w ∷ words) room (ran (m.refusal s w) s []))
      (more : (s : S) (w : W) (words : List W) (room : ℕ) (f : Ran S A) → takes m s w room ≡ true → P (m.next s w) words (room - places m s w) f
      → P s (w ∷ words) room (behind (m.answer s w ∷ []) f)) where
    pub by_words : (words : List W) (s : S) (room : ℕ) → P s words room (run m s words room)
    unfolding run
    by_words [] s room = none s room
    by_words (w ∷ words) s room =
        cases (P s (w ∷ words) room) (takes m s w room) (λ e. more s w words room _ e (by_words words (m.next s w) (room - places m s w))) (stop s w words room)

  -- the run of p ++ q is the run of p and then of q, where all of p was taken
  pub join : (q p : List W) (s : S) (room : ℕ) → let f = run m s p room in length f.answers ≡ length p
      → run m s (p ++ q) room ≡ behind f.answers (run m f.next q (room - length (written m f.answers)))
  unfolding run
  join q =
      by_words (λ s p room f. length f.answers ≡ length p → run m s (p ++ q) room ≡ behind f.answers (run m f.next q (room - length (written m f.answers))))
      (λ s room h. let z : room - 0 ≡ room = omega arith in rw z) (λ s w p room e h. absurd (omega arith))
      (λ s w p room f e ih h.
      let n : room - places m s w - length (written m f.answers) ≡ room - length (written m (m.answer s w ∷ f.answers)) =
      omega (arith, length-append (m.writes (m.answer s w)) (written m f.answers)) in
      rw (e, ← n) (ap (behind (m.answer s w ∷ [])) (ih (omega arith))))

  -- where words are left, what follows them changes nothing
  pub not_reached : (q p : List W) (s : S) (room : ℕ) → length (run m s p room).answers < length p → run m s (p ++ q) room ≡ run m s p room
  unfolding run
  not_reached q =
      by_words (λ s p room f. length f.answers < length p → run m s (p ++ q) room ≡ f) (λ s room h. absurd (omega arith)) (λ s w p room e h. rw e)
      (λ s w p room f e ih h. rw e (ap (behind (m.answer s w ∷ [])) (ih (omega arith))))

  -- a word that is refused behind p: what p gave, but for the number
  pub refused_behind : (q : List W) (w : W) (p : List W) (s : S) (room : ℕ) → let f = run m s p room in length f.answers ≡ length p → (m.refusal f.next w ≡ 0 → ⊥)
      → run m s (p ++ w ∷ q) room ≡ ran (m.refusal f.next w) f.next f.answers
  unfolding run
  refused_behind q w p s room h n =
      let f = run m s p room in
      join (w ∷ q) p s room h ∙ rw (stops f.next w (room - length (written m f.answers)) (λ z. absurd (n z)), append-nil)

  -- the words taken give what all give, but for the number
  pub up_to : (words : List W) (s : S) (room : ℕ) → let f = run m s words room in run m s (take (length f.answers) words) room ≡ ran 0 f.next f.answers
  unfolding run
  up_to =
      by_words (λ s words room f. run m s (take (length f.answers) words) room ≡ ran 0 f.next f.answers) (λ s room. refl) (λ s w words room e. refl)
      (λ s w words room f e ih. rw e (ap (behind (m.answer s w ∷ [])) ih))

  -- no more words are taken than there are, and no more is written than has room
  pub within : (words : List W) (s : S) (room : ℕ) → let f = run m s words room in (length f.answers ≤ length words) × (length (written m f.answers) ≤ room)
  within =
      by_words (λ s words room f. (length f.answers ≤ length words) × (length (written m f.answers) ≤ room)) (λ s room. (omega arith, omega arith))
      (λ s w words room e. (omega arith, omega arith))
      (λ s w words room f e ih. (omega (arith, ih.0), omega (arith, ih.1, fits s w room e, length-append (m.writes (m.answer s w)) (written m f.answers))))

  -- what holds of no words, and of a word that is taken in front of words of which it holds, holds of the words taken
  module _ (P : S → List W → List A → S → Type 0)
      (none : (s : S) → P s [] [] s)
      (more : (s : S) (w : W) (words : List W) (l : List A) (next : S) → m.refusal s w ≡ 0 → P (m.next s w) words l next → P s (w ∷ words) (m.answer s w ∷ l) next) where
    pub over_taken : (words : List W) (s : S) (room : ℕ) → let f = run m s words room in P s (take (length f.answers) words) f.answers f.next
    over_taken =
        by_words (λ s words room f. P s (take (length f.answers) words) f.answers f.next) (λ s room. none s) (λ s w words room e. none s)
        (λ s w words room f e ih. more s w (take (length f.answers) words) f.answers f.next (accepted s w room e) ih)

  -- what every step leaves so stays so
  pub stays : (P : S → Type 0) → ((s : S) (w : W) → P s → P (m.next s w)) → (words : List W) (s : S) (room : ℕ) → P s → P (run m s words room).next
  stays P step = over_taken (λ s words answers next. P s → P next) (λ s h. h) (λ s w words answers next z ih h. ih (step s w h))

module _ {S A X : Type 0} (m : Machine S A X) where
  -- it ends behind the last word, with 0, or before a word, with its number, which is refused or has no room
  pub record Ends (words : List ℕ) (room : ℕ) (f : Ran S A) : Type 0 where
    pub number : f.refusal ≡ m.refusal f.next (get_or words (length f.answers) 0)
    pub full : f.refusal ≡ 0 → room < length (written m f.answers) + places m f.next (get_or words (length f.answers) 0)

  pub ends : (words : List ℕ) (s : S) (room : ℕ) → let f = run m s words room in ((length f.answers ≡ length words) × (f.refusal ≡ 0)) ⊎ Ends words room f
  ends =
      by_words m (λ s words room f. ((length f.answers ≡ length words) × (f.refusal ≡ 0)) ⊎ Ends words room f) (λ s room. inl (refl, refl))
      (λ s w words room e. inr (record { number = refl; full = λ z. omega (arith, full m s w room e z) }))
      (λ s w words room f e.
      ⊎_elim (λ x. inl (omega (arith, x.0), x.1))
      (λ x. inr (record { number = x.number; full = λ z. omega (arith, x.full z, fits m s w room e, length-append (m.writes (m.answer s w)) (written m f.answers)) })))
