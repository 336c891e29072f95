-- A machine that hears bytes one by one: none yet, one more, and all of them.
use Prim.Native.Nat.{ℕ, ◌+◌, ◌*◌, ◌<◌, ◌≤◌}
use mathlib.Core.Path.{◌≡◌, refl, sym, ◌∙◌, ap}
use mathlib.Core.List.{List, [], ◌∷◌, ◌++◌, append_assoc}
use native.Mathlib.Omega.{arith}
use native.Mathlib.Numerals.{add-one}
use lib.ListN.{length, take, drop, get_or, length-append, drop_of_length-le}
use lib.Seq.{drop-cons, take_at}
use Rattle.text.specs.Growth.{slice, filled, filled_by}
use Rattle.text.specs.declared.Text.{Text}
use Rattle.text.proofs.Filled.{both_filled, filled_all}
use Rattle.hearing.specs.Steps.{Step, Far}

-- bytes one behind the other in a slice
pub then_one : (t u v : Text) (l : List ℕ) (b : ℕ) → u ≡ filled_by t l → v ≡ filled u b → v ≡ filled_by t (l ++ b ∷ [])
then_one t u v l b e f = f ∙ ap (λ (s : Text). filled s b) e ∙ both_filled t l (b ∷ [])

pub then_more : (t u v : Text) (l k : List ℕ) → u ≡ filled_by t l → v ≡ filled_by u k → v ≡ filled_by t (l ++ k)
then_more t u v l k e f = f ∙ ap (λ (s : Text). filled_by s k) e ∙ both_filled t l k

-- text that has room stands at the front
module _ (before after text : List ℕ) (behind : ℕ) (so : slice after behind ≡ filled_by (slice before 0) text) (room : length text ≤ length before) where
  is : slice after behind ≡ slice (text ++ drop (length text) before) (length text)
  is = let z : 0 + length text ≡ length text = omega arith in so ∙ filled_all text (slice before 0) (omega arith) ∙ rw z

  pub stands : take behind after ≡ text
  stands = ap (λ (t : Text). take t.len t.bytes) is ∙ take_at text (drop (length text) before) (length text) refl

  pub within : behind ≤ length after
  within =
      let a : behind ≡ length text = ap (λ (t : Text). t.len) is in
      let b : after ≡ text ++ drop (length text) before = ap (λ (t : Text). t.bytes) is in
      rw b (omega (arith, length-append text (drop (length text) before)))

module _ {M : Type 0} (rest told : M → List ℕ → List ℕ) (most : ℕ) (m : M) (heard before : List ℕ) where
  pub none_yet : Far rest told most m heard before 0 m before 0
  none_yet = record { text = []; so = refl; few = omega arith; goes = λ q. refl; says = λ q. refl }

  module _ (i behind : ℕ) (next : M) (after : List ℕ) (f : Far rest told most m heard before i next after behind) where
    pub one_more_lem : i < length heard → (then : M) (after' : List ℕ) (behind' : ℕ)
        → Step rest told most next (get_or heard i 0) after behind then after' behind'
        → Far rest told most m heard before (i + 1) then after' behind'
    one_more_lem h then after' behind' s =
        let cut : (q : List ℕ) → drop i heard ++ q ≡ get_or heard i 0 ∷ (drop (i + 1) heard ++ q) = λ q. rw (add-one, drop-cons heard i 0) in
        record {
          text = f.text ++ s.text;
          so = s.so ∙ ap (λ (t : Text). filled_by t s.text) f.so ∙ both_filled (slice before 0) f.text s.text;
          few = omega (arith, f.few, s.few, length-append f.text s.text);
          goes = λ q.
              f.goes q
              ∙ ap (λ (l : List ℕ). f.text ++ rest next l) (cut q)
              ∙ ap (λ (l : List ℕ). f.text ++ l) (s.goes (drop (i + 1) heard ++ q))
              ∙ sym (append_assoc f.text s.text (rest then (drop (i + 1) heard ++ q)));
          says = λ q. f.says q ∙ ap (told next) (cut q) ∙ s.says (drop (i + 1) heard ++ q);
        }

    module _ (all : length heard ≤ i) (room : most * i ≤ length before) where
      fits : length f.text ≤ length before
      fits = omega (arith, f.few)

      pub all_within : behind ≤ length after
      all_within = within before after f.text behind f.so fits

      pub all_goes : (q : List ℕ) → rest m (heard ++ q) ≡ take behind after ++ rest next q
      all_goes q = f.goes q ∙ rw (drop_of_length-le heard all, stands before after f.text behind f.so fits)

      pub all_says : (q : List ℕ) → told m (heard ++ q) ≡ told next q
      all_says q = f.says q ∙ rw (drop_of_length-le heard all)

-- one alone is the first of one
pub alone : {M : Type 0} (rest told : M → List ℕ → List ℕ) (most : ℕ) (m : M) (h : ℕ) (before : List ℕ) (next : M) (after : List ℕ) (behind : ℕ)
    → Step rest told most m h before 0 next after behind → Far rest told most m (h ∷ []) before 1 next after behind
alone rest told most m h before next after behind s =
    one_more_lem rest told most m (h ∷ []) before 0 0 m before (none_yet rest told most m (h ∷ []) before) (omega arith) next after behind s
