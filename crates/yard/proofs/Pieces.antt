-- A log that comes in pieces, a word at a time: the steps answer as the check of the whole does.
use Prim.Native.Nat.{ℕ, ◌+◌}
use mathlib.Core.Path.{◌≡◌, refl, sym, ap, ap₂, ◌∙◌}
use mathlib.Core.Bool.{true}
use mathlib.Core.List.{List, [], ◌∷◌}
use lib.ListN.{length}
use lib.Dec.{leb}
use Rattle.numbers.proofs.Tested.{left, right}
use Rattle.frames.specs.Words.{silence, line_words}
use Rattle.wire.specs.Line.{known}
use Rattle.yard.specs.State.{none_gone}
use Rattle.yard.specs.Good.{good}
use Rattle.yard.specs.Rules.{word_of}
use Rattle.yard.specs.Log.{sendable, judgement, checked_of}
use Rattle.yard.specs.Promises.{fresh_of, check_of, FreshPromise, CheckPromise}
use Rattle.yard.specs.Pieces.{StepsPromise, can_count}
use Rattle.yard.specs.declared.Yard.{Yard}
use Rattle.yard.specs.declared.NewYard.{NewYard}
use Rattle.yard.specs.declared.Judged.{Judged}
use Rattle.yard.specs.declared.Checked.{Checked}
use Rattle.yard.proofs.Keeps.{none_good, word_good}
use Rattle.yard.proofs.Logs.{one_word}
use Rattle.yard.proofs.Goodness.{step_word}

counted : (y : Yard) (words : List ℕ) (steps : List Judged) → good y ≡ true → line_words words ≡ true → StepsPromise y words steps → can_count steps ≡ sendable y words
unfolding StepsPromise can_count sendable line_words
counted y [] [] g l p = refl
counted y [] (s ∷ steps) g l p = absurd p
counted y (w ∷ words) [] g l p = absurd p
counted y (w ∷ words) (s ∷ steps) g l p =
    let e = p.0 ∙ step_word y w g in
    let n : s.next ≡ (word_of y w).next = ap (λ (j : Judged). j.next) e in
    let r = counted s.next words steps (rw n (word_good y g w)) (right (leb w silence) (line_words words) l) p.1 in
    ap₂ ◌+◌ (ap (λ (j : Judged). j.can) e) (r ∙ ap (λ (z : Yard). sendable z words) n) ∙ sym (one_word y w words (left (leb w silence) (line_words words) l))

-- as many of its words can be sent as the steps say
pub in_pieces : (letter : ℕ) (words : List ℕ) (new : NewYard) (steps : List Judged) (a : Checked) → known letter ≡ true → line_words words ≡ true
    → FreshPromise letter new → StepsPromise new.yard words steps → CheckPromise letter words a
    → a ≡ judgement (can_count steps) (length words)
unfolding fresh_of check_of checked_of
in_pieces letter words new steps a k l f s p =
    let q : StepsPromise (none_gone letter) words steps = rw (f, k) at s in
    let c = counted (none_gone letter) words steps (none_good letter k) l q in
    p ∙ rw (k, l, c)
