-- None are wanted only where there is no room, or no line is left.
use Rattle.std.proofs.Common.{◌≡◌, ℕ, ◌<◌, ◌≤◌, List, [], ◌∷◌, refl, sym, subst, arith}
use Rattle.mrecord.specs.Recording.{lines_of}
use Rattle.mrecord.proofs.TapeTeller.wants.Goals as goal

full : (words : List ℕ) → lines_of 0 words ≡ []
unfolding lines_of
full [] = refl
full (w ∷ words) = refl

pub returns-clause-some : goal.returns-clause-some
returns-clause-some c none some fits words =
    let left : c.args.self.now.left ≡ 0 = omega (arith, c.min.ensures, c.min-2.ensures, none, some, fits) in
    subst (λ (n : ℕ). lines_of n words ≡ []) (sym left) (full words)
