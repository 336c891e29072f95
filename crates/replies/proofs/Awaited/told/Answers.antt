-- `told`: by the reply that is awaited. A byte that fits tells a format.
use Rattle.std.proofs.Common.{Option, Some, not, eqb}
use Prim.Native.Nat.{ℕ}
use mathlib.Core.Path.{◌≡◌, ◌∙◌, ap}
use mathlib.Core.Bool.{true, false}
use Rattle.replies.specs.Replying.{letter_of_code, fits}
use Rattle.replies.specs.declared.Kind.{Kind}
use Rattle.replies.specs.declared.Kind.TheVariants as kind
use Rattle.replies.proofs.Awaited.told.Goals as goal

tells : {k : Option Kind} (place byte : ℕ) → k ≡ Some kind.Code → fits k place byte ≡ true → false ≡ not (eqb (letter_of_code byte) 0) → ⊥
unfolding fits
tells place byte e f g =
    let t = rw e at f in
    cc

pub returns-in_err-letter-in-Code : goal.returns-in_err-letter-in-Code
returns-in_err-letter-in-Code c = absurd (tells _ _ (c.in_ok-self.was ∙ ap Some c.in-Code.is) c.requires c.in_err-letter-in-Code.ensures.some)
