-- The bytes there are.
use native.Mathlib.Omega.{arith}
use mathlib.Core.Path.{◌≡◌, sym, ◌∙◌, ap}
use mathlib.Core.List.{[], ◌∷◌}
use lib.ListN.{take}
use lib.Seq.{length-take-le, take_all}
use Rattle.text.specs.Decimals.{plain, number_in}
use Rattle.listing.specs.Lines.{byte_of}
use Rattle.listing.proofs.lines.decimal.Goals as goal

pub slice_bounds-number-end : goal.slice_bounds-number-end
slice_bounds-number-end c = let a = c.args in sym (length-take-le a.n (a.c ∷ a.d ∷ a.e ∷ []) (omega arith))

pub returns-then-n-lt3 : goal.returns-then-n-lt3
returns-then-n-lt3 c = c.byte.ensures ∙ ap byte_of c.number.ensures

pub returns : goal.returns
returns c = let a = c.args in
    let all = a.c ∷ a.d ∷ a.e ∷ [] in
    let three : take a.n all ≡ all = take_all a.n all (omega arith) in c.byte-2.ensures ∙ ap byte_of (c.number-2.ensures ∙ ap (number_in plain) (sym three))
