-- The five bytes held, one by one.
use borrow.Author.Rules.{rules}
use mathlib.Core.Path.{◌≡◌, ◌∙◌, ap}
use mathlib.Core.List.{List}
use Prim.Native.Nat.{ℕ}
use lib.ListN.{length, take}
use Rattle.listing.specs.Lines.{said_by}
use Rattle.listing.proofs.Five.{five_is}
use Rattle.listing.proofs.Scanner.says.Goals as goal

pub returns : goal.returns
returns c =
    let five : length c.args.self.held ≡ 5 = search rules in
    c.said_by.ensures ∙ ap (λ (l : List ℕ). said_by (take c.args.self.count l)) (five_is c.args.self.held five)
