-- The line of what is given, in the places of a text.
use borrow.Author.Rules.{rules}
use mathlib.Core.Path.{◌≡◌, ◌∙◌}
use lib.ListN.{length}
use Rattle.text.proofs.Filled.{filled_text}
use Rattle.listing.specs.Items.{items_in}
use Rattle.listing.specs.Printing.{all_bytes}
use Rattle.listing.proofs.printing.printed.Goals as goal

pub returns : goal.returns
returns c =
    let forty : length c.args.front.bytes ≡ 40 = search rules in
    let a = c.args in c.put-len.ensures ∙ filled_text (all_bytes a.width (items_in a.given)) a.front forty
