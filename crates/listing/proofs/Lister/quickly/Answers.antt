-- `quickly`: a lister at the start of a line, that holds nothing.
use borrow.Author.Rules.{rules}
use mathlib.Core.Path.{◌≡◌}
use lib.Dec.{ltb}
use lib.ListN.{length}
use borrow.Author.Tests.{not-false, ltb-true}
use Rattle.numbers.proofs.Tested.{left, right}
use Rattle.listing.proofs.Feeds.{starts, at_line, is_passed}
use Rattle.listing.proofs.Lister.quickly.Goals as goal

pub returns-then-not-starts-scanner : goal.returns-then-not-starts-scanner
returns-then-not-starts-scanner c = rw c.front.ensures (starts _ _ _)

pub words-requires : goal.words-requires
words-requires c = let m = c.args.self in ltb-true 0 m.scanner.line (right (at_line m) (ltb 0 m.scanner.line) (not-false _ c.if-not-starts-scanner.false-raw))

pub returns : goal.returns
returns c =
    let five : length c.args.self.scanner.held ≡ 5 = search rules in
    rw (is_passed c.args.self five (left (at_line c.args.self) (ltb 0 c.args.self.scanner.line) (not-false _ c.if-not-starts-scanner.false-raw))) at c.words.ensures
