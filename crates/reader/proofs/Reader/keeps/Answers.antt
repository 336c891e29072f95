-- `keeps`: what is below the size is of a known format, the array has five places, and the fifth holds nothing.
use borrow.Author.Rules.{rules}
use native.Mathlib.Omega.{arith}
use Prim.Native.Nat.{ℕ, ◌<◌, ◌≤◌}
use mathlib.Core.Path.{◌≡◌, sym, ◌∙◌}
use lib.Dec.{ltb, eqb}
use mathlib.Core.Bool.{true, false}
use lib.ListN.{length, get_or}
use borrow.Author.Tests.{lt-ltb, le-ltb, eq-eqb}
use Rattle.numbers.proofs.Tested.{left}
use Rattle.wire.specs.Line.{size_by, known}
use Rattle.wire.proofs.Letters.{known_below, at_most_five}
use Rattle.reader.specs.Good.{placed, good}
use Rattle.reader.specs.declared.Reader.{Reader}
use Rattle.reader.proofs.Reader.keeps.Goals as goal

-- fewer than five bytes are kept
fifth : (r : Reader) (b : ℕ) → r.count ≤ 4 → placed r 4 b ≡ eqb b 0
unfolding placed
fifth r b h = rw (le-ltb 4 r.count h)

pub returns-then-self-size : goal.returns-then-self-size
unfolding good
returns-then-self-size c = let r = c.args.self in
    let over : ltb r.count (size_by r.format) ≡ false = rw (← c.requires, ← c.size.ensures) (le-ltb _ _ c.if-self-size.true) in
    rw (known_below r.format r.count, over)

pub returns : goal.returns
unfolding good
returns c =
    let five : length c.args.self.kept ≡ 5 = search rules in
    let r = c.args.self in
    let under : r.count < size_by r.format = rw (← c.requires, ← c.size.ensures) c.if-self-size.false in
    let few : r.count ≤ 4 = omega (arith, under, at_most_five r.format) in
    let named : known r.format ≡ true = left _ _ (known_below r.format r.count ∙ lt-ltb _ _ under) in
    simp
    (named, lt-ltb _ _ under, eq-eqb _ _ five, fifth r (get_or r.kept 4 0) few, c.marked.ensures, c.requires, sym c.holds-4.ensures, sym c.holds-3.ensures, sym c.holds-2.ensures, sym c.holds.ensures)
