-- A newline, a sixteenth byte, or a byte more.
use borrow.Author.Rules.{rules}
use native.Mathlib.Omega.{arith}
use mathlib.Core.Path.{◌≡◌, sym}
use Prim.Native.Nat.{◌≤◌}
use lib.ListN.{length}
use lib.Seq.{length-take-le}
use borrow.Author.Tests.{eq-eqb, ne_eqb, le-leb, lt-leb}
use Rattle.driver.specs.Feeding.{byte_of}
use Rattle.driver.proofs.Driver.byte.Goals as goal

pub slice_bounds-held-end : goal.slice_bounds-held-end
slice_bounds-held-end c =
    let fifteen : c.args.self.count ≤ length c.args.self.held = let long : length c.args.self.held ≡ 15 = search rules in omega (arith, long, c.requires) in
    fifteen

pub slice_bounds-said_by-end : goal.slice_bounds-said_by-end
slice_bounds-said_by-end c =
    let fifteen : c.args.self.count ≤ length c.args.self.held = let long : length c.args.self.held ≡ 15 = search rules in omega (arith, long, c.requires) in
    let m = c.args.self in sym (length-take-le m.count m.held fifteen)

pub returns-then-b-eq10 : goal.returns-then-b-eq10
unfolding byte_of
returns-then-b-eq10 c = (rw (eq-eqb _ _ c.if-b-eq10.true) (rw c.said_by.ensures at c.taken.ensures), omega arith)

pub returns-then-n-ge-LONGEST : goal.returns-then-n-ge-LONGEST
unfolding byte_of
returns-then-n-ge-LONGEST c = (rw (ne_eqb _ _ c.if-b-eq10.false, le-leb _ _ c.if-n-ge-LONGEST.true) c.taken-then-n-ge-LONGEST.ensures, omega arith)

pub overflow_add-result : goal.overflow_add-result
overflow_add-result c = record { fits = omega arith }

pub returns : goal.returns
unfolding byte_of
returns c = (rw (ne_eqb _ _ c.if-b-eq10.false, lt-leb _ _ c.if-n-ge-LONGEST.false) (rw c.none.ensures, omega arith), omega arith)
