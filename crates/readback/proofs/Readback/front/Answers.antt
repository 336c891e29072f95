-- A line that is cut off, too long, faulty, or there.
use mathlib.Core.Path.{sym, ◌∙◌}
use mathlib.Core.Logic.{inl, inr}
use Prim.Native.Nat.{◌<◌}
use native.Mathlib.Omega.{arith}
use lib.ListN.{length}
use lib.Seq.{length-take-le}
use Rattle.text.specs.Lengths.{length_to}
use Rattle.text.proofs.Lengths.{to_within}
use Rattle.listing.specs.Lines.{newline}
use Rattle.readback.proofs.Readback.front.Goals as goal

pub returns-then-n-le-LONGEST : goal.returns-then-n-le-LONGEST
returns-then-n-le-LONGEST c = (sym c.length_to-n.ensures ∙ c.if-n-input.true, omega (arith, c.if-n-input.true))

pub returns-else-n-le-LONGEST : goal.returns-else-n-le-LONGEST
returns-else-n-le-LONGEST c = inl (sym c.length_to-n.ensures ∙ c.if-n-input.true, omega (arith, c.if-n-input.true))

pub slice_bounds-step-end : goal.slice_bounds-step-end
slice_bounds-step-end c = sym (length-take-le c.length_to-n.result c.args.input.now (omega (arith, c.length_to-n.ensures, to_within newline c.args.input.now)))

pub overflow_add-result : goal.overflow_add-result
overflow_add-result c =
    let there : let i = c.args.input.now in length_to newline i < length i = let i = c.args.input.now in omega (arith, c.length_to-n.ensures, c.if-n-input.false, to_within newline i) in
    record { fits = omega (arith, there) }

pub returns-in-Some : goal.returns-in-Some
returns-in-Some c =
    let there : let i = c.args.input.now in length_to newline i < length i = let i = c.args.input.now in omega (arith, c.length_to-n.ensures, c.if-n-input.false, to_within newline i) in
    (there, rw (← c.length_to-n.ensures) c.in-Some.ensures, omega (arith, c.length_to-n.ensures))

pub returns-in-None : goal.returns-in-None
returns-in-None c =
    let there : let i = c.args.input.now in length_to newline i < length i = let i = c.args.input.now in omega (arith, c.length_to-n.ensures, c.if-n-input.false, to_within newline i) in
    inr (there, rw (← c.length_to-n.ensures) c.in-None.ensures)
