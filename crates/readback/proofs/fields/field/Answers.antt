-- Behind a tab, up to the next.
use borrow.Author.Rules.{rules}
use Prim.Native.Nat.{◌+◌, ◌-◌, ◌≤◌}
use mathlib.Core.Path.{◌≡◌, refl, sym, ◌∙◌, ap}
use native.Mathlib.Omega.{arith}
use lib.ListN.{length, take, drop, length-drop}
use mir.Syntax.{w64}
use mir.Val.{to_z, of_z}
use Rattle.fold.proofs.Parts.{rest_is}
use Rattle.text.specs.Lengths.{length_to}
use Rattle.text.proofs.Lengths.{to_within}
use Rattle.listing.specs.Lines.{tab}
use Rattle.readback.specs.Fields.{Value, Took, value_in}
use Rattle.readback.proofs.Values.{no_field, no_tab, a_field}
use Rattle.readback.proofs.fields.field.Goals.{then-line-at-via-then-line-at, then-line-at-via-else-line-at+then-line-at-ne9}
use Rattle.readback.proofs.fields.field.Goals as goal

pub returns-then-line-at : goal.returns-then-line-at
returns-then-line-at c =
    let a = c.args in
    elim c.then-line-at.branch [
      | then-line-at-via-then-line-at w ↦ ap (λ (t : Took). t.good) (sym (no_field a.width a.kind a.line.now a.at w.if-line-at.true))
      | then-line-at-via-else-line-at+then-line-at-ne9 w ↦ ap (λ (t : Took). t.good) (sym (no_tab a.width a.kind a.line.now a.at w.if-line-at.false w.if-line-at-ne9.true))
    ]

pub overflow_add-end : goal.overflow_add-end
overflow_add-end c =
    let length_is : let a = c.args in c.length_to.result ≡ length_to tab (drop (a.at + 1) a.line.now) = let a = c.args in c.length_to.ensures ∙ ap (length_to tab) (rest_is a.line.now (a.at + 1)) in
    let reach : let a = c.args in c.length_to.result ≤ length a.line.now - (a.at + 1) = let a = c.args in rw length_is (omega (arith, to_within tab (drop (a.at + 1) a.line.now), length-drop (a.at + 1) a.line.now)) in
    record { fits = omega (arith, reach) }

pub slice_bounds-value-end : goal.slice_bounds-value-end
slice_bounds-value-end c =
    let length_is : let a = c.args in c.length_to.result ≡ length_to tab (drop (a.at + 1) a.line.now) = let a = c.args in c.length_to.ensures ∙ ap (length_to tab) (rest_is a.line.now (a.at + 1)) in
    let reach : let a = c.args in c.length_to.result ≤ length a.line.now - (a.at + 1) = let a = c.args in rw length_is (omega (arith, to_within tab (drop (a.at + 1) a.line.now), length-drop (a.at + 1) a.line.now)) in
    let r = reach in search rules

pub returns-in-Some : goal.returns-in-Some
returns-in-Some c =
    let a = c.args in
    let n = c.length_to.result in
    let length_is : n ≡ length_to tab (drop (a.at + 1) a.line.now) = c.length_to.ensures ∙ ap (length_to tab) (rest_is a.line.now (a.at + 1)) in
    let v : Value = value_in a.width a.kind (take n (drop (a.at + 1) a.line.now)) in
    let is : to_z w64 (of_z w64 c.in-Some.value) ≡ c.in-Some.value = search rules in
    let size : a.at + 1 + n - (a.at + 1) ≡ n = omega arith in
    let says = rw size at c.in-Some.ensures in
    let e = a_field a.width a.kind a.line.now a.at n v c.if-line-at.false c.if-line-at-ne9.false length_is refl in
    (ap (λ (t : Took). t.good) (sym e) ∙ says.0, is ∙ says.1 ∙ ap (λ (t : Took). t.value) e, ap (λ (t : Took). t.end) e)

pub returns-in-None : goal.returns-in-None
returns-in-None c =
    let a = c.args in
    let n = c.length_to.result in
    let length_is : n ≡ length_to tab (drop (a.at + 1) a.line.now) = c.length_to.ensures ∙ ap (length_to tab) (rest_is a.line.now (a.at + 1)) in
    let v : Value = value_in a.width a.kind (take n (drop (a.at + 1) a.line.now)) in
    let size : a.at + 1 + n - (a.at + 1) ≡ n = omega arith in
    let says = rw size at c.in-None.ensures in
    let e = a_field a.width a.kind a.line.now a.at n v c.if-line-at.false c.if-line-at-ne9.false length_is refl in
    ap (λ (t : Took). t.good) (sym e) ∙ says
