-- `unheld`: the four tests, each on its own range, in their order.
use borrow.Author.Rules.{rules}
use mathlib.Core.Path.{◌≡◌, sym, ◌∙◌, ap₂}
use mathlib.Core.Bool.{Bool, true, false}
use lib.IntN.{ℤ}
use Rattle.wire.specs.Holds.{within, x_range, y_range, second_range}
use Rattle.wire.specs.declared.Range.{Range}
use Rattle.wire.proofs.holds.unheld.Goals as goal

-- what a test says of a movement
test : {t b : Bool} {range its : Range} {v w : ℤ} → t ≡ within range w → range ≡ its → w ≡ v → t ≡ b → within its v ≡ b
test tested is same t = sym (ap₂ within is same) ∙ sym tested ∙ t

pub returns-then-not-has : goal.returns-then-not-has
returns-then-not-has c =
    let r = c.args.report in
    let x : within (x_range c.args.f) r.x1 ≡ false = test c.has.ensures c.x_range.ensures (search rules) c.if-not-has.true in
    simp x

pub returns-then-not-has-2 : goal.returns-then-not-has-2
returns-then-not-has-2 c =
    let r = c.args.report in
    let x : within (x_range c.args.f) r.x1 ≡ true = test c.has.ensures c.x_range.ensures (search rules) c.if-not-has.false in
    let y : within (y_range c.args.f) r.y1 ≡ false = test c.has-else-not-has.ensures c.y_range.ensures (search rules) c.if-not-has-2.true in
    simp (x, y)

pub returns-then-not-has-3 : goal.returns-then-not-has-3
returns-then-not-has-3 c =
    let r = c.args.report in
    let x : within (x_range c.args.f) r.x1 ≡ true = test c.has.ensures c.x_range.ensures (search rules) c.if-not-has.false in
    let y : within (y_range c.args.f) r.y1 ≡ true = test c.has-else-not-has.ensures c.y_range.ensures (search rules) c.if-not-has-2.false in
    let second_x : within (second_range c.args.f) r.x2 ≡ false = test c.has-else-not-has-2.ensures c.second_range.ensures (search rules) c.if-not-has-3.true in
    simp (x, y, second_x)

pub returns-then-not-has-4 : goal.returns-then-not-has-4
returns-then-not-has-4 c =
    let r = c.args.report in
    let x : within (x_range c.args.f) r.x1 ≡ true = test c.has.ensures c.x_range.ensures (search rules) c.if-not-has.false in
    let y : within (y_range c.args.f) r.y1 ≡ true = test c.has-else-not-has.ensures c.y_range.ensures (search rules) c.if-not-has-2.false in
    let second_x : within (second_range c.args.f) r.x2 ≡ true = test c.has-else-not-has-2.ensures c.second_range.ensures (search rules) c.if-not-has-3.false in
    let second_y : within (second_range c.args.f) r.y2 ≡ false = test c.has-else-not-has-3.ensures c.second_range-else-not-has-3.ensures (search rules) c.if-not-has-4.true in
    simp (x, y, second_x, second_y)

pub returns-else-not-has-4 : goal.returns-else-not-has-4
returns-else-not-has-4 c =
    let r = c.args.report in
    let x : within (x_range c.args.f) r.x1 ≡ true = test c.has.ensures c.x_range.ensures (search rules) c.if-not-has.false in
    let y : within (y_range c.args.f) r.y1 ≡ true = test c.has-else-not-has.ensures c.y_range.ensures (search rules) c.if-not-has-2.false in
    let second_x : within (second_range c.args.f) r.x2 ≡ true = test c.has-else-not-has-2.ensures c.second_range.ensures (search rules) c.if-not-has-3.false in
    let second_y : within (second_range c.args.f) r.y2 ≡ true = test c.has-else-not-has-3.ensures c.second_range-else-not-has-3.ensures (search rules) c.if-not-has-4.false in
    simp (x, y, second_x, second_y)
