-- `good`: its eight parts, each asked where those before it hold.
use borrow.Author.Tests.{not-true, not-false}
use mathlib.Core.Bool.{Bool, true, false, not, ◌&&◌}
use mathlib.Core.Path.{◌≡◌, sym, ◌∙◌}
use Rattle.ballbox.specs.Good.{good}
use Rattle.ballbox.proofs.BallBox.good.Goals as goal

-- a test that was passed, and one that was not
holds : {r t : Bool} → r ≡ t → not r ≡ false → t ≡ true
holds e l = sym e ∙ not-false _ l

fails : {r t : Bool} → r ≡ t → not r ≡ true → t ≡ false
fails e l = sym e ∙ not-true _ l

-- where the first seven hold, all do as the last does
eighth : {a b c d e f g h r : Bool} → a ≡ true → b ≡ true → c ≡ true → d ≡ true → e ≡ true → f ≡ true → g ≡ true → r ≡ h → r ≡ a && b && c && d && e && f && g && h
eighth p q s t u v w l = rw (p, q, s, t, u, v, w, l)

pub returns-then-not-good : goal.returns-then-not-good
unfolding good
returns-then-not-good c = simp (fails c.good.ensures c.if-not-good.true-raw)

pub returns-then-not-good-2 : goal.returns-then-not-good-2
unfolding good
returns-then-not-good-2 c =
    simp (
      fails c.good-2.ensures c.if-not-good-2.true-raw,
      holds c.good.ensures c.if-not-good.false-raw,
    )

pub returns-then-not-good-3 : goal.returns-then-not-good-3
unfolding good
returns-then-not-good-3 c =
    simp (
      fails c.good-3.ensures c.if-not-good-3.true-raw,
      holds c.good-2.ensures c.if-not-good-2.false-raw,
      holds c.good.ensures c.if-not-good.false-raw,
    )

pub returns-then-not-dormant_rightly : goal.returns-then-not-dormant_rightly
unfolding good
returns-then-not-dormant_rightly c =
    simp (
      fails c.dormant_rightly.ensures c.if-not-dormant_rightly.true-raw,
      holds c.good-3.ensures c.if-not-good-3.false-raw,
      holds c.good-2.ensures c.if-not-good-2.false-raw,
      holds c.good.ensures c.if-not-good.false-raw,
    )

pub returns-then-not-good-4 : goal.returns-then-not-good-4
unfolding good
returns-then-not-good-4 c =
    simp (
      fails c.good-4.ensures c.if-not-good-4.true-raw,
      holds c.dormant_rightly.ensures c.if-not-dormant_rightly.false-raw,
      holds c.good-3.ensures c.if-not-good-3.false-raw,
      holds c.good-2.ensures c.if-not-good-2.false-raw,
      holds c.good.ensures c.if-not-good.false-raw,
    )

pub returns-then-not-remembers_rightly : goal.returns-then-not-remembers_rightly
unfolding good
returns-then-not-remembers_rightly c =
    simp (
      fails c.remembers_rightly.ensures c.if-not-remembers_rightly.true-raw,
      holds c.good-4.ensures c.if-not-good-4.false-raw,
      holds c.dormant_rightly.ensures c.if-not-dormant_rightly.false-raw,
      holds c.good-3.ensures c.if-not-good-3.false-raw,
      holds c.good-2.ensures c.if-not-good-2.false-raw,
      holds c.good.ensures c.if-not-good.false-raw,
    )

pub returns-then-not-shows_rightly : goal.returns-then-not-shows_rightly
unfolding good
returns-then-not-shows_rightly c =
    simp (
      fails c.shows_rightly.ensures c.if-not-shows_rightly.true-raw,
      holds c.remembers_rightly.ensures c.if-not-remembers_rightly.false-raw,
      holds c.good-4.ensures c.if-not-good-4.false-raw,
      holds c.dormant_rightly.ensures c.if-not-dormant_rightly.false-raw,
      holds c.good-3.ensures c.if-not-good-3.false-raw,
      holds c.good-2.ensures c.if-not-good-2.false-raw,
      holds c.good.ensures c.if-not-good.false-raw,
    )

pub returns : goal.returns
unfolding good
returns c =
    eighth
    (holds c.good.ensures c.if-not-good.false-raw)
    (holds c.good-2.ensures c.if-not-good-2.false-raw)
    (holds c.good-3.ensures c.if-not-good-3.false-raw)
    (holds c.dormant_rightly.ensures c.if-not-dormant_rightly.false-raw)
    (holds c.good-4.ensures c.if-not-good-4.false-raw)
    (holds c.remembers_rightly.ensures c.if-not-remembers_rightly.false-raw)
    (holds c.shows_rightly.ensures c.if-not-shows_rightly.false-raw)
    c.marks.ensures
