use mathlib.Core.Path.{sym, ◌∙◌}
use native.Mathlib.Omega.{arith}
use mir.Syntax.{w64}
use mir.Facts.{to_z_pos}
use Rattle.text.proofs.Digits.{no_digit, too_big, read_is, read_not}
use Rattle.text.proofs.decimals.plus.Goals.{then-not-is_ascii_digit-via-then-not-is_ascii_digit, then-not-is_ascii_digit-via-else-not-is_ascii_digit+then-v-ge-MORE}
use Rattle.text.proofs.decimals.plus.Goals as goal

pub returns-then-not-is_ascii_digit : goal.returns-then-not-is_ascii_digit
returns-then-not-is_ascii_digit c =
    let l = c.loop-c in
    elim c.then-not-is_ascii_digit.branch [
      | then-not-is_ascii_digit-via-then-not-is_ascii_digit w ↦ no_digit _ _ l.v l.c-index l.invariant c.loop-c-test.true (sym c.is_ascii_digit.ensures.value ∙ w.if-not-is_ascii_digit.true)
      | then-not-is_ascii_digit-via-else-not-is_ascii_digit+then-v-ge-MORE w ↦ too_big _ _ l.v l.c-index l.invariant c.loop-c-test.true w.if-v-ge-MORE.true
    ]

pub returns-then-bytes-places : goal.returns-then-bytes-places
returns-then-bytes-places c = let l = c.loop-c in
    rw (to_z_pos w64 {n = l.v} (omega (arith, l.invariant.1))) (read_is _ _ l.v l.c-index l.invariant c.loop-c-test.false (c.if-bytes-places.true ∙ c.places.ensures))

pub returns-else-bytes-places : goal.returns-else-bytes-places
returns-else-bytes-places c = let l = c.loop-c in
    read_not _ _ l.v l.c-index l.invariant c.loop-c-test.false (λ e. c.if-bytes-places.false (e ∙ sym c.places.ensures))
