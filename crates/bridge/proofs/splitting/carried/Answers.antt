-- Below, above, or between.
use lib.IntN.{pos}
use mathlib.Core.Path.{◌≡◌}
use mir.Facts.{to_z-of_z}
use mir.Syntax.{w16, w32}
use mir.Val.{SFits, to_z, of_z}
use native.Mathlib.Omega.{arith}
use Rattle.numbers.proofs.Held.{between_fits}
use Rattle.numbers.specs.Signed.{minus, held}
use Rattle.bridge.proofs.splitting.carried.Goals as goal

pub returns-then-d-ltminus127 : goal.returns-then-d-ltminus127
unfolding held
returns-then-d-ltminus127 c =
    let is : to_z w32 (of_z w32 c.args.d) ≡ c.args.d = to_z-of_z c.ranges.d in
    rw (rw is at c.if-d-ltminus127.true)

pub returns-then-d-gt127 : goal.returns-then-d-gt127
unfolding held
returns-then-d-gt127 c =
    let is : to_z w32 (of_z w32 c.args.d) ≡ c.args.d = to_z-of_z c.ranges.d in
    rw (rw is at c.if-d-ltminus127.false, rw is at c.if-d-gt127.true)

pub overflow_cast-result : goal.overflow_cast-result
overflow_cast-result c =
    let is : to_z w32 (of_z w32 c.args.d) ≡ c.args.d = to_z-of_z c.ranges.d in
    let between : SFits w16 c.args.d = between_fits {lo = minus 127} {hi = pos 127} (record { sfits = omega arith }) (record { sfits = omega arith }) (rw is at c.if-d-ltminus127.false) (rw is at c.if-d-gt127.false) in
    rw is between

pub returns : goal.returns
unfolding held
returns c =
    let is : to_z w32 (of_z w32 c.args.d) ≡ c.args.d = to_z-of_z c.ranges.d in
    let between : SFits w16 c.args.d = between_fits {lo = minus 127} {hi = pos 127} (record { sfits = omega arith }) (record { sfits = omega arith }) (rw is at c.if-d-ltminus127.false) (rw is at c.if-d-gt127.false) in
    rw (is, rw is at c.if-d-ltminus127.false, rw is at c.if-d-gt127.false) (to_z-of_z between)
