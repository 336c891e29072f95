use mathlib.Core.Path.{◌≡◌, refl}
use native.Mathlib.Omega.{arith}
use Rattle.reader.specs.Promises.{fresh_of}
use Rattle.reader.proofs.Permitted.{fresh_or_default}
use Rattle.figures.proofs.Laws.{none_kept}
use Rattle.figures.proofs.passes.passed.Goals as goal

pub loop-rest-init : goal.loop-rest-init
loop-rest-init c =
    let letter = c.args.letter in
    let is = fresh_or_default letter c.fresh.result c.fresh.ensures c.unwrap_or_default-next.ensures in
    let none : c.unwrap_or_default-next.result.count ≡ 0 = rw is (none_kept letter (fresh_of letter) refl) in
    (omega arith, omega arith, omega (arith, none), omega arith)
