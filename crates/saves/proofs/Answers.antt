-- The public functions give one answer: two that the promise permits are equal.
use Prim.Native.Nat.{ℕ}
use mathlib.Core.Path.{◌≡◌, sym, ◌∙◌}
use mathlib.Core.List.{List}
use lib.IntN.{ℤ}
use Rattle.wire.specs.declared.Report.{Report}
use Rattle.saves.specs.Promises.{FreshPromise, KnowingPromise, HeardPromise, OverPromise}
use Rattle.saves.specs.declared.Watch.{Watch}
use Rattle.saves.specs.declared.Told.{Told}
use Rattle.saves.specs.declared.Watched.{Watched}

pub one_fresh : (a b : Watch) → FreshPromise a → FreshPromise b → a ≡ b
one_fresh a b p q = p ∙ sym q

pub one_knowing : (buttons : ℕ) (a b : Watch) → KnowingPromise buttons a → KnowingPromise buttons b → a ≡ b
one_knowing buttons a b p q = p ∙ sym q

pub one_heard : (w : Watch) (r : Report) (a b : Told) → HeardPromise w r a → HeardPromise w r b → a ≡ b
one_heard w r a b p q = p ∙ sym q

pub one_over : (w : Watch) (numbers : List ℤ) (a b : Watched) → OverPromise w numbers a → OverPromise w numbers b → a ≡ b
one_over w numbers a b p q = p ∙ sym q
