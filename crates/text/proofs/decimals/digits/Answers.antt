use mathlib.Core.Path.{◌≡◌, refl, sym, ◌∙◌, ap}
use mathlib.Core.Bool.{Bool, true, false}
use mathlib.Core.List.{List}
use Prim.Native.Nat.{ℕ, ◌+◌, ◌-◌, ◌<◌, min}
use native.Mathlib.Omega.{arith}
use lib.Dec.{ltb}
use borrow.Author.Tests.{ltb-true, ltb-false}
use lib.ListN.{set, length}
use lib.Seq.{set_out}
use Rattle.text.specs.Growth.{slice, filled_by}
use Rattle.text.specs.Decimals.{digit_of, digits_of}
use Rattle.text.proofs.Filled.{all_full, filled_is, filled_len, filled_end}
use Rattle.text.proofs.Digits.{one_digit, digits_long}
use Rattle.text.proofs.decimals.digits.Goals.{then-k-room, else-k-room}
use Rattle.text.proofs.decimals.digits.Goals as goal

pub returns-then-at-out : goal.returns-then-at-out
returns-then-at-out c = let a = c.args in sym (all_full (digits_of a.places a.n) (slice a.out.now a.at) c.if-at-out.true)

pub loop-k-preserved : goal.loop-k-preserved
loop-k-preserved c =
    let l = c.loop-k in
    let at = c.args.at in
    let wrote : c.if-k-room.out ≡ set l.out (at + (l.k - 1)) (digit_of l.v) = elim c.if-k-room.branch [
      | then-k-room w ↦ w.out-is ∙ ap (set l.out (at + (l.k - 1))) w.digit.ensures
      | else-k-room w ↦ w.out-is ∙ sym (set_out l.out (at + (l.k - 1)) (digit_of l.v) (omega (arith, w.if-k-room.false)))
    ] in
    rw wrote (one_digit l.out at l.k l.v (omega arith) ∙ l.invariant)

end_is : (ds l : List ℕ) (at places : ℕ) → length ds ≡ places → at < length l → at + min places (length l - at) ≡ (filled_by (slice l at) ds).len
end_is ds l at places e h = go (ltb places (length l - at)) refl
  where
    go : (t : Bool) → ltb places (length l - at) ≡ t → at + min places (length l - at) ≡ (filled_by (slice l at) ds).len
    go true k = omega (arith, filled_len ds (slice l at) (omega (arith, ltb-true _ _ k)), ltb-true _ _ k)
    go false k = omega (arith, filled_end ds (slice l at) (omega arith) (omega (arith, ltb-false _ _ k)), ltb-false _ _ k)

pub returns : goal.returns
unfolding digits_of
returns c =
    let a = c.args in
    let l = c.loop-k in
    let ds = digits_of a.places a.n in
    let none : l.k ≡ 0 = omega arith in
    filled_is ds (slice a.out.now a.at) _ _ (rw none at l.invariant) (ap (λ (n : ℕ). a.at + n) c.min.ensures ∙ end_is ds a.out.now a.at a.places (digits_long a.places a.n) c.if-at-out.false)
