-- Bytes that are held between reads: what a read brought stands behind them, and what was not taken of both is held next.
use Rattle.std.proofs.Common.{◌≡◌, ℕ, zero, suc, ◌+◌, ◌-◌, ◌≤◌, List, [], ◌∷◌, ◌++◌, length, take, drop, sym, ap, ◌∙◌, arith, length-drop, length-take-le, take_at, take-add, Result}
use lib.Seq.{take-nil}
use Rattle.shell.specs.Buffer.{Behind, Moved}
use Rattle.shell.specs.declared.Failure.{Failure}

drop_take : (n m : ℕ) (l : List ℕ) → drop n (take m l) ≡ take (m - n) (drop n l)
drop_take zero m l = let z : m - 0 ≡ m = omega arith in rw z
drop_take (suc n) zero l = let z : 0 - suc n ≡ 0 = omega arith in rw z
drop_take (suc n) (suc m) [] = sym (take-nil (suc m - suc n))
drop_take (suc n) (suc m) (x ∷ l) = let z : suc m - suc n ≡ m - n = omega arith in rw z (drop_take n m l)

-- so many bytes are there, of which so many were taken: the others are held
pub holds : (all taken : ℕ) (input after : List ℕ) → taken ≤ all → all ≤ length input → Moved taken (all - taken) input after
    → take (all - taken) after ≡ drop taken (take all input)
holds all taken input after k there m =
    let rest = take (all - taken) (drop taken input) in
    let long : length rest ≡ all - taken = length-take-le (all - taken) (drop taken input) (omega (arith, length-drop taken input)) in
    ap (take (all - taken)) (m.fits (omega arith)) ∙ take_at rest (drop (all - taken) input) (all - taken) long ∙ sym (drop_take taken all input)

-- the bytes that are held, and those that a read brought
pub both : (name : List ℕ) (held t t' : ℕ) (got : Result ℕ Failure) (input after : List ℕ) → held ≤ length input → Behind name held t t' got input after
    → (n : ℕ) → take (held + n) after ≡ take held input ++ take n (drop held after)
both name held t t' got input after there b n = take-add held n after ∙ ap (λ (l : List ℕ). l ++ take n (drop held after)) (b.stays there)
