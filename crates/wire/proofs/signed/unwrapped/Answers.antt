-- `unwrapped`: with its highest bit turned over a number is half more or half less, and half is taken from it.
use Prim.Native.Nat.{ℕ, suc, ◌+◌, ◌-◌, ◌*◌, ◌^◌, ◌<◌}
use mathlib.Core.Path.{◌≡◌, refl, sym, ◌∙◌, ap, ap₂}
use mathlib.Core.Bool.{Bool, true, false, cond}
use mathlib.Core.Logic.{◌⊎◌, inl, inr}
use native.Mathlib.Omega.{arith}
use lib.Bits.{bit_xor, xor_block, xor_zero_r, xor_lt}
use lib.Pow.{pow_pos}
use lib.Dec.{ltb}
use lib.IntN.{ℤ, pos, negsuc, neg_ℤ, ◌+ℤ◌, ◌-ℤ◌, pos-+ℤ-pos, neg_ℤ-+ℤ, +ℤ_assoc, +ℤ_invr, +ℤ_idl, +ℤ-neg_ℤ_cancel}
use borrow.Author.Tests.{ltb-true, ltb-false}
use mir.Syntax.{w16}
use mir.Val.{to_z}
use mir.ValLaws.{to_z_pos}
use lib.Signed.{mag}
use Rattle.numbers.specs.Signed.{untwos}
use Rattle.numbers.proofs.Twos.{untwos_near}
use Rattle.numbers.proofs.Machine.{kept}
use Rattle.wire.proofs.signed.unwrapped.Goals as goal

-- what a number of eight bits gives, and one of twelve
record Turns (n half : ℕ) : Type 0 where
  turned_fits : bit_xor n half < 2 ^ 15
  half_fits : half < 2 ^ 15
  is : pos (bit_xor n half) -ℤ pos half ≡ untwos half n
  is_fits : mag (untwos half n) < 2 ^ 15

turned : (k a r : ℕ) → r < 2 ^ k → bit_xor (a * 2 ^ k + r) (2 ^ k) ≡ bit_xor a 1 * 2 ^ k + r
turned k a r h =
    let is : 1 * 2 ^ k + 0 ≡ 2 ^ k = omega arith in
    ap (bit_xor (a * 2 ^ k + r)) (sym is) ∙ xor_block k a 1 r 0 h (pow_pos k) ∙ ap (λ (n : ℕ). bit_xor a 1 * 2 ^ k + n) (xor_zero_r r)

lower : (half m d : ℕ) → half ≡ m + suc d → pos m -ℤ pos half ≡ negsuc d
lower half m d e =
    ap (λ (n : ℕ). pos m -ℤ pos n) e
    ∙ ap (λ (z : ℤ). pos m -ℤ z) (sym (pos-+ℤ-pos m (suc d)))
    ∙ ap (λ (z : ℤ). pos m +ℤ z) (neg_ℤ-+ℤ (pos m) (pos (suc d)))
    ∙ sym (+ℤ_assoc (pos m) (neg_ℤ (pos m)) (negsuc d))
    ∙ ap (λ (z : ℤ). z +ℤ negsuc d) (+ℤ_invr (pos m))
    ∙ +ℤ_idl (negsuc d)

is_untwos : (k n : ℕ) → n < 2 ^ k + 2 ^ k → pos (bit_xor n (2 ^ k)) -ℤ pos (2 ^ k) ≡ untwos (2 ^ k) n
unfolding untwos
is_untwos k n h = go (ltb n (2 ^ k)) refl
  where
    go : (t : Bool) → ltb n (2 ^ k) ≡ t → pos (bit_xor n (2 ^ k)) -ℤ pos (2 ^ k) ≡ cond t (pos n) (negsuc (2 ^ k + 2 ^ k - suc n))
    go true e =
        let is : 0 * 2 ^ k + n ≡ n = omega arith in
        let sum : 1 * 2 ^ k + n ≡ n + 2 ^ k = omega arith in
        rw (← is, turned k 0 n (ltb-true n (2 ^ k) e)) (rw (sum, ← pos-+ℤ-pos n (2 ^ k), is) (+ℤ-neg_ℤ_cancel (pos n) (pos (2 ^ k))))
    go false e =
        let high = ltb-false n (2 ^ k) e in
        let is : 1 * 2 ^ k + (n - 2 ^ k) ≡ n = omega arith in
        let left : 0 * 2 ^ k + (n - 2 ^ k) ≡ n - 2 ^ k = omega arith in
        ap (λ (m : ℕ). pos (bit_xor m (2 ^ k)) -ℤ pos (2 ^ k)) (sym is)
        ∙ ap (λ (m : ℕ). pos m -ℤ pos (2 ^ k)) (turned k 1 (n - 2 ^ k) (omega arith) ∙ left)
        ∙ lower (2 ^ k) (n - 2 ^ k) (2 ^ k + 2 ^ k - suc n) (omega arith)

turns : (n half : ℕ) → n < half + half → (half ≡ 2 ^ 7) ⊎ (half ≡ 2 ^ 11) → Turns n half
turns n half h (inl e) =
    record { turned_fits = xor_lt 15 n half (omega arith) (omega arith); half_fits = omega arith; is = rw e (is_untwos 7 n (rw e at h)); is_fits = omega (arith, untwos_near half n h) }
turns n half h (inr e) =
    record { turned_fits = xor_lt 15 n half (omega arith) (omega arith); half_fits = omega arith; is = rw e (is_untwos 11 n (rw e at h)); is_fits = omega (arith, untwos_near half n h) }

pub overflow_cast-result : goal.overflow_cast-result
overflow_cast-result c =
    let here : Turns c.args.n c.args.half = turns c.args.n c.args.half c.requires.0 c.requires.1 in
    record { sfits = here.turned_fits }

pub overflow_cast-result-2 : goal.overflow_cast-result-2
overflow_cast-result-2 c =
    let here : Turns c.args.n c.args.half = turns c.args.n c.args.half c.requires.0 c.requires.1 in
    record { sfits = here.half_fits }

pub overflow_sub-result : goal.overflow_sub-result
overflow_sub-result c =
    let here : Turns c.args.n c.args.half = turns c.args.n c.args.half c.requires.0 c.requires.1 in
    let read_back : to_z w16 (bit_xor c.args.n c.args.half) -ℤ to_z w16 c.args.half ≡ untwos c.args.half c.args.n = let t = here in ap₂ (λ (a b : ℤ). a -ℤ b) (to_z_pos w16 (bit_xor c.args.n c.args.half) t.turned_fits) (to_z_pos w16 c.args.half t.half_fits) ∙ t.is in
    rw read_back (record { sfits = here.is_fits })

pub returns : goal.returns
returns c =
    let here : Turns c.args.n c.args.half = turns c.args.n c.args.half c.requires.0 c.requires.1 in
    let read_back : to_z w16 (bit_xor c.args.n c.args.half) -ℤ to_z w16 c.args.half ≡ untwos c.args.half c.args.n = let t = here in ap₂ (λ (a b : ℤ). a -ℤ b) (to_z_pos w16 (bit_xor c.args.n c.args.half) t.turned_fits) (to_z_pos w16 c.args.half t.half_fits) ∙ t.is in
    rw read_back (kept w16 here.is_fits refl)
