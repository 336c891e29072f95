-- Each public operation's promise determines one answer, and every byte of the lent slice after it, refused or not.
use Prim.Native.Nat.{ℕ}
use mathlib.Core.Path.{◌≡◌, refl, sym, ◌∙◌, ap, ap₂}
use mathlib.Core.Bool.{Bool}
use mathlib.Core.List.{List}
use Rattle.std.specs.Prelude.{Option, Result}
use Rattle.wire.specs.declared.refusal.Refusal.{Refusal}
use Rattle.wire.proofs.Numbered.{result_apart, if_apart}
use Rattle.bridge.specs.Line.{Converted, Long, told, converted_in}
use Rattle.bridge.specs.Promises.{NewBridge, FreshPromise, GoodPromise, ConvertPromise, new_in}
use Rattle.bridge.specs.declared.Converted as conversions
use Rattle.bridge.specs.declared.Bridge.{Bridge}

pub one_fresh : (letter : ℕ) (a b : NewBridge) → FreshPromise letter a → FreshPromise letter b → a ≡ b
one_fresh letter a b e f = e ∙ sym f

pub one_good : (b : Bridge) (x y : Bool) → GoodPromise b x → GoodPromise b y → x ≡ y
one_good b x y e f = e ∙ sym f

pub one_convert : (b : Bridge) (words out : List ℕ) (s t : Converted) (x y : List ℕ) → ConvertPromise b words out s x → ConvertPromise b words out t y → (s ≡ t) × (x ≡ y)
one_convert b words out s t x y e f = (ap told (e ∙ sym f), ap (λ (l : Long). l.out) (e ∙ sym f))

-- What `Bridge::fresh` and `convert` give is told apart by what their promises read of it: so that is one, too.
pub new_apart : (a b : Result Bridge Refusal) → new_in a ≡ new_in b → a ≡ b
new_apart = result_apart new_in (λ n. n.refusal) (λ n. n.bridge) (λ a. refl) (λ r. refl) (λ a. refl)

pub converted_apart : (a b : conversions.Converted) → converted_in a ≡ converted_in b → a ≡ b
converted_apart a b e =
    let given : Converted → Option Refusal → conversions.Converted = λ t why.
    record { refusal = why; next = t.next; taken = t.taken; reports = t.reports; sent = t.sent; dropped = t.dropped } in
    ap₂ given e (if_apart a.refusal b.refusal (ap (λ (t : Converted). t.refusal) e))
