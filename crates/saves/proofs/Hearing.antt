-- What a watch tells over reports is how often each button went down in them.
use Prim.Native.Nat.{ℕ, suc, ◌+◌, ◌≤◌}
use mathlib.Core.Path.{◌≡◌, refl, ◌∙◌, ap, subst}
use mathlib.Core.Bool.{Bool, true, false, not, cond, ◌&&◌}
use mathlib.Core.List.{List, [], ◌∷◌}
use native.Mathlib.Omega.{arith}
use Rattle.numbers.specs.Bits.{bit}
use Rattle.numbers.proofs.Rows.{bit_in}
use Rattle.wire.specs.Buttons.{Button, left, middle, right, is_down, presses, presses_from, presses_among}
use Rattle.wire.specs.declared.Report.{Report}
use Rattle.saves.specs.State.{watching, unaware}
use Rattle.saves.specs.Rules.{is_new, new_in, hears, heard_of}
use Rattle.saves.specs.Promises.{HeardAll, times_down}
use Rattle.saves.specs.declared.Told.{Told}

-- a button is among those that are new where it is down and was not
pub is_new_lem : (button : Button) (now was : ℕ) → is_down button (new_in now was) ≡ is_new button now was
unfolding new_in
is_new_lem left now was = bit_in [] (is_new left now was) (is_new middle now was ∷ is_new right now was ∷ [])
is_new_lem middle now was = bit_in (is_new left now was ∷ []) (is_new middle now was) (is_new right now was ∷ [])
is_new_lem right now was = bit_in (is_new left now was ∷ is_new middle now was ∷ []) (is_new right now was) []

pub went_down : (button : Button) (n : ℕ) (r : Report) → is_down button (heard_of (watching n) r).down ≡ is_new button r.buttons n
unfolding hears
went_down button n r = is_new_lem button r.buttons n

pub none_told : (button : Button) (r : Report) → is_down button (heard_of unaware r).down ≡ false
unfolding hears bit
none_told left r = refl
none_told middle r = refl
none_told right r = refl

pub heard_known : (button : Button) (n : ℕ) (reports : List Report) (told : List Told) → HeardAll (watching n) reports told
    → times_down button told ≡ presses_from (is_down button) n reports
unfolding HeardAll times_down presses hears
heard_known button n [] [] h = refl
heard_known button n [] (t ∷ told) h = absurd h
heard_known button n (r ∷ reports) [] h = absurd h
heard_known button n (r ∷ reports) (t ∷ told) h =
    let d : is_down button t.down ≡ is_new button r.buttons n = ap (λ (x : Told). is_down button x.down) h.0 ∙ went_down button n r in
    let rest = heard_known button r.buttons reports told (subst (λ (x : Told). HeardAll x.next reports told) h.0 h.1) in
    rw (d, rest)

pub heard_fresh : (button : Button) (reports : List Report) (told : List Told) → HeardAll unaware reports told
    → times_down button told ≡ presses_among (is_down button) reports
unfolding HeardAll times_down presses hears
heard_fresh button [] [] h = refl
heard_fresh button [] (t ∷ told) h = absurd h
heard_fresh button (r ∷ reports) [] h = absurd h
heard_fresh button (r ∷ reports) (t ∷ told) h =
    let d : is_down button t.down ≡ false = ap (λ (x : Told). is_down button x.down) h.0 ∙ none_told button r in
    let rest = heard_known button r.buttons reports told (subst (λ (x : Told). HeardAll x.next reports told) h.0 h.1) in
    rw d (omega (arith, rest))

-- a fresh watch misses one press at most
pub fresh_near : (down : ℕ → Bool) (u : ℕ) (reports : List Report) → (presses_among down reports ≤ presses_from down u reports) × (presses_from down u reports ≤ suc (presses_among down reports))
unfolding presses
fresh_near down u [] = (omega arith, omega arith)
fresh_near down u (r ∷ reports) = go (down r.buttons) (down u) (presses_from down r.buttons reports)
  where
    go : (s t : Bool) (n : ℕ) → (n ≤ cond (s && not t) 1 0 + n) × (cond (s && not t) 1 0 + n ≤ suc n)
    go true true n = (omega arith, omega arith)
    go true false n = (omega arith, omega arith)
    go false true n = (omega arith, omega arith)
    go false false n = (omega arith, omega arith)
