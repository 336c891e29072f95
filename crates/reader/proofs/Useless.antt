-- A useless reader that the promises shut out.
use Prim.Native.Nat.{ℕ, ◌≤◌}
use mathlib.Core.Path.{◌≡◌, refl, ap}
use mathlib.Core.List.{List, [], ◌∷◌}
use native.Mathlib.Omega.{arith}
use lib.ListN.{replicate}
use lib.IntN.{ℤ, pos}
use Rattle.reader.specs.State.{ready}
use Rattle.reader.specs.Line.{Long, reading}
use Rattle.reader.specs.Promises.{ReadPromise, read_of}
use Rattle.reader.specs.declared.Reader.{Reader}
use Rattle.reader.proofs.Computing.{computing}

-- "a long read that reads its first report and skips the rest"
pub skipping_the_rest : (read : Reader → List ℕ → List ℤ → Long)
    → ((r : Reader) (words : List ℕ) (out : List ℤ) → ReadPromise r words out (reading (read r words out)) (read r words out).out)
    → ((r : Reader) (words : List ℕ) (out : List ℤ) → (read r words out).counts.reports ≤ 1)
    → ⊥
unfolding computing
skipping_the_rest read promised skips =
    let words : List ℕ = 0x98 ∷ 0 ∷ 0 ∷ 0x98 ∷ 0 ∷ 0 ∷ [] in
    let out : List ℤ = replicate 10 (pos 0) in
    let two : (read_of (ready 0x53) words out).counts.reports ≡ 2 = refl in
    omega (arith, two, skips (ready 0x53) words out, ap (λ (l : Long). l.counts.reports) (promised (ready 0x53) words out))
