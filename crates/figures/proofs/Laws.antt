-- What the functions' proofs share: a fresh reader's count.
use Prim.Native.Nat.{ℕ}
use mathlib.Core.Path.{◌≡◌, refl}
use Rattle.numbers.proofs.Choices.{cases}
use Rattle.wire.specs.Line.{known}
use Rattle.reader.specs.Promises.{FreshPromise, fresh_of}
use Rattle.reader.specs.State.{NewReader}

-- a fresh reader has kept nothing
pub none_kept : (letter : ℕ) (a : NewReader) → FreshPromise letter a → a.reader.count ≡ 0
unfolding fresh_of
none_kept letter a e = rw e (cases (λ (x : NewReader). x.reader.count ≡ 0) (known letter) (λ _. refl) (λ _. refl))
