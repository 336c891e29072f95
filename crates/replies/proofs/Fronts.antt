-- The reply at the front of a line, word by word.
use Rattle.std.proofs.Common.{None}
use Prim.Native.Nat.{ℕ, suc, ◌+◌, ◌%◌, ◌<◌, ◌≤◌}
use mathlib.Core.Path.{◌≡◌, ap}
use mathlib.Core.Bool.{true, false}
use mathlib.Core.List.{List, [], ◌∷◌}
use native.Mathlib.Nat.{mod-eq_of_lt, add-zero}
use native.Mathlib.Numerals.{add-one}
use native.Mathlib.Omega.{arith}
use lib.ListN.{length, get_or, drop, drop_of_length-le}
use lib.Seq.{drop-cons}
use lib.Dec.{leb}
use borrow.Author.Tests.{leb-true}
use Rattle.numbers.proofs.Choices.{cases}
use Rattle.numbers.proofs.Tested.{left}
use Rattle.replies.specs.Replying.{nothing, fitting, finishes, more, told}
use Rattle.replies.specs.Rules.{continues}
use Rattle.replies.specs.Fronts.{front, ahead, front_of}
use Rattle.replies.specs.declared.Awaited.{Awaited}
use Rattle.replies.specs.declared.Front.{Front}

-- a word that is a byte
pub byte_same : (a : Awaited) (w : ℕ) → continues a w ≡ true → w % 256 ≡ w
byte_same a w e = mod-eq_of_lt (omega (arith, leb-true w 255 (left (leb w 255) (fitting a w) e)))

module _ (a : Awaited) (words : List ℕ) (at : ℕ) where
  abbrev next : ℕ
  next = get_or words at 0

  -- the rest of the line has a first word, which is not the reply's, or its last byte, or one before it
  pub not_its : at < length words → continues a next ≡ false → ahead at (front_of a (drop at words)) ≡ front a at None
  unfolding front_of
  not_its h e = rw (drop-cons words at 0 h, e, add-zero at)

  pub its_last : at < length words → continues a next ≡ true → finishes a ≡ true → ahead at (front_of a (drop at words)) ≡ front nothing (at + 1) (told a next)
  unfolding front_of
  its_last h e f = rw (drop-cons words at 0 h, e, f)

  pub its_next : at < length words → continues a next ≡ true → finishes a ≡ false
      → ahead at (front_of a (drop at words)) ≡ ahead (at + 1) (front_of (more a next) (drop (at + 1) words))
  unfolding front_of
  its_next h e f =
      let later = front_of (more a next) (drop (suc at) words) in
      let n : at + (1 + later.taken) ≡ suc at + later.taken = omega arith in
      rw (drop-cons words at 0 h, e, f, add-one at) (ap (λ (k : ℕ). front later.awaited k later.reply) n)

  -- or none
  pub no_more : length words ≤ at → ahead at (front_of a (drop at words)) ≡ front a at None
  unfolding front_of
  no_more h = rw (drop_of_length-le words h, add-zero at)

-- it is no longer than the line
pub front_within : (words : List ℕ) (a : Awaited) → (front_of a words).taken ≤ length words
unfolding front_of
front_within [] a = omega arith
front_within (w ∷ words) a =
    let later : (front_of (more a w) words).taken ≤ length words = front_within words (more a w) in
    cases (λ (f : Front). f.taken ≤ suc (length words)) (continues a w)
    (λ _. cases (λ (f : Front). f.taken ≤ suc (length words)) (finishes a) (λ _. omega arith) (λ _. omega (arith, later))) (λ _. omega arith)
