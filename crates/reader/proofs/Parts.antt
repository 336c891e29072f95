-- What a good reader has, part by part.
use native.Mathlib.Omega.{arith}
use Prim.Native.Nat.{ℕ, ◌<◌}
use mathlib.Core.Path.{◌≡◌, refl, sym, ◌∙◌, ap}
use mathlib.Core.Bool.{Bool, true, false, ◌&&◌}
use lib.ListN.{length, get_or, replicate, get_or-replicate}
use lib.Seq.{ext_get_or}
use lib.Dec.{eqb}
use borrow.Author.Tests.{ltb-true, lt-ltb, le-ltb, eqb-true, eq-eqb, ne_eqb}
use Rattle.wire.proofs.Letters.{at_most_five}
use Rattle.numbers.proofs.Tested.{holds, left, right, each_at, each_of}
use Rattle.wire.specs.Line.{named_by, size_by, marked_by, known}
use Rattle.numbers.specs.Tests.{each}
use Rattle.reader.specs.Good.{below_size, placed, all_placed, awaits_rightly, good}
use Rattle.reader.specs.Parts.{Sized}
use Rattle.reader.specs.declared.Reader.{Reader}

pub record Parts (r : Reader) : Type 0 where
  pub of_known : known r.format ≡ true
  pub below : r.count < size_by r.format
  pub five : length r.kept ≡ 5
  pub places : (i : ℕ) → i < 5 → placed r i (get_or r.kept i 0) ≡ true
  pub awaits : awaits_rightly r ≡ true

pub parts : (r : Reader) → good r ≡ true → Parts r
unfolding good
parts r g =
    let three = left (known r.format && below_size r && all_placed r) (awaits_rightly r) g in
    let two = left (known r.format && below_size r) (all_placed r) three in
    let all = right (known r.format && below_size r) (all_placed r) three in
    let test : ℕ → Bool = λ i. placed r i (get_or r.kept i 0) in
    record {
      of_known = left (known r.format) (below_size r) two;
      below = ltb-true _ _ (right (known r.format) (below_size r) two);
      five = eqb-true _ _ (left (eqb (length r.kept) 5) (each test 5) all);
      places = each_at test 5 (right (eqb (length r.kept) 5) (each test 5) all);
      awaits = right (known r.format && below_size r && all_placed r) (awaits_rightly r) g;
    }

pub made : (r : Reader) → Parts r → good r ≡ true
unfolding good
made r p =
    let test : ℕ → Bool = λ i. placed r i (get_or r.kept i 0) in
    rw (p.of_known, lt-ltb _ _ p.below, eq-eqb _ _ p.five, each_of test 5 p.places) p.awaits

pub below_size_lem : (r : Reader) → good r ≡ true → r.count < size_by r.format
below_size_lem r g = (parts r g).below

-- there is a place for one more byte
pub one_more_lem : (r : Reader) → good r ≡ true → r.count < length r.kept
one_more_lem r g = let p = parts r g in omega (arith, p.below, p.five, at_most_five r.format)

-- a good reader that has no bytes has five zeros
pub zeros : (r : Reader) → good r ≡ true → r.count ≡ 0 → r.kept ≡ replicate 5 0
unfolding placed
zeros r g z =
    let p = parts r g in
    ext_get_or 0 r.kept (replicate 5 0) p.five
    (λ i h. eqb-true (get_or r.kept i 0) 0 (rw (le-ltb i r.count (omega arith)) at (p.places i (omega (arith, p.five)))) ∙ sym (get_or-replicate 5 i 0 0 (omega (arith, p.five))))

-- each letter's size and mark, in the order of the table
pub sizes : (size_by 0x53 ≡ 3) × (size_by 0x56 ≡ 3) × (size_by 0x41 ≡ 5) × (size_by 0x42 ≡ 5) × (size_by 0x55 ≡ 5) × (size_by 0x54 ≡ 3) × (size_by 0x57 ≡ 5)
unfolding size_by named_by
sizes = (refl, refl, refl, refl, refl, refl, refl)

pub marks : (marked_by 0x53 ≡ true) × (marked_by 0x56 ≡ true) × (marked_by 0x41 ≡ true) × (marked_by 0x42 ≡ true) × (marked_by 0x55 ≡ false) × (marked_by 0x54 ≡ false) × (marked_by 0x57 ≡ false)
unfolding marked_by named_by
marks = (refl, refl, refl, refl, refl, refl, refl)

-- a good reader, with what its format says; with its letter; and another of that format
pub sized : {size : ℕ} {marked : Bool} (r : Reader) → good r ≡ true → size ≡ size_by r.format → marked ≡ marked_by r.format → Sized size marked r
sized r g s m = record { sound = g; below = rw s (below_size_lem r g); sized = s; mark = m }

pub lettered : {letter size : ℕ} {marked : Bool} (r : Reader) → good r ≡ true → r.format ≡ letter → size_by letter ≡ size → marked_by letter ≡ marked → (letter ≡ r.format) × Sized size marked r
lettered r g k s m = (sym k, sized r g (sym (ap size_by k ∙ s)) (sym (ap marked_by k ∙ m)))

pub stays_sized : {size : ℕ} {marked : Bool} {r u : Reader} → Sized size marked r → good u ≡ true → u.format ≡ r.format → Sized size marked u
stays_sized {u = u} s g e = sized u g (rw e s.sized) (rw e s.mark)

-- the format of a good reader is one of the seven
pub one_of_seven : (r : Reader) → good r ≡ true → (r.format ≡ 0x53 → ⊥) → (r.format ≡ 0x56 → ⊥) → (r.format ≡ 0x41 → ⊥) → (r.format ≡ 0x42 → ⊥) → (r.format ≡ 0x55 → ⊥) → (r.format ≡ 0x54 → ⊥) → (r.format ≡ 0x57 → ⊥) → ⊥
unfolding known named_by
one_of_seven r g s v a b u t w =
    let none : known r.format ≡ false = simp (ne_eqb _ _ s, ne_eqb _ _ v, ne_eqb _ _ a, ne_eqb _ _ b, ne_eqb _ _ u, ne_eqb _ _ t, ne_eqb _ _ w) in
    holds (sym none ∙ (parts r g).of_known)
