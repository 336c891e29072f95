-- The items of a listing: their line numbers go up, their other numbers have four digits at most, and the last item, and no other, is an `H` or an `E`.
use Prim.Native.Nat.{ℕ, ◌+◌, ◌<◌, ◌≤◌, ◌^◌}
use mathlib.Core.Path.{◌≡◌, refl}
use mathlib.Core.Bool.{true, cond}
use mathlib.Core.List.{List, [], ◌∷◌, ◌++◌}
use native.Mathlib.Omega.{arith}
use lib.Dec.{leb, eqb}
use lib.IntN.{nat_abs}
use borrow.Author.Tests.{leb-false, eqb-true}
use Rattle.numbers.proofs.Choices.{cases}
use Rattle.wire.specs.Line.{named_by, known}
use Rattle.reader.specs.Good as reader
use Rattle.reader.specs.Promises.{fresh_of, step_of}
use Rattle.reader.specs.declared.Reader.{Reader}
use Rattle.reader.specs.declared.Answer.{Answer}
use Rattle.reader.specs.declared.Answer.TheVariants as answer
use Rattle.reader.proofs.Goodness as read
use Rattle.listing.specs.Lines.{lines_in, said_by}
use Rattle.listing.specs.Scanning.{most_at, on_line, line_in, ends, found_in}
use Rattle.listing.specs.Items.{answer_given, gave_of, items_in, items_from}
use Rattle.listing.specs.Listing.{waiting, items_at}
use Rattle.listing.specs.declared.Line.{Line}
use Rattle.listing.specs.declared.Line.TheVariants as line
use Rattle.listing.specs.declared.Found.{Found}
use Rattle.listing.specs.declared.Found.TheVariants as found
use Rattle.listing.specs.declared.Item.{Item}
use Rattle.listing.specs.declared.Item.TheVariants as item
use Rattle.listing.proofs.Small.{Small, few_kept, small_step}

-- a number of a line behind the last one
abbrev pub Next : ℕ → ℕ → ℕ → Type 0
Next most last n = (last < n) × (n ≤ most)

abbrev pub Ordered : ℕ → ℕ → List Item → Type 0
Ordered most last [] = ⊥
Ordered most last (item.R n b x y ∷ is) = Next most last n × (nat_abs x < 10 ^ 4) × (nat_abs y < 10 ^ 4) × Ordered most n is
Ordered most last (item.D n k ∷ is) = Next most last n × (1 ≤ k) × (k < 10 ^ 4) × Ordered most n is
Ordered most last (item.H k ∷ is) = (k < 10 ^ 4) × (is ≡ [])
Ordered most last (item.E n ∷ is) = Next most last n × (is ≡ [])
Ordered most last (item.Over ∷ is) = is ≡ []

-- what is found on the line behind n others, and then this
module _ (most n last : ℕ) (r : Reader) (low : last ≤ n) (few : n < most) (fs : List Found)
    (later : (r : Reader) → reader.good r ≡ true → (last : ℕ) → last ≤ n + 1 → Ordered most last (items_from r fs)) (g : reader.good r ≡ true) where
  abbrev Goes : Found → Type 0
  Goes f = Ordered most last (items_from r (f ∷ cond (ends f) [] fs))

  bad_goes : Goes (found.Bad (n + 1))
  unfolding items_from gave_of
  bad_goes = ((omega arith, omega arith), refl)

  word_goes : (w : ℕ) → Goes (found.Word (n + 1) w)
  unfolding items_from gave_of
  word_goes w = go (step_of r w).answer (small_step r w)
    where
      next : Reader
      next = (step_of r w).next

      keeps : reader.good next ≡ true
      keeps = (read.step_stays_good r w (step_of r w) g refl).0

      go : (a : Answer) → Small a → Ordered most last (items_in (answer_given r.format (n + 1) a) ++ items_from next fs)
      go answer.Nothing h = later next keeps last (omega arith)
      go (answer.Report p) h = ((omega arith, omega arith), h.0, h.1, later next keeps (n + 1) (omega arith))
      go (answer.Dropped k) h = ((omega arith, omega arith), h.0, h.1, later next keeps (n + 1) (omega arith))

  line_goes : (l : Line) → Goes (on_line n l)
  unfolding items_from gave_of
  line_goes line.Bad = bad_goes
  line_goes (line.Format f) = cases Goes (eqb n 0) (λ _. later (fresh_of f).reader (read.fresh_is_good f (fresh_of f) refl) last (omega arith)) (λ _. bad_goes)
  line_goes (line.Word w) = cases Goes (eqb n 0) (λ _. bad_goes) (λ _. word_goes w)

module _ (w : ℕ) (some : 1 ≤ most_at w) where
  abbrev most : ℕ
  most = most_at w

  from : (ls : List (List ℕ)) (n : ℕ) (r : Reader) → reader.good r ≡ true → (last : ℕ) → last ≤ n → Ordered most last (items_from r (found_in w n ls))
  unfolding found_in items_from gave_of line_in
  from [] n r g last h =
      cases (λ (f : Found). Ordered most last (items_from r (f ∷ []))) (eqb n 0) (λ e. ((omega (arith, eqb-true n 0 e), some), refl)) (λ _. (omega (arith, few_kept r g), refl))
  from (l ∷ ls) n r g last h =
      cases (λ (f : Found). Ordered most last (items_from r (f ∷ cond (ends f) [] (found_in w (n + 1) ls)))) (leb most n) (λ _. refl)
      (λ e. line_goes most n last r h (leb-false most n e) (found_in w (n + 1) ls) (from ls (n + 1)) g (said_by l))

  -- ORDERED: so are the items of every input, at a width that has a number at all
  pub ordered : (input : List ℕ) → Ordered most 0 (items_at w input)
  unfolding fresh_of known named_by
  ordered input = from (lines_in input) 0 waiting (read.fresh_is_good 0x55 (fresh_of 0x55) refl) 0 (omega arith)
