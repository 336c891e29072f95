-- A word leaves a good bridge good.
use Prim.Native.Nat.{ℕ}
use mathlib.Core.Path.{◌≡◌, refl, ◌∙◌, ap}
use mathlib.Core.Bool.{true}
use borrow.Author.Tests.{eqb-true}
use Rattle.numbers.proofs.Choices.{cases}
use Rattle.numbers.proofs.Tested.{left, right}
use Rattle.wire.specs.Line.{letter_of, named_by}
use Rattle.wire.specs.declared.Report.{Report}
use Rattle.wire.specs.declared.Format.TheVariants.{Absolute}
use Rattle.wire.proofs.Letters.{letter_named}
use Rattle.wire.proofs.Codec.Accepted.{parts}
use Rattle.reader.specs.Good as reader
use Rattle.reader.specs.Rules.{word_of}
use Rattle.reader.specs.declared.Answer.{Answer}
use Rattle.reader.specs.declared.Answer.TheVariants as answer
use Rattle.reader.proofs.Word.{word_format}
use Rattle.reader.proofs.Keeps.{word_good}
use Rattle.reader.proofs.Back.{reported, reported_accepted}
use Rattle.bridge.specs.Remembered.{is_a, base_at, noted, good_base}
use Rattle.bridge.specs.Good.{good}
use Rattle.bridge.specs.Line.{past_for, behind}
use Rattle.bridge.specs.declared.Base.{Base}
use Rattle.bridge.specs.declared.Bridge.{Bridge}

module _ (b : Bridge) where
  abbrev letter : ℕ
  letter = b.reader.format

  module _ (g : good b ≡ true) where
    pub good_reader : reader.good b.reader ≡ true
    unfolding good
    good_reader = left (reader.good b.reader) (good_base letter b.past.base) g

    pub good_base_lem : good_base letter b.past.base ≡ true
    unfolding good
    good_base_lem = right (reader.good b.reader) (good_base letter b.past.base) g

    -- the position of a report of A is a good base
    placed_good : (w : ℕ) (p : Report) → (word_of b.reader w).answer ≡ answer.Report p → is_a letter ≡ true → good_base letter (base_at p.x1 p.y1) ≡ true
    unfolding good_base
    placed_good w p a e =
        let named = ap named_by (eqb-true letter (letter_of Absolute) e) ∙ letter_named Absolute in
        let held = (parts Absolute p (reported_accepted (reported b.reader w p Absolute good_reader named a))).moved in
        rw (e, held.x, held.y)

    past_good : (w : ℕ) (a : Answer) → (word_of b.reader w).answer ≡ a → good_base letter (past_for letter b.past a).base ≡ true
    unfolding noted
    past_good w answer.Nothing e = good_base_lem
    past_good w (answer.Report p) e = cases (λ (base : Base). good_base letter base ≡ true) (is_a letter) (placed_good w p e) (λ _. good_base_lem)
    past_good w (answer.Dropped k) e = good_base_lem

    pub word_keeps : (w : ℕ) → good (behind b (word_of b.reader w)) ≡ true
    unfolding good
    word_keeps w = rw (word_good b.reader good_reader w, word_format b.reader w) (past_good w (word_of b.reader w).answer refl)
