-- `answer_to`: by the sign of the number.
use borrow.Author.Rules.{rules}
use native.Mathlib.Omega.{arith}
use mathlib.Core.Path.{◌≡◌, sym, ◌∙◌, ap}
use Prim.Native.Nat.{ℕ}
use mathlib.Core.List.{List, [], ◌∷◌, ◌++◌}
use lib.IntN.{pos}
use lib.ListN.{get_or}
use mir.Syntax.{w16, w64}
use mir.Val.{to_z, of_z}
use Rattle.text.specs.Growth.{slice, filled_by}
use Rattle.listing.specs.Lines.{newline}
use Rattle.listing.specs.Scanning.{width}
use Rattle.listing.specs.Printing.{form_of, head_of}
use Rattle.listing.specs.Batches.{plain_of}
use Rattle.listing.specs.declared.Item.{Item}
use Rattle.listing.specs.declared.Item.TheVariants.{D}
use Rattle.listing.proofs.Carried.{dropped_stamped, reported_stamped}
use Rattle.listing.proofs.Telling.{dropped_line, reported_line, no_line}
use Rattle.listing.proofs.batches.answer_to.Goals as goal

-- the line of an item
abbrev line : Item → List ℕ
line i = head_of width (form_of i) ++ newline ∷ []

pub returns-then-number-gt0 : goal.returns-then-number-gt0
returns-then-number-gt0 c =
    let a = c.args in let same : to_z w16 (of_z w16 (get_or a.told.now a.from (pos 0))) ≡ get_or a.told.now a.from (pos 0) = search rules in
    let number = same in
    let k = c.plain in
    let d = c.dropped.ensures in (
      λ n e h. d.0.text
          ∙ ap (filled_by (slice a.out.now a.at))
          (dropped_stamped a.stamp n e (omega (arith, h)) k.result ∙ ap (λ (m : ℕ). line (D n m)) (k.ensures ∙ ap plain_of number) ∙ sym (dropped_line a.letter n a.told.now a.from (rw number at c.if-number-gt0.true))),
      d.1,
    )

pub reported-requires : goal.reported-requires
reported-requires c = let m = c.moved-m in
    let x : to_z w64 (of_z w64 m.result.x) ≡ m.result.x = search rules in
    let y : to_z w64 (of_z w64 m.result.y) ≡ m.result.y = search rules in
    rw (x, y) (c.requires.0, m.ensures.1, m.ensures.2)

pub returns-then-number-lt0 : goal.returns-then-number-lt0
returns-then-number-lt0 c =
    let a = c.args in let same : to_z w16 (of_z w16 (get_or a.told.now a.from (pos 0))) ≡ get_or a.told.now a.from (pos 0) = search rules in
    let number = same in
    let m = c.moved-m in
    let x : to_z w64 (of_z w64 m.result.x) ≡ m.result.x = search rules in
    let y : to_z w64 (of_z w64 m.result.y) ≡ m.result.y = search rules in
    let d = rw (x, y) at c.reported.ensures in
    let none = rw number at c.if-number-gt0.false in
    let less = rw number at c.if-number-lt0.true in (
      λ n e h. d.0.text
          ∙ ap (filled_by (slice a.out.now a.at))
          (reported_stamped a.stamp n e (omega (arith, h)) m.result.buttons m.result.x m.result.y ∙ ap line (m.ensures.0 n) ∙ sym (reported_line a.letter n a.told.now a.from none less)),
      d.1,
    )

pub returns : goal.returns
returns c =
    let a = c.args in let same : to_z w16 (of_z w16 (get_or a.told.now a.from (pos 0))) ≡ get_or a.told.now a.from (pos 0) = search rules in
    let number = same in
    (λ n e h. sym (ap (filled_by (slice a.out.now a.at)) (no_line a.letter n a.told.now a.from (rw number at c.if-number-gt0.false) (rw number at c.if-number-lt0.false))), omega arith)
