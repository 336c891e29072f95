-- By its kind.
use borrow.Author.Rules.{rules}
use mathlib.Core.Path.{◌≡◌, sym, ◌∙◌, ap}
use mathlib.Core.List.{[], ◌∷◌}
use lib.IntN.{ℤ, pos}
use mir.Syntax.{w32}
use mir.Val.{to_z, of_z}
use Rattle.mtable.specs.Rows.{Five}
use Rattle.mtable.proofs.Commas.{row_r, row_d, row_e}
use Rattle.mtable.proofs.row.Goals as goal

pub returns-in-1 : goal.returns-in-1
returns-in-1 c i e =
    let s = c.args in
    let same_line : to_z w32 (of_z w32 s.line) ≡ s.line = search rules in
    let same_a : to_z w32 (of_z w32 s.a) ≡ s.a = search rules in
    let same_b : to_z w32 (of_z w32 s.b) ≡ s.b = search rules in
    let same_c : to_z w32 (of_z w32 s.c) ≡ s.c = search rules in
    let is : s.kind ≡ pos 1 = search rules in
    let f : Five (pos 1) s.line s.a s.b s.c i = ap (λ (z : ℤ). z ∷ s.line ∷ s.a ∷ s.b ∷ s.c ∷ []) (sym is) ∙ e in
    simp (c.empty.ensures, c.cell-in-1-2.ensures, c.cell-in-1.ensures, same_b, same_c)
    (row_r s.line s.a s.b s.c i f c.pressed.result (λ b q. simp (c.pressed.ensures b (same_a ∙ q), c.cell.ensures, c.with.ensures, c.none-none.ensures, same_line)))

pub returns-in-2 : goal.returns-in-2
returns-in-2 c i e =
    let s = c.args in
    let same_line : to_z w32 (of_z w32 s.line) ≡ s.line = search rules in
    let same_a : to_z w32 (of_z w32 s.a) ≡ s.a = search rules in
    let is : s.kind ≡ pos 2 = search rules in
    let f : Five (pos 2) s.line s.a s.b s.c i = ap (λ (z : ℤ). z ∷ s.line ∷ s.a ∷ s.b ∷ s.c ∷ []) (sym is) ∙ e in
    simp (c.cell-in-2-2.ensures, c.empty-in-2.ensures, c.cell-in-2.ensures, c.with-in-2.ensures, c.none-none.ensures, same_line, same_a) (row_d s.line s.a s.b s.c i f)

pub returns-in-4 : goal.returns-in-4
returns-in-4 c i e =
    let s = c.args in
    let same_line : to_z w32 (of_z w32 s.line) ≡ s.line = search rules in
    let is : s.kind ≡ pos 4 = search rules in
    let f : Five (pos 4) s.line s.a s.b s.c i = ap (λ (z : ℤ). z ∷ s.line ∷ s.a ∷ s.b ∷ s.c ∷ []) (sym is) ∙ e in
    simp (c.empty-in-4.ensures, c.cell-in-4.ensures, c.with-in-4.ensures, c.none-none.ensures, same_line) (row_e s.line s.a s.b s.c i f)
