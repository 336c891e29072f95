-- The fields of an item, by its case.
use borrow.Author.Rules.{rules}
use native.Mathlib.Omega.{arith}
use mathlib.Core.Path.{◌≡◌, ◌∙◌}
use mir.Syntax.{w64}
use mir.Val.{to_z, of_z}
use mir.Facts.{to_z_pos}
use Rattle.listing.proofs.Grown.{filled_append}
use Rattle.listing.proofs.printing.fields.Goals as goal

pub returns-in-D : goal.returns-in-D
returns-in-D c = c.dropped.ensures ∙ rw c.in-D.is

pub returns-in-R : goal.returns-in-R
returns-in-R c = let r = c.in-R in
    let x : to_z w64 (of_z w64 r.x) ≡ r.x = search rules in
    let y : to_z w64 (of_z w64 r.y) ≡ r.y = search rules in
    c.reported.ensures ∙ rw (x, y, r.is)

pub returns-in-H : goal.returns-in-H
returns-in-H c = let i = c.in-H in
    simp (filled_append, c.in-H.is, c.number.ensures, c.byte_to-first.ensures, to_z_pos w64 {n = i.k} (omega arith))

pub returns-in-E : goal.returns-in-E
returns-in-E c = let i = c.in-E in
    simp (filled_append, c.in-E.is, c.number-in-E.ensures, c.byte_to-first-in-E.ensures, to_z_pos w64 {n = i.n} (omega arith))

pub returns-in-Over : goal.returns-in-Over
returns-in-Over c = c.over.ensures ∙ rw (c.byte_to-first-in-Over.ensures, c.in-Over.is)
