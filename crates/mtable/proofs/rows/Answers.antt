use borrow.Author.Rules.{rules}
use native.Mathlib.Omega.{arith}
use Prim.Native.Nat.{ℕ, ◌+◌, ◌*◌, ◌≤◌}
use mathlib.Core.Path.{◌≡◌, refl, sym, ◌∙◌, ap}
use mathlib.Core.List.{List, [], ◌∷◌, ◌++◌, append_assoc}
use lib.IntN.{pos}
use lib.ListN.{length, take, get_or}
use lib.Seq.{take_all}
use mir.Syntax.{w32}
use mir.Val.{to_z, of_z}
use Rattle.listing.specs.Lines.{newline}
use Rattle.listing.specs.declared.Item.{Item}
use Rattle.mtable.specs.Table.{row_of, rows_of}
use Rattle.mtable.proofs.Lines.{as_many, n, five_as, this_five, this_few, this_text, one_more_lem, put_len, put_so}
use Rattle.mtable.proofs.rows.Goals as goal

pub returns : goal.returns
returns c is a =
    let l = c.loop-i in
    let all : take l.i is ≡ is = take_all l.i is (omega (arith, as_many c.args.count c.args.items.now is a, c.loop-i-test.false)) in
    record {
      there = omega (arith, (l.invariant.1 is a).0, l.invariant.0, c.requires.count_in_bounds, l.auto.i-end);
      so = (l.invariant.1 is a).1 ∙ ap (λ (k : List Item). take c.args.at c.args.out.now ++ rows_of k) all;
    }

pub overflow_add-to : goal.overflow_add-to
overflow_add-to c =
    let l = c.loop-i in
    let y = c.loop-i-test.true in
    let count = c.args.count in
    let items = c.args.items.now in
    let from = 5 * l.i in
    let with = c.with-line in
    let put = c.put in
    let same0 : to_z w32 (of_z w32 (get_or items (from) (pos 0))) ≡ get_or items (from) (pos 0) = search rules in
    let same1 : to_z w32 (of_z w32 (get_or items (from + 1) (pos 0))) ≡ get_or items (from + 1) (pos 0) = search rules in
    let same2 : to_z w32 (of_z w32 (get_or items (from + 2) (pos 0))) ≡ get_or items (from + 2) (pos 0) = search rules in
    let same3 : to_z w32 (of_z w32 (get_or items (from + 3) (pos 0))) ≡ get_or items (from + 3) (pos 0) = search rules in
    let same4 : to_z w32 (of_z w32 (get_or items (from + 4) (pos 0))) ≡ get_or items (from + 4) (pos 0) = search rules in
    let is = c.requires.among.0 in
    let a = c.requires.among.1 in
    let this = n count items is a l.i y in
    let line = row_of this.this ++ newline ∷ [] in
    let text = this_text count items is a l.i y c.row.result with.result (c.row.ensures this.this (five_as this.this same0 same1 same2 same3 same4 (this_five count items is a l.i y from refl))) with.ensures in
    let few = this_few count items is a l.i y in
    let room : l.to + 40 ≤ length l.out = omega (arith, (l.invariant.1 is a).0, l.invariant.0, c.requires.count_in_bounds, y) in
    record { fits = omega (arith, put_len line with.result l.to l.out put.new.out put.result few text room put.ensures, few, room, c.well_formed) }

pub loop-i-preserved : goal.loop-i-preserved
loop-i-preserved c =
    let l = c.loop-i in
    let y = c.loop-i-test.true in
    let count = c.args.count in
    let items = c.args.items.now in
    let from = 5 * l.i in
    let with = c.with-line in
    let put = c.put in
    let same0 : to_z w32 (of_z w32 (get_or items (from) (pos 0))) ≡ get_or items (from) (pos 0) = search rules in
    let same1 : to_z w32 (of_z w32 (get_or items (from + 1) (pos 0))) ≡ get_or items (from + 1) (pos 0) = search rules in
    let same2 : to_z w32 (of_z w32 (get_or items (from + 2) (pos 0))) ≡ get_or items (from + 2) (pos 0) = search rules in
    let same3 : to_z w32 (of_z w32 (get_or items (from + 3) (pos 0))) ≡ get_or items (from + 3) (pos 0) = search rules in
    let same4 : to_z w32 (of_z w32 (get_or items (from + 4) (pos 0))) ≡ get_or items (from + 4) (pos 0) = search rules in
    let after = put.new.out in
    let start = take c.args.at c.args.out.now in
    let same : length after ≡ length l.out = search rules in (
      same ∙ l.invariant.0,
      λ is a.
          let this = n count items is a l.i y in
          let line = row_of this.this ++ newline ∷ [] in
          let text = this_text count items is a l.i y c.row.result with.result (c.row.ensures this.this (five_as this.this same0 same1 same2 same3 same4 (this_five count items is a l.i y from refl))) with.ensures in
          let few = this_few count items is a l.i y in
          let room : l.to + 40 ≤ length l.out = omega (arith, (l.invariant.1 is a).0, l.invariant.0, c.requires.count_in_bounds, y) in (
            omega (arith, (l.invariant.1 is a).0, put_len line with.result l.to l.out after put.result few text room put.ensures, few),
            put_so line with.result l.to l.out after put.result few text room put.ensures ∙ ap (λ (k : List ℕ). k ++ line) (l.invariant.1 is a).1
                ∙ append_assoc start (rows_of (take l.i is)) line ∙ ap (λ (k : List ℕ). start ++ k) (sym (one_more_lem count items is a l.i y (l.i + 1) refl)),
          ),
    )
