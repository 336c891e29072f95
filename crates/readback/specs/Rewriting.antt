-- A listing rewritten at the other width, line by line: "A listing rewritten at the other width shows the same items."
use Rattle.std.specs.Prelude.{ℕ, Bool, true, cond, List, leb, eqb, length, Option, None, Some}
use Rattle.fold.specs.Fold.{MachineOver, written}
use Rattle.wire.specs.Numbers.{success}
use Rattle.listing.specs.Scanning.{most_at, width}
use Rattle.listing.specs.Printing.{line_at}
use Rattle.listing.specs.declared.Item.{Item}
use Rattle.listing.specs.declared.Item.TheVariants as item
use Rattle.readback.specs.Steps.{old_width, of_salvage}
use Rattle.readback.specs.Pieces.{faulty_line, reads, Whole, OverLines}
use Rattle.readback.specs.declared.Readback.{Readback}
use Rattle.readback.specs.declared.Rewritten.{Rewritten}

-- the other of the two widths
abbrev pub other_width : ℕ → ℕ
other_width w = cond (eqb w width) old_width width

-- 15: "a number that doesn't fit the width"
abbrev pub too_wide : ℕ
too_wide = 15

-- whether the number of an item's line, if it has one, fits a width
abbrev pub fits_at : ℕ → Item → Bool
fits_at w (item.R n b x y) = leb n (most_at w)
fits_at w (item.D n k) = leb n (most_at w)
fits_at w (item.H k) = true
fits_at w (item.E n) = leb n (most_at w)
fits_at w item.Over = true

abbrev pub given_fits : ℕ → Option Item → Bool
given_fits w None = true
given_fits w (Some i) = fits_at w i

-- the width at which a line is rewritten that is taken: the other one
abbrev pub width_behind : Readback → List ℕ → ℕ
width_behind r l = other_width (reads.next r l).width

-- the reader as a machine over lines, each of which is taken with its line at the other width, of the same letter; it is faulty, 7, before it does not fit, 15
abbrev pub rewrites : MachineOver (List ℕ) Readback (List ℕ) ℕ
rewrites =
    record {
      refusal =
          λ r l. cond (eqb (reads.refusal r l) success) (cond (given_fits (width_behind r l) (reads.answer r l)) success too_wide) faulty_line;
      next = λ r l. reads.next r l;
      answer = λ r l. line_at (of_salvage (reads.next r l)) (width_behind r l) (reads.answer r l);
      writes = λ text. text;
    }

-- `rewrite`: the lines at the other width, byte by byte
abbrev pub rewrite_lines : OverLines (List ℕ) ℕ
rewrite_lines = record { machine = rewrites; count = λ texts. length (written rewrites texts); places = λ n. n }

abbrev pub rewritten : ℕ → Readback → ℕ → ℕ → ℕ → Rewritten
rewritten refusal next taken count line = record { refusal = refusal; next = next; taken = taken; written = count; line = line }

abbrev pub rewriting : Rewritten → List ℕ → Whole ℕ
rewriting t out = record { refusal = t.refusal; next = t.next; taken = t.taken; count = t.written; line = t.line; out = out }
