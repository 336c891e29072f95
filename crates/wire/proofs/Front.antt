-- The size of a report, and its bytes as the first of a list.
use Prim.Native.Nat.{ℕ, ◌≤◌, ◌<◌}
use mathlib.Core.Path.{◌≡◌, refl}
use mathlib.Core.List.{List}
use native.Mathlib.Omega.{arith}
use lib.ListN.{get_or, take}
use Rattle.wire.specs.Line.{size_of}
use Rattle.wire.specs.Reading.{report_of}
use Rattle.wire.specs.Table.{five, bytes_of, bytes_s, bytes_v, rows_v, bytes_a, bytes_b, rows_a, bytes_u, bytes_t, bytes_w, rows_w}
use Rattle.wire.specs.declared.Report.{Report}
use Rattle.wire.specs.declared.Format.{Format}
use Rattle.wire.specs.declared.Format.TheVariants.{Mm, Microsoft, Absolute, Relative, FiveByte, ThreeByte, Hexadecimal}

-- a report has three to five bytes
pub size_between : (f : Format) → (3 ≤ size_of f) × (size_of f ≤ 5)
size_between Mm = (omega arith, omega arith)
size_between Microsoft = (omega arith, omega arith)
size_between Absolute = (omega arith, omega arith)
size_between Relative = (omega arith, omega arith)
size_between FiveByte = (omega arith, omega arith)
size_between ThreeByte = (omega arith, omega arith)
size_between Hexadecimal = (omega arith, omega arith)

pub size_small : (f : Format) → size_of f ≤ 5
size_small f = (size_between f).1

-- the first of the five that a program makes
pub front : (f : Format) (r : Report) → take (size_of f) (five (bytes_of f r)) ≡ bytes_of f r
unfolding bytes_s bytes_v rows_v bytes_a bytes_b rows_a bytes_u bytes_t bytes_w rows_w
front Mm r = refl
front Microsoft r = refl
front Absolute r = refl
front Relative r = refl
front FiveByte r = refl
front ThreeByte r = refl
front Hexadecimal r = refl

-- a report is told by the first bytes of a list, as many as the size
pub same_front : (f : Format) (l m : List ℕ) → ((i : ℕ) → i < size_of f → get_or l i 0 ≡ get_or m i 0) → report_of f l ≡ report_of f m
same_front Mm l m h = rw (h 0 (omega arith), h 1 (omega arith), h 2 (omega arith))
same_front Microsoft l m h = rw (h 0 (omega arith), h 1 (omega arith), h 2 (omega arith))
same_front Absolute l m h = rw (h 0 (omega arith), h 1 (omega arith), h 2 (omega arith), h 3 (omega arith), h 4 (omega arith))
same_front Relative l m h = rw (h 0 (omega arith), h 1 (omega arith), h 2 (omega arith), h 3 (omega arith), h 4 (omega arith))
same_front FiveByte l m h = rw (h 0 (omega arith), h 1 (omega arith), h 2 (omega arith), h 3 (omega arith), h 4 (omega arith))
same_front ThreeByte l m h = rw (h 0 (omega arith), h 1 (omega arith), h 2 (omega arith))
same_front Hexadecimal l m h = rw (h 0 (omega arith), h 1 (omega arith), h 2 (omega arith), h 3 (omega arith), h 4 (omega arith))
