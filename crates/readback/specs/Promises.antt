-- What is promised of `Readback::fresh`, `Readback::read`, `Readback::finish` and `Readback::rewrite`: for every
-- argument one answer, and every number of the slice.
use Rattle.std.specs.Prelude.{ℕ, ◌+◌, ◌≡◌, cond, ◌&&◌, List, eqb, ℤ}
use Rattle.wire.specs.Numbers.{success, bad_state}
use Rattle.readback.specs.Steps.{fresh, good, has_ended}
use Rattle.readback.specs.Pieces.{faulty_line, back, Whole, whole, read_lines, call_of}
use Rattle.readback.specs.Rewriting.{rewriting, rewrite_lines}
use Rattle.readback.specs.declared.Readback.{Readback}
use Rattle.readback.specs.declared.Rewritten.{Rewritten}
use Rattle.readback.specs.declared.Back.{Back}

-- "a state that breaks the rules below", 6: "A refusal returns the old state [..] and counts of 0", and the slice is as it was
abbrev pub refused : Readback → Back
refused r = back bad_state r 0 0 0

-- `Readback::fresh()`
abbrev pub FreshPromise : Readback → Type 0
FreshPromise answer = answer ≡ fresh

-- `Readback::read(self, input, out)`
abbrev pub read_of : Readback → List ℕ → List ℤ → Whole ℤ
read_of = call_of read_lines

abbrev pub ReadPromise : Readback → List ℕ → List ℤ → Back → List ℤ → Type 0
ReadPromise r input before answer after = whole answer after ≡ read_of r input before

-- `Readback::finish(self, left)`: "an end before either" is told at the line that is missing, and so is a last line without its newline
unfoldable pub finish_of : Readback → ℕ → Back
finish_of r left =
    cond (good r) (cond (has_ended r && eqb left 0) (back success r 0 0 0) (back faulty_line r 0 0 (r.lines + 1))) (refused r)

abbrev pub FinishPromise : Readback → ℕ → Back → Type 0
FinishPromise r left answer = answer ≡ finish_of r left

-- `Readback::rewrite(self, input, out)`
abbrev pub rewrite_of : Readback → List ℕ → List ℕ → Whole ℕ
rewrite_of = call_of rewrite_lines

abbrev pub RewritePromise : Readback → List ℕ → List ℕ → Rewritten → List ℕ → Type 0
RewritePromise r input before answer after = rewriting answer after ≡ rewrite_of r input before
