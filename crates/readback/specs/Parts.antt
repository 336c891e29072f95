-- A part of a piece, taken apart by a machine over lines: where it stands behind it.
use Rattle.std.specs.Prelude.{ℕ, ◌+◌, ◌*◌, ◌<◌, ◌≤◌, ◌≡◌, ◌⊎◌, true, List, [], ℤ, length, take, drop, Option, Some, None, Result, Ok, Err}
use Rattle.fold.specs.Fold.{MachineOver, ran, run, Part}
use Rattle.text.specs.Lengths.{length_to}
use Rattle.listing.specs.Lines.{newline}
use Rattle.readback.specs.Steps.{good, faulty, step_of}
use Rattle.readback.specs.Pieces.{bytes_in, reads, lines_of, fault_at, longest}
use Rattle.readback.specs.Rewriting.{rewrites}
use Rattle.readback.specs.declared.Readback.{Readback}
use Rattle.readback.specs.declared.Front.{Front}
use Rattle.readback.specs.declared.Faulty.{Faulty}
use Rattle.readback.specs.declared.Back.{Back}
use Rattle.readback.specs.declared.Rewritten.{Rewritten}

-- the line at the front of a piece, as it is answered: not whole yet, and not too long; one that may stand there; or a faulty one, too long for any or out of place
abbrev pub Fronts : Readback → List ℕ → Result (Option Front) Faulty → Type 0
Fronts r piece (Ok None) = (length_to newline piece ≡ length piece) × (length piece ≤ longest)
Fronts r piece (Ok (Some f)) =
    (length_to newline piece < length piece)
    × (record { good = true; next = f.next; given = f.given } ≡ step_of r (take (length_to newline piece) piece))
    × (f.taken ≡ length_to newline piece + 1)
Fronts r piece (Err e) =
    ((length_to newline piece ≡ length piece) × (longest < length piece))
    ⊎ ((length_to newline piece < length piece) × (faulty r ≡ step_of r (take (length_to newline piece) piece)))

module _ {A X : Type 0} (m : MachineOver (List ℕ) Readback A X) where
  -- so many bytes at the front of a piece are taken, whole lines: the reader behind them, and so many places of the slice used
  pub record Stands (r : Readback) (piece : List ℕ) (before : List X) (next : Readback) (taken used : ℕ) (after : List X) : Type 0 where
    pub answers : List A
    pub part : Part m r (lines_of piece) before answers (length answers) used next after
    pub taken_are : taken ≡ length (bytes_in (take (length answers) (lines_of piece)))
    pub rest : drop (length answers) (lines_of piece) ≡ lines_of (drop taken piece)
    pub sound : good next ≡ true

  -- what is given back for them; where nothing is taken the piece ends there, with this number and line
  pub record Begin (r : Readback) (piece : List ℕ) (before : List X) (refusal : ℕ) (next : Readback) (taken used line : ℕ) (after : List X) : Type 0 where
    pub stands : Stands r piece before next taken used after
    pub stops : taken ≡ 0 → run m r (lines_of piece) (length before) ≡ ran refusal r []
    pub same : taken ≡ 0 → after ≡ before
    pub line_is : taken ≡ 0 → line ≡ fault_at refusal r

-- the two machines
abbrev pub Begins : Readback → List ℕ → List ℤ → Back → List ℤ → Type 0
Begins r piece before t after = Begin reads r piece before t.refusal t.next t.taken (5 * t.items) t.line after

abbrev pub Rewrites : Readback → List ℕ → List ℕ → Rewritten → List ℕ → Type 0
Rewrites r piece before t after = Begin rewrites r piece before t.refusal t.next t.taken t.written t.line after
