-- Where the program stands between blocks.
use Rattle.std.specs.Prelude.{ℕ, ◌<◌, ◌≤◌, ◌≡◌, true, not, ◌&&◌, List, ◌++◌, length, take, Result, Ok, Err}
use Rattle.shell.specs.Standing.{Stands, Closes, Failed}
use Rattle.readback.specs.Steps.{good, of_salvage}
use Rattle.readback.specs.Pieces.{cut_in}
use Rattle.readback.specs.Promises.{finish_of}
use Rattle.readback.specs.Held.{Ready, to_go}
use Rattle.readback.specs.Whole.{reading_from}
use Rattle.readback.specs.declared.Readback.{Readback}
use Rattle.mtable.specs.Table.{salvage_row, rows_of, last_row, fault_words}
use Rattle.mtable.specs.Program.{mtable}
use Rattle.shell.specs.declared.Failure.{Failure}
use Rattle.mtable.specs.declared.Place.{Place}
use Rattle.mtable.specs.declared.Next.{Next}
use Rattle.mtable.specs.declared.Next.TheVariants.{More, Over, Fault}

-- what is still to be written of a listing, with bytes that are held, behind the head line; and what is to be told
abbrev pub rest : Readback → List ℕ → List ℕ → List ℕ
rest r held q = let k = reading_from r (cut_in (held ++ q)) in salvage_row (k.salvage && not (of_salvage r)) ++ rows_of k.items ++ last_row k.fault

abbrev pub tells : Readback → List ℕ → List ℕ → List ℕ
tells r held q = fault_words (reading_from r (cut_in (held ++ q))).fault

-- where the listing is over: the line of an end that is missing, or 0
abbrev pub end_line : Place → ℕ
end_line p = (finish_of p.reader p.held).line

-- more is to be read: all that was read is written but for what is held, and the end of the listing is nearer than it was before
pub record Goes (t : ℕ) (before : Readback) (was : ℕ) (p : Place) (input : List ℕ) : Type 0 where
  pub there : p.held ≤ length input
  pub ready : Ready p.reader (take p.held input)
  pub stands : Stands mtable t (rest p.reader (take p.held input)) (tells p.reader (take p.held input))
  pub nearer : to_go p.reader p.held < to_go before was

-- or the last row is left, or something failed
abbrev pub Leaves : ℕ → Readback → ℕ → Result Next Failure → List ℕ → Type 0
Leaves t before was (Ok (More p)) input = Goes t before was p input
Leaves t before was (Ok (Over p)) input = Closes mtable t (last_row (end_line p)) (fault_words (end_line p)) × (good p.reader ≡ true)
Leaves t before was (Ok (Fault line)) input = Closes mtable t (last_row line) (fault_words line) × (line ≡ 0 → ⊥)
Leaves t before was (Err e) input = Failed mtable t
