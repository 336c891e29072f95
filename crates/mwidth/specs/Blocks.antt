-- Where the program stands between blocks.
use Rattle.std.specs.Prelude.{ℕ, ◌<◌, ◌≤◌, cond, List, [], ◌++◌, eqb, length, take, Result, Ok, Err}
use Rattle.shell.specs.Standing.{Stands, Closes, Failed}
use Rattle.readback.specs.Pieces.{cut_in}
use Rattle.readback.specs.Promises.{finish_of}
use Rattle.readback.specs.Held.{Ready, to_go}
use Rattle.readback.specs.Other.{other_from}
use Rattle.readback.specs.declared.Readback.{Readback}
use Rattle.mwidth.specs.Told.{is_missing, tell_of, why_of, told_from}
use Rattle.mwidth.specs.Program.{mwidth}
use Rattle.shell.specs.declared.Failure.{Failure}
use Rattle.mwidth.specs.declared.Place.{Place}
use Rattle.mwidth.specs.declared.Next.{Next}
use Rattle.mwidth.specs.declared.Next.TheVariants.{More, Over, Refused}

-- what a reader is still to write, with bytes that it holds, and what is to be told
abbrev pub rest : Readback → List ℕ → List ℕ → List ℕ
rest r held q = other_from r (cut_in (held ++ q))

abbrev pub tells : Readback → List ℕ → List ℕ → List ℕ
tells r held q = told_from r (cut_in (held ++ q))

-- where no more is read: what was refused, or an end that is missing
abbrev pub at_end : Readback → ℕ → List ℕ
at_end r held = let end = finish_of r held in cond (eqb end.refusal 0) [] (tell_of end.line is_missing)

-- more is to be read: all that was read is written but for what is held, and the end of the listing is nearer than it was before
pub record Goes (t : ℕ) (before : Readback) (was : ℕ) (p : Place) (input : List ℕ) : Type 0 where
  pub there : p.held ≤ length input
  pub ready : Ready p.reader (take p.held input)
  pub stands : Stands mwidth t (rest p.reader (take p.held input)) (tells p.reader (take p.held input))
  pub nearer : to_go p.reader p.held < to_go before was

-- or all is written and the last words are to be told, or something failed
abbrev pub Leaves : ℕ → Readback → ℕ → Result Next Failure → List ℕ → Type 0
Leaves t before was (Ok (More p)) input = Goes t before was p input
Leaves t before was (Ok (Over p)) input = Closes mwidth t [] (at_end p.reader p.held)
Leaves t before was (Ok (Refused refusal line)) input = Closes mwidth t [] (tell_of line (why_of refusal))
Leaves t before was (Err e) input = Failed mwidth t
