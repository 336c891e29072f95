-- How a filter is called, and what it leaves: a program that writes, read by read, what it makes of its input.
use Rattle.std.specs.Prelude.{ℕ, ◌≡◌, ◌≤◌, ◌<◌, List, [], ◌++◌, length, Result, Ok, Err}
use Rattle.shell.specs.Standing.{Program, Stands, Closes, Failed, silent}
use Rattle.shell.specs.declared.Failure.{Failure}
use Rattle.shell.specs.declared.filter.Step.{Step}
use Rattle.shell.specs.declared.filter.Step.TheVariants.{More, Over}

-- more reads than any of the programs makes
abbrev pub most_reads : ℕ
most_reads = 1000000000000000

-- AS THE PROGRAM IT IS CALLED: by its name, where more is to be read, with slices of so many bytes and places that have room
pub record Called {S : Type 0} (p : Program) (rest : S → List ℕ → List ℕ) (reads : S → Type 0) (room : ℕ → ℕ) (name : List ℕ) (input out t : ℕ) (s : S) : Type 0 where
  pub named : name ≡ p.input
  pub ready : reads s
  pub some : 0 < input
  pub fits : room input ≤ out
  pub stands : Stands p t (rest s) silent

-- AND SO IT IS FED: these bytes were read, and have room
pub record Fed {S : Type 0} (p : Program) (rest : S → List ℕ → List ℕ) (reads : S → Type 0) (room : ℕ → ℕ) (bytes : List ℕ) (out t : ℕ) (s : S) : Type 0 where
  pub ready : reads s
  pub some : 0 < length bytes
  pub fits : room (length bytes) ≤ out
  pub stands : Stands p t (λ q. rest s (bytes ++ q)) silent

-- AND SO IT IS FINISHED: nothing more is to be read, and what is left has room
pub record Last {S : Type 0} (p : Program) (rest : S → List ℕ → List ℕ) (ends : S → Type 0) (room : ℕ → ℕ) (out t : ℕ) (s : S) : Type 0 where
  pub whole : ends s
  pub fits : room 1 ≤ out
  pub closes : Closes p t (rest s []) []

-- more is to be read, and it is nearer to its end
pub record Goes {S : Type 0} (p : Program) (rest : S → List ℕ → List ℕ) (reads : S → Type 0) (left : S → ℕ) (t : ℕ) (before s : S) : Type 0 where
  pub ready : reads s
  pub stands : Stands p t (rest s) silent
  pub nearer : left s < left before

-- nothing more is to be read
pub record Stops {S : Type 0} (p : Program) (rest : S → List ℕ → List ℕ) (ends : S → Type 0) (t : ℕ) (s : S) : Type 0 where
  pub whole : ends s
  pub closes : Closes p t (rest s []) []

-- WHAT A READ LEAVES: one of these, or something failed
abbrev pub Leaves : {S : Type 0} → Program → (S → List ℕ → List ℕ) → (S → Type 0) → (S → Type 0) → (S → ℕ) → ℕ → S → Result (Step S) Failure → Type 0
Leaves p rest reads ends left t before (Ok (More s)) = Goes p rest reads left t before s
Leaves p rest reads ends left t before (Ok (Over s)) = Stops p rest ends t s
Leaves p rest reads ends left t before (Err e) = Failed p t

-- what all of them leave
abbrev pub Closed : {S : Type 0} → Program → (S → List ℕ → List ℕ) → (S → Type 0) → ℕ → Result S Failure → Type 0
Closed p rest ends t (Ok s) = Stops p rest ends t s
Closed p rest ends t (Err e) = Failed p t
