-- What a program is to write of an input, and where it stands.
use Rattle.std.specs.Prelude.{◌≡◌, ℕ, Bool, true, false, ◌⊎◌, List, [], ◌∷◌, ◌++◌, take}
use Rattle.shell.specs.Outside.{Trace, Over, Complains}

-- a program: what it hands to standard output of a whole input, what it tells on standard error of it, and what it calls its input and
-- its output where one fails
pub record Program : Type 0 where
  pub writes : List ℕ → List ℕ
  pub says : List ℕ → List ℕ
  pub input : List ℕ
  pub output : List ℕ

-- ": standard ", and "input" or "output" behind it
abbrev standard : List ℕ
standard = 58 ∷ 32 ∷ 115 ∷ 116 ∷ 97 ∷ 110 ∷ 100 ∷ 97 ∷ 114 ∷ 100 ∷ 32 ∷ []

-- the program of a name
abbrev pub program : List ℕ → (List ℕ → List ℕ) → (List ℕ → List ℕ) → Program
program name writes says =
    record {
      writes = writes;
      says = says;
      input = name ++ (standard ++ (105 ∷ 110 ∷ 112 ∷ 117 ∷ 116 ∷ []));
      output = name ++ (standard ++ (111 ∷ 117 ∷ 116 ∷ 112 ∷ 117 ∷ 116 ∷ []));
    }

-- nothing, of any input
abbrev pub silent : List ℕ → List ℕ
silent q = []

-- WHILE IT READS: of whatever is still to come, `rest` is what is still to be written, and `told` what standard error is to tell, which
-- has nothing yet
pub record Stands (p : Program) (t : ℕ) (rest told : List ℕ → List ℕ) : Type 0 where
  pub ins : List ℕ
  pub outs : List ℕ
  pub traced : Trace t ins outs []
  pub so : (q : List ℕ) → p.writes (ins ++ q) ≡ outs ++ rest q
  pub tells : (q : List ℕ) → p.says (ins ++ q) ≡ told q

-- all was read, or what follows would change nothing
abbrev pub Settled : Program → ℕ → List ℕ → Type 0
Settled p t ins = Over t ⊎ ((q : List ℕ) → (p.writes (ins ++ q) ≡ p.writes ins) × (p.says (ins ++ q) ≡ p.says ins))

-- WHEN ALL IS READ: this is left to be written, and this to be told
pub record Closes (p : Program) (t : ℕ) (left told : List ℕ) : Type 0 where
  pub ins : List ℕ
  pub outs : List ℕ
  pub traced : Trace t ins outs []
  pub so : p.writes ins ≡ outs ++ left
  pub tells : p.says ins ≡ told
  pub settled : Settled p t ins

-- what was handed out is a front of what is to be written: of this input where it is over, and else of every input that begins so
abbrev pub Fronts : Program → ℕ → List ℕ → List ℕ → Type 0
Fronts p t ins outs =
    (Over t × ((more : List ℕ) × (p.writes ins ≡ outs ++ more))) ⊎ ((rest : List ℕ → List ℕ) × ((q : List ℕ) → p.writes (ins ++ q) ≡ outs ++ rest q))

-- ALL WENT WELL: what was handed out is what the program is to write of all that was read, and so on standard error
pub record Done (p : Program) (t : ℕ) : Type 0 where
  pub ins : List ℕ
  pub outs : List ℕ
  pub traced : Trace t ins outs (p.says ins)
  pub all : outs ≡ p.writes ins
  pub settled : Settled p t ins

-- what standard error has where something failed: why a read failed, or a write; or, where it fails itself, a front of what it was to have
pub data Tells (p : Program) (ins errs : List ℕ) : Type 0 where
  unread : Complains p.input errs → Tells p ins errs
  unwritten : Complains p.output errs → Tells p ins errs
  unsaid : (n : ℕ) → errs ≡ take n (p.says ins) → Tells p ins errs

-- SOMETHING FAILED: a front of it was handed out, and standard error tells why
pub record Failed (p : Program) (t : ℕ) : Type 0 where
  pub ins : List ℕ
  pub outs : List ℕ
  pub errs : List ℕ
  pub traced : Trace t ins outs errs
  pub front : Fronts p t ins outs
  pub told : Tells p ins errs

-- HOW A PROGRAM ENDS
pub record Ends (p : Program) (t : ℕ) (well : Bool) : Type 0 where
  pub done : well ≡ true → Done p t
  pub failed : well ≡ false → Failed p t

-- A PROGRAM THAT LISTENS HAS ENDED: what was handed out is what it is to write of all that was heard, and standard error has what it is to
-- tell of that, or a front of it where that fails
pub record Left (p : Program) (t : ℕ) : Type 0 where
  pub ins : List ℕ
  pub outs : List ℕ
  pub count : ℕ
  pub traced : Trace t ins outs (take count (p.says ins))
  pub all : outs ≡ p.writes ins

-- HOW A PROGRAM THAT LISTENS ENDS: so, or something failed
pub record Leaves (p : Program) (t : ℕ) (well : Bool) : Type 0 where
  pub left : well ≡ true → Left p t
  pub failed : well ≡ false → Failed p t
