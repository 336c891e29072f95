-- What has passed between a program and the system. std's read and write say how many bytes they moved and not which, so it is said here,
-- and believed: `Trace` and `Over` are opened by the proofs of this crate's own functions and by no other.
use Rattle.std.specs.Prelude.{◌≡◌, ℕ, ◌<◌, Bool, true, false, List, [], ◌∷◌, ◌++◌, length, take, Result, Ok, Err}
use Rattle.shell.specs.declared.Failure.{Failure}
use Rattle.shell.specs.declared.System.{System}

-- at a moment these bytes had been read from standard input, and these handed to standard output, and these to standard error
unfoldable pub Trace : ℕ → List ℕ → List ℕ → List ℕ → Type 0
Trace t ins outs errs = Unit {0}

-- at a moment the input was over
unfoldable pub Over : ℕ → Type 0
Over t = Unit {0}

-- why something failed: a name, a colon and a blank, the system's words, and a newline
abbrev pub complaint : List ℕ → List ℕ → List ℕ
complaint name why = name ++ ((58 ∷ 32 ∷ []) ++ (why ++ (10 ∷ [])))

-- what standard error has of it: all, or a front where it too fails
pub record Complains (name errs : List ℕ) : Type 0 where
  pub why : List ℕ
  pub count : ℕ
  pub so : errs ≡ take count (complaint name why)

-- a moment at which more stands on standard error than these, and tells of a failure
pub record Failing (name : List ℕ) (t : ℕ) (ins outs errs : List ℕ) : Type 0 where
  pub more : List ℕ
  pub told : Complains name more
  pub traced : Trace t ins outs (errs ++ more)

-- A READ that went well: what it brought stands behind what was read before. Where it brought nothing, though there was room, the input is over.
pub record Reads (t t' count : ℕ) (part : List ℕ) : Type 0 where
  pub reads : (ins outs errs : List ℕ) → Trace t ins outs errs → Trace t' (ins ++ take count part) outs errs
  pub over : 0 < length part → count ≡ 0 → Over t'

-- a read that failed: nothing more stands behind what was read, and standard error tells why
pub record Misses (name : List ℕ) (t t' : ℕ) : Type 0 where
  pub fails : (ins outs errs : List ℕ) → Trace t ins outs errs → Failing name t' ins outs errs

-- A READ
abbrev pub Brought : List ℕ → ℕ → ℕ → Result ℕ Failure → List ℕ → Type 0
Brought name t t' (Ok count) part = Reads t t' count part
Brought name t t' (Err e) part = Misses name t t'

-- A WAIT: the system, asked, said that nothing came. It stands among what was read of a tty, and is no byte.
abbrev pub wait : ℕ
wait = 256

-- what a read of a tty tells: the bytes that it brought, or a wait where it brought none
abbrev pub heard_in : List ℕ → List ℕ
heard_in [] = wait ∷ []
heard_in (b ∷ bytes) = b ∷ bytes

-- A READ OF A TTY that answers an empty read after a tenth of a second: what it told stands behind what was read before.
pub record Hears (t t' count : ℕ) (part : List ℕ) : Type 0 where
  pub reads : 0 < length part → (ins outs errs : List ℕ) → Trace t ins outs errs → Trace t' (ins ++ heard_in (take count part)) outs errs

abbrev pub Listened : List ℕ → ℕ → ℕ → Result ℕ Failure → List ℕ → Type 0
Listened name t t' (Ok count) part = Hears t t' count part
Listened name t t' (Err e) part = Misses name t t'

-- A WRITE: the bytes stand behind what was handed out before, or a front of them where it failed.
pub record Handed (name : List ℕ) (t t' : ℕ) (well : Bool) (bytes : List ℕ) : Type 0 where
  pub writes : well ≡ true → (ins outs errs : List ℕ) → Trace t ins outs errs → Trace t' ins (outs ++ bytes) errs
  pub fails : well ≡ false → (ins outs errs : List ℕ) → Trace t ins outs errs → (n : ℕ) × Failing name t' ins (outs ++ take n bytes) errs
  pub still : Over t → Over t'

-- WORDS to standard error: the same there.
pub record Said (t t' : ℕ) (well : Bool) (bytes : List ℕ) : Type 0 where
  pub says : well ≡ true → (ins outs errs : List ℕ) → Trace t ins outs errs → Trace t' ins outs (errs ++ bytes)
  pub fails : well ≡ false → (ins outs errs : List ℕ) → Trace t ins outs errs → (n : ℕ) × Trace t' ins outs (errs ++ take n bytes)
  pub still : Over t → Over t'

-- the streams are the same, whatever the moment
abbrev pub IsSameSystem : System → System → Type 0
IsSameSystem old new = (new.input ≡ old.input) × (new.output ≡ old.output) × (new.errors ≡ old.errors)
