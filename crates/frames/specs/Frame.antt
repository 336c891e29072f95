-- A reader of framed reports: which byte fits after which, what is kept, and what each word is answered by.
use Rattle.std.specs.Prelude.{◌≡◌, List, [], ◌∷◌, ◌++◌, Bool, true, false, cond, ◌&&◌, ℕ, zero, suc, ◌<◌, ◌≤◌, length, eqb}
use Rattle.frames.specs.Words as words

-- A format, with reports R. `fits kept b`: the byte b may follow the bytes kept, or begin a report where none is kept; `size b`: how many bytes
-- a report has that begins with b; whether a first byte is told from the others; and the report that bytes stand for.
pub record Frame (R : Type 0) : Type 0 where
  pub fits : List ℕ → ℕ → Bool
  pub size : ℕ → ℕ
  pub marked : Bool
  pub decode : List ℕ → R

-- a reader has the bytes that it keeps, or it awaits a silence
pub data State : Type 0 where
  has : List ℕ → State
  waits : State

abbrev pub kept : State → List ℕ
kept (has k) = k
kept waits = []

-- a word is answered by nothing, a report, or a number of bytes dropped
pub data Answer (R : Type 0) : Type 0 where
  nothing : Answer R
  report : R → Answer R
  dropped : ℕ → Answer R

abbrev pub drops : {R : Type 0} → ℕ → Answer R
drops zero = nothing
drops (suc n) = dropped (suc n)

-- the reports among answers
abbrev pub reports : {R : Type 0} → List (Answer R) → List R
reports [] = []
reports (nothing ∷ l) = reports l
reports (report r ∷ l) = r ∷ reports l
reports (dropped n ∷ l) = reports l

-- what a reader makes of a word: a byte that fits, one that starts a report anywhere, one that no rule takes; 256, a break; 257, a silence
pub data Move : Type 0 where
  fit : Move
  start : Move
  bad : Move
  break : Move
  silence : Move

module _ {R : Type 0} (F : Frame R) where
  abbrev pub in_place : State → ℕ → Bool
  in_place (has k) b = F.fits k b
  in_place waits b = false

  unfoldable pub move_of : State → ℕ → Move
  move_of s w =
      cond (eqb w words.silence) silence
      (cond (eqb w words.break) break
      (cond (in_place s w) fit
      (cond (F.marked && F.fits [] w) start
      bad)))

  -- a fresh reader, and one after a break or a byte that no rule takes
  abbrev pub fresh : State
  fresh = cond F.marked (has []) waits

  -- the bytes are as many as their first one says
  abbrev pub complete : List ℕ → Bool
  complete [] = false
  complete (b ∷ k) = eqb (suc (length k)) (F.size b)

  abbrev pub keep : List ℕ → State × Answer R
  keep k = cond (complete k) (has [], report (F.decode k)) (has k, nothing)

  abbrev pub act : Move → List ℕ → ℕ → State × Answer R
  act fit k w = keep (k ++ (w ∷ []))
  act start k w = (has (w ∷ []), drops (length k))
  act bad k w = (fresh, dropped (suc (length k)))
  act break k w = (fresh, drops (length k))
  act silence k w = (has [], drops (length k))

  abbrev pub step : State → ℕ → State × Answer R
  step s w = act (move_of s w) (kept s) w

  -- over words: the answers, the reader after them, and the reports handed out
  abbrev pub answers : State → List ℕ → List (Answer R)
  answers s [] = []
  answers s (w ∷ ws) = (step s w).1 ∷ answers (step s w).0 ws

  abbrev pub after : State → List ℕ → State
  after s [] = s
  after s (w ∷ ws) = after (step s w).0 ws

  abbrev pub read : State → List ℕ → List R
  read s ws = reports (answers s ws)

  -- each of the bytes fits its place, behind the bytes k
  abbrev pub Fits : List ℕ → List ℕ → Type 0
  Fits k [] = Unit {0}
  Fits k (b ∷ bytes) = (F.fits k b ≡ true) × Fits (k ++ (b ∷ [])) bytes

  -- they are as many as the first one says, or fewer
  abbrev pub Full : List ℕ → Type 0
  Full [] = ⊥
  Full (b ∷ bytes) = suc (length bytes) ≡ F.size b

  abbrev pub Short : List ℕ → Type 0
  Short [] = Unit {0}
  Short (b ∷ bytes) = suc (length bytes) < F.size b

  -- a whole report, and the first bytes of one
  abbrev pub Whole : List ℕ → Type 0
  Whole bytes = Fits [] bytes × Full bytes

  abbrev pub Part : List ℕ → Type 0
  Part bytes = Fits [] bytes × Short bytes

-- the bytes of a kind of report are a whole report of the frame; and what a reader hands out of it
abbrev pub Framed : {R K : Type 0} → Frame R → (K → List ℕ) → K → Type 0
Framed F bytes k = Whole F (bytes k)

abbrev pub decoded : {R K : Type 0} → Frame R → (K → List ℕ) → K → List R
decoded F bytes k = F.decode (bytes k) ∷ []

-- a frame's laws: what fits is a byte, and a report has at least two
pub record Laws {R : Type 0} (F : Frame R) : Type 0 where
  pub byte : (k : List ℕ) (b : ℕ) → F.fits k b ≡ true → b < 256
  pub long : (b : ℕ) → F.fits [] b ≡ true → 2 ≤ F.size b

-- "marked": no first byte is a later byte
pub record Marked {R : Type 0} (F : Frame R) : Type 0 where
  pub laws : Laws F
  pub is : F.marked ≡ true
  pub first_only : (a : ℕ) (k : List ℕ) (b : ℕ) → F.fits [] b ≡ true → F.fits (a ∷ k) b ≡ false
