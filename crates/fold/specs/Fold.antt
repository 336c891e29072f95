-- A machine over a line: it takes word after word, answers each, and writes what the answers give to a lent slice. It stops before a word that it refuses,
-- and before one whose answer has no room. Words are numbers, or whatever else a line is made of.
use Rattle.std.specs.Prelude.{ℕ, ◌-◌, ◌≡◌, Bool, cond, ◌&&◌, List, [], ◌∷◌, ◌++◌, length, drop, leb, eqb}

-- what a step does to a state: the number that the word is refused with, 0 where it is not; the next state; the answer; and what an answer writes
pub record MachineOver (W S A X : Type 0) : Type 0 where
  pub refusal : S → W → ℕ
  pub next : S → W → S
  pub answer : S → W → A
  pub writes : A → List X

-- over numbers
abbrev pub Machine : Type 0 → Type 0 → Type 0 → Type 0
Machine S A X = MachineOver ℕ S A X

-- what is given back over a line: a number, the state, and the answers to the words taken, one for each
pub record Ran (S A : Type 0) : Type 0 where
  pub refusal : ℕ
  pub next : S
  pub answers : List A

abbrev pub ran : {S A : Type 0} → ℕ → S → List A → Ran S A
ran n s answers = record { refusal = n; next = s; answers = answers }

-- these answers, and then what a later part of the line gives
abbrev pub behind : {S A : Type 0} → List A → Ran S A → Ran S A
behind answers later = ran later.refusal later.next (answers ++ later.answers)

module _ {W S A X : Type 0} (m : MachineOver W S A X) where
  -- what answers write, one behind the other
  abbrev pub written : List A → List X
  written [] = []
  written (a ∷ answers) = m.writes a ++ written answers

  -- the places that the answer to a word needs, and whether the word is taken
  abbrev pub places : S → W → ℕ
  places s w = length (m.writes (m.answer s w))

  abbrev pub takes : S → W → ℕ → Bool
  takes s w room = eqb (m.refusal s w) 0 && leb (places s w) room

  -- the words of a line, one after the other, with so many places: it ends behind the last, or before a word that is not taken, with its number
  unfoldable pub run : S → List W → ℕ → Ran S A
  run s [] room = ran 0 s []
  run s (w ∷ words) room =
      cond (takes s w room) (behind (m.answer s w ∷ []) (run (m.next s w) words (room - places s w))) (ran (m.refusal s w) s [])

-- the answers to words, and the state behind them, of a machine that is asked word by word, whatever it refuses
module _ {W S A X : Type 0} (m : MachineOver W S A X) where
  unfoldable pub answers_over : S → List W → List A
  answers_over s [] = []
  answers_over s (w ∷ words) = m.answer s w ∷ answers_over (m.next s w) words

  unfoldable pub state_over : S → List W → S
  state_over s [] = s
  state_over s (w ∷ words) = state_over (m.next s w) words

-- so many words at the front of a line are taken, with these answers, and so many places used: the state behind them, and the slice; what the rest of
-- the line gives makes up the run
pub record Part {W S A X : Type 0} (m : MachineOver W S A X) (s : S) (words : List W) (before : List X) (answers : List A) (taken used : ℕ) (next : S)
    (after : List X) : Type 0 where
  pub words_are : taken ≡ length answers
  pub places_are : used ≡ length (written m answers)
  pub wrote : after ≡ written m answers ++ drop used before
  pub is : run m s words (length before) ≡ behind answers (run m next (drop taken words) (length before - used))
