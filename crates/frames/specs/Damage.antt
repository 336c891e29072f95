-- Damage on a line, in any number of places: damage that shows (Shown), words lost wherever they stood (Scarred), and
-- silences left out (Fewer, Quieter), which is none.
use Rattle.std.specs.Prelude.{ℕ, ◌≡◌, Bool, true, List, [], ◌∷◌, ◌++◌}
use Rattle.frames.specs.Words.{break, silence}
use Rattle.frames.specs.Passages.{Passage, silent}

-- `Shown marked left words`: what is left of words on which all damage shows, in a format with a marked first byte or
-- without. A word stays; or a silence is left out; or a stretch of any words is lost, with a 256 in its place. The
-- stretch may be empty, so that a break may come in anywhere. No byte comes in, and no byte and no break goes without a
-- 256. A silence comes in only in a marked format.
pub data Shown (marked : Bool) : List ℕ → List ℕ → Type 0 where
  whole : Shown marked [] []
  stays : {w : ℕ} {left words : List ℕ} → Shown marked left words → Shown marked (w ∷ left) (w ∷ words)
  unheard : {left words : List ℕ} → Shown marked left words → Shown marked left (silence ∷ words)
  scar : (lost : List ℕ) {left words : List ℕ} → Shown marked left words → Shown marked (break ∷ left) (lost ++ words)
  comes_in : {left words : List ℕ} → marked ≡ true → Shown marked left words → Shown marked (silence ∷ left) words

-- `Scarred left words`: what is left of words of which any were lost, anywhere and without a trace. Breaks and silences
-- may have come in, so that a byte may have become a break.
pub data Scarred : List ℕ → List ℕ → Type 0 where
  whole : Scarred [] []
  lost : {w : ℕ} {left words : List ℕ} → Scarred left words → Scarred left (w ∷ words)
  stays : {w : ℕ} {left words : List ℕ} → Scarred left words → Scarred (w ∷ left) (w ∷ words)
  a_break : {left words : List ℕ} → Scarred left words → Scarred (break ∷ left) words
  a_silence : {left words : List ℕ} → Scarred left words → Scarred (silence ∷ left) words

-- `Fewer left words`: words of which silences were left out, any of them.
pub data Fewer : List ℕ → List ℕ → Type 0 where
  whole : Fewer [] []
  stays : {w : ℕ} {left words : List ℕ} → Fewer left words → Fewer (w ∷ left) (w ∷ words)
  unheard : {left words : List ℕ} → Fewer left words → Fewer left (silence ∷ words)

-- `Quieter left passages`: the same of passages.
pub data Quieter {K : Type 0} : List (Passage K) → List (Passage K) → Type 0 where
  whole : Quieter [] []
  stays : {p : Passage K} {left passages : List (Passage K)} → Quieter left passages → Quieter (p ∷ left) (p ∷ passages)
  unheard : {left passages : List (Passage K)} → Quieter left passages → Quieter left (silent ∷ passages)
