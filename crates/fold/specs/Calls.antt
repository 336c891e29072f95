-- A long call: a machine over a line that refuses a bad state before all, and adds up what its answers count.
use Rattle.std.specs.Prelude.{ℕ, ◌+◌, ◌*◌, ◌<◌, ◌≤◌, ◌≡◌, ◌⊎◌, Bool, true, cond, List, [], ◌∷◌, ◌++◌, length, take, drop}
use Rattle.fold.specs.Fold.{Machine, Ran, ran, written, run, Part, answers_over, state_over}

-- what answers count: of none, of one behind the other, of an answer, and the places that so much has filled
pub record Tally (A K : Type 0) : Type 0 where
  pub none : K
  pub plus : K → K → K
  pub of : A → K
  pub places : K → ℕ

-- a machine, what its answers count, which states it takes, and the number that it refuses any other with
pub record Call (S A K X : Type 0) : Type 0 where
  pub machine : Machine S A X
  pub tally : Tally A K
  pub good : S → Bool
  pub bad : ℕ

-- what is given back: a number, the state, the words taken, what is counted, and every place of the lent slice after it
pub record Long (S K X : Type 0) : Type 0 where
  pub refusal : ℕ
  pub next : S
  pub taken : ℕ
  pub counts : K
  pub out : List X

abbrev pub with_refusal : {S K X : Type 0} → ℕ → Long S K X → Long S K X
with_refusal n l = record { refusal = n; next = l.next; taken = l.taken; counts = l.counts; out = l.out }

module _ {S A K X : Type 0} (c : Call S A K X) where
  unfoldable pub sum : List A → K
  sum [] = c.tally.none
  sum (a ∷ answers) = c.tally.plus (c.tally.of a) (sum answers)

  -- it ends here, with a number: no more is taken, and nothing more written
  abbrev pub stopped : ℕ → S → List X → Long S K X
  stopped n s out = record { refusal = n; next = s; taken = 0; counts = c.tally.none; out = out }

  -- the answers to the words taken, counted, and what they write at the front of the slice
  abbrev pub counted : Ran S A → List X → Long S K X
  counted f out =
      record {
        refusal = f.refusal;
        next = f.next;
        taken = length f.answers;
        counts = sum f.answers;
        out = written c.machine f.answers ++ drop (length (written c.machine f.answers)) out;
      }

  unfoldable pub line : S → List ℕ → List X → Long S K X
  line s words out = counted (run c.machine s words (length out)) out

  -- a bad state before all, and then the line
  unfoldable pub call : S → List ℕ → List X → Long S K X
  call s words out = cond (c.good s) (line s words out) (stopped c.bad s out)

  -- the places that are left, and two calls, of which the second had those places, as one
  abbrev pub unused : Long S K X → List X
  unused l = drop (c.tally.places l.counts) l.out

  abbrev pub as_one : Long S K X → Long S K X → Long S K X
  as_one l later =
      record {
        refusal = later.refusal;
        next = later.next;
        taken = l.taken + later.taken;
        counts = c.tally.plus l.counts later.counts;
        out = take (c.tally.places l.counts) l.out ++ later.out;
      }

  -- a word that was taken, and then what the rest of the line gives
  abbrev pub after : A → Long S K X → Long S K X
  after a later =
      record {
        refusal = later.refusal;
        next = later.next;
        taken = 1 + later.taken;
        counts = c.tally.plus (c.tally.of a) later.counts;
        out = c.machine.writes a ++ later.out;
      }

  -- all words taken: the state behind them, what their answers count, and what they write at the front of the slice
  abbrev pub took_all : S → List ℕ → List X → Long S K X
  took_all s words out =
      record {
        refusal = 0;
        next = state_over c.machine s words;
        taken = length words;
        counts = sum (answers_over c.machine s words);
        out = written c.machine (answers_over c.machine s words) ++ drop (c.tally.places (sum (answers_over c.machine s words))) out;
      }

  -- words at the front of a line are taken: the state behind them, what is counted of their answers, and the slice
  pub record Stands (s : S) (words : List ℕ) (before : List X) (next : S) (taken used : ℕ) (counts : K) (after : List X) : Type 0 where
    pub answers : List A
    pub part : Part c.machine s words before answers taken used next after
    pub counts_are : counts ≡ sum answers

  -- what is given back for words at the front of a line, by a state that stays good; where none is taken it ends there
  pub record Begins (s : S) (words : List ℕ) (before : List X) (l : Long S K X) : Type 0 where
    pub stands : Stands s words before l.next l.taken (c.tally.places l.counts) l.counts l.out
    pub stops : l.taken ≡ 0 → run c.machine s words (length before) ≡ ran l.refusal s []
    pub sound : c.good l.next ≡ true

  -- what a tally and a machine have to keep for the laws of long calls
  pub record Lawful : Type 0 where
    pub plus_none : (k : K) → c.tally.plus k c.tally.none ≡ k
    pub none_plus : (k : K) → c.tally.plus c.tally.none k ≡ k
    pub plus_plus : (i j k : K) → c.tally.plus (c.tally.plus i j) k ≡ c.tally.plus i (c.tally.plus j k)
    pub none_places : c.tally.places c.tally.none ≡ 0
    pub plus_places : (j k : K) → c.tally.places (c.tally.plus j k) ≡ c.tally.places j + c.tally.places k
    pub each : (a : A) → length (c.machine.writes a) ≡ c.tally.places (c.tally.of a)
    pub stays : (s : S) (w : ℕ) → c.good s ≡ true → c.good (c.machine.next s w) ≡ true

  -- what a good state gives for a word: 0, or one number, and that just for a word above `top`
  pub record Refuses (number top : ℕ) : Type 0 where
    pub some : number ≡ 0 → ⊥
    pub either : (s : S) (w : ℕ) → c.good s ≡ true → (c.machine.refusal s w ≡ 0) ⊎ ((c.machine.refusal s w ≡ number) × (top < w))
    pub above : (s : S) (w : ℕ) → c.good s ≡ true → top < w → c.machine.refusal s w ≡ number

-- of each word this holds; and no word is above `top`
abbrev pub Each : (ℕ → Type 0) → List ℕ → Type 0
Each P [] = Unit {0}
Each P (w ∷ words) = P w × Each P words

abbrev pub UpTo : ℕ → List ℕ → Type 0
UpTo top words = Each (λ w. w ≤ top) words

-- reports, each of so many places, and dropped bytes: what a reader counts
pub record Counts : Type 0 where
  pub reports : ℕ
  pub dropped : ℕ

abbrev pub counts : ℕ → ℕ → Counts
counts reports dropped = record { reports = reports; dropped = dropped }

abbrev pub reporting : {A : Type 0} → ℕ → (A → ℕ) → (A → ℕ) → Tally A Counts
reporting width reports dropped =
    record {
      none = counts 0 0;
      plus = λ j k. counts (j.reports + k.reports) (j.dropped + k.dropped);
      of = λ a. counts (reports a) (dropped a);
      places = λ k. width * k.reports;
    }
