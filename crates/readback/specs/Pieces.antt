-- The lines of a piece of a listing, one after the other: a machine over lines, and a call of it.
use Rattle.std.specs.Prelude.{ℕ, ◌+◌, ◌*◌, Bool, not, cond, ◌&&◌, List, [], ◌∷◌, ◌++◌, ltb, leb, eqb, ℤ, length, take, drop, Option}
use Rattle.fold.specs.Fold.{MachineOver, Ran, written, run}
use Rattle.wire.specs.Numbers.{success, bad_state}
use Rattle.text.specs.Lengths.{length_to}
use Rattle.listing.specs.Lines.{newline, front}
use Rattle.listing.specs.Scanning.{width}
use Rattle.listing.specs.Items.{items_in}
use Rattle.listing.specs.declared.Item.{Item}
use Rattle.readback.specs.Items.{all_numbers}
use Rattle.readback.specs.Steps.{step_of, good}
use Rattle.readback.specs.declared.Readback.{Readback}
use Rattle.readback.specs.declared.Back.{Back}

-- the lines of bytes, each with its newline, which the last may lack
unfoldable pub cut_in : List ℕ → List (List ℕ)
cut_in [] = []
cut_in (c ∷ cs) = cond (eqb c newline) ((c ∷ []) ∷ cut_in cs) (front c (cut_in cs))

-- the bytes of lines
abbrev pub bytes_in : List (List ℕ) → List ℕ
bytes_in [] = []
bytes_in (l ∷ ls) = l ++ bytes_in ls

-- whether a line has its newline, and the line without it
abbrev pub is_whole : List ℕ → Bool
is_whole l = ltb (length_to newline l) (length l)

abbrev pub body_of : List ℕ → List ℕ
body_of l = take (length_to newline l) l

-- 7: "a faulty listing line"
abbrev pub faulty_line : ℕ
faulty_line = 7

-- the reader as a machine over lines: each is taken with its item, or is faulty, as a last line without its newline is
abbrev pub reads : MachineOver (List ℕ) Readback (Option Item) ℤ
reads =
    record {
      refusal = λ r l. cond (is_whole l && (step_of r (body_of l)).good) success faulty_line;
      next = λ r l. (step_of r (body_of l)).next;
      answer = λ r l. (step_of r (body_of l)).given;
      writes = λ g. all_numbers (items_in g);
    }

-- the most bytes of a line without its newline: a letter, a line number, three buttons and two numbers of a sign and five digits, each behind its tab
abbrev pub longest : ℕ
longest = 20 + width

-- a line that was cut off by the end of the piece: it is handed over again with what follows, unless it is too long for any
abbrev pub cut_off : List ℕ → Bool
cut_off l = not (is_whole l) && leb (length l) longest

abbrev pub handed : List (List ℕ) → List (List ℕ)
handed [] = []
handed (l ∷ ls) = cond (cut_off l) [] (l ∷ handed ls)

unfoldable pub lines_of : List ℕ → List (List ℕ)
lines_of piece = handed (cut_in piece)

-- the items among what lines gave
abbrev pub items_among : List (Option Item) → List Item
items_among [] = []
items_among (g ∷ gs) = items_in g ++ items_among gs

-- a fault is told by its line: the one behind those that have passed
abbrev pub fault_at : ℕ → Readback → ℕ
fault_at refusal r = cond (eqb refusal success) 0 (r.lines + 1)

-- what a call gives back, a number, the reader, the bytes taken, a count and the line of a fault; and every place of
-- the lent slice after it
pub record Whole (X : Type 0) : Type 0 where
  pub refusal : ℕ
  pub next : Readback
  pub taken : ℕ
  pub count : ℕ
  pub line : ℕ
  pub out : List X

-- the same without its fault: no number, and no line
abbrev pub faultless : {X : Type 0} → Whole X → Whole X
faultless w = record { refusal = success; next = w.next; taken = w.taken; count = w.count; line = 0; out = w.out }

-- it ends here, with a number: no more is taken, and nothing more written
abbrev pub stopped : {X : Type 0} → ℕ → Readback → List X → Whole X
stopped n r out = record { refusal = n; next = r; taken = 0; count = 0; line = 0; out = out }

-- a call over lines: a machine, what it counts of its answers, and the places that so many fill
pub record OverLines (A X : Type 0) : Type 0 where
  pub machine : MachineOver (List ℕ) Readback A X
  pub count : List A → ℕ
  pub places : ℕ → ℕ

module _ {A X : Type 0} (c : OverLines A X) where
  -- the lines taken: their bytes, what they write at the front of the slice, and a fault behind them
  abbrev pub counted : Ran Readback A → List (List ℕ) → List X → Whole X
  counted f lines out =
      let text = written c.machine f.answers in
      record {
        refusal = f.refusal;
        next = f.next;
        taken = length (bytes_in (take (length f.answers) lines));
        count = c.count f.answers;
        line = fault_at f.refusal f.next;
        out = text ++ drop (length text) out;
      }

  -- "it stops before an item there is no room for and tells the bytes taken"; "what stood before it is written, as at a
  -- bad word of a long read"
  unfoldable pub pieces_of : Readback → List ℕ → List X → Whole X
  pieces_of r piece out = counted (run c.machine r (lines_of piece) (length out)) (lines_of piece) out

  -- "a state that breaks the rules below", 6, before all: "A refusal returns the old state [..] and counts of 0", and
  -- the slice is as it was
  unfoldable pub call_of : Readback → List ℕ → List X → Whole X
  call_of r piece out = cond (good r) (pieces_of r piece out) (stopped bad_state r out)

-- `read`: the items of lines, each of five numbers
abbrev pub read_lines : OverLines (Option Item) ℤ
read_lines = record { machine = reads; count = λ gs. length (items_among gs); places = λ n. 5 * n }

abbrev pub back : ℕ → Readback → ℕ → ℕ → ℕ → Back
back refusal next taken items line = record { refusal = refusal; next = next; taken = taken; items = items; line = line }

abbrev pub whole : Back → List ℤ → Whole ℤ
whole b out = record { refusal = b.refusal; next = b.next; taken = b.taken; count = b.items; line = b.line; out = out }
