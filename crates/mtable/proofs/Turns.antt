-- What a block leaves.
use Prim.Native.Nat.{ℕ, ◌+◌, ◌-◌, ◌*◌, ◌<◌, ◌≤◌}
use mathlib.Core.Path.{◌≡◌, refl, sym, ◌∙◌, ap, subst}
use mathlib.Core.Bool.{Bool, true, false, not, ◌&&◌, true≢false}
use mathlib.Core.List.{List, [], ◌++◌, append_assoc}
use native.Mathlib.Omega.{arith}
use lib.IntN.{ℤ}
use lib.ListN.{length, take, drop, length-drop}
use lib.Seq.{length-take-le}
use Rattle.shell.specs.Outside.{Trace, Reads, Handed}
use Rattle.shell.specs.Buffer.{Behind, Moved}
use Rattle.shell.specs.Standing.{Stands, Closes, Failed, Ends}
use Rattle.shell.proofs.Laws as standing
use Rattle.shell.proofs.Held.{holds, both}
use Rattle.readback.specs.Steps.{good, fresh, of_salvage}
use Rattle.readback.specs.Pieces.{cut_in, longest, read_lines}
use Rattle.readback.specs.Promises.{ReadPromise, finish_of}
use Rattle.readback.specs.Held.{Ready}
use Rattle.readback.specs.Whole.{reading_from}
use Rattle.readback.specs.declared.Readback.{Readback}
use Rattle.readback.specs.declared.Back.{Back}
use Rattle.readback.proofs.Calls as calls
use Rattle.readback.proofs.OverLines.{taken_there, left_over, nearer}
use Rattle.readback.proofs.Goodness.{fresh_is_good}
use Rattle.mtable.specs.Table.{rows_of, salvage_row, last_row, head_row, fault_words}
use Rattle.mtable.specs.Program.{mtable}
use Rattle.mtable.specs.Rows.{Written}
use Rattle.mtable.specs.Blocks.{rest, tells, Goes, Leaves}
use Rattle.mtable.specs.declared.Next.{Next}
use Rattle.shell.specs.declared.Failure.{Failure}
use Rattle.std.specs.Prelude.{Result, Ok, Err, is_ok}
use Rattle.std.specs.Result.{IsErr}
use Rattle.mtable.proofs.Pieces as pieces

-- it begins with the head line
module _ (t t' : ℕ) (well : Bool) (b : Trace t [] [] []) (h : Handed mtable.output t t' well head_row) where
  first : Stands mtable t mtable.writes mtable.says
  first = standing.begins mtable t b

  pub headed : well ≡ true → Stands mtable t' (rest fresh []) (tells fresh [])
  headed w =
      standing.reworded mtable t' (rest fresh []) (rest fresh []) mtable.says (tells fresh []) (standing.writes mtable t t' well head_row mtable.writes (rest fresh []) mtable.says first pieces.begins h w) (λ q. refl) pieces.begins_told

  pub no_head : well ≡ false → Failed mtable t'
  no_head = standing.fails_writing mtable t t' well head_row mtable.writes (rest fresh []) mtable.says first pieces.begins h

pub ready_fresh : (r : Readback) → r ≡ fresh → Ready r []
ready_fresh r e = record { sound = ap good e ∙ fresh_is_good; part = refl; few = omega arith }

-- the rows of what was read, in a buffer
pub rows_there : (begins : Bool) (rows out between after : List ℕ) (at n : ℕ) → Written out 0 (salvage_row begins) between at → Written between at rows after n
    → take n after ≡ salvage_row begins ++ rows
rows_there begins rows out between after at n a b = b.so ∙ ap (λ (l : List ℕ). l ++ rows) a.so

-- what was read is written, and the rest of it held
module _ (t t' : ℕ) (r : Readback) (all : ℕ) (input : List ℕ) (out after : List ℤ) (input' : List ℕ) (a : Back) (well : Bool) (there : all ≤ length input) (enough : 5 * length input ≤ length out)
    (g : good r ≡ true) (s : Stands mtable t (rest r (take all input)) (tells r (take all input))) (p : ReadPromise r (take all input) out a after) where
  abbrev piece : List ℕ
  piece = take all input

  abbrev pub text : List ℕ
  text = pieces.text r piece out after a g p

  abbrev left_of : List ℕ
  left_of = drop a.taken piece

  long : length piece ≡ all
  long = length-take-le all input there

  room : 5 * length piece ≤ length out
  room = omega (arith, long)

  pub taken_fits : a.taken ≤ all
  taken_fits = omega (arith, taken_there read_lines calls.reads_lawful r piece out g p, long)

  module _ (h : Handed mtable.output t t' well text) where
    stands_on : well ≡ true → Stands mtable t' (rest a.next left_of) (tells r piece)
    stands_on = standing.writes mtable t t' well text (rest r piece) (rest a.next left_of) (tells r piece) s (pieces.goes r piece out after a g p) h

    pub fails : well ≡ false → Failed mtable t'
    fails = standing.fails_writing mtable t t' well text (rest r piece) (rest a.next left_of) (tells r piece) s (pieces.goes r piece out after a g p) h

    -- a fault
    pub faults : well ≡ true → (a.refusal ≡ 0 → ⊥) → Closes mtable t' (last_row a.line) (fault_words a.line) × (a.line ≡ 0 → ⊥)
    faults w some = (
      standing.settled mtable t' (λ q. last_row a.line) (tells r piece) (last_row a.line) (fault_words a.line)
          (standing.writes mtable t t' well text (rest r piece) (λ q. last_row a.line) (tells r piece) s (pieces.fault_row r piece out after a g p some) h w) (λ q. refl)
          (pieces.fault_told r piece out after a g p some),
      pieces.at_fault r piece out after a g p some,
    )

    -- or more is to be read
    pub goes_on : well ≡ true → a.refusal ≡ 0 → length input' ≡ length input → Moved a.taken (all - a.taken) input input'
        → (held : ℕ) → held < all → held ≤ longest → Goes t' r held (record { reader = a.next; held = all - a.taken }) input'
    goes_on w fine same m held b f =
        let is = holds all a.taken input input' taken_fits there m in
        record {
          there = omega (arith, same, there);
          ready = subst (Ready a.next) (sym is) (left_over read_lines calls.reads_lawful r piece out g p 5 pieces.few_five room fine);
          stands = rw is (standing.reworded mtable t' (rest a.next left_of) (rest a.next left_of) (tells r piece) (tells a.next left_of)
              (stands_on w) (λ q. refl) (pieces.told_behind r piece out after a g p));
          nearer = let n = nearer read_lines calls.reads_lawful r piece out g p 5 pieces.few_five room fine held (omega (arith, long)) f in rw long at n;
        }

-- what was held, and what a read brought behind it
module _ (t t' : ℕ) (r : Readback) (held count : ℕ) (input after : List ℕ) (there : held ≤ length input) (few : longest < length input) (k : Ready r (take held input))
    (s : Stands mtable t (rest r (take held input)) (tells r (take held input))) (b : Behind mtable.input held t t' (Ok count) input after) where
  abbrev front : List ℕ
  front = take held input

  abbrev came : List ℕ
  came = take count (drop held after)

  brought : Reads t t' count (drop held after)
  brought = b.brought there

  read : Stands mtable t' (λ q. rest r front (came ++ q)) (λ q. tells r front (came ++ q))
  read = standing.reads mtable t t' count (drop held after) (rest r front) (tells r front) s brought

  -- nothing
  pub ended : count ≡ 0 → Closes mtable t' (last_row (finish_of r held).line) (fault_words (finish_of r held).line) × (good r ≡ true)
  ended z =
      let some : 0 < length (drop held after) = omega (arith, b.long, few, k.few, length-take-le held input there, length-drop held after) in
      let none : came ≡ [] = rw z in
      let c = standing.over mtable t' (λ q. rest r front (came ++ q)) (λ q. tells r front (came ++ q)) read (brought.over some z) in
      let e = finish_of r (length front) in
      let line = (finish_of r held).line in
      let fault : e.line ≡ line = ap (λ (n : ℕ). (finish_of r n).line) (length-take-le held input there) in
      let wrote : rest r front (came ++ []) ≡ last_row line = ap (λ (l : List ℕ). rest r front (l ++ [])) none ∙ pieces.last_row_lem r front k e refl ∙ ap last_row fault in
      let told : tells r front (came ++ []) ≡ fault_words line = ap (λ (l : List ℕ). tells r front (l ++ [])) none ∙ pieces.last_told r front k e refl ∙ ap fault_words fault in
      (subst (λ (l : List ℕ). Closes mtable t' l (fault_words line)) wrote (subst (Closes mtable t' (rest r front (came ++ []))) told c), k.sound)

  -- or some
  pub stands_behind : Stands mtable t' (rest r (take (held + count) after)) (tells r (take (held + count) after))
  stands_behind =
      let all = take (held + count) after in
      let whole : (q : List ℕ) → front ++ (came ++ q) ≡ all ++ q =
      λ q. sym (append_assoc front came q) ∙ ap (λ (l : List ℕ). l ++ q) (sym (both mtable.input held t t' (Ok count) input after there b count)) in
      standing.reworded mtable t' (λ q. rest r front (came ++ q)) (rest r all) (λ q. tells r front (came ++ q)) (tells r all) read
      (λ q. ap (λ (l : List ℕ). let k = reading_from r (cut_in l) in salvage_row (k.salvage && not (of_salvage r)) ++ rows_of k.items ++ last_row k.fault) (whole q))
      (λ q. ap (λ (l : List ℕ). fault_words (reading_from r (cut_in l)).fault) (whole q))

-- a result that failed
pub broke : (t : ℕ) (before : Readback) (was : ℕ) (r : Result Next Failure) (input : List ℕ) → IsErr r → Failed mtable t → Leaves t before was r input
broke t before was (Ok b) input i f = absurd (true≢false (sym i))
broke t before was (Err e) input i f = f

pub not_ok : (r : Result Unit Failure) → IsErr r → is_ok r ≡ false
not_ok (Ok u) i = absurd (true≢false (sym i))
not_ok (Err e) i = refl

pub not_ended : (t : ℕ) (r : Result Unit Failure) → IsErr r → Failed mtable t → Ends mtable t (is_ok r)
not_ended t (Ok u) i f = absurd (true≢false (sym i))
not_ended t (Err e) i f = standing.fails mtable t f
