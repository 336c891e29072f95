-- What a block leaves.
use Prim.Native.Nat.{ℕ, ◌+◌, ◌-◌, ◌*◌, ◌<◌, ◌≤◌}
use mathlib.Core.Path.{◌≡◌, refl, sym, ◌∙◌, ap, subst}
use mathlib.Core.Bool.{Bool, true, false, true≢false}
use mathlib.Core.List.{List, [], ◌++◌, append_assoc, append-nil}
use native.Mathlib.Omega.{arith}
use lib.ListN.{length, take, drop, length-drop}
use lib.Seq.{length-take-le}
use Rattle.shell.specs.Outside.{Trace, Reads, Handed}
use Rattle.shell.specs.Buffer.{Behind, Moved}
use Rattle.shell.specs.Standing.{Stands, Closes, Failed, Ends}
use Rattle.shell.proofs.Laws as standing
use Rattle.shell.proofs.Held.{holds, both}
use Rattle.readback.specs.Steps.{good, fresh}
use Rattle.readback.specs.Pieces.{cut_in, longest}
use Rattle.readback.specs.Promises.{RewritePromise}
use Rattle.readback.specs.Held.{Ready}
use Rattle.readback.specs.Rewriting.{rewrite_lines}
use Rattle.readback.specs.Other.{other_from}
use Rattle.readback.specs.declared.Readback.{Readback}
use Rattle.readback.specs.declared.Rewritten.{Rewritten}
use Rattle.readback.proofs.Goodness.{fresh_is_good}
use Rattle.readback.proofs.Other.{goes, no_more, no_newline}
use Rattle.readback.proofs.OverLines.{taken_there, written_there, left_over, nearer}
use Rattle.readback.proofs.Rewrites.{rewrites_lawful, few_places}
use Rattle.mwidth.specs.Told.{tell_of, why_of, told_from}
use Rattle.mwidth.specs.Program.{mwidth}
use Rattle.mwidth.specs.Blocks.{rest, tells, at_end, Goes, Leaves}
use Rattle.mwidth.specs.declared.Next.{Next}
use Rattle.shell.specs.declared.Failure.{Failure}
use Rattle.std.specs.Prelude.{Result, Ok, Err, is_ok}
use Rattle.std.specs.Result.{IsErr}
use Rattle.mwidth.proofs.Words.{told_behind, told_refused, told_end}

-- what was written and taken is there
module _ (r : Readback) (all : ℕ) (input out after : List ℕ) (a : Rewritten) (there : all ≤ length input) (g : good r ≡ true) (p : RewritePromise r (take all input) out a after) where
  pub fits : a.written ≤ length after
  fits = omega (arith, written_there rewrite_lines rewrites_lawful r (take all input) out g p)

  pub taken_fits : a.taken ≤ all
  taken_fits = omega (arith, taken_there rewrite_lines rewrites_lawful r (take all input) out g p, length-take-le all input there)

-- what was read is rewritten, written, and the rest of it held
module _ (t t' : ℕ) (r : Readback) (all : ℕ) (input out after : List ℕ) (a : Rewritten) (well : Bool) (there : all ≤ length input) (enough : 40 * length input ≤ length out)
    (g : good r ≡ true) (s : Stands mwidth t (rest r (take all input)) (tells r (take all input))) (p : RewritePromise r (take all input) out a after)
    (h : Handed mwidth.output t t' well (take a.written after)) where
  abbrev piece : List ℕ
  piece = take all input

  abbrev text : List ℕ
  text = take a.written after

  abbrev left_of : List ℕ
  left_of = drop a.taken piece

  long : length piece ≡ all
  long = length-take-le all input there

  room : 40 * length piece ≤ length out
  room = omega (arith, long)

  stands_on : well ≡ true → Stands mwidth t' (rest a.next left_of) (tells r piece)
  stands_on = standing.writes mwidth t t' well text (rest r piece) (rest a.next left_of) (tells r piece) s (goes r piece out after a g p) h

  pub fails : well ≡ false → Failed mwidth t'
  fails = standing.fails_writing mwidth t t' well text (rest r piece) (rest a.next left_of) (tells r piece) s (goes r piece out after a g p) h

  -- a line was refused
  pub refuses : well ≡ true → (a.refusal ≡ 0 → ⊥) → Closes mwidth t' [] (tell_of a.line (why_of a.refusal))
  refuses w some =
      standing.settled mwidth t' (rest a.next left_of) (tells r piece) [] (tell_of a.line (why_of a.refusal)) (stands_on w) (no_more r piece out after a g p some)
      (told_refused r piece out after a g p some)

  -- or more is to be read
  pub goes_on : well ≡ true → a.refusal ≡ 0 → (input' : List ℕ) → length input' ≡ length input → Moved a.taken (all - a.taken) input input'
      → (held : ℕ) → held < all → held ≤ longest → Goes t' r held (record { reader = a.next; held = all - a.taken }) input'
  goes_on w fine input' same m held b f =
      let is = holds all a.taken input input' (taken_fits r all input out after a there g p) there m in
      record {
        there = omega (arith, same, there);
        ready = subst (Ready a.next) (sym is) (left_over rewrite_lines rewrites_lawful r piece out g p 40 few_places room fine);
        stands = rw is (standing.reworded mwidth t' (rest a.next left_of) (rest a.next left_of) (tells r piece) (tells a.next left_of) (stands_on w) (λ q. refl) (told_behind r piece out after a g p));
        nearer = let n = nearer rewrite_lines rewrites_lawful r piece out g p 40 few_places room fine held (omega (arith, long)) f in rw long at n;
      }

-- what was held, and what a read brought behind it
module _ (t t' : ℕ) (r : Readback) (held count : ℕ) (input after : List ℕ) (there : held ≤ length input) (few : longest < length input) (k : Ready r (take held input))
    (s : Stands mwidth t (rest r (take held input)) (tells r (take held input))) (b : Behind mwidth.input held t t' (Ok count) input after) where
  abbrev front : List ℕ
  front = take held input

  abbrev came : List ℕ
  came = take count (drop held after)

  brought : Reads t t' count (drop held after)
  brought = b.brought there

  read : Stands mwidth t' (λ q. rest r front (came ++ q)) (λ q. tells r front (came ++ q))
  read = standing.reads mwidth t t' count (drop held after) (rest r front) (tells r front) s brought

  -- nothing
  pub ended : count ≡ 0 → Closes mwidth t' [] (at_end r held)
  ended z =
      let some : 0 < length (drop held after) = omega (arith, b.long, few, k.few, length-take-le held input there, length-drop held after) in
      let none : came ≡ [] = rw z in
      let c = standing.over mwidth t' (λ q. rest r front (came ++ q)) (λ q. tells r front (came ++ q)) read (brought.over some z) in
      let whole : front ++ (came ++ []) ≡ front = ap (λ (l : List ℕ). front ++ (l ++ [])) none ∙ append-nil front in
      let wrote : rest r front (came ++ []) ≡ [] = ap (λ (l : List ℕ). other_from r (cut_in l)) whole ∙ no_newline r front k.part in
      let told : tells r front (came ++ []) ≡ at_end r held =
      ap (λ (l : List ℕ). told_from r (cut_in l)) whole ∙ told_end r front k ∙ ap (at_end r) (length-take-le held input there) in
      subst (λ (l : List ℕ). Closes mwidth t' l (at_end r held)) wrote (subst (Closes mwidth t' (rest r front (came ++ []))) told c)

  -- or some
  pub stands_behind : Stands mwidth t' (rest r (take (held + count) after)) (tells r (take (held + count) after))
  stands_behind =
      let whole : (q : List ℕ) → front ++ (came ++ q) ≡ take (held + count) after ++ q =
      λ q. sym (append_assoc front came q) ∙ ap (λ (l : List ℕ). l ++ q) (sym (both mwidth.input held t t' (Ok count) input after there b count)) in
      standing.reworded mwidth t' (λ q. rest r front (came ++ q)) (rest r (take (held + count) after)) (λ q. tells r front (came ++ q)) (tells r (take (held + count) after))
      read (λ q. ap (λ (l : List ℕ). other_from r (cut_in l)) (whole q)) (λ q. ap (λ (l : List ℕ). told_from r (cut_in l)) (whole q))

-- a result that failed
pub broke : (t : ℕ) (before : Readback) (was : ℕ) (r : Result Next Failure) (input : List ℕ) → IsErr r → Failed mwidth t → Leaves t before was r input
broke t before was (Ok b) input i f = absurd (true≢false (sym i))
broke t before was (Err e) input i f = f

pub not_ended : (t : ℕ) (r : Result Unit Failure) → IsErr r → Failed mwidth t → Ends mwidth t (is_ok r)
not_ended t (Ok u) i f = absurd (true≢false (sym i))
not_ended t (Err e) i f = standing.fails mwidth t f

-- it begins
pub begins : (t : ℕ) → Trace t [] [] [] → (r : Readback) → r ≡ fresh → Stands mwidth t (rest r []) (tells r [])
begins t b r e = rw e (standing.begins mwidth t b)

pub ready_fresh : (r : Readback) → r ≡ fresh → Ready r []
ready_fresh r e = record { sound = ap good e ∙ fresh_is_good; part = refl; few = omega arith }
