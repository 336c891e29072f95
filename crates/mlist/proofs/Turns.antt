-- What a read leaves, and the end.
use Rattle.std.proofs.Common.{◌≡◌, ℕ, ◌-◌, ◌*◌, ◌<◌, ◌≤◌, Bool, true, false, List, [], ◌++◌, length, take, drop, refl, sym, ◌∙◌, ap, arith}
use mathlib.Core.Bool.{true≢false}
use mathlib.Core.Logic.{⊎_elim}
use lib.Seq.{take_at, take-length}
use Rattle.shell.specs.Outside.{Trace, Handed}
use Rattle.shell.specs.Standing.{Stands, Closes, Failed, silent}
use Rattle.shell.proofs.Laws as standing
use Rattle.listing.specs.Scanning.{passed, most_bytes}
use Rattle.listing.specs.Feeding.{fresh, Feed, feed_in, last_of, good}
use Rattle.listing.specs.Listing.{listing_of}
use Rattle.listing.specs.Promises.{Listed, enough, Whole, whole, written, FeedPromise, FinishPromise}
use Rattle.listing.specs.declared.Lister.{Lister}
use Rattle.listing.proofs.Whole.{all_of, all_at_once}
use Rattle.listing.proofs.Calls.{feeds, next_good, takes_all, tells_ended, goes_on, finishes}
use Rattle.listing.proofs.Pieces as pieces
use Rattle.listing.proofs.Ended.{never_passed, quiet}
use Rattle.listing.proofs.Keeps.{kept}
use Rattle.mlist.specs.Program.{mlist}

-- it begins
pub begins : (t : ℕ) → Trace t [] [] [] → (m : Lister) → m ≡ fresh → Stands mlist t (all_of m) silent
begins t traced m e = standing.reworded mlist t listing_of (all_of m) silent silent (standing.begins mlist t traced) (λ q. sym (rw e (all_at_once q))) (λ q. refl)

-- bytes are fed, and their text is written
module _ (m : Lister) (bytes out after : List ℕ) (a : Listed) (g : good m ≡ true) (room : enough * length bytes ≤ length out) (p : FeedPromise m bytes out a after) where
  abbrev f : Feed
  f = feed_in m bytes (length out)

  is : whole a after ≡ written f out
  is = feeds m bytes out after a g p

  text : take a.written after ≡ f.text
  text = ap (λ (w : Whole). take w.listed.written w.out) is ∙ take_at f.text (drop (length f.text) out) (length f.text) refl

  pub goes : (q : List ℕ) → all_of m (bytes ++ q) ≡ take a.written after ++ all_of a.next q
  goes q =
      let all : take f.taken bytes ≡ bytes = ap (λ (n : ℕ). take n bytes) (sym (ap (λ (w : Whole). w.listed.taken) is) ∙ takes_all m bytes out after a g p room) ∙ take-length bytes in
      ap (λ (l : List ℕ). all_of m (l ++ q)) (sym all) ∙ pieces.fed bytes q m (length out) ∙ rw (text, ap (λ (w : Whole). w.listed.next) is)

  -- what was written is handed out
  pub shown : (t t' : ℕ) (well : Bool) → Stands mlist t (λ q. all_of m (bytes ++ q)) silent → Handed mlist.output t t' well (take a.written after) → well ≡ true
      → Stands mlist t' (all_of a.next) silent
  shown t t' well s h w = standing.writes mlist t t' well (take a.written after) _ (all_of a.next) silent s goes h w

  -- where it could not be, the program failed
  pub unshown : (t t' : ℕ) (well : Bool) → Stands mlist t (λ q. all_of m (bytes ++ q)) silent → Handed mlist.output t t' well (take a.written after) → well ≡ false
      → Failed mlist t'
  unshown t t' well s h w = standing.fails_writing mlist t t' well (take a.written after) _ (all_of a.next) silent s goes h w

  -- nothing follows where the listing has ended
  same : a.ended ≡ true → (q : List ℕ) → all_of a.next q ≡ all_of a.next []
  same e q = let ended = sym (tells_ended m bytes out after a g p) ∙ e in quiet q a.next ended ∙ sym (quiet [] a.next ended)

  pub falls : 0 < length bytes → a.ended ≡ false → most_bytes - passed a.next.scanner < most_bytes - passed m.scanner
  falls some y =
      ⊎_elim (λ e. absurd (true≢false (sym (tells_ended m bytes out after a g p ∙ e) ∙ y)))
      (λ k. omega (arith, k, some, takes_all m bytes out after a g p room, never_passed m.scanner (kept m g), never_passed a.next.scanner (kept a.next (next_good m bytes out after a g p))))
      (goes_on m bytes out after a g p)

  -- and it goes on, or the last lines are left
  pub closes : (t : ℕ) → a.ended ≡ true → Stands mlist t (all_of a.next) silent → Closes mlist t (all_of a.next []) []
  closes t e s = standing.settled mlist t (all_of a.next) silent (all_of a.next []) [] s (same e) (λ q. refl)

-- the end
module _ (m : Lister) (out after : List ℕ) (a : Listed) (g : good m ≡ true) (room : enough ≤ length out) (p : FinishPromise m out a after) where
  pub last_text : take a.written after ≡ all_of m []
  unfolding all_of
  last_text =
      let e = finishes m out after a g p ∙ ap (λ (f : Feed). written f out) (pieces.finished m (length out) g room) in
      let text = (last_of m).text in
      ap (λ (w : Whole). take w.listed.written w.out) e ∙ take_at text (drop (length text) out) (length text) refl
