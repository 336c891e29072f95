-- A lister's calls, whatever answers the promises permit: the bytes written are the listing of the bytes taken.
use Prim.Native.Nat.{ℕ, ◌+◌, ◌*◌, ◌≤◌, ◌<◌}
use mathlib.Core.Path.{◌≡◌, refl, sym, ◌∙◌, ap, subst}
use mathlib.Core.Bool.{Bool, true, false, true≢false}
use mathlib.Core.Logic.{◌⊎◌, inl, inr, ⊎_elim}
use mathlib.Core.List.{List, [], ◌∷◌, ◌++◌, append-nil}
use native.Mathlib.Omega.{arith}
use lib.Dec.{ltb}
use lib.ListN.{length, get_or, take, drop}
use lib.Seq.{take_at}
use Rattle.numbers.proofs.Choices.{cases}
use Rattle.fold.specs.Pieces.{Call, Permitted, after, taken_by, written_by}
use Rattle.fold.proofs.Pieces as in_pieces
use Rattle.listing.specs.Listing.{listing_of}
use Rattle.listing.specs.Scanning.{passed, most_bytes}
use Rattle.listing.specs.Feeding.{Feed, stopped, fresh, fed_byte, last_of, feed_in, finish_in, good}
use Rattle.listing.specs.Promises.{Listed, enough, Whole, whole, written, feed_of, finish_of, FeedPromise, FinishPromise}
use Rattle.listing.specs.Calls.{feed_calls}
use Rattle.listing.specs.declared.Lister.{Lister}
use Rattle.listing.proofs.Whole.{all_of, all_at_once}
use Rattle.listing.proofs.Pieces as pieces
use Rattle.listing.proofs.Ended.{piece_on, never_passed, stays_ended, quiet, end_ends}
use Rattle.listing.proofs.Keeps.{kept, fresh_is_good, feed_stays_good}

-- what a call of a good lister wrote
module _ (f : Feed) (before after : List ℕ) (a : Listed) (p : whole a after ≡ written f before) where
  call_text : take a.written after ≡ f.text
  call_text =
      ap (λ (w : Whole). take w.listed.written w.out) p ∙ take_at f.text (drop (length f.text) before) (length f.text) refl

  call_next : a.next ≡ f.next
  call_next = ap (λ (w : Whole). w.listed.next) p

  call_taken : a.taken ≡ f.taken
  call_taken = ap (λ (w : Whole). w.listed.taken) p

  call_written : a.written ≡ length f.text
  call_written = ap (λ (w : Whole). w.listed.written) p

  call_ended : a.ended ≡ f.next.scanner.ended
  call_ended = ap (λ (w : Whole). w.listed.ended) p

  call_after : after ≡ f.text ++ drop (length f.text) before
  call_after = ap (λ (w : Whole). w.out) p

-- whatever the lister: no call takes more than there is, or writes more than has room
pub feed_within : (m : Lister) (input before after : List ℕ) (a : Listed) → FeedPromise m input before a after
    → (a.taken ≤ length input) × (a.written ≤ length before)
unfolding feed_of
feed_within m input before after a p =
    let P : Whole → Type 0 = λ w. (w.listed.taken ≤ length input) × (w.listed.written ≤ length before) in
    subst P (sym p)
    (cases P (good m) (λ _. (pieces.feed_taken input m (length before), pieces.feed_written input m (length before))) (λ _. (omega arith, omega arith)))

pub finish_within : (m : Lister) (before after : List ℕ) (a : Listed) → FinishPromise m before a after → a.written ≤ length before
unfolding finish_of
finish_within m before after a p =
    let P : Whole → Type 0 = λ w. w.listed.written ≤ length before in
    subst P (sym p) (cases P (good m) (λ _. pieces.finish_written m (length before)) (λ _. omega arith))

-- a good lister and a piece of the input
module _ (m : Lister) (input before after : List ℕ) (a : Listed) (g : good m ≡ true) (p : FeedPromise m input before a after) where
  abbrev f : Feed
  f = feed_in m input (length before)

  pub feeds : whole a after ≡ written f before
  unfolding feed_of
  feeds = rw g at p

  pub next_good : good a.next ≡ true
  next_good = ap good (call_next f before after a feeds) ∙ feed_stays_good input m (length before) g

  -- with so many places for each byte it is taken whole
  pub takes_all : enough * length input ≤ length before → a.taken ≡ length input
  takes_all room = call_taken f before after a feeds ∙ pieces.all_taken input m (length before) room

  -- where it is not, the next byte's text has no room behind what was written
  pub takes_what_it_can : a.taken < length input → length before < a.written + length (fed_byte a.next (get_or input a.taken 0)).text
  takes_what_it_can h =
      rw (call_next f before after a feeds, call_written f before after a feeds, call_taken f before after a feeds)
      (pieces.takes_what_it_can input m (length before) (omega (arith, call_taken f before after a feeds)))

  -- it tells whether it has ended
  pub tells_ended : a.ended ≡ a.next.scanner.ended
  tells_ended = call_ended f before after a feeds ∙ sym (ap (λ (m : Lister). m.scanner.ended) (call_next f before after a feeds))

  -- what it wrote, and then what is written behind the bytes that it took
  goes : (q : List ℕ) → all_of m (take a.taken input ++ q) ≡ take a.written after ++ all_of a.next q
  goes q = rw (call_text f before after a feeds, call_next f before after a feeds, call_taken f before after a feeds) (pieces.fed input q m (length before))

  -- once ended, it stays so
  stays_over : m.scanner.ended ≡ true → a.next.scanner.ended ≡ true
  stays_over e = ap (λ (m : Lister). m.scanner.ended) (call_next f before after a feeds) ∙ stays_ended input m (length before) e

  -- it has ended, or is as many bytes nearer to its end
  pub goes_on : (a.next.scanner.ended ≡ true) ⊎ (passed m.scanner + a.taken ≤ passed a.next.scanner)
  goes_on =
      ⊎_elim (λ e. inl (ap (λ (m : Lister). m.scanner.ended) (call_next f before after a feeds) ∙ e))
      (λ k. inr (rw (call_next f before after a feeds, call_taken f before after a feeds) k.0))
      (piece_on input m (length before) (kept m g))

-- with so many places a byte is taken
pub takes_some : (m : Lister) (c : ℕ) (input before after : List ℕ) (a : Listed) → good m ≡ true → FeedPromise m (c ∷ input) before a after → enough ≤ length before
    → 1 ≤ a.taken
takes_some m c input before after a g p room =
    omega (arith, call_taken (feed_in m (c ∷ input) (length before)) before after a (feeds m (c ∷ input) before after a g p), pieces.one_taken c input m (length before) room)

-- a good lister and the end of the input
module _ (m : Lister) (before after : List ℕ) (a : Listed) (g : good m ≡ true) (p : FinishPromise m before a after) where
  pub finishes : whole a after ≡ written (finish_in m (length before)) before
  unfolding finish_of
  finishes = rw g at p

  -- with so many places it ends
  pub ends_with_room : enough ≤ length before → a.ended ≡ true
  ends_with_room room =
      call_ended (finish_in m (length before)) before after a finishes ∙ ap (λ (f : Feed). f.next.scanner.ended) (pieces.finished m (length before) g room) ∙ end_ends m

  -- it has ended with its last lines
  ends_with : a.ended ≡ true → take a.written after ≡ (last_of m).text
  unfolding finish_in all_of
  ends_with e = go (ltb (length before) (length (last_of m).text)) refl
    where
      go : (t : Bool) → ltb (length before) (length (last_of m).text) ≡ t → take a.written after ≡ (last_of m).text
      go true h =
          let w = rw h at finishes in
          call_text (stopped m) before after a w ∙ sym (quiet [] m (sym (call_ended (stopped m) before after a w) ∙ e))
      go false h = let w = rw h at finishes in call_text (record { next = (last_of m).next; taken = 0; text = (last_of m).text }) before after a w

  -- or there was no room: nothing is changed, and it can be called again
  pub finish_again : a.ended ≡ false → (a.next ≡ m) × (a.written ≡ 0) × (after ≡ before)
  unfolding finish_in
  finish_again e = go (ltb (length before) (length (last_of m).text)) refl
    where
      go : (t : Bool) → ltb (length before) (length (last_of m).text) ≡ t → (a.next ≡ m) × (a.written ≡ 0) × (after ≡ before)
      go true h =
          let w = rw h at finishes in
          (call_next (stopped m) before after a w, call_written (stopped m) before after a w, call_after (stopped m) before after a w)
      go false h =
          let w = rw h at finishes in
          absurd (true≢false (sym (end_ends m) ∙ sym (call_ended (record { next = (last_of m).next; taken = 0; text = (last_of m).text }) before after a w) ∙ e))

-- calls, one after the other: a good lister stays good, and they write a front of all that is to be written
abbrev Good : Lister → Type 0
Good m = good m ≡ true

after_good : (ks : List (Call Listed ℕ)) (m : Lister) → Good m → Permitted feed_calls m ks → Good (after feed_calls m ks)
after_good = in_pieces.after_kept feed_calls Good next_good

calls : (ks : List (Call Listed ℕ)) (q : List ℕ) → Permitted feed_calls fresh ks → all_of fresh (taken_by feed_calls ks ++ q) ≡ written_by feed_calls ks ++ all_of (after feed_calls fresh ks) q
calls ks q h = in_pieces.calls_write feed_calls Good next_good all_of goes ks q fresh fresh_is_good h

-- IN CALLS: what a fresh lister wrote, with its end, is the listing of what it took
pub in_calls : (ks : List (Call Listed ℕ)) (before end : List ℕ) (a : Listed) → Permitted feed_calls fresh ks → FinishPromise (after feed_calls fresh ks) before a end → a.ended ≡ true
    → written_by feed_calls ks ++ take a.written end ≡ listing_of (taken_by feed_calls ks)
unfolding all_of
in_calls ks before end a h p e =
    ap (λ (l : List ℕ). written_by feed_calls ks ++ l) (ends_with (after feed_calls fresh ks) before end a (after_good ks fresh fresh_is_good h) p e)
    ∙ sym (calls ks [] h) ∙ ap (all_of fresh) (append-nil (taken_by feed_calls ks)) ∙ all_at_once (taken_by feed_calls ks)

-- NOTHING AFTER THE END: once it has ended, what it wrote is the listing, whatever the rest of the input is
pub ended_early : (ks : List (Call Listed ℕ)) (rest : List ℕ) → Permitted feed_calls fresh ks → (after feed_calls fresh ks).scanner.ended ≡ true
    → written_by feed_calls ks ≡ listing_of (taken_by feed_calls ks ++ rest)
ended_early ks rest h e =
    in_pieces.calls_wrote feed_calls Good next_good all_of goes ks rest fresh fresh_is_good h (quiet rest (after feed_calls fresh ks) e) ∙ all_at_once (taken_by feed_calls ks ++ rest)

-- HAS ENDED: after so many bytes every lister has ended
pub has_ended : (ks : List (Call Listed ℕ)) → Permitted feed_calls fresh ks → most_bytes ≤ length (taken_by feed_calls ks) → (after feed_calls fresh ks).scanner.ended ≡ true
has_ended ks h =
    in_pieces.has_ended feed_calls Good next_good (λ m. m.scanner.ended ≡ true) (λ m. passed m.scanner) stays_over goes_on most_bytes
    (λ m g. never_passed m.scanner (kept m g)) ks fresh fresh_is_good h
