-- A driver's calls, whatever answers the promises permit: the bytes written are the recording of the bytes taken.
use Prim.Native.Nat.{ℕ, ◌+◌, ◌≤◌, ◌<◌}
use mathlib.Core.Path.{◌≡◌, refl, sym, ◌∙◌, ap, subst}
use mathlib.Core.Bool.{true}
use mathlib.Core.Logic.{◌⊎◌}
use mathlib.Core.List.{List, [], ◌++◌, append-nil}
use native.Mathlib.Omega.{arith}
use lib.ListN.{length, take, drop}
use lib.Seq.{take_at}
use Rattle.numbers.proofs.Choices.{cases}
use Rattle.fold.specs.Pieces.{Call, Permitted, after, taken_by, written_by}
use Rattle.fold.proofs.Pieces as in_pieces
use Rattle.fold.proofs.Pieces.{EachCall}
use Rattle.ballbox.specs.Box.{Bytes}
use Rattle.driver.specs.Driving.{recording_of}
use Rattle.driver.specs.Feeding.{fresh, Feed, feed_in, closing, good}
use Rattle.driver.specs.Promises.{Driven, enough, Whole, whole, written, untaken, feed_of, finish_of, FeedPromise, FinishPromise}
use Rattle.driver.specs.Calls.{feed_calls, finish_calls, owing}
use Rattle.driver.specs.declared.Driver.{Driver}
use Rattle.driver.proofs.Kept.{Kept, kept_good, fresh_kept}
use Rattle.driver.proofs.Refusals as refusals
use Rattle.driver.proofs.Whole.{all_of, all_at_once}
use Rattle.driver.proofs.Pieces.{piece_goes, end_goes, quiet, feed_taken, feed_written, some_taken, end_on}

-- what a call of a good driver wrote
module _ (f : Feed) (before after : List ℕ) (a : Driven) (p : whole a after ≡ written f before) where
  call_text : take a.written after ≡ f.text
  call_text =
      ap (λ (w : Whole). take w.driven.written w.out) p ∙ take_at f.text (drop (length f.text) before) (length f.text) refl

  call_next : a.next ≡ f.next
  call_next = ap (λ (w : Whole). w.driven.next) p

  call_taken : a.taken ≡ f.taken
  call_taken = ap (λ (w : Whole). w.driven.taken) p

-- whatever the driver: no call takes more than there is, or writes more than has room
pub feed_within : (m : Driver) (input before after : List ℕ) (a : Driven) → FeedPromise m input before a after
    → (a.taken ≤ length input) × (a.written ≤ length before)
unfolding feed_of
feed_within m input before after a p =
    let P : Whole → Type 0 = λ w. (w.driven.taken ≤ length input) × (w.driven.written ≤ length before) in
    subst P (sym p) (cases P (good m) (λ _. (feed_taken input m (length before), feed_written input m (length before))) (λ _. (omega arith, omega arith)))

pub finish_within : (m : Driver) (before after : List ℕ) (a : Driven) → FinishPromise m before a after → a.written ≤ length before
unfolding finish_of
finish_within m before after a p =
    let P : Whole → Type 0 = λ w. w.driven.written ≤ length before in
    subst P (sym p) (cases P (good m) (λ _. feed_written (closing m) m (length before)) (λ _. omega arith))

-- a driver that came of a fresh one, and a piece of the input
module _ (m : Driver) (input before after : List ℕ) (a : Driven) (h : Kept m) (b : Bytes input) (p : FeedPromise m input before a after) where
  abbrev f : Feed
  f = feed_in m input (length before)

  feeds : whole a after ≡ written f before
  feeds = refusals.feeds m input before after a (kept_good m h) p

  -- it comes of one too
  pub next_kept : Kept a.next
  next_kept = rw (call_next f before after a feeds) (piece_goes input [] m (length before) b h).0

  -- what it wrote, and what comes behind the bytes that it took
  pub call_goes : (rest : List ℕ) → all_of m (take a.taken input ++ rest) ≡ take a.written after ++ all_of a.next rest
  call_goes rest = rw (call_text f before after a feeds, call_next f before after a feeds, call_taken f before after a feeds) (piece_goes input rest m (length before) b h).1

  -- with so many places it takes a byte, or a slot that was owed, where there is one
  pub takes_some : enough ≤ length before → 1 ≤ m.owed + length input → (1 ≤ a.taken) ⊎ (a.next.owed < m.owed)
  takes_some room some = rw (call_next f before after a feeds, call_taken f before after a feeds) (some_taken input m (length before) b h room some)

-- and the end of the input
module _ (m : Driver) (before after : List ℕ) (a : Driven) (h : Kept m) (p : FinishPromise m before a after) where
  abbrev l : Feed
  l = untaken (feed_in m (closing m) (length before))

  finishes : whole a after ≡ written l before
  finishes = refusals.finishes m before after a (kept_good m h) p

  pub last_kept : Kept a.next
  last_kept = rw (call_next l before after a finishes) (end_goes m (length before) h).0

  pub last_goes : all_of m [] ≡ take a.written after ++ all_of a.next []
  last_goes = rw (call_text l before after a finishes, call_next l before after a finishes) (end_goes m (length before) h).1

  -- with so many places it has ended, or has less to do
  pub ends_or_less : enough ≤ length before → (a.next.ended ≡ true) ⊎ (owing a.next < owing m)
  ends_or_less room = rw (call_next l before after a finishes) (end_on m (length before) h room)

-- calls, one after the other: what comes of a fresh driver stays so, and they write a front of all that is to be
-- written
pub stays : EachCall feed_calls Kept (λ m piece after a. Kept a.next)
stays m piece before after a h p = next_kept m piece before after a h p.0 p.1

module _ (ks : List (Call Driven ℕ)) (p : Permitted feed_calls fresh ks) where
  abbrev there : Driver
  there = after feed_calls fresh ks

  -- every driver that calls leave comes of a fresh one
  after_kept : Kept there
  after_kept = in_pieces.after_kept feed_calls Kept stays ks fresh fresh_kept p

  calls : (q : List ℕ) → all_of fresh (taken_by feed_calls ks ++ q) ≡ written_by feed_calls ks ++ all_of there q
  calls q =
      in_pieces.calls_write feed_calls Kept stays all_of (λ m piece before after a h p. call_goes m piece before after a h p.0 p.1) ks q fresh fresh_kept p

  -- IN CALLS: what a fresh driver wrote, with its end, is the recording of what it took
  pub in_calls : (es : List (Call Driven ℕ)) → Permitted finish_calls there es → (after finish_calls there es).ended ≡ true
      → written_by feed_calls ks ++ written_by finish_calls es ≡ recording_of (taken_by feed_calls ks)
  in_calls es q e =
      let last = after finish_calls there es in
      let kept = in_pieces.after_kept finish_calls Kept last_kept' es there after_kept q in
      let end = in_pieces.calls_wrote finish_calls Kept last_kept' (λ m _. all_of m []) (λ m piece before after a h p _. last_goes m before after a h p) es [] there after_kept q (quiet [] last kept e) in
      ap (λ (l : List ℕ). written_by feed_calls ks ++ l) end ∙ sym (calls []) ∙ ap (all_of fresh) (append-nil (taken_by feed_calls ks)) ∙ all_at_once (taken_by feed_calls ks)
    where
      last_kept' : EachCall finish_calls Kept (λ m piece after a. Kept a.next)
      last_kept' m piece before after a h p = last_kept m before after a h p

  -- NOTHING AFTER THE END: once it has ended, what it wrote is the recording, whatever the rest of the input is
  pub ended_early : (rest : List ℕ) → there.ended ≡ true → written_by feed_calls ks ≡ recording_of (taken_by feed_calls ks ++ rest)
  ended_early rest e =
      sym (calls rest ∙ ap (λ (l : List ℕ). written_by feed_calls ks ++ l) (quiet rest there after_kept e) ∙ append-nil (written_by feed_calls ks)) ∙ all_at_once (taken_by feed_calls ks ++ rest)
