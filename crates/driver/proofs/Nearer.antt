-- A driver ends: each byte brings it nearer to its end.
use Prim.Native.Nat.{ℕ, ◌+◌, ◌*◌, ◌≤◌, ◌<◌}
use mathlib.Core.Path.{◌≡◌, refl, ap}
use mathlib.Core.Bool.{Bool, true, false, cond}
use mathlib.Core.Logic.{◌⊎◌, inl, inr, ⊎_elim}
use mathlib.Core.List.{List}
use native.Mathlib.Omega.{arith}
use lib.Dec.{leb, eqb}
use lib.ListN.{length}
use Rattle.numbers.proofs.Choices.{cases}
use Rattle.fold.specs.Pieces.{Call, Permitted, after, taken_by}
use Rattle.fold.proofs.Pieces as in_pieces
use Rattle.listing.specs.Lines.{newline}
use Rattle.listing.specs.Scanning.{most_lines}
use Rattle.ballbox.specs.Box.{Bytes}
use Rattle.ballbox.specs.declared.BallBox.{BallBox}
use Rattle.driver.specs.Lines.{said_by}
use Rattle.driver.specs.Driving.{line_done}
use Rattle.driver.specs.Feeding.{Turning, longest, at_line, fresh, unfinished, owed_by, besides, taken_of, byte_of, slot_of, feed_in}
use Rattle.driver.specs.Promises.{Driven, Whole, FeedPromise}
use Rattle.driver.specs.Calls.{feed_calls}
use Rattle.driver.specs.declared.Order.{Order}
use Rattle.driver.specs.declared.Order.TheVariants as order
use Rattle.driver.specs.declared.Driver.{Driver}
use Rattle.driver.proofs.Taken.{Took, none, slot, tick, no_slots, took}
use Rattle.driver.proofs.Refusals.{feeds}
use Rattle.driver.proofs.Kept.{Kept, kept_good, fresh_kept, slot_kept, tick_kept}
use Rattle.driver.proofs.Pieces.{byte_tick}
use Rattle.driver.proofs.Calls.{stays}

-- how far a driver has come: sixteen bytes for each line passed, and those of the unfinished line
abbrev pub passed : Driver → ℕ
passed m = 16 * m.line + m.count

-- the bytes after which every driver has ended
abbrev pub most_bytes : ℕ
most_bytes = 16 * (most_lines + 1)

-- so many bytes no driver has passed
pub never_passed : (m : Driver) → Kept m → passed m < most_bytes
never_passed m h = omega (arith, h.within.lines, h.within.few)

-- a byte ends the recording or brings the driver on
abbrev On : Driver → Driver → Type 0
On m next = (next.ended ≡ true) ⊎ (passed m < passed next)

ends_or_on : (m : Driver) (owed : ℕ) (b : BallBox) (ends : Bool) → m.count ≤ longest → On m (at_line (cond ends m.line (m.line + 1)) ends (cond ends 0 owed) b)
ends_or_on m owed b true h = inl refl
ends_or_on m owed b false h = inr (omega arith)

line_on : (m : Driver) (o : Order) → m.count ≤ longest → On m (taken_of m o).next
unfolding taken_of
line_on m o h =
    let d = line_done m.line m.ball (besides o) in
    cases (λ (t : Turning). On m t.next) m.ended (λ _. inl refl) (λ _. ends_or_on m (owed_by o) d.next d.ends h)

byte_on : (m : Driver) (c : ℕ) → m.count ≤ longest → On m (byte_of m c).next
unfolding byte_of
byte_on m c h =
    let P : Turning → Type 0 = λ t. On m t.next in
    cases P (eqb c newline) (λ _. line_on m (said_by (unfinished m)) h) (λ _. cases P (leb longest m.count) (λ _. line_on m order.Bad h) (λ _. inr (omega arith)))

-- and an ended driver stays so
line_over : (m : Driver) (o : Order) → m.ended ≡ true → (taken_of m o).next.ended ≡ true
unfolding taken_of
line_over m o h = rw h refl

byte_over : (m : Driver) (c : ℕ) → m.ended ≡ true → (byte_of m c).next.ended ≡ true
unfolding byte_of
byte_over m c h =
    let P : Turning → Type 0 = λ t. t.next.ended ≡ true in
    cases P (eqb c newline) (λ _. line_over m (said_by (unfinished m)) h) (λ _. cases P (leb longest m.count) (λ _. line_over m order.Bad h) (λ _. h))

-- the ticks that were taken do both
over : {m next : Driver} {input : List ℕ} {texts : List (List ℕ)} {n : ℕ} → Bytes input → Took m input texts n next → m.ended ≡ true → next.ended ≡ true
unfolding slot_of
over b none h = h
over b (slot e t) h = over b t h
over b (tick {m} {c = c} e t) h = over b.1 t (rw (byte_tick m c b.0) (byte_over m c h))

on : {m next : Driver} {input : List ℕ} {texts : List (List ℕ)} {n : ℕ} → Bytes input → Kept m → Took m input texts n next → (next.ended ≡ true) ⊎ (passed m + n ≤ passed next)
unfolding slot_of
on b h none = inr (omega arith)
on b h (slot {m} e t) = on b (slot_kept m h) t
on b h (tick {m} {c = c} e t) =
    let is = byte_tick m c b.0 in
    ⊎_elim (λ q. inl (over b.1 t (rw is q))) (λ q. ⊎_elim inl (λ k. inr (omega (arith, k, q, ap (λ (t : Turning). passed t.next) is))) (on b.1 (tick_kept m c e h) t)) (byte_on m c h.within.few)

-- a call that a driver may answer so
module _ (m : Driver) (input before after : List ℕ) (a : Driven) (h : Kept m) (b : Bytes input) (p : FeedPromise m input before a after) where
  -- has ended it, or has brought it nearer to its end by the bytes that it took
  pub goes_on : (a.next.ended ≡ true) ⊎ (passed m + a.taken ≤ passed a.next)
  unfolding feed_in
  goes_on =
      let w = feeds m input before after a (kept_good m h) p in
      rw (ap (λ (w : Whole). w.driven.next) w, ap (λ (w : Whole). w.driven.taken) w) (on b h (took input m (no_slots input b) (length before)))

  pub stays_ended : m.ended ≡ true → a.next.ended ≡ true
  unfolding feed_in
  stays_ended e =
      let w = feeds m input before after a (kept_good m h) p in
      rw (ap (λ (w : Whole). w.driven.next) w) (over b (took input m (no_slots input b) (length before)) e)

-- HAS ENDED: after so many bytes every driver has ended
pub has_ended : (ks : List (Call Driven ℕ)) → Permitted feed_calls fresh ks → most_bytes ≤ length (taken_by feed_calls ks) → (after feed_calls fresh ks).ended ≡ true
has_ended ks p =
    in_pieces.has_ended feed_calls Kept stays (λ m. m.ended ≡ true) passed (λ m piece before after a h p. stays_ended m piece before after a h p.0 p.1)
    (λ m piece before after a h p. goes_on m piece before after a h p.0 p.1) most_bytes never_passed ks fresh fresh_kept p
