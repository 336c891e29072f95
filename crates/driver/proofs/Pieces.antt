-- A piece of the input, and the end, whatever room they have: what was written, and what the rest gives, is the whole; and how much is taken.
use Prim.Native.Nat.{ℕ, zero, suc, ◌+◌, ◌≤◌, ◌<◌}
use mathlib.Core.Path.{◌≡◌, refl, sym, ◌∙◌, ap}
use mathlib.Core.Bool.{Bool, true, false, cond}
use mathlib.Core.Logic.{◌⊎◌, inl, inr, ⊎_elim}
use mathlib.Core.List.{List, [], ◌∷◌, ◌++◌, append_assoc}
use native.Mathlib.Omega.{arith}
use lib.Dec.{eqb}
use lib.ListN.{length, take}
use lib.Seq.{take-nil}
use borrow.Author.Tests.{eqb-true, eqb-false, ne_eqb}
use Rattle.numbers.proofs.Choices.{cases}
use Rattle.fold.specs.Fold.{written, run}
use Rattle.fold.proofs.Laws.{within}
use Rattle.listing.specs.Lines.{newline}
use Rattle.listing.specs.Scanning.{most_lines}
use Rattle.ballbox.specs.Box.{Bytes}
use Rattle.driver.specs.Driving.{slots}
use Rattle.driver.specs.Feeding.{Turning, taken_of, byte_of, slot_of, end_of, slot_tick, end_tick, tick_of, drives, slots_then, ticks_from, input_among, Feed, feed_in, closing}
use Rattle.driver.specs.Promises.{enough}
use Rattle.driver.specs.Calls.{owing}
use Rattle.driver.specs.declared.Driver.{Driver}
use Rattle.driver.proofs.Taken.{Took, no_slots, took}
use Rattle.driver.proofs.Ticks.{NoSlot}
use Rattle.driver.proofs.Whole.{all_of, slot_then, byte_then, last_line, end_then}
use Rattle.driver.proofs.Few as few
use Rattle.driver.proofs.Kept.{Kept, slot_kept, tick_kept}

-- a tick that is a byte, and the end
pub byte_tick : (m : Driver) (c : ℕ) → c < 256 → tick_of m c ≡ byte_of m c
unfolding tick_of
byte_tick m c h = rw (ne_eqb c slot_tick (λ e. omega arith), ne_eqb c end_tick (λ e. omega arith))

end_tick_lem : (m : Driver) → tick_of m end_tick ≡ end_of m
unfolding tick_of
end_tick_lem m = refl

newline_starts : (m : Driver) → (byte_of m newline).next.count ≡ 0
unfolding byte_of taken_of
newline_starts m = cases (λ (k : Turning). k.next.count ≡ 0) m.ended (λ _. refl) (λ _. refl)

-- from a driver on: the driver then is kept, and what was written stands in front of what it writes of the rest
pub record Fed (m : Driver) (all : List ℕ) (texts : List (List ℕ)) (next : Driver) (rest : List ℕ) : Type 0 where
  pub kept : Kept next
  pub wrote : all_of m all ≡ written drives texts ++ all_of next rest

then_fed : {mid next : Driver} {texts : List (List ℕ)} {later rest : List ℕ} (m : Driver) (all text : List ℕ) → all_of m all ≡ text ++ all_of mid later
    → Fed mid later texts next rest → Fed m all (text ∷ texts) next rest
then_fed {next = next} {texts = texts} {rest = rest} m all text e f =
    record { kept = f.kept; wrote = e ∙ ap (λ (l : List ℕ). text ++ l) f.wrote ∙ sym (append_assoc text (written drives texts) (all_of next rest)) }

-- bytes
pub fed : {m next : Driver} {p : List ℕ} {texts : List (List ℕ)} {n : ℕ} (q : List ℕ) → Bytes p → Kept m → Took m p texts n next → Fed m (take n p ++ q) texts next q
fed q b h Took.none = record { kept = h; wrote = refl }
fed q b h (Took.slot {m} {input = p} {n = n} {k = k} e t) = then_fed m (take n p ++ q) (slot_of m).text (slot_then m k (take n p ++ q) e) (fed q b (slot_kept m h) t)
fed q b h (Took.tick {m} {c = c} {cs = cs} {n = n} e t) =
    let is = byte_tick m c b.0 in
    then_fed m (c ∷ take n cs ++ q) (tick_of m c).text (rw is (byte_then m c (take n cs ++ q) h.held e)) (fed q b.1 (tick_kept m c e h) t)

-- the end, behind no unfinished line
end_fed : {m next : Driver} {texts : List (List ℕ)} {n : ℕ} → m.count ≡ 0 → Kept m → Took m (end_tick ∷ []) texts n next → Fed m [] texts next []
unfolding slot_of
end_fed z h Took.none = record { kept = h; wrote = refl }
end_fed z h (Took.slot {m} {k = k} e t) = then_fed m [] (slot_of m).text (slot_then m k [] e) (end_fed z (slot_kept m h) t)
end_fed z h (Took.tick {m} {n = n} e t) =
    let is = end_tick_lem m in
    then_fed {later = []} m [] (tick_of m end_tick).text (rw is (end_then m z e)) (rw (take-nil n) at (fed [] tt (tick_kept m end_tick e h) t))

-- and behind one
last_fed : {m next : Driver} {texts : List (List ℕ)} {n : ℕ} → (m.count ≡ 0 → ⊥) → Kept m → Took m (newline ∷ end_tick ∷ []) texts n next → Fed m [] texts next []
unfolding slot_of
last_fed z h Took.none = record { kept = h; wrote = refl }
last_fed z h (Took.slot {m} {k = k} e t) = then_fed m [] (slot_of m).text (slot_then m k [] e) (last_fed z (slot_kept m h) t)
last_fed z h (Took.tick {m} e t) =
    let is = byte_tick m newline (omega arith) in
    then_fed {later = []} m [] (tick_of m newline).text (rw is (last_line m h.held z e)) (end_fed (rw is (newline_starts m)) (tick_kept m newline e h) t)

closing_fed : {m next : Driver} {texts : List (List ℕ)} {n : ℕ} → Kept m → Took m (closing m) texts n next → Fed m [] texts next []
closing_fed {m} {next} {texts} {n} h t = go (eqb m.count 0) refl
  where
    go : (u : Bool) → eqb m.count 0 ≡ u → Fed m [] texts next []
    go true e = end_fed (eqb-true m.count 0 e) h (rw e at t)
    go false e = last_fed (eqb-false m.count 0 e) h (rw e at t)

-- PIECES: what a piece wrote, and what comes behind the bytes that were taken; and what the end wrote, and what is left of it
abbrev pub Goes : Driver → List ℕ → Feed → List ℕ → Type 0
Goes m all f rest = Kept f.next × (all_of m all ≡ f.text ++ all_of f.next rest)

pub piece_goes : (p q : List ℕ) (m : Driver) (room : ℕ) → Bytes p → Kept m → let f = feed_in m p room in Goes m (take f.taken p ++ q) f q
unfolding feed_in
piece_goes p q m room b h = let f = fed q b h (took p m (no_slots p b) room) in (f.kept, f.wrote)

closing_plain : (m : Driver) → NoSlot (closing m)
closing_plain m = cases (λ (ts : List ℕ). NoSlot (ts ++ end_tick ∷ [])) (eqb m.count 0) (λ _. (λ e. omega arith, tt)) (λ _. (λ e. omega arith, (λ e. omega arith, tt)))

pub end_goes : (m : Driver) (room : ℕ) → Kept m → Goes m [] (feed_in m (closing m) room) []
unfolding feed_in
end_goes m room h = let f = closing_fed h (took (closing m) m (closing_plain m) room) in (f.kept, f.wrote)

-- QUIET: a driver that has ended writes nothing more
pub quiet : (input : List ℕ) (m : Driver) → Kept m → m.ended ≡ true → all_of m input ≡ []
unfolding slots
quiet input m h e = rw (h.over e, e)

-- no more is taken than there is, and no more written than has room
among_front : (ts : List ℕ) (n : ℕ) → input_among (take n ts) ≤ input_among ts
among_front ts zero = omega arith
among_front [] (suc n) = omega arith
among_front (t ∷ ts) (suc n) = go (eqb t slot_tick) (among_front ts n)
  where
    go : (u : Bool) → input_among (take n ts) ≤ input_among ts → cond u (input_among (take n ts)) (suc (input_among (take n ts))) ≤ cond u (input_among ts) (suc (input_among ts))
    go true h = h
    go false h = omega arith

among_slots : (n k : ℕ) (m : Driver) (rest : Driver → List ℕ) → ((p : Driver) → input_among (rest p) ≤ n) → input_among (slots_then k m rest) ≤ n
among_slots n zero m rest h = h m
among_slots n (suc k) m rest h = among_slots n k (slot_of m).next rest h

among_ticks : (input : List ℕ) (m : Driver) → input_among (ticks_from input m) ≤ length input
unfolding ticks_from
among_ticks [] m = among_slots 0 m.owed m (λ p. []) (λ p. omega arith)
among_ticks (c ∷ cs) m =
    among_slots (suc (length cs)) m.owed m (λ p. c ∷ ticks_from cs (tick_of p c).next)
    (λ p. let l = among_ticks cs (tick_of p c).next in cases (λ (n : ℕ). n ≤ suc (length cs)) (eqb c slot_tick) (λ _. omega arith) (λ _. omega arith))

pub feed_taken : (p : List ℕ) (m : Driver) (room : ℕ) → (feed_in m p room).taken ≤ length p
unfolding feed_in
feed_taken p m room =
    let ts = ticks_from p m in
    omega (arith, among_front ts (length (run drives m ts room).answers), among_ticks p m)

pub feed_written : (p : List ℕ) (m : Driver) (room : ℕ) → length (feed_in m p room).text ≤ room
unfolding feed_in
feed_written p m room = (within drives (ticks_from p m) m room).1

-- SOME: with so many free places a byte is taken, or a slot
took_some : {m next : Driver} {p : List ℕ} {texts : List (List ℕ)} {n : ℕ} → Took m p texts n next → (1 ≤ n) ⊎ (next.owed + length texts ≡ m.owed)
unfolding slot_of
took_some Took.none = inr (omega arith)
took_some (Took.slot e t) = ⊎_elim inl (λ l. inr (omega arith)) (took_some t)
took_some (Took.tick e t) = inl (omega arith)

pub some_taken : (p : List ℕ) (m : Driver) (room : ℕ) → Bytes p → Kept m → enough ≤ room → 1 ≤ m.owed + length p → let f = feed_in m p room in (1 ≤ f.taken) ⊎ (f.next.owed < m.owed)
unfolding feed_in
some_taken p m room b h r s = let one = few.some_taken p m room h r (λ e. omega arith) in ⊎_elim inl (λ l. inr (omega arith)) (took_some (took p m (no_slots p b) room))

-- and the end ends it, or has less to do
still : {m next : Driver} {texts : List (List ℕ)} {n : ℕ} → Took m [] texts n next → next.ended ≡ m.ended
unfolding slot_of
still Took.none = refl
still (Took.slot e t) = still t

owing_none : (m : Driver) → m.count ≡ 0 → owing m ≡ m.owed
owing_none m z = rw z (omega arith)

owing_some : (m : Driver) → (m.count ≡ 0 → ⊥) → owing m ≡ m.owed + (most_lines + 1)
owing_some m z = rw (ne_eqb m.count 0 z)

abbrev Nearer : Driver → Driver → List (List ℕ) → Type 0
Nearer m next texts = (next.ended ≡ true) ⊎ (owing next + length texts ≤ owing m)

end_nearer : {m next : Driver} {texts : List (List ℕ)} {n : ℕ} → Took m (end_tick ∷ []) texts n next → Nearer m next texts
unfolding slot_of end_of
end_nearer Took.none = inr (omega arith)
end_nearer (Took.slot e t) = ⊎_elim inl (λ l. inr (omega arith)) (end_nearer t)
end_nearer (Took.tick {m} e t) = inl (still t ∙ ap (λ (k : Turning). k.next.ended) (end_tick_lem m))

last_nearer : {m next : Driver} {texts : List (List ℕ)} {n : ℕ} → (m.count ≡ 0 → ⊥) → Kept m → Took m (newline ∷ end_tick ∷ []) texts n next → Nearer m next texts
unfolding slot_of
last_nearer z h Took.none = inr (omega arith)
last_nearer z h (Took.slot {m} e t) = ⊎_elim inl (λ l. inr (omega arith)) (last_nearer z (slot_kept m h) t)
last_nearer {next = next} z h (Took.tick {m} {texts = texts} e t) =
    let is = byte_tick m newline (omega arith) in
    let k = rw is at (tick_kept m newline e h).within.slots in
    let c = newline_starts m in
    ⊎_elim inl (λ l. inr (omega (arith, rw (is, owing_none (byte_of m newline).next c) at l, owing_some m z))) (end_nearer t)

closing_nearer : {m next : Driver} {texts : List (List ℕ)} {n : ℕ} → Kept m → Took m (closing m) texts n next → Nearer m next texts
closing_nearer {m} {next} {texts} h t = go (eqb m.count 0) refl
  where
    go : (u : Bool) → eqb m.count 0 ≡ u → Nearer m next texts
    go true e = end_nearer (rw e at t)
    go false e = last_nearer (eqb-false m.count 0 e) h (rw e at t)

pub end_on : (m : Driver) (room : ℕ) → Kept m → enough ≤ room → let f = feed_in m (closing m) room in (f.next.ended ≡ true) ⊎ (owing f.next < owing m)
unfolding feed_in
end_on m room h r =
    let some : 0 < length (closing m) = cases (λ (ts : List ℕ). 0 < length (ts ++ end_tick ∷ [])) (eqb m.count 0) (λ _. omega arith) (λ _. omega arith) in
    let one = few.some_taken (closing m) m room h r (λ _. some) in
    ⊎_elim inl (λ l. inr (omega arith)) (closing_nearer h (took (closing m) m (closing_plain m) room))
