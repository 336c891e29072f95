-- The ticks of an input, one after the other: a slot where one is owed, and else a byte.
use Prim.Native.Nat.{ℕ, zero, suc, ◌-◌, ◌<◌, ◌≤◌}
use mathlib.Core.Path.{◌≡◌, refl, sym, ◌∙◌, ap}
use mathlib.Core.List.{List, [], ◌∷◌, ◌++◌}
use native.Mathlib.Omega.{arith}
use lib.ListN.{length, take, drop, length-drop, drop_of_length-le}
use borrow.Author.Tests.{ne_eqb}
use Rattle.numbers.proofs.Choices.{cases}
use Rattle.fold.specs.Fold.{Ran, ran, behind, takes, written, run, state_over}
use Rattle.fold.proofs.Laws.{by_words, join, not_reached, within}
use Rattle.driver.specs.Feeding.{slot_of, slot_tick, tick_of, drives, slots_then, ticks_from, input_among, feed_in}
use Rattle.driver.specs.declared.Driver.{Driver}

-- a slot that is owed leaves one less
pub owed_less : (m : Driver) (k : ℕ) → m.owed ≡ suc k → (tick_of m slot_tick).next.owed ≡ k
unfolding tick_of slot_of
owed_less m k e = omega (arith, e)

-- no tick, a byte first, or a slot first
module _ (m : Driver) where
  pub no_tick : m.owed ≡ 0 → ticks_from [] m ≡ []
  unfolding ticks_from
  no_tick e = rw e

  pub byte_first : (c : ℕ) (cs : List ℕ) → m.owed ≡ 0 → ticks_from (c ∷ cs) m ≡ c ∷ ticks_from cs (tick_of m c).next
  unfolding ticks_from
  byte_first c cs e = rw e

  one_slot : (rest : Driver → List ℕ) (k : ℕ) → m.owed ≡ suc k → slots_then m.owed m rest ≡ slot_tick ∷ slots_then (tick_of m slot_tick).next.owed (tick_of m slot_tick).next rest
  unfolding tick_of
  one_slot rest k e = ap (λ (j : ℕ). slots_then j m rest) e ∙ ap (λ (j : ℕ). slot_tick ∷ slots_then j (slot_of m).next rest) (sym (owed_less m k e))

  pub slot_first : (input : List ℕ) (k : ℕ) → m.owed ≡ suc k → ticks_from input m ≡ slot_tick ∷ ticks_from input (tick_of m slot_tick).next
  unfolding ticks_from
  slot_first [] k e = one_slot (λ p. []) k e
  slot_first (c ∷ cs) k e = one_slot (λ p. c ∷ ticks_from cs (tick_of p c).next) k e

-- what holds where nothing is to come, and of a driver and its input where it holds behind their first tick
module _ (P : List ℕ → Driver → Type 0)
    (none : (m : Driver) → m.owed ≡ 0 → P [] m)
    (byte : (c : ℕ) (cs : List ℕ) (m : Driver) → m.owed ≡ 0 → P cs (tick_of m c).next → P (c ∷ cs) m)
    (slot : (input : List ℕ) (m : Driver) (k : ℕ) → m.owed ≡ suc k → P input (tick_of m slot_tick).next → P input m) where
  behind_slots : (input : List ℕ) → ((m : Driver) → m.owed ≡ 0 → P input m) → (k : ℕ) (m : Driver) → m.owed ≡ k → P input m
  behind_slots input base zero m e = base m e
  behind_slots input base (suc k) m e = slot input m k e (behind_slots input base k (tick_of m slot_tick).next (owed_less m k e))

  pub by_ticks : (input : List ℕ) (m : Driver) → P input m
  by_ticks [] m = behind_slots [] none m.owed m refl
  by_ticks (c ∷ cs) m = behind_slots (c ∷ cs) (λ p e. byte c cs p e (by_ticks cs (tick_of p c).next)) m.owed m refl

-- the ticks of p and then of q, from the driver behind p
pub ticks_append : (q p : List ℕ) (m : Driver) → ticks_from (p ++ q) m ≡ ticks_from p m ++ ticks_from q (state_over drives m (ticks_from p m))
unfolding state_over
ticks_append q =
    by_ticks (λ p m. ticks_from (p ++ q) m ≡ ticks_from p m ++ ticks_from q (state_over drives m (ticks_from p m))) (λ m e. rw (no_tick m e))
    (λ c cs m e ih. rw (byte_first m c (cs ++ q) e, byte_first m c cs e) (ap (λ (l : List ℕ). c ∷ l) ih))
    (λ p m k e ih. rw (slot_first m (p ++ q) k e, slot_first m p k e) (ap (λ (l : List ℕ). slot_tick ∷ l) ih))

-- where all are taken, the driver is the one behind them
pub behind_all : (ticks : List ℕ) (m : Driver) (room : ℕ) → let f = run drives m ticks room in length f.answers ≡ length ticks → f.next ≡ state_over drives m ticks
unfolding state_over
behind_all =
    by_words drives (λ m ticks room f. length f.answers ≡ length ticks → f.next ≡ state_over drives m ticks) (λ m room h. refl) (λ m t ticks room e h. absurd (omega arith))
    (λ m t ticks room f e ih h. ih (omega arith))

-- the run of p ++ q is the run of p and then of q, where all of p was taken, and else the run of p
module _ (q p : List ℕ) (m : Driver) (room : ℕ) where
  abbrev f : Ran Driver (List ℕ)
  f = run drives m (ticks_from p m) room

  pub run_all : length f.answers ≡ length (ticks_from p m)
      → run drives m (ticks_from (p ++ q) m) room ≡ behind f.answers (run drives f.next (ticks_from q f.next) (room - length (written drives f.answers)))
  run_all h = rw (ticks_append q p m, ← behind_all (ticks_from p m) m room h) (join drives (ticks_from q f.next) (ticks_from p m) m room h)

  pub run_part : length f.answers < length (ticks_from p m) → run drives m (ticks_from (p ++ q) m) room ≡ f
  run_part h = rw (ticks_append q p m) (not_reached drives (ticks_from q (state_over drives m (ticks_from p m))) (ticks_from p m) m room h)

-- bytes are no slots
abbrev pub NoSlot : List ℕ → Type 0
NoSlot [] = Unit {0}
NoSlot (c ∷ cs) = (c ≡ slot_tick → ⊥) × NoSlot cs

-- the ticks that a run did not take are those of what is left of the input
pub record Left (input ticks : List ℕ) (f : Ran Driver (List ℕ)) : Type 0 where
  pub within : input_among (take (length f.answers) ticks) ≤ length input
  pub left : drop (length f.answers) ticks ≡ ticks_from (drop (input_among (take (length f.answers) ticks)) input) f.next

left_none : (input : List ℕ) (m : Driver) (ticks : List ℕ) → ticks_from input m ≡ ticks → Left input ticks (ran 0 m [])
left_none input m ticks e = record { within = omega arith; left = sym e }

left_byte : (c : ℕ) (cs ticks text : List ℕ) (f : Ran Driver (List ℕ)) → (c ≡ slot_tick → ⊥) → Left cs ticks f → Left (c ∷ cs) (c ∷ ticks) (behind (text ∷ []) f)
left_byte c cs ticks text f n l = let e = ne_eqb c slot_tick n in record { within = rw e (omega (arith, l.within)); left = rw e l.left }

left_slot : (input ticks text : List ℕ) (f : Ran Driver (List ℕ)) → Left input ticks f → Left input (slot_tick ∷ ticks) (behind (text ∷ []) f)
left_slot input ticks text f l = record { within = l.within; left = l.left }

pub run_left : (input : List ℕ) (m : Driver) → NoSlot input → (room : ℕ) → Left input (ticks_from input m) (run drives m (ticks_from input m) room)
unfolding run
run_left =
    by_ticks (λ input m. NoSlot input → (room : ℕ) → Left input (ticks_from input m) (run drives m (ticks_from input m) room)) (λ m e n room. rw (no_tick m e) (left_none [] m [] (no_tick m e)))
    (λ c cs m e ih n room.
    let after = (tick_of m c).next in
    rw (byte_first m c cs e)
    (cases (Left (c ∷ cs) (c ∷ ticks_from cs after)) (takes drives m c room)
    (λ _. left_byte c cs (ticks_from cs after) (tick_of m c).text (run drives after (ticks_from cs after) (room - length (tick_of m c).text)) n.0 (ih n.1 (room - length (tick_of m c).text)))
    (λ _. left_none (c ∷ cs) m (c ∷ ticks_from cs after) (byte_first m c cs e))))
    (λ input m k e ih n room.
    let after = (tick_of m slot_tick).next in
    rw (slot_first m input k e)
    (cases (Left input (slot_tick ∷ ticks_from input after)) (takes drives m slot_tick room)
    (λ _. left_slot input (ticks_from input after) (tick_of m slot_tick).text (run drives after (ticks_from input after) (room - length (tick_of m slot_tick).text)) (ih n (room - length (tick_of m slot_tick).text)))
    (λ _. left_none input m (slot_tick ∷ ticks_from input after) (slot_first m input k e))))

-- where a slot is owed, or a byte is there, a tick is to come
pub some_tick : (input : List ℕ) (m : Driver) → (m.owed ≡ 0 → 0 < length input) → 0 < length (ticks_from input m)
some_tick input m h = go m.owed refl input h
  where
    go : (k : ℕ) → m.owed ≡ k → (l : List ℕ) → (m.owed ≡ 0 → 0 < length l) → 0 < length (ticks_from l m)
    go (suc k) e l h = rw (slot_first m l k e) (omega arith)
    go zero e [] h = absurd (omega (arith, h e))
    go zero e (c ∷ cs) h = rw (byte_first m c cs e) (omega arith)

-- a piece is taken whole, with all that it owes, or not
module _ (input : List ℕ) (n : NoSlot input) (m : Driver) (room : ℕ) where
  abbrev answers : List (List ℕ)
  answers = (run drives m (ticks_from input m) room).answers

  pub took_all_lem : length input ≤ (feed_in m input room).taken → (feed_in m input room).next.owed ≡ 0 → length answers ≡ length (ticks_from input m)
  unfolding feed_in
  took_all_lem h e =
      let f = run drives m (ticks_from input m) room in
      let l = run_left input m n room in
      let none : drop (length answers) (ticks_from input m) ≡ [] = l.left ∙ rw (drop_of_length-le input h) (no_tick f.next e) in
      omega (arith, ap length none, length-drop (length answers) (ticks_from input m), (within drives (ticks_from input m) m room).0)

  pub took_part : ((feed_in m input room).next.owed ≡ 0 → (feed_in m input room).taken < length input) → length answers < length (ticks_from input m)
  unfolding feed_in
  took_part h =
      let f = run drives m (ticks_from input m) room in
      let t = input_among (take (length answers) (ticks_from input m)) in
      let some = some_tick (drop t input) f.next (λ e. omega (arith, h e, length-drop t input)) in
      omega (arith, some, ap length (run_left input m n room).left, length-drop (length answers) (ticks_from input m))
