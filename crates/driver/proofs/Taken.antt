-- The ticks that a run of the driver took: slots that were owed, and bytes of the input, or its end, once no slot was.
use Prim.Native.Nat.{ℕ, suc, ◌-◌}
use mathlib.Core.Path.{◌≡◌}
use mathlib.Core.List.{List, [], ◌∷◌}
use native.Mathlib.Omega.{arith}
use lib.ListN.{length, take}
use borrow.Author.Tests.{ne_eqb}
use Rattle.numbers.proofs.Choices.{cases}
use Rattle.fold.specs.Fold.{Ran, places, takes, run}
use Rattle.ballbox.specs.Box.{Bytes}
use Rattle.driver.specs.Feeding.{slot_of, slot_tick, tick_of, drives, ticks_from, input_among}
use Rattle.driver.specs.declared.Driver.{Driver}
use Rattle.driver.proofs.Ticks.{no_tick, byte_first, slot_first, by_ticks, NoSlot}

-- from a driver on, of an input: the texts written, the bytes taken, and the driver then
pub data Took : Driver → List ℕ → List (List ℕ) → ℕ → Driver → Type 0 where
  none : {m : Driver} {input : List ℕ} → Took m input [] 0 m
  slot : {m next : Driver} {input : List ℕ} {texts : List (List ℕ)} {n k : ℕ} → m.owed ≡ suc k → Took (slot_of m).next input texts n next
      → Took m input ((slot_of m).text ∷ texts) n next
  tick : {m next : Driver} {c : ℕ} {cs : List ℕ} {texts : List (List ℕ)} {n : ℕ} → m.owed ≡ 0 → Took (tick_of m c).next cs texts n next
      → Took m (c ∷ cs) ((tick_of m c).text ∷ texts) (suc n) next

pub no_slots : (bytes : List ℕ) → Bytes bytes → NoSlot bytes
no_slots [] h = tt
no_slots (c ∷ cs) h = (λ e. omega (arith, h.0), no_slots cs h.1)

abbrev TookIn : Driver → List ℕ → List ℕ → Ran Driver (List ℕ) → Type 0
TookIn m input ticks f = Took m input f.answers (input_among (take (length f.answers) ticks)) f.next

slot_tick_lem : {m next : Driver} {input : List ℕ} {texts : List (List ℕ)} {n k : ℕ} → m.owed ≡ suc k → Took (tick_of m slot_tick).next input texts n next
    → Took m input ((tick_of m slot_tick).text ∷ texts) n next
unfolding tick_of
slot_tick_lem e t = slot e t

-- what a run over the ticks of an input took
pub took : (input : List ℕ) (m : Driver) → NoSlot input → (room : ℕ) → TookIn m input (ticks_from input m) (run drives m (ticks_from input m) room)
unfolding run
took =
    by_ticks (λ input m. NoSlot input → (room : ℕ) → TookIn m input (ticks_from input m) (run drives m (ticks_from input m) room)) (λ m e n room. rw (no_tick m e) none)
    (λ c cs m e ih n room.
    rw (byte_first m c cs e)
    (cases (TookIn m (c ∷ cs) (c ∷ ticks_from cs (tick_of m c).next)) (takes drives m c room) (λ _. rw (ne_eqb c slot_tick n.0) (tick e (ih n.1 (room - places drives m c)))) (λ _. none)))
    (λ input m k e ih n room.
    rw (slot_first m input k e)
    (cases (TookIn m input (slot_tick ∷ ticks_from input (tick_of m slot_tick).next)) (takes drives m slot_tick room) (λ _. slot_tick_lem e (ih n (room - places drives m slot_tick))) (λ _. none)))
