-- What holds of a fresh driver, and of every driver that comes of one: it is good, the bytes that its box sends are bytes, and it owes no slot once it has ended.
use Prim.Native.Nat.{ℕ}
use mathlib.Core.Path.{◌≡◌, refl, ◌∙◌}
use mathlib.Core.Bool.{true}
use native.Mathlib.Omega.{arith}
use lib.Dec.{leb, eqb}
use lib.ListN.{length, length-set}
use Rattle.numbers.proofs.Choices.{cases}
use Rattle.listing.specs.Lines.{newline}
use Rattle.ballbox.specs.Box.{FiveBytes, fresh_box}
use Rattle.ballbox.specs.Good as ball
use Rattle.ballbox.specs.declared.BallBox.{BallBox}
use Rattle.ballbox.proofs.Goodness.{fresh_is_good, stepped_good}
use Rattle.ballbox.proofs.Words.{fresh_bytes, step_bytes}
use Rattle.history.specs.Runs.{answer_to}
use Rattle.history.proofs.Permitted.{answer_permitted}
use Rattle.driver.specs.Lines.{said_by}
use Rattle.driver.specs.Feeding.{longest, fresh, unfinished, Turning, taken_of, byte_of, slot_of, end_of, slot_tick, end_tick, tick_of, good}
use Rattle.driver.specs.declared.Order.{Order}
use Rattle.driver.specs.declared.Order.TheVariants as order
use Rattle.driver.specs.declared.Driver.{Driver}
use Rattle.driver.proofs.Keeps.{Stays, GoodWith, each_keeps, made}

-- a good box, of which bytes are going
pub record OfBytes (b : BallBox) : Type 0 where
  pub good : ball.good b ≡ true
  pub bytes : FiveBytes b.going

pub stays_bytes : Stays OfBytes
unfolding answer_to
stays_bytes =
    record {
      fresh = record { good = fresh_is_good fresh_box refl; bytes = fresh_bytes fresh_box refl };
      step = λ b e h. record { good = stepped_good b e h.good; bytes = step_bytes b e (answer_to b e) (answer_permitted b e) h.bytes };
    }

pub record Kept (m : Driver) : Type 0 where
  pub within : GoodWith OfBytes m
  pub held : length m.held ≡ longest
  pub over : m.ended ≡ true → m.owed ≡ 0

pub kept_good : (m : Driver) → Kept m → good m ≡ true
kept_good m h = let w = h.within in made m (record { lines = w.lines; few = w.few; slots = w.slots; box = w.box.good })

pub fresh_kept : Kept fresh
fresh_kept =
    record { within = record { lines = omega arith; few = omega arith; slots = omega arith; box = stays_bytes.fresh }; held = refl; over = λ _. refl }

-- the bytes held, and the slots owed once it has ended
abbrev Holds : Driver → Type 0
Holds m = (length m.held ≡ longest) × (m.ended ≡ true → m.owed ≡ 0)

line_holds : (m : Driver) (o : Order) → m.owed ≡ 0 → Holds (taken_of m o).next
unfolding taken_of
line_holds m o e = cases (λ (k : Turning). Holds k.next) m.ended (λ _. (refl, λ _. e)) (λ _. (refl, λ t. rw t))

byte_holds : (m : Driver) (c : ℕ) → m.owed ≡ 0 → length m.held ≡ longest → Holds (byte_of m c).next
unfolding byte_of
byte_holds m c e h =
    let Q : Turning → Type 0 = λ k. Holds k.next in
    cases Q (eqb c newline) (λ _. line_holds m (said_by (unfinished m)) e)
    (λ _. cases Q (leb longest m.count) (λ _. line_holds m order.Bad e) (λ _. (length-set m.held m.count c ∙ h, λ _. e)))

slot_holds : (m : Driver) → Kept m → Holds (slot_of m).next
unfolding slot_of
slot_holds m h = (h.held, λ e. omega (arith, h.over e))

tick_holds : (m : Driver) (t : ℕ) → m.owed ≡ 0 → Kept m → Holds (tick_of m t).next
unfolding tick_of end_of
tick_holds m t e h =
    let Q : Turning → Type 0 = λ k. Holds k.next in
    cases Q (eqb t slot_tick) (λ _. slot_holds m h) (λ _. cases Q (eqb t end_tick) (λ _. (refl, λ _. e)) (λ _. byte_holds m t e h.held))

-- a slot, and any other tick once no slot is owed
pub slot_kept : (m : Driver) → Kept m → Kept (slot_of m).next
unfolding tick_of
slot_kept m h = let k = slot_holds m h in record { within = each_keeps stays_bytes m slot_tick h.within; held = k.0; over = k.1 }

pub tick_kept : (m : Driver) (t : ℕ) → m.owed ≡ 0 → Kept m → Kept (tick_of m t).next
tick_kept m t e h = let k = tick_holds m t e h in record { within = each_keeps stays_bytes m t h.within; held = k.0; over = k.1 }
