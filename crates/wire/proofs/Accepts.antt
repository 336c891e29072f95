-- What the encoder does, refusal by refusal in their order, and what one that was not refused has done.
use Prim.Native.Nat.{ℕ, ◌≤◌}
use mathlib.Core.Path.{◌≡◌, refl, sym, ◌∙◌, ap}
use mathlib.Core.Bool.{Bool, true, false}
use mathlib.Core.List.{List}
use native.Mathlib.Omega.{arith}
use lib.ListN.{length}
use lib.Dec.{ltb}
use borrow.Author.Tests.{le-ltb, ltb-false}
use Rattle.numbers.proofs.Tested.{left, right}
use Rattle.wire.proofs.Faults.{eight_or_more, unheld_some}
use Rattle.wire.specs.Line.{size_of}
use Rattle.wire.specs.Holds.{pressable, unheld, holds, accepted}
use Rattle.wire.specs.Numbers.{success, bad_buttons, short_buffer}
use Rattle.wire.specs.Encoder.{Encoding, refused, written, unheld_number, encode_in}
use Rattle.wire.specs.declared.Report.{Report}
use Rattle.wire.specs.declared.Format.{Format}
use Rattle.std.proofs.Common.{Some}

module _ (f : Format) (r : Report) (buffer : List ℕ) where
  -- 3, whatever the movements and the room; then the movement's number, whatever the room; then 5; and else the bytes
  pub buttons_first : pressable r ≡ false → encode_in (Some f) r buffer ≡ refused bad_buttons buffer
  unfolding encode_in
  buttons_first p = rw p

  pub movement_next : pressable r ≡ true → holds f r ≡ false → encode_in (Some f) r buffer ≡ refused (unheld_number (unheld f r)) buffer
  unfolding encode_in
  movement_next p h = rw (p, h)

  pub room_last : accepted f r ≡ true → ltb (length buffer) (size_of f) ≡ true → encode_in (Some f) r buffer ≡ refused short_buffer buffer
  unfolding encode_in accepted
  room_last a t = rw (left (pressable r) (holds f r) a, right (pressable r) (holds f r) a, t)

  pub accepts : accepted f r ≡ true → size_of f ≤ length buffer → encode_in (Some f) r buffer ≡ written f r buffer
  unfolding encode_in accepted
  accepts a h = rw (left (pressable r) (holds f r) a, right (pressable r) (holds f r) a, le-ltb (length buffer) (size_of f) h)

  -- a report is accepted, and its bytes are written, where the answer is 0
  pub record Done (l : Encoding) : Type 0 where
    pub taken : accepted f r ≡ true
    pub is : l ≡ written f r buffer

  pub done : (l : Encoding) → l ≡ encode_in (Some f) r buffer → l.refusal ≡ success → Done l
  unfolding accepted
  done l e z = go (pressable r) refl (holds f r) refl (ltb (length buffer) (size_of f)) refl
    where
      number : {m : Encoding} → encode_in (Some f) r buffer ≡ m → m.refusal ≡ success
      number d = ap (λ (l : Encoding). l.refusal) (sym (e ∙ d)) ∙ z

      go : (p : Bool) → pressable r ≡ p → (h : Bool) → holds f r ≡ h → (t : Bool) → ltb (length buffer) (size_of f) ≡ t → Done l
      go false ep h eh t et = absurd (omega (arith, number (buttons_first ep)))
      go true ep false eh t et = absurd (omega (arith, number (movement_next ep eh), eight_or_more (unheld f r) (unheld_some f r eh)))
      go true ep true eh true et = absurd (omega (arith, number (room_last (rw (ep, eh)) et)))
      go true ep true eh false et = record { taken = rw (ep, eh); is = e ∙ accepts (rw (ep, eh)) (ltb-false (length buffer) (size_of f) et) }
