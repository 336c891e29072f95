-- The encoder's refusals: each has its number among the seven, tells no length and leaves the buffer.
use Prim.Native.Nat.{ℕ}
use mathlib.Core.Path.{◌≡◌, refl, sym, ap}
use mathlib.Core.Bool.{false, not}
use mathlib.Core.List.Memᴰ.{head as here}
use mathlib.Core.List.Memᴰ.{tail as there}
use mathlib.Core.List.{List, [], ◌∷◌, map, Memᴰ}
use lib.ListN.{length}
use lib.Dec.{ltb}
use borrow.Author.Tests.{not-true}
use Rattle.numbers.proofs.Choices.{cases}
use Rattle.numbers.proofs.Tested as holding
use Rattle.wire.specs.Line.{named_by, size_of}
use Rattle.wire.specs.Holds.{pressable, unheld, is_none, holds}
use Rattle.wire.specs.Numbers.{accepted, refusal}
use Rattle.wire.specs.Encoder.{Encoding, Encoded, refused, outcome, unheld_number, encode_in}
use Rattle.wire.specs.Promises.{unwritten, EncodePromise, EncodeRefusal}
use Rattle.wire.specs.declared.Report.{Report}
use Rattle.wire.specs.declared.Movement.{Movement}
use Rattle.wire.specs.declared.Movement.TheVariants.{FirstX, FirstY, SecondX, SecondY}
use Rattle.std.proofs.Common.{Option, Some, None}
use Rattle.wire.specs.declared.Format.{Format}

-- a movement that is not held has a number of its own
listed : (before : List ℕ) (u : Option Movement) → is_none u ≡ false → Memᴰ (refused (unheld_number u) before) (unwritten before)
listed before None e = absurd (holding.holds (sym e))
listed before (Some FirstX) e = there (there (here refl))
listed before (Some FirstY) e = there (there (there (here refl)))
listed before (Some SecondX) e = there (there (there (there (here refl))))
listed before (Some SecondY) e = there (there (there (there (there (here refl)))))

encode_rightly : (named : Option Format) (r : Report) (before : List ℕ) → EncodeRefusal before (encode_in named r before)
unfolding encode_in holds
encode_rightly None r before = refusal (here refl)
encode_rightly (Some f) r before =
    cases (EncodeRefusal before) (not (pressable r)) (λ p. refusal (there (here refl)))
    (λ p. cases (EncodeRefusal before) (not (holds f r)) (λ h. refusal (listed before (unheld f r) (not-true (holds f r) h)))
    (λ h. cases (EncodeRefusal before) (ltb (length before) (size_of f)) (λ s. refusal (there (there (there (there (there (there (here refl)))))))) (λ s. accepted refl)))

pub refusals : (letter : ℕ) (r : Report) (before after : List ℕ) (a : Encoded) → EncodePromise letter r before a after → EncodeRefusal before (outcome a after)
refusals letter r before after a p = rw p (encode_rightly (named_by letter) r before)

-- each of them tells no length and leaves the buffer
pub unwritten_leaves : (before : List ℕ) {e : Encoding} (numbers : List ℕ) → Memᴰ e (map (λ (n : ℕ). refused n before) numbers) → (e.told ≡ 0) × (e.buffer ≡ before)
unwritten_leaves before {e = e} [] m = elim m [ ]
unwritten_leaves before (n ∷ numbers) (here q) = (ap (λ (x : Encoding). x.told) q, ap (λ (x : Encoding). x.buffer) q)
unwritten_leaves before (n ∷ numbers) (there m) = unwritten_leaves before numbers m
