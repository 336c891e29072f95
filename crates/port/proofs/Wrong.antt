-- Wrong answers, two for each promise, that it does not permit.
use Prim.Native.Nat.{ℕ}
use mathlib.Core.Path.{ap}
use mathlib.Core.List.{List, [], ◌∷◌}
use native.Mathlib.Omega.{arith}
use Rattle.numbers.specs.Bits.{number, bit, bits}
use Rattle.fold.specs.Fold.{run}
use Rattle.fold.specs.Calls.{call, sum}
use Rattle.fold.specs.Calls as calls
use Rattle.port.specs.Marks.{port, opened, cleared, plain, behind_mark, byte_of, quiet_of}
use Rattle.port.specs.Line.{Long}
use Rattle.port.specs.Promises.{FreshPromise, ClearingPromise, BytePromise, QuietPromise, LostPromise, BytesPromise}
use Rattle.port.specs.declared.Port.{Port}
use Rattle.std.proofs.Common.{Option, None, Some}
use Rattle.port.specs.declared.Heard.{Heard}

-- which word was told; 0 stands for none
abbrev word_in : Option ℕ → ℕ
word_in None = 0
word_in (Some w) = w

abbrev told : Heard → ℕ
told h = word_in h.given

-- a fresh port that clears bit 7; and one that has told a silence, so that the first is left out
pub fresh_clears : FreshPromise 100 (opened 1 100) → ⊥
fresh_clears e = omega (arith, ap (λ (p : Port). p.clears) e)

pub fresh_has_told : FreshPromise 100 (port 0 0 100 0) → ⊥
fresh_has_told e = omega (arith, ap (λ (p : Port). p.left) e)

-- a clearing port that clears nothing; and one that takes the first byte for the one behind FF
pub clearing_nothing : ClearingPromise 100 (opened 0 100) → ⊥
clearing_nothing e = omega (arith, ap (λ (p : Port). p.clears) e)

pub clearing_marked : ClearingPromise 100 (port 1 1 100 100) → ⊥
clearing_marked e = omega (arith, ap (λ (p : Port). p.held) e)

-- FF told as it comes; a damaged byte told as sound; and FF FF with bit 7, where it is to be cleared
pub byte_mark_told : BytePromise (opened 0 100) 255 (record { next = opened 0 100; given = Some 255 }) → ⊥
unfolding byte_of plain
byte_mark_told e = omega (arith, ap told e)

pub byte_damaged_told : BytePromise (port 2 0 100 100) 2 (record { next = opened 0 100; given = Some 2 }) → ⊥
unfolding byte_of
byte_damaged_told e = omega (arith, ap told e)

pub byte_not_cleared : BytePromise (port 1 1 100 100) 255 (record { next = opened 1 100; given = Some 255 }) → ⊥
unfolding byte_of behind_mark cleared number bits bit
byte_not_cleared e = omega (arith, ap told e)

-- a silence before the waits make up its length; one that was told, told again; and one that is due, not told
pub quiet_early : QuietPromise (port 0 0 100 100) 99 (record { next = port 0 0 100 0; given = Some 257 }) → ⊥
unfolding quiet_of
quiet_early e = omega (arith, ap told e)

pub quiet_again : QuietPromise (port 0 0 100 0) 100 (record { next = port 0 0 100 0; given = Some 257 }) → ⊥
unfolding quiet_of
quiet_again e = omega (arith, ap told e)

pub quiet_not_told : QuietPromise (port 0 0 100 100) 100 (record { next = port 0 0 100 0; given = None }) → ⊥
unfolding quiet_of
quiet_not_told e = omega (arith, ap told e)

-- a loss of which nothing is told; and one that drops the mark, so that what comes of it is told as bytes
pub lost_untold : LostPromise (opened 0 100) (record { next = opened 0 100; given = None }) → ⊥
lost_untold e = omega (arith, ap told e)

pub lost_drops_the_mark : LostPromise (port 2 0 100 100) (record { next = opened 0 100; given = Some 256 }) → ⊥
lost_drops_the_mark e = omega (arith, ap (λ (h : Heard). h.next.held) e)

-- FF FF told as two words; and a byte taken whose word has no room
abbrev two : List ℕ
two = 0 ∷ 0 ∷ []

pub bytes_twice : BytesPromise (opened 0 100) (255 ∷ 255 ∷ []) two (record { next = opened 0 100; taken = 2; written = 2 }) (255 ∷ 255 ∷ []) → ⊥
unfolding byte_of plain behind_mark cleared run call calls.line sum
bytes_twice e = omega (arith, ap (λ (l : Long). l.counts) e)

pub bytes_without_room : BytesPromise (opened 0 100) (1 ∷ 2 ∷ []) (0 ∷ []) (record { next = opened 0 100; taken = 2; written = 1 }) (1 ∷ []) → ⊥
unfolding byte_of plain behind_mark cleared run call calls.line sum
bytes_without_room e = omega (arith, ap (λ (l : Long). l.taken) e)
