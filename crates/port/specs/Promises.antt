-- What is promised of `Port::fresh`, `clearing`, `byte`, `quiet`, `lost` and `bytes`: each is one answer, for every port,
-- byte, wait and slice.
use Rattle.std.specs.Prelude.{ℕ, ◌≤◌, ◌≡◌, List, [], ◌∷◌, ◌++◌, length, take}
use Rattle.port.specs.Marks.{opened, byte_of, quiet_of, lost_of}
use Rattle.port.specs.Line.{words_in, whole, line_of}
use Rattle.port.specs.Sessions.{Event, read, thrown, quiet, lost, reads, throws}
use Rattle.port.specs.declared.Port.{Port}
use Rattle.port.specs.declared.Heard.{Heard}
use Rattle.port.specs.declared.Words.{Words}

-- `Port::fresh(silence)`
abbrev pub FreshPromise : ℕ → Port → Type 0
FreshPromise silence answer = answer ≡ opened 0 silence

-- `Port::clearing(silence)`
abbrev pub ClearingPromise : ℕ → Port → Type 0
ClearingPromise silence answer = answer ≡ opened 1 silence

-- `Port::byte(self, b)`
abbrev pub BytePromise : Port → ℕ → Heard → Type 0
BytePromise p b answer = answer ≡ byte_of p b

-- `Port::quiet(self, wait)`
abbrev pub QuietPromise : Port → ℕ → Heard → Type 0
QuietPromise p wait answer = answer ≡ quiet_of p wait

-- `Port::lost(self)`
abbrev pub LostPromise : Port → Heard → Type 0
LostPromise p answer = answer ≡ lost_of p

-- `Port::bytes(self, raw, out)`
abbrev pub BytesPromise : Port → List ℕ → List ℕ → Words → List ℕ → Type 0
BytesPromise p raw before answer after = whole answer after ≡ line_of p raw before

-- `Calls p events words`: the program hands these to the port by any calls, bytes one by one or in lots of any size, each
-- with the port that the one before it left; and these are the words that the answers give, whatever the promises permit,
-- but for those that it throws away. A lot is lent places for as many words as it has bytes.
pub data Calls : Port → List Event → List ℕ → Type 0 where
  done : {p : Port} → Calls p [] []
  byte : {p : Port} {b : ℕ} {h : Heard} {events : List Event} {words : List ℕ}
      → BytePromise p b h → Calls h.next events words → Calls p (read b ∷ events) (words_in h.given ++ words)
  wait : {p : Port} {w : ℕ} {h : Heard} {events : List Event} {words : List ℕ}
      → QuietPromise p w h → Calls h.next events words → Calls p (quiet w ∷ events) (words_in h.given ++ words)
  loss : {p : Port} {h : Heard} {events : List Event} {words : List ℕ}
      → LostPromise p h → Calls h.next events words → Calls p (lost ∷ events) (words_in h.given ++ words)
  lot : {p : Port} (raw out after : List ℕ) (a : Words) {events : List Event} {words : List ℕ}
      → length raw ≤ length out
      → BytesPromise p raw out a after
      → Calls a.next events words
      → Calls p (reads raw ++ events) (take a.written after ++ words)
  byte_thrown : {p : Port} {b : ℕ} {h : Heard} {events : List Event} {words : List ℕ}
      → BytePromise p b h → Calls h.next events words → Calls p (thrown b ∷ events) words
  lot_thrown : {p : Port} (raw out after : List ℕ) (a : Words) {events : List Event} {words : List ℕ}
      → length raw ≤ length out
      → BytesPromise p raw out a after
      → Calls a.next events words
      → Calls p (throws raw ++ events) words
