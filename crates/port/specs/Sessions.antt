-- A port at work: bytes, waits and losses, one after the other, and the words that they give.
use Rattle.std.specs.Prelude.{ℕ, ◌+◌, ◌≡◌, List, [], ◌∷◌, ◌++◌, None}
use Rattle.port.specs.Marks.{byte_of, quiet_of, lost_of}
use Rattle.port.specs.Line.{words_in}
use Rattle.port.specs.declared.Port.{Port}
use Rattle.port.specs.declared.Heard.{Heard}

-- what the program hands to the port: a byte that it read; one whose word, if it gives one, it throws away; a wait in
-- which nothing came; or that bytes are known to be lost
pub data Event : Type 0 where
  read : ℕ → Event
  thrown : ℕ → Event
  quiet : ℕ → Event
  lost : Event

abbrev pub step_of : Port → Event → Heard
step_of p (read b) = byte_of p b
step_of p (thrown b) = record { next = (byte_of p b).next; given = None }
step_of p (quiet w) = quiet_of p w
step_of p lost = lost_of p

unfoldable pub words_over : Port → List Event → List ℕ
words_over p [] = []
words_over p (e ∷ events) = words_in (step_of p e).given ++ words_over (step_of p e).next events

unfoldable pub port_over : Port → List Event → Port
port_over p [] = p
port_over p (e ∷ events) = port_over (step_of p e).next events

abbrev pub waits : List ℕ → List Event
waits [] = []
waits (w ∷ ws) = quiet w ∷ waits ws

abbrev pub reads : List ℕ → List Event
reads [] = []
reads (b ∷ bytes) = read b ∷ reads bytes

abbrev pub throws : List ℕ → List Event
throws [] = []
throws (b ∷ bytes) = thrown b ∷ throws bytes

-- waits, added up
unfoldable pub sum : List ℕ → ℕ
sum [] = 0
sum (w ∷ waits) = w + sum waits

-- `Alike p events others`: a program whose reads cut a mark in two. A loss that is told within a mark, or among bytes that
-- are thrown away, is as one told before; and a byte that gives no word is thrown away or not.
pub data Alike : Port → List Event → List Event → Type 0 where
  same : {p : Port} {events : List Event} → Alike p events events
  before_the_mark : {p : Port} {b : ℕ} {rest : List Event} → (byte_of p b).given ≡ None → Alike p (read b ∷ lost ∷ rest) (lost ∷ read b ∷ rest)
  before_thrown : {p : Port} {b : ℕ} {rest : List Event} → Alike p (thrown b ∷ lost ∷ rest) (lost ∷ thrown b ∷ rest)
  no_word : {p : Port} {b : ℕ} {rest : List Event} → (byte_of p b).given ≡ None → Alike p (read b ∷ rest) (thrown b ∷ rest)
  later : {p : Port} {e : Event} {events others : List Event} → Alike (step_of p e).next events others → Alike p (e ∷ events) (e ∷ others)
  and_then : {p : Port} {events between others : List Event} → Alike p events between → Alike p between others → Alike p events others
