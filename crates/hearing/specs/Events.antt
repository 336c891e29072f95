-- What was heard of a tty, as events of the port.
use Rattle.std.specs.Prelude.{ℕ, cond, List, [], ◌∷◌, eqb}
use Rattle.shell.specs.Outside.{wait}
use Rattle.port.specs.Sessions.{Event, read, quiet}

-- a byte that was read, or a wait of a tenth of a second
abbrev pub event_of : ℕ → Event
event_of h = cond (eqb h wait) (quiet 1) (read h)

abbrev pub events_of : List ℕ → List Event
events_of [] = []
events_of (h ∷ heard) = event_of h ∷ events_of heard
