-- What the host sends meanwhile: to a box that is asked only for reports, and to one that is asked for no reply.
use Rattle.std.specs.Prelude.{ℕ, Bool, true, not, ◌&&◌, ◌||◌, List, [], ◌∷◌}
use Rattle.ballbox.specs.Commands.{asks_for_reports, is_command}
use Rattle.ballbox.specs.declared.Event.{Event}
use Rattle.ballbox.specs.declared.Event.TheVariants.{Motion, Buttons, Host, Latch, Send, Period}

-- an event that is no byte of the host's, or one that passes a test; and events that all are
abbrev pub hosts_pass : (ℕ → Bool) → Event → Bool
hosts_pass test (Motion dx dy) = true
hosts_pass test (Buttons n) = true
hosts_pass test (Host byte) = test byte
hosts_pass test Latch = true
hosts_pass test Send = true
hosts_pass test Period = true

unfoldable pub all_hosts : (ℕ → Bool) → List Event → Bool
all_hosts test [] = true
all_hosts test (e ∷ events) = hosts_pass test e && all_hosts test events

-- "Asked only for reports" means no host byte but J K L R M Q N O D P.
abbrev pub asks : Event → Bool
asks e = hosts_pass asks_for_reports e

abbrev pub only_asks : List Event → Bool
only_asks events = all_hosts asks_for_reports events

-- a byte that has no reply and leaves the format: J K L R M Q N O D P, or one that is ignored
abbrev pub unanswered : ℕ → Bool
unanswered byte = asks_for_reports byte || not (is_command byte)

abbrev pub all_unanswered : List Event → Bool
all_unanswered events = all_hosts unanswered events
