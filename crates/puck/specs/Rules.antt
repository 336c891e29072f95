-- What each event does to the device: "The device follows the box in S, obeying those commands only." Here stands what differs; all else is the box's step.
use Rattle.std.specs.Prelude.{ℕ, ◌-◌, Bool, cond, ◌||◌, List, [], ◌∷◌, eqb, leb}
use Rattle.wire.specs.Numbers.{success}
use Rattle.wire.specs.Reading.{at}
use Rattle.ballbox.specs.Box as box
use Rattle.ballbox.specs.Box.{mode_d}
use Rattle.ballbox.specs.Commands.{letter_p}
use Rattle.ballbox.specs.Events.{broken_off}
use Rattle.ballbox.specs.Promises.{step_of}
use Rattle.ballbox.specs.declared.Event.{Event}
use Rattle.ballbox.specs.declared.Event.TheVariants.{Motion, Buttons, Host, Latch, Send, Period}
use Rattle.vsxxx.specs.SelfTests.{test_bytes}
use Rattle.puck.specs.Device.{test, no_test, testing, with_ball, with_test, powered, test_now, Step}
use Rattle.puck.specs.declared.Testing.{Testing}
use Rattle.puck.specs.declared.Puck.{Puck}

abbrev pub gives : List ℕ → Puck → Step
gives words p = record { refusal = success; next = p; words = words }

-- "R 52 Select incremental stream mode"; "T 54 Self-test and identify"; D and P are the box's
abbrev pub mode_r : ℕ
mode_r = 0x52

abbrev pub letter_t : ℕ
letter_t = 0x54

-- "commands R, D, P, T": the three that are the box's too
abbrev pub is_boxes : ℕ → Bool
is_boxes byte = eqb byte mode_r || eqb byte mode_d || eqb byte letter_p

-- "The mouse ignores invalid commands": in place of any other byte the box is handed one that it ignores too, "though they too break off"
abbrev pub no_command : ℕ
no_command = 0

abbrev pub as_box : Event → Event
as_box (Motion dx dy) = Motion dx dy
as_box (Buttons n) = Buttons n
as_box (Host byte) = Host (cond (is_boxes byte) byte no_command)
as_box Latch = Latch
as_box Send = Send
as_box Period = Period

-- the box's step, refusals and all
abbrev pub around : Puck → box.Step → Step
around p s = record { refusal = s.refusal; next = with_ball s.next p; words = s.words }

unfoldable pub by_box : Puck → Event → Step
by_box p e = around p (step_of p.ball (as_box e))

-- T: what is going is broken off, all but the buttons is cleared, and a self-test starts
unfoldable pub by_t : Puck → Step
by_t p = gives (broken_off p.ball) (powered p.ball.settings.buttons p.revision p.maker)

-- a byte of the self-test is sent; after the last none is going
abbrev pub less_one : Testing → Testing
less_one t = cond (leb t.left 1) no_test (test (t.left - 1) t.buttons)

unfoldable pub test_byte : Puck → Step
test_byte p = gives (at (4 - p.test.left) (test_bytes (test_now p)) ∷ []) (with_test (less_one p.test) p)

-- "Until its last byte has gone host bytes do nothing."
unfoldable pub in_test : Puck → Event → Step
in_test p (Motion dx dy) = by_box p (Motion dx dy)
in_test p (Buttons n) = by_box p (Buttons n)
in_test p (Host byte) = gives [] p
in_test p Latch = by_box p Latch
in_test p Send = test_byte p
in_test p Period = by_box p Period

unfoldable pub out_of_test : Puck → Event → Step
out_of_test p (Motion dx dy) = by_box p (Motion dx dy)
out_of_test p (Buttons n) = by_box p (Buttons n)
out_of_test p (Host byte) = cond (eqb byte letter_t) (by_t p) (by_box p (Host byte))
out_of_test p Latch = by_box p Latch
out_of_test p Send = by_box p Send
out_of_test p Period = by_box p Period

unfoldable pub rules : Puck → Event → Step
rules p e = cond (testing p) (in_test p e) (out_of_test p e)
