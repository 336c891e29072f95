-- The device: a box in S, and beside it its self-test, its revision and its maker.
use Rattle.std.specs.Prelude.{ℕ, ◌%◌, Bool, cond, List, [], eqb, ltb}
use Rattle.wire.specs.Line.{letter_of}
use Rattle.wire.specs.declared.Format.TheVariants.{Mm}
use Rattle.ballbox.specs.Box.{mode_d, zeros, nothing}
use Rattle.ballbox.specs.Presses.{none}
use Rattle.ballbox.specs.Thrown.{no_sums}
use Rattle.ballbox.specs.declared.BallBox.{BallBox}
use Rattle.vsxxx.specs.declared.SelfTest.{SelfTest}
use Rattle.puck.specs.declared.Testing.{Testing}
use Rattle.puck.specs.declared.Puck.{Puck}

-- a self-test of which so many bytes are left to be sent, with the buttons as they were at its start; none is going where no byte is left
abbrev pub test : ℕ → ℕ → Testing
test left buttons = record { left = left; buttons = buttons }

abbrev pub no_test : Testing
no_test = test 0 0

abbrev pub testing : Puck → Bool
testing p = ltb 0 p.test.left

abbrev pub with_ball : BallBox → Puck → Puck
with_ball b p = record { ball = b; test = p.test; revision = p.revision; maker = p.maker }

abbrev pub with_test : Testing → Puck → Puck
with_test t p = record { ball = p.ball; test = t; revision = p.revision; maker = p.maker }

-- a box in S, in "Prompt Mode (power-up default)", of which all but the buttons is clear
unfoldable pub powered_box : ℕ → BallBox
powered_box buttons =
    record {
      settings = record { format = letter_of Mm; mode = mode_d; buttons = buttons };
      track = record { counter = zeros; position = zeros; last = zeros };
      going = nothing;
      memory = none;
      sums = no_sums;
      due = 0;
      dormant = 0;
    }

-- "It and T clear all but the buttons and start a self-test"
unfoldable pub powered : ℕ → ℕ → ℕ → Puck
powered buttons revision maker = record { ball = powered_box buttons; test = test 4 buttons; revision = revision; maker = maker }

-- "Power-up is the making, with the buttons handed in modulo 8"; "revision and maker as set when made (modulo 16 and 8)"
abbrev pub made : ℕ → ℕ → ℕ → Puck
made buttons revision maker = powered (buttons % 8) (revision % 16) (maker % 8)

-- "device 2, error 3DH and the buttons if any is down, else 0 and 0"
abbrev pub error_of : ℕ → ℕ
error_of buttons = cond (eqb buttons 0) 0 0x3D

abbrev pub test_of : ℕ → ℕ → ℕ → SelfTest
test_of revision maker buttons = record { revision = revision; maker = maker; device = 2; error = error_of buttons; buttons = buttons }

abbrev pub test_now : Puck → SelfTest
test_now p = test_of p.revision p.maker p.test.buttons

-- what a step hands back: the number given back, the device, and the words, of which there is one or none
pub record Step : Type 0 where
  pub refusal : ℕ
  pub next : Puck
  pub words : List ℕ

abbrev pub refused : ℕ → Puck → Step
refused n p = record { refusal = n; next = p; words = [] }
