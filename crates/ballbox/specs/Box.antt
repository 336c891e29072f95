-- The box with one of its parts replaced, a fresh box, and what a step hands back.
use Rattle.std.specs.Prelude.{ℕ, ◌<◌, ◌≡◌, Bool, List, [], ◌∷◌, ℤ, pos, length}
use Rattle.wire.specs.Line.{letter_of}
use Rattle.wire.specs.Table.{five}
use Rattle.wire.specs.declared.Format.TheVariants.{FiveByte}
use Rattle.ballbox.specs.Marks.{mark, marked}
use Rattle.ballbox.specs.Presses.{none}
use Rattle.ballbox.specs.Thrown.{sums, no_sums, added}
use Rattle.ballbox.specs.declared.Pair.{Pair}
use Rattle.ballbox.specs.declared.Settings.{Settings}
use Rattle.ballbox.specs.declared.Track.{Track}
use Rattle.ballbox.specs.declared.Going.{Going}
use Rattle.ballbox.specs.declared.Memory.{Memory}
use Rattle.ballbox.specs.declared.Excess.{Excess}
use Rattle.ballbox.specs.declared.Sums.{Sums}
use Rattle.ballbox.specs.declared.BallBox.{BallBox}

-- a report is due
abbrev pub due : BallBox → Bool
due b = marked b.due

-- the box is dormant
abbrev pub dormant : BallBox → Bool
dormant b = marked b.dormant

abbrev pub with_settings : Settings → BallBox → BallBox
with_settings s b = record { settings = s; track = b.track; going = b.going; memory = b.memory; sums = b.sums; due = b.due; dormant = b.dormant }

abbrev pub with_track : Track → BallBox → BallBox
with_track t b = record { settings = b.settings; track = t; going = b.going; memory = b.memory; sums = b.sums; due = b.due; dormant = b.dormant }

abbrev pub with_going : Going → BallBox → BallBox
with_going g b = record { settings = b.settings; track = b.track; going = g; memory = b.memory; sums = b.sums; due = b.due; dormant = b.dormant }

abbrev pub with_memory : Memory → BallBox → BallBox
with_memory m b = record { settings = b.settings; track = b.track; going = b.going; memory = m; sums = b.sums; due = b.due; dormant = b.dormant }

abbrev pub with_sums : Sums → BallBox → BallBox
with_sums s b = record { settings = b.settings; track = b.track; going = b.going; memory = b.memory; sums = s; due = b.due; dormant = b.dormant }

abbrev pub with_due : Bool → BallBox → BallBox
with_due d b = record { settings = b.settings; track = b.track; going = b.going; memory = b.memory; sums = b.sums; due = mark d; dormant = b.dormant }

abbrev pub with_dormant : Bool → BallBox → BallBox
with_dormant d b = record { settings = b.settings; track = b.track; going = b.going; memory = b.memory; sums = b.sums; due = b.due; dormant = mark d }

abbrev pub with_format : ℕ → BallBox → BallBox
with_format f b = with_settings (record { format = f; mode = b.settings.mode; buttons = b.settings.buttons }) b

abbrev pub with_mode : ℕ → BallBox → BallBox
with_mode m b = with_settings (record { format = b.settings.format; mode = m; buttons = b.settings.buttons }) b

abbrev pub with_buttons : ℕ → BallBox → BallBox
with_buttons n b = with_settings (record { format = b.settings.format; mode = b.settings.mode; buttons = n }) b

-- "The box adds up the two kinds apart": an excess over the report's limit, and one over the counter's 16 bits
abbrev pub over_limit : Excess → BallBox → BallBox
over_limit e b = with_sums (sums (added b.sums.limit e) b.sums.counter) b

abbrev pub over_counter : Excess → BallBox → BallBox
over_counter e b = with_sums (sums b.sums.limit (added b.sums.counter e)) b

abbrev pub pair : ℤ → ℤ → Pair
pair x y = record { x = x; y = y }

abbrev pub zeros : Pair
zeros = pair (pos 0) (pos 0)

-- bytes of a report or a reply that are going, none of them sent; "bytes from length on are 0"
unfoldable pub going_from : List ℕ → Going
going_from bytes = record { length = length bytes; sent = 0; bytes = five bytes }

-- "Nothing going is length 0, sent 0, five zero bytes."
abbrev pub nothing : Going
nothing = record { length = 0; sent = 0; bytes = five [] }

-- bytes, each below 256
abbrev pub Bytes : List ℕ → Type 0
Bytes [] = Unit {0}
Bytes (b ∷ bs) = (b < 256) × Bytes bs

-- what the array of the bytes that are going holds in a program
pub record FiveBytes (g : Going) : Type 0 where
  pub count : length g.bytes ≡ 5
  pub each : Bytes g.bytes

-- modes O and D
abbrev pub mode_o : ℕ
mode_o = 0x4F

abbrev pub mode_d : ℕ
mode_d = 0x44

-- "Fresh: format U, mode O, buttons 0, position, last position and counters 0, nothing going, nothing due, awake."
-- None is remembered, and nothing was thrown away.
unfoldable pub fresh_box : BallBox
fresh_box =
    record {
      settings = record { format = letter_of FiveByte; mode = mode_o; buttons = 0 };
      track = record { counter = zeros; position = zeros; last = zeros };
      going = nothing;
      memory = none;
      sums = no_sums;
      due = 0;
      dormant = 0;
    }

-- what a step hands back: the number given back, the box, and the words, of which there is one or none
pub record Step : Type 0 where
  pub refusal : ℕ
  pub next : BallBox
  pub words : List ℕ

-- "A refusal returns the old state [..], no word"
abbrev pub refused : ℕ → BallBox → Step
refused n b = record { refusal = n; next = b; words = [] }
