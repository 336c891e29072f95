-- The reply that is awaited: "Only the seven `f` bytes and the `t` pairs of a known format and mode are accepted; of
-- 05H all but the low three bits of byte 1 is ignored."
use Rattle.std.specs.Prelude.{ℕ, ◌+◌, ◌*◌, ◌%◌, Bool, true, false, not, cond, ◌&&◌, ◌||◌, eqb, ltb, Option, None, Some}
use Rattle.wire.specs.Line.{letter_of, known}
use Rattle.wire.specs.declared.Format.{Format}
use Rattle.wire.specs.declared.Format.TheVariants.{Mm, Microsoft, Absolute, Relative, FiveByte, ThreeByte, Hexadecimal}
use Rattle.ballbox.specs.Box.{mode_d}
use Rattle.ballbox.specs.Commands.{is_stream, code_of}
use Rattle.replies.specs.declared.Kind.{Kind}
use Rattle.replies.specs.declared.Kind.TheVariants as kind
use Rattle.replies.specs.declared.Came.{Came}
use Rattle.replies.specs.declared.Awaited.{Awaited}
use Rattle.replies.specs.declared.Reply.{Reply}
use Rattle.replies.specs.declared.Reply.TheVariants as reply

-- bytes of a reply that have come
abbrev pub came : ℕ → ℕ → ℕ → Came
came count first second = record { count = count; first = first; second = second }

abbrev pub none : Came
none = came 0 0 0

abbrev pub awaiting : Option Kind → Came → Awaited
awaiting kind came = record { kind = kind; came = came }

-- no reply is awaited
abbrev pub nothing : Awaited
nothing = awaiting None none

abbrev pub is_none : Option Kind → Bool
is_none None = true
is_none (Some k) = false

-- "Space: ACK. `f`: one byte [..]. `t`: format letter, mode letter. 05H: buttons, 0, 0."
abbrev pub size_of : Option Kind → ℕ
size_of None = 0
size_of (Some kind.Ack) = 1
size_of (Some kind.Code) = 1
size_of (Some kind.Letters) = 2
size_of (Some kind.Buttons) = 3

-- "10H plus twice the code": the byte that tells a format, and the letter of the format that a byte tells, 0 where it is none of the seven
abbrev pub code_byte_of : Format → ℕ
code_byte_of f = 0x10 + 2 * code_of f

unfoldable pub letter_of_code : ℕ → ℕ
letter_of_code byte =
    cond (eqb byte (code_byte_of FiveByte)) (letter_of FiveByte)
    (cond (eqb byte (code_byte_of ThreeByte)) (letter_of ThreeByte)
    (cond (eqb byte (code_byte_of Hexadecimal)) (letter_of Hexadecimal)
    (cond (eqb byte (code_byte_of Relative)) (letter_of Relative)
    (cond (eqb byte (code_byte_of Mm)) (letter_of Mm)
    (cond (eqb byte (code_byte_of Absolute)) (letter_of Absolute)
    (cond (eqb byte (code_byte_of Microsoft)) (letter_of Microsoft)
    0))))))

-- the letter of a mode, and one of "the `t` pairs of a known format and mode"
abbrev pub is_mode : ℕ → Bool
is_mode byte = is_stream byte || eqb byte mode_d

unfoldable pub letter_fits : ℕ → ℕ → Bool
letter_fits place byte = cond (eqb place 0) (known byte) (is_mode byte)

-- the byte may stand at this place of the reply
unfoldable pub fits : Option Kind → ℕ → ℕ → Bool
fits None place byte = false
fits (Some kind.Ack) place byte = eqb byte 0x06
fits (Some kind.Code) place byte = not (eqb (letter_of_code byte) 0)
fits (Some kind.Letters) place byte = letter_fits place byte
fits (Some kind.Buttons) place byte = true

-- it is the next byte of the reply, and the last
abbrev pub fitting : Awaited → ℕ → Bool
fitting a byte = fits a.kind a.came.count byte

abbrev pub finishes : Awaited → Bool
finishes a = eqb (a.came.count + 1) (size_of a.kind)

-- one byte more has come
unfoldable pub more : Awaited → ℕ → Awaited
more a byte = awaiting a.kind (cond (eqb a.came.count 0) (came 1 byte 0) (came 2 a.came.first byte))

-- what the reply tells, with its last byte
abbrev pub told_by : Option Kind → Came → ℕ → Option Reply
told_by None came byte = None
told_by (Some kind.Ack) came byte = Some reply.Ack
told_by (Some kind.Code) came byte = Some (reply.Format (letter_of_code byte))
told_by (Some kind.Letters) came byte = Some (reply.Letters came.first byte)
told_by (Some kind.Buttons) came byte = Some (reply.Buttons (came.first % 8))

abbrev pub told : Awaited → ℕ → Option Reply
told a byte = told_by a.kind a.came byte

-- it is broken, behind the bytes that have come
unfoldable pub broken : Awaited → Option Reply
broken a = cond (is_none a.kind) None (Some (reply.Broken a.came))

-- a good one: fewer bytes have come than the reply has, each is valid in its place, and the rest is 0
abbrev pub below_size : Awaited → Bool
below_size a = eqb a.came.count 0 || ltb a.came.count (size_of a.kind)

unfoldable pub placed : Awaited → ℕ → ℕ → Bool
placed a place byte = cond (ltb place a.came.count) (fits a.kind place byte) (eqb byte 0)

unfoldable pub good : Awaited → Bool
good a = below_size a && placed a 0 a.came.first && placed a 1 a.came.second
