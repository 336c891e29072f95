-- What a byte of the host's means, and what it does.
use Rattle.std.specs.Prelude.{ℕ, ◌+◌, ◌*◌, Bool, true, false, cond, ◌||◌, List, [], ◌∷◌, eqb}
use Rattle.wire.specs.Line.{named_by, of_named, known}
use Rattle.wire.specs.declared.Format.{Format}
use Rattle.wire.specs.declared.Format.TheVariants.{Mm, Microsoft, Absolute, Relative, FiveByte, ThreeByte, Hexadecimal}
use Rattle.ballbox.specs.Box.{going_from, mode_o, mode_d, with_format, with_mode, with_track, with_going, with_memory, with_due, with_dormant}
use Rattle.ballbox.specs.Presses.{none}
use Rattle.ballbox.specs.Latching.{cleared}
use Rattle.ballbox.specs.declared.BallBox.{BallBox}
use Rattle.ballbox.specs.declared.Command.{Command}
use Rattle.ballbox.specs.declared.Command.TheVariants.{SetFormat, SetStream, SetPrompt, AskReport, AskAck, AskCode, AskLetters}
use Rattle.ballbox.specs.declared.Command.TheVariants.{AskButtons, Sleep, Ignored}

-- the host's bytes that are no letter of a format or of a stream mode: P, space, `f`, `t`, 05H, `d`; D is `mode_d`
abbrev pub letter_p : ℕ
letter_p = 0x50

abbrev pub space : ℕ
space = 0x20

abbrev pub letterf : ℕ
letterf = 0x66

abbrev pub lettert : ℕ
lettert = 0x74

abbrev pub byte05 : ℕ
byte05 = 0x05

abbrev pub letterd : ℕ
letterd = 0x64

-- "J K L R M Q N": the modes in which the report interval counts; "000 prints M as 40H; ASCII decides, 4DH"
abbrev pub is_timed : ℕ → Bool
is_timed b = eqb b 0x4A || eqb b 0x4B || eqb b 0x4C || eqb b 0x52 || eqb b 0x4D || eqb b 0x51 || eqb b 0x4E

-- "J K L R M Q N O": the stream modes
abbrev pub is_stream : ℕ → Bool
is_stream b = is_timed b || eqb b mode_o

-- "A B S T U V W set the format"; "J K L R M Q N O set that stream mode"; "D sets prompt mode"; "P sets prompt mode and makes a report
-- due"; "Space: ACK"; "`f`: one byte"; "`t`: format letter, mode letter"; "05H: buttons, 0, 0"; "`d`: dormant"; "The rest are ignored"
unfoldable pub command_of : ℕ → Command
command_of b =
    cond (known b) (SetFormat b)
    (cond (is_stream b) (SetStream b)
    (cond (eqb b mode_d) SetPrompt
    (cond (eqb b letter_p) AskReport
    (cond (eqb b space) AskAck
    (cond (eqb b letterf) AskCode
    (cond (eqb b lettert) AskLetters
    (cond (eqb b byte05) AskButtons
    (cond (eqb b letterd) Sleep Ignored))))))))

-- ""Asked only for reports" means no host byte but J K L R M Q N O D P."
abbrev pub asks_for_reports : ℕ → Bool
asks_for_reports b = is_stream b || eqb b mode_d || eqb b letter_p

-- the bytes that are not "the rest"
abbrev pub is_command : ℕ → Bool
is_command b =
    known b || is_stream b || eqb b mode_d || eqb b letter_p || eqb b space || eqb b letterf || eqb b lettert || eqb b byte05 || eqb b letterd

-- "ACK (06H)"
abbrev pub ack : List ℕ
ack = 0x06 ∷ []

-- "the code U 0, T 1, W 2, B 3, S 5, A 6, V 7"
abbrev pub code_of : Format → ℕ
code_of FiveByte = 0
code_of ThreeByte = 1
code_of Hexadecimal = 2
code_of Relative = 3
code_of Mm = 5
code_of Absolute = 6
code_of Microsoft = 7

-- "10H plus twice the code"
unfoldable pub code_byte : ℕ → ℕ
code_byte letter = of_named 0x10 (λ f. 0x10 + 2 * code_of f) (named_by letter)

-- the bytes of the reply to a command; none where it has no reply
abbrev pub reply_to : BallBox → Command → List ℕ
reply_to b (SetFormat f) = []
reply_to b (SetStream m) = []
reply_to b SetPrompt = []
reply_to b AskReport = []
-- "Space: ACK."
reply_to b AskAck = ack
-- "`f`: one byte, 10H plus twice the code"
reply_to b AskCode = code_byte b.settings.format ∷ []
-- "`t`: format letter, mode letter."
reply_to b AskLetters = b.settings.format ∷ b.settings.mode ∷ []
-- "05H: buttons, 0, 0."
reply_to b AskButtons = b.settings.buttons ∷ 0 ∷ 0 ∷ []
reply_to b Sleep = []
reply_to b Ignored = []

-- a reply is to be sent
abbrev pub replying : List ℕ → BallBox → BallBox
replying bytes b = with_going (going_from bytes) b

-- what a command does, where nothing is going; "D, P, `d` and the format commands empty the memory"
unfoldable pub obeyed : Command → BallBox → BallBox
-- "A B S T U V W set the format, clear counters and due, set last position to position."
obeyed (SetFormat f) b = with_format f (with_track (cleared b.track) (with_memory none (with_due false b)))
-- "J K L R M Q N O set that stream mode."
obeyed (SetStream m) b = with_mode m b
-- "D sets prompt mode, whose letter is D however it was set, and clears due."
obeyed SetPrompt b = with_mode mode_d (with_memory none (with_due false b))
-- "P sets prompt mode and makes a report due."
obeyed AskReport b = with_mode mode_d (with_memory none (with_due true b))
obeyed AskAck b = replying (reply_to b AskAck) b
obeyed AskCode b = replying (reply_to b AskCode) b
obeyed AskLetters b = replying (reply_to b AskLetters) b
obeyed AskButtons b = replying (reply_to b AskButtons) b
-- "`d`: dormant, due cleared."
obeyed Sleep b = with_dormant true (with_memory none (with_due false b))
-- "The rest are ignored (001), though they too break off."
obeyed Ignored b = b
