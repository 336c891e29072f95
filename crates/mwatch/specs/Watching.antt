-- What a line tells, as it comes: reports, presses and bytes dropped, each with its running count.
use Rattle.std.specs.Prelude.{ℕ, ◌+◌, ◌/◌, ◌%◌, Bool, cond, List, [], ◌∷◌, ◌++◌, eqb, ltb, ℤ, pos, ◌+ℤ◌}
use Rattle.text.specs.Decimals.{plain, decimal_of}
use Rattle.port.specs.Marks.{opened}
use Rattle.reader.specs.Promises.{fresh_of, step_of}
use Rattle.reader.specs.declared.Reader.{Reader}
use Rattle.reader.specs.State.{Read}
use Rattle.reader.specs.declared.Answer.{Answer}
use Rattle.reader.specs.declared.Answer.TheVariants as answer
use Rattle.saves.specs.State.{unaware}
use Rattle.saves.specs.Rules.{heard_of}
use Rattle.saves.specs.declared.Watch.{Watch}
use Rattle.shell.specs.Standing.{Program, program}
use Rattle.hearing.specs.Turns.{over}
use Rattle.hearing.specs.declared.session.Session.{Session}
use Rattle.hearing.specs.Words.{line_gone}
use Rattle.mwatch.specs.declared.Look.{Look}

-- so many more; a count stays at four thousand million
unfoldable pub counted : ℕ → ℕ → ℕ
counted n more = cond (ltb n 4000000000) (n + more) n

-- a number behind a tab
abbrev pub field_of : ℤ → List ℕ
field_of x = 9 ∷ decimal_of plain x

-- "buttons as L M R or `-` (middle `?` in V)", which are 4L+2M+R
abbrev pub pressed : Bool → ℕ → ℕ
pressed down letter = cond down letter 45

abbrev pub is_left : ℕ → Bool
is_left buttons = eqb (buttons / 4 % 2) 1

abbrev pub is_middle : ℕ → Bool
is_middle buttons = eqb (buttons / 2 % 2) 1

abbrev pub is_right : ℕ → Bool
is_right buttons = eqb (buttons % 2) 1

abbrev pub middle_of : ℕ → ℕ → ℕ
middle_of format buttons = cond (eqb format 86) 63 (pressed (is_middle buttons) 77)

abbrev pub buttons_of : ℕ → ℕ → List ℕ
buttons_of format buttons = 9 ∷ pressed (is_left buttons) 76 ∷ middle_of format buttons ∷ pressed (is_right buttons) 82 ∷ []

-- a report: `R`, its number, the buttons, and x and y, both pairs summed
unfoldable pub report_line : ℕ → ℕ → ℕ → ℤ → ℤ → List ℕ
report_line format n buttons x y = ((((82 ∷ field_of (pos n)) ++ buttons_of format buttons) ++ field_of x) ++ field_of y) ++ 10 ∷ []

-- a press, where there is one: `P`, its number and the button
unfoldable pub press_count : ℕ → Bool → ℕ
press_count n new = cond new (counted n 1) n

unfoldable pub press_line : ℕ → Bool → ℕ → List ℕ
press_line n new letter = cond new ((80 ∷ field_of (pos (counted n 1))) ++ 9 ∷ letter ∷ 10 ∷ []) []

-- of the buttons that went down, the left one first
abbrev pub press_lines : ℕ → ℕ → List ℕ
press_lines n down =
    let middle = press_count n (is_left down) in
    let right = press_count middle (is_middle down) in
    (press_line n (is_left down) 76 ++ press_line middle (is_middle down) 77) ++ press_line right (is_right down) 82

abbrev pub presses_after : ℕ → ℕ → ℕ
presses_after n down = press_count (press_count (press_count n (is_left down)) (is_middle down)) (is_right down)

-- bytes dropped: `D`, how many so far, and how many now
unfoldable pub dropped_line : ℕ → ℕ → List ℕ
dropped_line n now = ((68 ∷ field_of (pos n)) ++ field_of (pos now)) ++ 10 ∷ []

-- what the reader's answer to a word leaves, and its text
abbrev pub look : Reader → Watch → ℕ → ℕ → ℕ → Look
look r w reports presses dropped = record { reader = r; watch = w; reports = reports; presses = presses; dropped = dropped }

abbrev pub look_by : Look → Reader → Answer → Look
look_by l next answer.Nothing = look next l.watch l.reports l.presses l.dropped
look_by l next (answer.Report p) =
    let t = heard_of l.watch p in
    look next t.next (counted l.reports 1) (presses_after l.presses t.down) l.dropped
look_by l next (answer.Dropped k) = look next l.watch l.reports l.presses (counted l.dropped k)

abbrev pub text_by : Look → Answer → List ℕ
text_by l answer.Nothing = []
text_by l (answer.Report p) =
    let line = report_line l.reader.format (counted l.reports 1) p.buttons (p.x1 +ℤ p.x2) (p.y1 +ℤ p.y2) in
    line ++ press_lines l.presses (heard_of l.watch p).down
text_by l (answer.Dropped k) = dropped_line (counted l.dropped k) k

abbrev pub look_after : Look → Read → Look
look_after l r = look_by l r.next r.answer

-- over words
unfoldable pub text_of : Look → List ℕ → List ℕ
text_of l [] = []
text_of l (w ∷ words) = text_by l (step_of l.reader w).answer ++ text_of (look_after l (step_of l.reader w)) words

unfoldable pub look_of : Look → List ℕ → Look
look_of l [] = l
look_of l (w ∷ words) = look_of (look_after l (step_of l.reader w)) words

-- "mwatch: the line is gone: reports 12, presses 1, bytes dropped 3"
abbrev pub name : List ℕ
name = 109 ∷ 119 ∷ 97 ∷ 116 ∷ 99 ∷ 104 ∷ []

abbrev pub speaks : List ℕ → List ℕ
speaks words = name ++ 58 ∷ 32 ∷ words

abbrev reports : List ℕ
reports = 58 ∷ 32 ∷ 114 ∷ 101 ∷ 112 ∷ 111 ∷ 114 ∷ 116 ∷ 115 ∷ 32 ∷ []

abbrev pub gone1 : List ℕ
gone1 = speaks (line_gone ++ reports)

abbrev pub gone2 : List ℕ
gone2 = 44 ∷ 32 ∷ 112 ∷ 114 ∷ 101 ∷ 115 ∷ 115 ∷ 101 ∷ 115 ∷ 32 ∷ []

abbrev pub gone3 : List ℕ
gone3 = 44 ∷ 32 ∷ 98 ∷ 121 ∷ 116 ∷ 101 ∷ 115 ∷ 32 ∷ 100 ∷ 114 ∷ 111 ∷ 112 ∷ 112 ∷ 101 ∷ 100 ∷ 32 ∷ []

abbrev pub part : List ℕ → ℕ → List ℕ
part words count = words ++ decimal_of plain (pos count)

unfoldable pub gone_words : Look → List ℕ
gone_words l = ((part gone1 l.reports ++ part gone2 l.presses) ++ part gone3 l.dropped) ++ 10 ∷ []

-- what is to be told where the line is gone behind words
abbrev pub tells : Look → List ℕ → List ℕ
tells l words = gone_words (look_of l words)

-- what is still to be written of what is heard next, and to be told where the line is gone behind that
abbrev pub rest : Session Look → List ℕ → List ℕ
rest = over text_of

abbrev pub told : Session Look → List ℕ → List ℕ
told = over tells

-- nothing has come
abbrev pub fresh : ℕ → ℕ → Session Look
fresh letter tenths = record { port = opened 0 tenths; teller = look (fresh_of letter).reader unaware 0 0 0 }

-- a program of this name
abbrev pub named : (List ℕ → List ℕ) → (List ℕ → List ℕ) → Program
named = program name

-- WHAT A FRESH READER AND A FRESH WATCH BEHIND IT TELL OF WHAT IS HEARD. A silence is so many tenths of a second.
abbrev pub mwatch : ℕ → ℕ → Program
mwatch letter tenths = named (rest (fresh letter tenths)) (told (fresh letter tenths))
