-- What one word does, rule by rule: the rule. Whole is the quick way.
use Rattle.std.specs.Prelude.{ℕ, ◌+◌, Bool, false, cond, ◌&&◌, List, [], ◌∷◌, set, eqb}
use Rattle.numbers.specs.Bits.{number, bits}
use Rattle.frames.specs.Words.{is_byte, break, silence}
use Rattle.wire.specs.Line.{letter_of, size_by, marked_by}
use Rattle.wire.specs.Places.{fits_by}
use Rattle.wire.specs.Reading.{report_by}
use Rattle.wire.specs.Numbers.{success, bad_word}
use Rattle.wire.specs.declared.Format.TheVariants.{Microsoft}
use Rattle.reader.specs.State.{reader, unmarked, no_bytes, ready, Read}
use Rattle.reader.specs.declared.Reader.{Reader}
use Rattle.reader.specs.declared.Answer.{Answer}
use Rattle.reader.specs.declared.Answer.TheVariants.{Nothing, Report, Dropped}

-- every byte enters the reader through this, by the letter of the format: "In V the reader shall clear bit 7 first: 108 and 236 are the same first
-- byte", so that of a byte of V its bits 6 to 0 come in
unfoldable pub entered : ℕ → ℕ → ℕ
entered letter byte = cond (eqb letter (letter_of Microsoft)) (number (bits 7 0 byte)) byte

abbrev pub answered : Reader → Answer → Read
answered next answer = record { refusal = success; next = next; answer = answer }

-- "A refusal returns the old state", and answers nothing
abbrev pub refusing : ℕ → Reader → Read
refusing n r = record { refusal = n; next = r; answer = Nothing }

-- "where none is dropped the answer is nothing"
unfoldable pub dropping : ℕ → Answer
dropping k = cond (eqb k 0) Nothing (Dropped k)

-- "A byte that fits its place is kept; the last gives the report."
abbrev pub fitting : Reader → ℕ → Bool
fitting r b = fits_by r.format r.count b

-- the bytes kept, with one more behind them
abbrev pub more : Reader → ℕ → List ℕ
more r b = set r.kept r.count b

abbrev pub finishes : Reader → Bool
finishes r = eqb (r.count + 1) (size_by r.format)

unfoldable pub keep : Reader → ℕ → Read
keep r b =
    cond (finishes r) (answered (ready r.format) (Report (report_by r.format (more r b))))
    (answered (reader r.format (more r b) (r.count + 1) false) Nothing)

-- "A valid first byte of a marked format starts a report anywhere; k kept bytes are dropped."
abbrev pub starting : Reader → ℕ → Bool
starting r b = marked_by r.format && fits_by r.format 0 b

unfoldable pub start : Reader → ℕ → Read
start r b = answered (reader r.format (b ∷ 0 ∷ 0 ∷ 0 ∷ 0 ∷ []) 1 false) (dropping r.count)

-- "In a marked format with none kept, a valid later byte is dropped alone."
abbrev pub straying : Reader → ℕ → Bool
straying r b = marked_by r.format && eqb r.count 0 && fits_by r.format 1 b

unfoldable pub stray : Reader → Read
stray r = answered (ready r.format) (Dropped 1)

-- "A byte that none of these rules takes (wrong fixed bits, odd count of ones in A or B, [..] in W no hex digit, or a first digit above 7) is dropped
-- with the k kept, k+1; U, T, W then await silence"
unfoldable pub lose : Reader → Read
lose r = answered (no_bytes r.format (unmarked r.format)) (Dropped (r.count + 1))

-- "where each byte is dropped alone"
abbrev pub alone : Reader → Read
alone r = answered r (Dropped 1)

unfoldable pub byte_of : Reader → ℕ → Read
byte_of r b =
    cond r.awaiting (alone r)
    (cond (fitting r b) (keep r b)
    (cond (starting r b) (start r b)
    (cond (straying r b) (stray r)
    (lose r))))

-- "256 drops the kept; U, T, W await silence. 257 drops the kept; U, T, W are then ready."
unfoldable pub break_of : Reader → Read
break_of r = answered (no_bytes r.format (unmarked r.format)) (dropping r.count)

unfoldable pub silence_of : Reader → Read
silence_of r = answered (ready r.format) (dropping r.count)

-- a word, to a good reader: "a line word above 257" is refused
unfoldable pub word_of : Reader → ℕ → Read
word_of r w =
    cond (is_byte w) (byte_of r (entered r.format w))
    (cond (eqb w break) (break_of r)
    (cond (eqb w silence) (silence_of r)
    (refusing bad_word r)))
