-- A text that grows by bytes.
use Rattle.std.specs.Prelude.{ℕ, ◌+◌, Bool, cond, ◌&&◌, List, [], ◌∷◌, ◌++◌, length, take, drop, set, replicate, leb}
use Rattle.text.specs.declared.Text.{Text}

-- the most bytes of a text
abbrev pub capacity : ℕ
capacity = 40

-- its bytes
abbrev pub shown : Text → List ℕ
shown t = take t.len t.bytes

abbrev pub none : Text
none = record { bytes = replicate capacity 0; len = 0 }

-- a byte more; a full text stays as it is
unfoldable pub grown : Text → ℕ → Text
grown t b = cond (leb capacity t.len) t (record { bytes = set t.bytes t.len b; len = t.len + 1 })

-- more bytes, one after the other
abbrev pub grown_by : Text → List ℕ → Text
grown_by t [] = t
grown_by t (b ∷ bs) = grown_by (grown t b) bs

-- the text of some bytes: behind them all is 0
abbrev pub text_of : List ℕ → Text
text_of bs = grown_by none bs

-- the places of a slice, of which so many are taken
abbrev pub slice : List ℕ → ℕ → Text
slice out at = record { bytes = out; len = at }

-- a byte more in the next of them; where none is left all stays as it is
unfoldable pub filled : Text → ℕ → Text
filled t b = cond (leb (length t.bytes) t.len) t (record { bytes = set t.bytes t.len b; len = t.len + 1 })

abbrev pub filled_by : Text → List ℕ → Text
filled_by t [] = t
filled_by t (b ∷ bs) = filled_by (filled t b) bs

-- whether a text has room in a slice from a place on
abbrev pub fits_at : Text → ℕ → List ℕ → Bool
fits_at t at out = leb t.len capacity && leb (at + t.len) (length out)

-- the slice with the text in it
unfoldable pub put_of : Text → ℕ → List ℕ → List ℕ
put_of t at out = cond (fits_at t at out) (take at out ++ shown t ++ drop (at + t.len) out) out
