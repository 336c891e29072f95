-- What is told of a listing that is not rewritten to its end.
use Rattle.std.specs.Prelude.{ℕ, ◌+◌, cond, List, [], ◌∷◌, ◌++◌, eqb, pos}
use Rattle.text.specs.Decimals.{plain, decimal_of}
use Rattle.readback.specs.Steps.{fresh, has_ended}
use Rattle.readback.specs.Pieces.{cut_in, cut_off}
use Rattle.readback.specs.Rewriting.{too_wide, rewrites}
use Rattle.readback.specs.declared.Readback.{Readback}

-- "mwidth: line "
abbrev pub of_line : List ℕ
of_line = 109 ∷ 119 ∷ 105 ∷ 100 ∷ 116 ∷ 104 ∷ 58 ∷ 32 ∷ 108 ∷ 105 ∷ 110 ∷ 101 ∷ 32 ∷ []

-- ": its number does not fit the other width", " is faulty" and " is missing or not whole", each with a newline
abbrev pub is_too_wide : List ℕ
is_too_wide =
    58 ∷ 32 ∷ 105 ∷ 116 ∷ 115 ∷ 32 ∷ 110 ∷ 117 ∷ 109 ∷ 98 ∷ 101 ∷ 114 ∷ 32 ∷ 100 ∷ 111 ∷ 101 ∷ 115 ∷ 32 ∷ 110 ∷ 111 ∷ 116 ∷ 32 ∷ 102 ∷ 105 ∷ 116 ∷ 32
    ∷ 116 ∷ 104 ∷ 101 ∷ 32 ∷ 111 ∷ 116 ∷ 104 ∷ 101 ∷ 114 ∷ 32 ∷ 119 ∷ 105 ∷ 100 ∷ 116 ∷ 104 ∷ 10 ∷ []

abbrev pub is_faulty : List ℕ
is_faulty = 32 ∷ 105 ∷ 115 ∷ 32 ∷ 102 ∷ 97 ∷ 117 ∷ 108 ∷ 116 ∷ 121 ∷ 10 ∷ []

abbrev pub is_missing : List ℕ
is_missing = 32 ∷ 105 ∷ 115 ∷ 32 ∷ 109 ∷ 105 ∷ 115 ∷ 115 ∷ 105 ∷ 110 ∷ 103 ∷ 32 ∷ 111 ∷ 114 ∷ 32 ∷ 110 ∷ 111 ∷ 116 ∷ 32 ∷ 119 ∷ 104 ∷ 111 ∷ 108 ∷ 101 ∷ 10 ∷ []

-- a line, and what is told of it
abbrev pub tell_of : ℕ → List ℕ → List ℕ
tell_of line why = of_line ++ (decimal_of plain (pos line) ++ why)

-- 15, or any other number
abbrev pub why_of : ℕ → List ℕ
why_of number = cond (eqb number too_wide) is_too_wide is_faulty

-- the first line that is not rewritten, which is the one behind those that have passed: it is missing, or cut off by the end, or refused
unfoldable pub told_from : Readback → List (List ℕ) → List ℕ
told_from r [] = cond (has_ended r) [] (tell_of (r.lines + 1) is_missing)
told_from r (l ∷ ls) =
    cond (eqb (rewrites.refusal r l) 0) (told_from (rewrites.next r l) ls)
    (tell_of (r.lines + 1) (cond (cut_off l) is_missing (why_of (rewrites.refusal r l))))

abbrev pub told_of : List ℕ → List ℕ
told_of bytes = told_from fresh (cut_in bytes)
