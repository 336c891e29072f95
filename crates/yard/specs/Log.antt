-- A whole log: how many of its words can be sent, before the first that cannot.
use Rattle.std.specs.Prelude.{ℕ, suc, Bool, cond, List, [], ◌∷◌, length, eqb, Result, Ok, Err}
use Rattle.numbers.specs.Bits.{value}
use Rattle.frames.specs.Words.{line_words}
use Rattle.wire.specs.Numbers.{success, bad_word}
use Rattle.wire.specs.Refusals.{number_of}
use Rattle.wire.specs.declared.refusal.Refusal.{Refusal}
use Rattle.yard.specs.Rules.{sent, word_of}
use Rattle.yard.specs.declared.Yard.{Yard}
use Rattle.yard.specs.declared.Checked.{Checked}

-- "A no gives the first word at which the words so far can no longer be sent": it has this place, the first word being 0
unfoldable pub sendable : Yard → List ℕ → ℕ
sendable y [] = 0
sendable y (w ∷ words) = cond (sent (word_of y w)) (suc (sendable (word_of y w).next words)) 0

-- "say yes exactly when" all of them can
abbrev pub judgement : ℕ → ℕ → Checked
judgement place count = record { refusal = success; proper = value (eqb place count); sendable = place }

-- whether it says yes: 1 stands for it
abbrev pub passes : Checked → Bool
passes c = eqb c.proper 1

-- a refusal tells nothing of the words
abbrev pub refused : ℕ → Checked
refused n = record { refusal = n; proper = 0; sendable = 0 }

-- "A word above 257 anywhere is refusal 4."
unfoldable pub checked_of : Yard → List ℕ → Checked
checked_of y words = cond (line_words words) (judgement (sendable y words) (length words)) (refused bad_word)

-- what is told of a log of so many words: how many of them can be sent, or why it is refused
abbrev pub log_told : ℕ → Result ℕ Refusal → Checked
log_told count (Ok place) = judgement place count
log_told count (Err r) = refused (number_of r)
