-- What a port tells, as C has it: a count and a word, 0 where there is none.
use Rattle.port.specs.declared.Port.{Port}
use Rattle.std.specs.Prelude.{ℕ, Option, None, Some}
use Rattle.port.specs.declared.Heard.{Heard}
use Rattle.istrolf.specs.declared.PortWord.{PortWord}

abbrev pub given : Option ℕ → Port → PortWord
given None next = record { words = 0; word = 0; next = next }
given (Some w) next = record { words = 1; word = w; next = next }

abbrev pub packed : Heard → PortWord
packed heard = given heard.given heard.next
