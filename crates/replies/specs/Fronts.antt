-- The reply at the front of a line, read apart: the words that are its bytes, and what becomes of it behind them.
use Rattle.std.specs.Prelude.{ℕ, ◌+◌, cond, List, [], ◌∷◌, eqb, Option, None}
use Rattle.replies.specs.Replying.{nothing, finishes, more, told, broken}
use Rattle.replies.specs.Rules.{continues}
use Rattle.replies.specs.Line.{or_else}
use Rattle.replies.specs.declared.Awaited.{Awaited}
use Rattle.replies.specs.declared.Reply.{Reply}
use Rattle.replies.specs.declared.Front.{Front}

-- the bytes of a reply at the front of a line: how many, what is awaited behind them, and the reply, where it is whole
abbrev pub front : Awaited → ℕ → Option Reply → Front
front awaited taken reply = record { awaited = awaited; taken = taken; reply = reply }

abbrev pub ahead : ℕ → Front → Front
ahead n f = front f.awaited (n + f.taken) f.reply

unfoldable pub front_of : Awaited → List ℕ → Front
front_of a [] = front a 0 None
front_of a (w ∷ words) =
    cond (continues a w) (cond (finishes a) (front nothing 1 (told a w)) (ahead 1 (front_of (more a w) words)))
    (front a 0 None)

-- what became of it where the report reader took so many words behind it: the first of them breaks a reply that is not whole
unfoldable pub closed : Front → ℕ → Front
closed f taken = cond (eqb taken 0) f (front nothing f.taken (or_else f.reply (broken f.awaited)))
