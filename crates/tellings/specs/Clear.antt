-- "The stretch stays clear of everything from a telling to the reply's last byte or break": behind the items in front of it no reply is awaited.
use Rattle.std.specs.Prelude.{◌≡◌, cond, List, [], ◌∷◌}
use Rattle.replies.specs.Replying.{none, awaiting, nothing, finishes, more}
use Rattle.replies.specs.Rules.{kind_of, continues}
use Rattle.tellings.specs.Items.{Item, word, telling}
use Rattle.replies.specs.declared.Awaited.{Awaited}

-- the reply that is awaited behind an item: a telling begins one; its last byte, or a word that is none of its bytes, ends it
abbrev pub awaited_then : Awaited → Item → Awaited
awaited_then a (word w) = cond (continues a w) (cond (finishes a) nothing (more a w)) nothing
awaited_then a (telling asked) = awaiting (kind_of asked) none

abbrev pub awaited_behind : Awaited → List Item → Awaited
awaited_behind a [] = a
awaited_behind a (i ∷ items) = awaited_behind (awaited_then a i) items

abbrev pub Clear : List Item → Type 0
Clear items = awaited_behind nothing items ≡ nothing
