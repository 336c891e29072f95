-- What a recording holds: a log of words, or what stands alone.
use Rattle.std.specs.Prelude.{ℕ, cond, List, [], ◌∷◌, ◌++◌, length, leb, Option, None, Some}
use Rattle.wire.specs.Line.{marked_by}
use Rattle.salvage.specs.Picking.{most_words}
use Rattle.listing.specs.Scanning.{width, recording_of}
use Rattle.listing.specs.declared.Found.{Found}
use Rattle.listing.specs.declared.Found.TheVariants as found
use Rattle.listing.specs.declared.Item.{Item}
use Rattle.listing.specs.declared.Item.TheVariants as item

-- its format, its words, and what stands alone, if anything
pub record Log : Type 0 where
  pub letter : ℕ
  pub words : List ℕ
  pub alone : Option Item

abbrev pub log : ℕ → List ℕ → Option Item → Log
log letter words alone = record { letter = letter; words = words; alone = alone }

-- before anything is found
abbrev pub empty : Log
empty = log 0 [] None

-- "Refusal 13 prints `E` and line 1": where the format is marked
unfoldable pub marked : ℕ → Option Item
marked f = cond (marked_by f) (Some (item.E 1)) None

abbrev pub format_heard : Log → ℕ → Log
format_heard l f = log f l.words (marked f)

-- "14 `E` and `over`": at a word more than may be
unfoldable pub word_heard : Log → ℕ → Log
word_heard l w =
    cond (leb most_words (length l.words)) (log l.letter l.words (Some item.Over))
    (log l.letter (l.words ++ w ∷ []) None)

-- "or a bad line's `E`"
abbrev pub alone_heard : Log → Item → Log
alone_heard l i = log l.letter l.words (Some i)

abbrev pub new_heard : Log → Found → Log
new_heard l found.Nothing = l
new_heard l (found.Format f) = format_heard l f
new_heard l (found.Word n w) = word_heard l w
new_heard l (found.Bad n) = alone_heard l (item.E n)
new_heard l found.Over = alone_heard l item.Over
new_heard l found.End = l

-- "whichever comes first": nothing is heard behind it
abbrev pub unless : Option Item → Log → Log → Log
unless None l next = next
unless (Some i) l next = l

unfoldable pub heard : Log → Found → Log
heard l f = unless l.alone l (new_heard l f)

-- one after the other
unfoldable pub heard_all : Log → List Found → Log
heard_all l [] = l
heard_all l (f ∷ fs) = heard_all (heard l f) fs

-- the log of an input
abbrev pub log_of : List ℕ → Log
log_of input = heard_all empty (recording_of width input)
