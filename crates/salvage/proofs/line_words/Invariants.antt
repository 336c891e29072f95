-- The words passed have been tested, and the rest is to be.
use mathlib.Core.Path.{◌≡◌}
use mathlib.Core.Bool.{◌&&◌}
use lib.ListN.{drop}
use Rattle.frames.specs.Words.{line_words}
use Rattle.salvage.proofs.line_words.Given as goal

abbrev pub invariant-loop-word : goal.invariant-loop-word
invariant-loop-word l = line_words l.words ≡ l.ok && line_words (drop l.word-index l.words)
