-- `word`: a byte as it entered, a break, a silence, or none of these.
use mathlib.Core.Path.{refl, ap}
use Rattle.wire.specs.Line.{marked_by}
use borrow.Author.Tests.{le-leb, lt-leb, ne_eqb}
use Rattle.reader.specs.Rules.{break_of, silence_of, word_of}
use Rattle.reader.proofs.Parts.{below_size_lem}
use Rattle.reader.proofs.Reader.word.Goals as goal

pub byte-requires : goal.byte-requires
byte-requires c = (c.requires.0, rw c.requires.0 (below_size_lem c.args.self c.requires.1))

pub returns-then-word-le255 : goal.returns-then-word-le255
unfolding word_of
returns-then-word-le255 c = simp (le-leb _ _ c.if-word-le255.true) (rw (c.entered-byte.ensures, c.requires.0) at c.byte.ensures)

pub returns-in-256 : goal.returns-in-256
unfolding word_of break_of
returns-in-256 c = rw (c.in-256.is, ← ap marked_by c.requires.0, ← c.marked.ensures) c.pause.ensures

pub returns-in-257 : goal.returns-in-257
unfolding word_of silence_of
returns-in-257 c = rw c.in-257.is c.pause-in-257.ensures

pub returns-in_default : goal.returns-in_default
unfolding word_of
returns-in_default c = let n = c.in_default.in_default-own.rest in
    simp (lt-leb _ _ c.if-word-le255.false, ne_eqb _ _ n.0.1, ne_eqb _ _ n.1) refl
