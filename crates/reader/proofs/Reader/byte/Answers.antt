-- `byte`: each rule in its turn.
use native.Mathlib.Omega.{arith}
use mathlib.Core.Path.{sym, ◌∙◌}
use Rattle.reader.specs.Rules.{byte_of}
use Rattle.wire.proofs.Letters.{at_most_five}
use Rattle.reader.proofs.Word.{strays_as_lost}
use Rattle.reader.proofs.Reader.byte.Goals as goal

pub returns-then-self : goal.returns-then-self
unfolding byte_of
returns-then-self c = simp c.if-self.true

pub returns-then-fits : goal.returns-then-fits
unfolding byte_of
returns-then-fits c = simp (c.if-self.false, sym c.fits.ensures ∙ c.if-fits.true) c.keep.ensures

pub returns-then-starts : goal.returns-then-starts
unfolding byte_of
returns-then-starts c = simp (c.if-self.false, sym c.fits.ensures ∙ c.if-fits.false, sym c.starts.ensures ∙ c.if-starts.true)
    c.start.ensures

pub lose-requires : goal.lose-requires
lose-requires c = (c.requires.0, omega (arith, c.requires.1, at_most_five c.args.letter))

pub returns : goal.returns
unfolding byte_of
returns c = simp
    (c.if-self.false, sym c.fits.ensures ∙ c.if-fits.false, sym c.starts.ensures ∙ c.if-starts.false, strays_as_lost c.args.self c.args.byte)
    c.lose.ensures
