-- `begins`: what the test says; a report has a byte, and the line as many words as it has bytes.
use mathlib.Core.Path.{sym, ◌∙◌}
use native.Mathlib.Omega.{arith}
use Rattle.reader.proofs.Parts.{below_size_lem}
use Rattle.reader.proofs.WholeReports.{is_ready}
use Rattle.reader.proofs.Reader.begins.Goals as goal

pub whole-requires : goal.whole-requires
whole-requires c = (omega (arith, below_size_lem c.args.self c.requires), omega (arith, c.size.ensures, c.if-words-size.false))

pub returns : goal.returns
returns c e = is_ready c.args.self c.requires (sym c.is_ready.ensures ∙ c.if-not-is_ready.false)
