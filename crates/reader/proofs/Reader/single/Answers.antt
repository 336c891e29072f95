-- `single`: its word is all of the line.
use native.Mathlib.Omega.{arith}
use Rattle.reader.proofs.Loop.{first_ends}
use Rattle.reader.proofs.Reader.single.Goals as goal

pub returns : goal.returns
returns c = first_ends c.args.self c.args.words.now c.args.out.now c.requires.0 (omega (arith, c.requires.1)) c.word-heard.ensures c.counted.ensures c.requires.1
