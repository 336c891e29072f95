-- `five`: the bytes of three words or of five.
use native.Mathlib.Omega.{arith}
use Rattle.reader.proofs.WholeReports.{three_or_more, or_five}
use Rattle.salvaged.proofs.walk.five.Goals as goal

pub bounds-words-0 : goal.bounds-words-0
bounds-words-0 c = omega (arith, three_or_more c.requires.two, c.requires.within)

pub bounds-words-1 : goal.bounds-words-1
bounds-words-1 c = omega (arith, three_or_more c.requires.two, c.requires.within)

pub bounds-words-2 : goal.bounds-words-2
bounds-words-2 c = omega (arith, three_or_more c.requires.two, c.requires.within)

pub returns-then-size-eq3 : goal.returns-then-size-eq3
returns-then-size-eq3 c = rw (c.if-size-eq3.true, c.byte-a.ensures, c.byte-b.ensures, c.byte-c.ensures)

pub bounds-words-3 : goal.bounds-words-3
bounds-words-3 c = omega (arith, or_five c.requires.two c.if-size-eq3.false, c.requires.within)

pub bounds-words-4 : goal.bounds-words-4
bounds-words-4 c = omega (arith, or_five c.requires.two c.if-size-eq3.false, c.requires.within)

pub returns : goal.returns
returns c = rw (or_five c.requires.two c.if-size-eq3.false, c.byte-a.ensures, c.byte-b.ensures, c.byte-c.ensures, c.byte.ensures, c.byte-2.ensures)
