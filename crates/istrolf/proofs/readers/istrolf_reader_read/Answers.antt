-- 6 for what stands for no reader, and then the read below.
use mathlib.Core.Path.{ap, ◌∙◌}
use Rattle.reader.specs.Promises as reader
use Rattle.reader.specs.declared.Reader.{Reader}
use Rattle.istrolf.specs.Readers.{whole, packed_long}
use Rattle.istrolf.specs.Promises.{read_of}
use Rattle.istrolf.specs.declared.ReadWords.{ReadWords}
use Rattle.istrolf.proofs.readers.istrolf_reader_read.Goals as goal

pub returns-in-Ok : goal.returns-in-Ok
unfolding read_of
returns-in-Ok c = let a = c.args in
    let i = c.read.ensures ∙ ap (λ (r : Reader). reader.read_of r a.words.now a.out.now) c.in-Ok.ensures.1 in
    simp c.in-Ok.ensures.0
    (ap (λ (w : ReadWords). whole w c.read.new.out) c.from.ensures ∙ ap packed_long i)

pub returns-in-Err : goal.returns-in-Err
unfolding read_of
returns-in-Err c = let a = c.args in
    simp c.in-Err.ensures.0 (ap (λ (w : ReadWords). whole w a.out.now) c.refused_reading.ensures)
