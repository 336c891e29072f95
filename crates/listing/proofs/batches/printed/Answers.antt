-- `printed`: what is told of all words is shown.
use native.Mathlib.Omega.{arith}
use mathlib.Core.Path.{◌≡◌, sym}
use Rattle.numbers.proofs.Tested.{holds}
use Rattle.reader.specs.Telling.{answers_by}
use Rattle.listing.specs.Batches.{ToldOf, reader_over}
use Rattle.listing.proofs.Telling.{all_told}
use Rattle.listing.proofs.batches.printed.Goals as goal

pub shown-requires : goal.shown-requires
shown-requires c =
    let told : let a = c.args in let t = c.answers-t in
    ToldOf a.reader a.words.now t.new.out × (reader_over a.reader a.words.now ≡ t.result.next) = let t = c.answers-t in all_told _ _ _ (answers_by t.result) _ t.ensures t.auto.out c.if-t-words.true c.requires.0 in
    (told.0, omega (arith, c.requires.1, c.answers-t.auto.out), c.requires.2, c.requires.3)

pub returns-then-t-words : goal.returns-then-t-words
returns-then-t-words c =
    let told : let a = c.args in let t = c.answers-t in
    ToldOf a.reader a.words.now t.new.out × (reader_over a.reader a.words.now ≡ t.result.next) = let t = c.answers-t in all_told _ _ _ (answers_by t.result) _ t.ensures t.auto.out c.if-t-words.true c.requires.0 in
    record { reader = λ _. told.1; items = λ _. c.shown.ensures; nothing = λ e. absurd (holds (sym e)) }
