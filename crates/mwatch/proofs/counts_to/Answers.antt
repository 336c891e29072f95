-- Part behind part.
use mathlib.Core.List.{◌++◌}
use Rattle.text.specs.Growth.{slice}
use Rattle.hearing.proofs.Steps.{then_one, then_more}
use Rattle.mwatch.specs.Watching.{gone1, gone2, gone3, part, gone_words}
use Rattle.mwatch.proofs.counts_to.Goals as goal

pub returns : goal.returns
unfolding gone_words
returns c =
    let a = c.args in
    let l = a.look.now in
    let first = c.part_to-first in
    let second = c.part_to-second in
    let third = c.part_to-third in
    let last = c.byte_to in
    let start = slice a.out.now 0 in
    let s1 = slice first.new.out first.result in
    let s2 = slice second.new.out second.result in
    let s3 = slice third.new.out third.result in
    let two = then_more start s1 s2 (part gone1 l.reports) (part gone2 l.presses) first.ensures second.ensures in
    let three = then_more start s2 s3 (part gone1 l.reports ++ part gone2 l.presses) (part gone3 l.dropped) two third.ensures in
    then_one start s3 (slice last.new.out last.result) ((part gone1 l.reports ++ part gone2 l.presses) ++ part gone3 l.dropped) 10 three last.ensures
