use mathlib.Core.Path.{◌≡◌}
use mathlib.Core.Bool.{true, not, ◌&&◌}
use native.Mathlib.Omega.{arith}
use lib.Dec.{eqb}
use Rattle.listing.proofs.Several.{none_gathered, silence_gathered}
use Rattle.listing.proofs.batches.unread.Goals as goal

pub returns-then-reader-ne0 : goal.returns-then-reader-ne0
returns-then-reader-ne0 c = (record { lines = none_gathered _ _ _; quiet = λ h. absurd (omega arith) }, omega arith, c.requires)

pub loop-count-init : goal.loop-count-init
loop-count-init c = (none_gathered _ _ _, c.requires)

pub word_in-requires : goal.word_in-requires
word_in-requires c = c.loop-count.invariant.1

pub overflow_add-end : goal.overflow_add-end
overflow_add-end c =
    let h = c.in-Some.ensures in
    let t = h.1 h.2 in
    omega (arith, h.0, t.0, t.1, c.well_formed.1.0.1)

pub loop-count-preserved : goal.loop-count-preserved
loop-count-preserved c =
    let h = c.in-Some.ensures in
    let t = h.1 h.2 in
    (silence_gathered c.loop-count.invariant.0 c.in-Some.told h c.if-told-eq-SILENCE.true, omega (arith, h.0, t.0, t.1))

pub returns-in_default : goal.returns-in_default
returns-in_default c =
    let calm : (eqb c.args.reader.count 0 && not c.args.reader.awaiting) ≡ true = rw (c.if-reader-ne0.false, c.if-reader.false) in
    let i = c.loop-count.invariant in
    (record { lines = i.0; quiet = λ _. (calm, omega (arith, c.if-room-lt-ROOM.false)) }, omega (arith, c.loop-count-test.true), i.1)

pub returns-in_default-2 : goal.returns-in_default-2
returns-in_default-2 c =
    let calm : (eqb c.args.reader.count 0 && not c.args.reader.awaiting) ≡ true = rw (c.if-reader-ne0.false, c.if-reader.false) in
    let i = c.loop-count.invariant in
    (record { lines = i.0; quiet = λ _. (calm, omega (arith, c.if-room-lt-ROOM.false)) }, omega (arith, c.loop-count-test.true), i.1)

pub returns : goal.returns
returns c =
    let calm : (eqb c.args.reader.count 0 && not c.args.reader.awaiting) ≡ true = rw (c.if-reader-ne0.false, c.if-reader.false) in
    let all : c.loop-count.count ≡ c.args.most = omega arith in
    let i = c.loop-count.invariant in
    (record { lines = rw all at i.0; quiet = λ _. (calm, omega (arith, c.if-room-lt-ROOM.false)) }, omega arith, i.1)
