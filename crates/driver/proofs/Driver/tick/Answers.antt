-- A slot, or a byte.
use native.Mathlib.Omega.{arith}
use Rattle.driver.proofs.Feeds.{not_zero, slot_next, byte_next}
use Rattle.driver.proofs.Driver.tick.Goals as goal

pub slot-requires : goal.slot-requires
slot-requires c = omega (arith, not_zero c.args.self.owed c.if-self-ne0.true)

pub returns-then-self-ne0 : goal.returns-then-self-ne0
returns-then-self-ne0 c = slot_next _ _ _ c.if-self-ne0.true c.slot.ensures

pub bounds-input-0 : goal.bounds-input-0
bounds-input-0 c = c.requires.1 c.if-self-ne0.false

pub byte-requires : goal.byte-requires
byte-requires c = c.requires.0

pub returns : goal.returns
returns c = byte_next _ _ _ c.if-self-ne0.false (c.requires.1 c.if-self-ne0.false) c.byte.ensures
