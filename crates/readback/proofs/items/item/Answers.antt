-- By its letter.
use Rattle.readback.proofs.Values.{no_item, item_d, item_r, item_h, item_e, item_other}
use Rattle.readback.proofs.items.item.Goals as goal

pub returns-then-line-eq0 : goal.returns-then-line-eq0
returns-then-line-eq0 c = no_item _ c.args.line.now c.if-line-eq0.true

pub returns-in-68 : goal.returns-in-68
returns-in-68 c = item_d _ c.args.line.now c.if-line-eq0.false c.in-68.is c.dropped.ensures

pub returns-in-82 : goal.returns-in-82
returns-in-82 c = item_r _ c.args.line.now c.if-line-eq0.false c.in-82.is c.report.ensures

pub returns-in-72 : goal.returns-in-72
returns-in-72 c = item_h _ c.args.line.now c.if-line-eq0.false c.in-72.is c.kept.ensures

pub returns-in-69 : goal.returns-in-69
returns-in-69 c = item_e _ c.args.line.now c.if-line-eq0.false c.in-69.is c.bad.ensures

pub returns-in_default : goal.returns-in_default
returns-in_default c = item_other _ c.args.line.now c.if-line-eq0.false c.in_default.in_default-own.rest.0.0.0.1 c.in_default.in_default-own.rest.0.0.1 c.in_default.in_default-own.rest.0.1 c.in_default.in_default-own.rest.1
