use Rattle.std.proofs.Common.{rules, ◌≡◌, ◌∙◌, length}
use Rattle.text.specs.Growth.{slice, filled_by}
use Rattle.mbridge.specs.Lines.{byte_lines}
use Rattle.mbridge.proofs.Filling.{lines_again, lines_all}
use Rattle.mbridge.proofs.lines.Goals as goal

pub loop-b-preserved : goal.loop-b-preserved
loop-b-preserved c =
    let l = c.loop-b in
    let k = c.numbered-end in
    let bytes = c.args.bytes.now in
    let long : length k.new.out ≡ length l.out = search rules in (
      lines_again (slice l.out l.end) (slice k.new.out k.result) (filled_by (slice c.args.out.now c.args.at) (byte_lines bytes)) bytes l.b-index c.loop-b-test.true k.ensures l.invariant.0,
      long ∙ l.invariant.1,
    )

pub returns : goal.returns
returns c =
    let l = c.loop-b in
    let bytes = c.args.bytes.now in
    lines_all (slice l.out l.end) (filled_by (slice c.args.out.now c.args.at) (byte_lines bytes)) bytes l.b-index c.loop-b-test.false l.invariant.0
