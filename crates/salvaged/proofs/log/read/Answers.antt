use mathlib.Core.Path.{◌≡◌, refl, sym, ap, ◌∙◌}
use mathlib.Core.List.{[]}
use native.Mathlib.Omega.{arith}
use lib.ListN.{drop, drop_of_length-le, get_or}
use Rattle.listing.specs.Scanning.{scanned_byte}
use Rattle.listing.specs.declared.Scan.{Scan}
use Rattle.listing.specs.declared.Found.TheVariants as found
use Rattle.salvaged.specs.Hearing.{log_in}
use Rattle.salvaged.proofs.Hearing.{byte_numbered, byte_heard, heard_nothing, end_heard, all_heard}
use Rattle.salvaged.proofs.log.read.Goals as goal
use Rattle.salvaged.proofs.log.read.Goals.{in-Nothing, in_default}

pub loop-byte-init : goal.loop-byte-init
loop-byte-init c = rw c.made-log.ensures (record { few = omega arith; long = c.requires; short = tt }, refl)

pub hear-log-requires : goal.hear-log-requires
hear-log-requires c =
    let l = c.loop-byte in
    (l.invariant.0, rw c.byte-scan.ensures (byte_numbered l.scanner _))

pub loop-byte-preserved : goal.loop-byte-preserved
loop-byte-preserved c =
    let l = c.loop-byte in
    let input = c.args.input.now in
    let byte = c.byte-scan.ensures in
    let here = log_in l.log l.words in
    let passed = l.invariant.1 ∙ byte_heard here l.scanner input l.byte-index (omega arith) in
    elim c.match-scan.branch [
      | in-Nothing w ↦
          let none : (scanned_byte l.scanner (get_or input l.byte-index 0)).found ≡ found.Nothing = ap (λ (s : Scan). s.found) (sym byte) ∙ w.in-Nothing.is in
          rw (w.words-is, w.log-is) (l.invariant.0, passed ∙ rw (none, heard_nothing here, byte))
      | in_default w ↦
          let h = w.hear-log.ensures in
          rw (w.words-is, w.log-is) (h.fine, passed ∙ rw (h.same, byte))
    ]

pub end-requires : goal.end-requires
end-requires c = c.loop-byte.invariant.0

pub returns : goal.returns
returns c =
    let l = c.loop-byte in
    let input = c.args.input.now in
    let e = c.end.ensures in
    let rest : drop l.byte-index input ≡ [] = drop_of_length-le input {i = l.byte-index} (omega arith) in
    record { fine = e.fine; same = e.same ∙ sym (l.invariant.1 ∙ rw rest (end_heard (log_in l.log l.words) l.scanner)) ∙ all_heard input }
