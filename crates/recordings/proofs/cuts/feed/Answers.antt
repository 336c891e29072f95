-- No more is taken or written than is handed.
use native.Mathlib.Omega.{arith}
use borrow.Author.Rules.{rules}
use lib.Seq.{length-take-le}
use Rattle.listing.proofs.Calls.{feed_within}
use Rattle.recordings.proofs.cuts.feed.Goals as goal

pub returns : goal.returns
returns c =
    let a = c.args in
    let w = feed_within _ _ _ _ _ c.feed.ensures in
    let piece = length-take-le c.min-bytes.result a.input.now (search rules) in
    let places = length-take-le c.min-free.result a.out.now (search rules) in
    (omega arith, omega arith)
