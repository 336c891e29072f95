-- The last lines have room, and are the last of the listing.
use Rattle.std.proofs.Common.{rules, ◌≡◌, ◌≤◌, length, sym, subst, is_ok, [], arith}
use lib.Seq.{length-take-le}
use Rattle.shell.specs.Outside.{Handed}
use Rattle.shell.proofs.Laws as standing
use Rattle.listing.specs.Promises.{enough, listed_in}
use Rattle.listing.proofs.Calls.{finish_within}
use Rattle.listing.proofs.Whole.{all_of}
use Rattle.mlist.specs.Program.{mlist}
use Rattle.mlist.proofs.Turns.{last_text}
use Rattle.mlist.proofs.ListingFilter.finish.Goals as goal

pub slice_bounds-show-end-2 : goal.slice_bounds-show-end-2
slice_bounds-show-end-2 c =
    let finish = c.finish-listed in
    let same : length finish.new.out ≡ length c.args.out.now = search rules in
    omega (arith, same, finish_within _ _ _ (listed_in finish.result) finish.ensures)

pub slice_bounds-show-end-3 : goal.slice_bounds-show-end-3
slice_bounds-show-end-3 c =
    let finish = c.finish-listed in
    let same : length finish.new.out ≡ length c.args.out.now = search rules in
    sym (length-take-le _ _ (omega (arith, same, finish_within _ _ _ (listed_in finish.result) finish.ensures)))

pub returns : goal.returns
returns c =
    let finish = c.finish-listed in
    let m = c.args.self.lister in
    let t = c.args.system.now.turn in
    let t' = c.show.new.self.turn in
    λ l.
    let room : enough ≤ length c.args.out.now = omega (arith, l.fits) in
    let text = last_text m c.args.out.now finish.new.out (listed_in finish.result) l.whole room finish.ensures in
    standing.last mlist t t' (is_ok c.show.result) (all_of m []) l.closes (subst (Handed mlist.output t t' (is_ok c.show.result)) text c.show.ensures.handed)
