-- All of the bytes are taken, and their text is written.
use Rattle.std.proofs.Common.{rules, ◌≡◌, length, sym, refl, arith}
use Rattle.std.proofs.lemmas.Result.{err_from_is_err_and}
use lib.Seq.{length-take-le}
use Rattle.listing.specs.Promises.{listed_in}
use Rattle.listing.proofs.Calls.{feed_within, next_good}
use Rattle.mlist.proofs.Turns.{shown, unshown, falls, closes}
use Rattle.mlist.proofs.ListingFilter.feed.Goals as goal

pub slice_bounds-show-end-2 : goal.slice_bounds-show-end-2
slice_bounds-show-end-2 c =
    let feed = c.feed-listed in
    let same : length feed.new.out ≡ length c.args.out.now = search rules in
    omega (arith, same, (feed_within _ _ _ _ (listed_in feed.result) feed.ensures).1)

pub slice_bounds-show-end-3 : goal.slice_bounds-show-end-3
slice_bounds-show-end-3 c =
    let feed = c.feed-listed in
    let same : length feed.new.out ≡ length c.args.out.now = search rules in
    sym (length-take-le _ _ (omega (arith, same, (feed_within _ _ _ _ (listed_in feed.result) feed.ensures).1)))

pub returns-in_err-show : goal.returns-in_err-show
returns-in_err-show c =
    let feed = c.feed-listed in
    let p = err_from_is_err_and c.from_residual.result c.from_residual.ensures.1 in
    λ k.
    rw p.1
    (unshown c.args.self.lister c.args.bytes.now c.args.out.now feed.new.out (listed_in feed.result) k.ready k.fits feed.ensures _ _ _ k.stands
    c.in_err-show.ensures.handed refl)

pub returns-then-listed : goal.returns-then-listed
returns-then-listed c =
    let m = c.args.self.lister in
    let bytes = c.args.bytes.now in
    let out = c.args.out.now in
    let feed = c.feed-listed in
    let a = listed_in feed.result in
    λ k.
    record {
      whole = next_good m bytes out feed.new.out a k.ready feed.ensures;
      closes = closes m bytes out feed.new.out a k.ready k.fits feed.ensures _ c.if-listed.true
          (shown m bytes out feed.new.out a k.ready k.fits feed.ensures _ _ _ k.stands c.in_ok-show.ensures.handed refl);
    }

pub returns-else-listed : goal.returns-else-listed
returns-else-listed c =
    let m = c.args.self.lister in
    let bytes = c.args.bytes.now in
    let out = c.args.out.now in
    let feed = c.feed-listed in
    let a = listed_in feed.result in
    λ k.
    record {
      ready = next_good m bytes out feed.new.out a k.ready feed.ensures;
      stands = shown m bytes out feed.new.out a k.ready k.fits feed.ensures _ _ _ k.stands c.in_ok-show.ensures.handed refl;
      nearer = falls m bytes out feed.new.out a k.ready k.fits feed.ensures k.some c.if-listed.false;
    }
