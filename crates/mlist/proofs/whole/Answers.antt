-- It begins at the first byte, and a read has room.
use Rattle.std.proofs.Common.{refl, ◌∙◌, ap}
use Rattle.listing.specs.Feeding.{good}
use Rattle.listing.proofs.Keeps.{fresh_is_good}
use Rattle.mlist.proofs.Turns.{begins}
use Rattle.mlist.proofs.whole.Goals as goal

pub returns : goal.returns
returns c =
    c.run.ensures
    (record {
      named = refl;
      ready = ap good c.fresh.ensures ∙ fresh_is_good;
      some = c.requires.1;
      fits = c.requires.0;
      stands = begins c.args.system.now.turn c.requires.2 c.fresh.result c.fresh.ensures;
    })
