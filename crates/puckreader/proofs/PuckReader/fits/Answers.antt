-- `fits`: at the first place, or behind a first byte.
use Rattle.puckreader.proofs.Word.{fits_first, fits_later}
use Rattle.puckreader.proofs.Kept.{held}
use Rattle.puckreader.proofs.PuckReader.fits.Goals as goal

pub returns-then-count-eq0 : goal.returns-then-count-eq0
returns-then-count-eq0 c = fits_first _ _ (held _ c.requires) c.if-count-eq0.true c.fits_start.ensures

pub returns : goal.returns
returns c = fits_later _ _ (held _ c.requires) c.if-count-eq0.false c.fits_behind.ensures
