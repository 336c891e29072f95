-- The good check: a known format; of the report that is going fewer bytes than it has, the first of them one that can
-- begin it, the last one that can stand in its place, and 0 for both where none has gone; ended, which is 0 or 1, only
-- with none gone.
use Rattle.std.specs.Prelude.{◌-◌, Bool, not, cond, ◌&&◌, eqb, ltb, leb}
use Rattle.wire.specs.Line.{size_by, known}
use Rattle.yard.specs.Stands.{stands_by}
use Rattle.yard.specs.State.{ended}
use Rattle.yard.specs.declared.Yard.{Yard}

unfoldable pub gone_rightly : Yard → Bool
gone_rightly y =
    stands_by y.format 0 0 0 y.first &&
    cond (eqb y.count 1) (eqb y.last y.first) (stands_by y.format (y.count - 1) y.first 0 y.last)

unfoldable pub good : Yard → Bool
good y =
    known y.format && ltb y.count (size_by y.format) && leb y.ended 1 &&
    cond (eqb y.count 0) (eqb y.first 0 && eqb y.last 0) (not (ended y) && gone_rightly y)
