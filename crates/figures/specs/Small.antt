-- The values of a movement: at least one and at most 4096 of them, from no lower than -2048 on.
use Rattle.std.specs.Prelude.{◌<◌, ◌≤◌}
use Rattle.std.specs.Int.Signed.{mag}
use Rattle.figures.specs.declared.reports.Values.{Values}

abbrev pub Small : Values → Type 0
Small v = (0 < v.count) × (v.count ≤ 4096) × (mag v.low < 2048)
