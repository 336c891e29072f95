-- A part of a long call, counted apart: no public promise cites it.
use Rattle.std.specs.Prelude.{ℕ, ◌+◌}
use Rattle.wire.specs.Buttons.{left, middle, right}
use Rattle.saves.specs.Rules.{hears}
use Rattle.saves.specs.Promises.{once}
use Rattle.saves.specs.declared.Watch.{Watch}
use Rattle.saves.specs.declared.Told.{Told}
use Rattle.saves.specs.declared.Watched.{Watched}

-- before the first report
abbrev pub none_before : Watch → Watched
none_before w = record { next = w; left = 0; middle = 0; right = 0 }

-- what a report adds
abbrev pub and_told : Watched → Told → Watched
and_told s t = record { next = t.next; left = s.left + once left t; middle = s.middle + once middle t; right = s.right + once right t }

unfoldable pub with_report : Watched → ℕ → Watched
with_report s now = and_told s (hears s.next now)
