-- "Presses that outlive a busy line": button states that reports have yet to show.
use Rattle.std.specs.Prelude.{ℕ, ◌+◌, ◌-◌, Bool, cond, List, [], ◌∷◌, ◌++◌, ltb, leb, take, drop, set, replicate}
use Rattle.wire.specs.Reading.{at}
use Rattle.ballbox.specs.Marks.{mark, marked}
use Rattle.ballbox.specs.declared.Memory.{Memory}
use Rattle.ballbox.specs.declared.BallBox.{BallBox}

-- what is remembered; whether the report that is going shows the first is 0 or 1
abbrev pub memory : List ℕ → ℕ → ℕ → Memory
memory states count showing = record { states = states; count = count; showing = showing }

-- the report that is going shows the first
abbrev pub showing : Memory → Bool
showing m = marked m.showing

-- "In stream modes the box shall remember button states in order": those that are remembered, oldest first
unfoldable pub remembered : Memory → List ℕ
remembered m = take m.count m.states

abbrev pub any_remembered : Memory → Bool
any_remembered m = ltb 0 m.count

-- "up to eight"
abbrev pub full : Memory → Bool
full m = leb 8 m.count

-- none is remembered
abbrev pub none : Memory
none = memory (replicate 8 0) 0 0

-- a change is remembered behind the newest; "A ninth change replaces the newest."
unfoldable pub remembering : ℕ → Memory → Memory
remembering n m =
    cond (full m) (memory (set m.states 7 n) m.count m.showing)
    (memory (set m.states m.count n) (m.count + 1) m.showing)

-- "With none remembered, a report shows the present buttons"; else the first
unfoldable pub to_show : BallBox → ℕ
to_show b = cond (any_remembered b.memory) (at 0 b.memory.states) b.settings.buttons

-- a report is latched: it shows the first, if one is remembered
unfoldable pub showing_first : Memory → Memory
showing_first m = memory m.states m.count (mark (any_remembered m))

-- "each shown by a report of its own"; "The state being sent keeps its place until the report's last byte has gone": what it showed is
-- removed then, and where it showed none of them none is
unfoldable pub shown : Memory → Memory
shown m = cond (showing m) (memory (drop 1 m.states ++ (0 ∷ [])) (m.count - 1) 0) m

-- "so a broken-off report is followed by another with the same buttons"
unfoldable pub hidden : Memory → Memory
hidden m = memory m.states m.count 0
