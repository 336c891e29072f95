-- The good box, rule by rule.
use Rattle.std.specs.Prelude.{ℕ, Bool, not, ◌&&◌, ◌||◌, eqb, ltb, leb, pos, length}
use Rattle.numbers.specs.Tests.{each}
use Rattle.wire.specs.Line.{letter_of, size_by, known}
use Rattle.wire.specs.Holds.{◌to◌, within}
use Rattle.wire.specs.Reading.{at}
use Rattle.wire.specs.declared.Format.TheVariants.{FiveByte}
use Rattle.ballbox.specs.Marks.{is_mark}
use Rattle.ballbox.specs.Box.{mode_d, due, dormant}
use Rattle.ballbox.specs.Presses.{any_remembered, showing}
use Rattle.ballbox.specs.Commands.{is_stream}
use Rattle.ballbox.specs.declared.Pair.{Pair}
use Rattle.ballbox.specs.declared.Settings.{Settings}
use Rattle.ballbox.specs.declared.Track.{Track}
use Rattle.ballbox.specs.declared.Going.{Going}
use Rattle.ballbox.specs.declared.Memory.{Memory}
use Rattle.ballbox.specs.declared.BallBox.{BallBox}

-- "letters and modes as above; buttons 0-7"
unfoldable pub good_settings : Settings → Bool
good_settings s = known s.format && (is_stream s.mode || eqb s.mode mode_d) && leb s.buttons 7

-- "positions 0-4095"
abbrev pub on_pad : Pair → Bool
on_pad p = within (pos 0 to pos 4095) p.x && within (pos 0 to pos 4095) p.y

unfoldable pub good_track : Track → Bool
good_track t = on_pad t.position && on_pad t.last

-- "sent below length, or both 0"
abbrev pub sent_below : Going → Bool
sent_below g = ltb g.sent g.length || (eqb g.sent 0 && eqb g.length 0)

-- "a report's length is 3 in S, T, V and else 5, a reply's 1 to 3"; "the good-state rules let a report have sent 0"
abbrev pub length_known : ℕ → Going → Bool
length_known letter g = leb g.length 3 || eqb g.length (size_by letter)

-- "in U bytes 4 and 5 are 0 while sent is below 4"
abbrev pub second_held : ℕ → Going → Bool
second_held letter g =
    not (eqb letter (letter_of FiveByte)) || leb 4 g.sent || (eqb (at 3 g.bytes) 0 && eqb (at 4 g.bytes) 0)

-- "bytes from length on are 0"
abbrev pub zero_from : ℕ → Going → Bool
zero_from i g = ltb i g.length || eqb (at i g.bytes) 0

abbrev pub rest_zero : Going → Bool
rest_zero g = each (λ i. zero_from i g) 5

unfoldable pub good_going : ℕ → Going → Bool
good_going letter g = sent_below g && length_known letter g && second_held letter g && rest_zero g

-- "dormant only with nothing going or due"
abbrev pub dormant_rightly : BallBox → Bool
dormant_rightly b = not (dormant b) || (eqb b.going.length 0 && not (due b))

-- at most eight states are remembered, in eight places, each 0 to 7, the unused places 0; whether the first is shown is 0 or 1
abbrev pub states_small : Memory → Bool
states_small m = each (λ i. leb (at i m.states) 7) 8

abbrev pub unused_zero : Memory → Bool
unused_zero m = each (λ i. ltb i m.count || eqb (at i m.states) 0) 8

unfoldable pub good_memory : Memory → Bool
good_memory m = eqb (length m.states) 8 && leb m.count 8 && states_small m && unused_zero m && is_mark m.showing

-- "prompt mode remembers nothing", nor does a dormant box
abbrev pub remembers_rightly : BallBox → Bool
remembers_rightly b = not (any_remembered b.memory) || (not (dormant b) && is_stream b.settings.mode)

-- what is going shows the first only with one remembered, and as long as a report
abbrev pub shows_rightly : ℕ → Going → Memory → Bool
shows_rightly letter g m = not (showing m) || (any_remembered m && eqb g.length (size_by letter))

-- whether a report is due, and whether the box is dormant, are 0 or 1
abbrev pub marks : BallBox → Bool
marks b = is_mark b.due && is_mark b.dormant

unfoldable pub good : BallBox → Bool
good b =
    good_settings b.settings && good_track b.track && good_going b.settings.format b.going && dormant_rightly b && good_memory b.memory &&
    remembers_rightly b && shows_rightly b.settings.format b.going b.memory && marks b
