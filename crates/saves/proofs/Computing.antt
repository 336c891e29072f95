-- All that a worked run computes with: what says `unfolding computing` sees through the rules, and what they rest on.
use Rattle.numbers.specs.Bits.{bit, number}
use Rattle.wire.specs.Buttons.{presses}
use Rattle.saves.specs.Rules.{new_in, hears, buttons_among}
use Rattle.saves.specs.Promises.{HeardAll, times_down, told_of, behind, over_of}

unfoldable pub computing : Unit {0}
unfolding over_of behind told_of times_down HeardAll buttons_among hears new_in presses number bit
computing = tt
