-- `plus`: digit by digit.
use Rattle.text.proofs.Digits.{Reads}
use Rattle.text.proofs.decimals.plus.Given as goal

abbrev pub invariant-loop-c : goal.invariant-loop-c
invariant-loop-c l = Reads l.bytes l.v l.c-index
