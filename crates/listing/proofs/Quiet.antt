-- Silences that change nothing: those to a reader that has no bytes and awaits nothing.
use Rattle.std.proofs.Common.{None}
use Prim.Native.Nat.{ℕ}
use mathlib.Core.Path.{◌≡◌, refl, sym, subst}
use mathlib.Core.Bool.{Bool, true, false, not, ◌&&◌}
use lib.Dec.{eqb}
use Rattle.numbers.proofs.Choices.{cases}
use Rattle.frames.specs.Words.{silence}
use Rattle.reader.specs.State.{ready, Read}
use Rattle.reader.specs.Good.{good}
use Rattle.reader.specs.Rules.{dropping, silence_of, word_of}
use Rattle.reader.specs.Promises.{step_of}
use Rattle.reader.specs.declared.Reader.{Reader}
use Rattle.reader.proofs.WholeReports.{is_ready}
use Rattle.listing.specs.Items.{answer_given, gave, word_gave}

-- to this reader a silence changes nothing, and gives nothing
abbrev pub Quiet : Reader → Type 0
Quiet r = (n : ℕ) → word_gave r n silence ≡ gave r None

ready_quiet : (f : ℕ) → Quiet (ready f)
unfolding step_of word_of silence_of dropping
ready_quiet f n = cases (λ (s : Read). gave s.next (answer_given f n s.answer) ≡ gave (ready f) None) (good (ready f)) (λ _. refl) (λ _. refl)

bad_quiet : (r : Reader) → good r ≡ false → Quiet r
unfolding step_of
bad_quiet r bad n = rw bad

pub none_kept : (r : Reader) → eqb r.count 0 && not r.awaiting ≡ true → Quiet r
none_kept r calm = go (good r) refl
  where
    go : (t : Bool) → good r ≡ t → Quiet r
    go true g = subst (λ (s : Reader). Quiet s) (sym (is_ready r g calm)) (ready_quiet r.format)
    go false g = bad_quiet r g
