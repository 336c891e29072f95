-- Wrong answers, two for each promise, that it does not permit.
use Rattle.std.proofs.Common.{None, Some}
use mathlib.Core.Path.{ap, sym}
use mathlib.Core.Bool.{true, false}
use mathlib.Core.List.{[], ◌∷◌}
use native.Mathlib.Omega.{arith}
use lib.ListN.{get_or}
use Rattle.numbers.proofs.Tested.{holds}
use Rattle.reader.specs.State.{reader, fresh, ready}
use Rattle.reader.specs.declared.Answer.TheVariants as answer
use Rattle.ballbox.specs.Commands.{letterf, letter_p}
use Rattle.replies.specs.Replying.{came, none, awaiting, nothing}
use Rattle.replies.specs.Rules.{told_reader, heard}
use Rattle.replies.specs.Promises.{Telling, NewToldReader, Step, Left, FreshPromise, GoodPromise, TellPromise, StepPromise, ReadPromise, new_told, telling_of}
use Rattle.replies.specs.declared.Kind.TheVariants as kind
use Rattle.replies.specs.declared.Asked.TheVariants.{Command}
use Rattle.replies.specs.declared.Reply.TheVariants as reply
use Rattle.replies.specs.declared.ToldReader.{ToldReader}
use Rattle.replies.proofs.Computing.{computing}

abbrev ready_u : ToldReader
ready_u = told_reader (ready 0x55) nothing

-- a reader of U for the letter T; and a letter that is not in the table taken without a word
pub fresh_other_letter : FreshPromise 0x54 (new_told 0 (told_reader (fresh 0x55) nothing)) → ⊥
unfolding computing
fresh_other_letter e = omega (arith, ap (λ (n : NewToldReader). n.reader.reader.format) e)

pub fresh_not_refused : FreshPromise 0x58 (new_told 0 (told_reader (fresh 0x55) nothing)) → ⊥
unfolding computing
fresh_not_refused e = omega (arith, ap (λ (n : NewToldReader). n.refusal) e)

-- a reader that has a mode where the format stands called good; and a fresh one not
pub good_bad_letter : GoodPromise (told_reader (ready 0x55) (awaiting (Some kind.Letters) (came 1 0x4F 0))) true → ⊥
unfolding computing
good_bad_letter e = holds (sym e)

pub good_refuses_ready : GoodPromise ready_u false → ⊥
unfolding computing
good_refuses_ready e = holds e

-- P told as a command that has a reply; and an unfinished reply that is not replaced
pub tell_takes_p : TellPromise ready_u (Command letter_p) (telling_of 0 ready_u 0) → ⊥
unfolding computing
tell_takes_p e = omega (arith, ap (λ (t : Telling). t.refusal) e)

pub tell_keeps_old : TellPromise (told_reader (ready 0x55) (awaiting (Some kind.Letters) (came 1 0x55 0))) (Command letterf) (telling_of 0 (told_reader (ready 0x55) (awaiting (Some kind.Letters) (came 1 0x55 0))) 0) → ⊥
unfolding computing
tell_keeps_old e = omega (arith, ap (λ (t : Telling). t.discarded) e)

-- an `f` byte of no format accepted; and the byte that broke the reply not given to the report reader
pub step_takes_18 : StepPromise (told_reader (ready 0x55) (awaiting (Some kind.Code) none)) 0x18 (heard ready_u (Some (reply.Format 0x55)) answer.Nothing) → ⊥
unfolding computing
step_takes_18 e = omega (arith, ap (λ (o : Step). get_or o.reply 0 0) e)

pub step_keeps_breaker : StepPromise (told_reader (reader 0x53 (0x94 ∷ 0x05 ∷ 0 ∷ 0 ∷ 0 ∷ []) 2 false) (awaiting (Some kind.Letters) none)) 0x03
    (heard (told_reader (reader 0x53 (0x94 ∷ 0x05 ∷ 0 ∷ 0 ∷ 0 ∷ []) 2 false) nothing) (Some (reply.Broken none)) answer.Nothing) → ⊥
unfolding computing
step_keeps_breaker e = omega (arith, ap (λ (o : Step). o.next.reader.count) e)

-- a reply read and not told; and one that is told whole at its first byte
pub read_untold : ReadPromise (told_reader (ready 0x55) (awaiting (Some kind.Code) none)) (0x10 ∷ []) [] (record { refusal = 0; next = ready_u; taken = 1; reports = 0; dropped = 0; reply = None }) [] → ⊥
unfolding computing
read_untold e = omega (arith, ap (λ (l : Left). get_or l.reply 0 0) e)

pub read_too_soon : ReadPromise (told_reader (ready 0x55) (awaiting (Some kind.Letters) none)) (0x55 ∷ []) [] (record { refusal = 0; next = ready_u; taken = 1; reports = 0; dropped = 0; reply = Some (reply.Letters 0x55 0x4F) }) [] → ⊥
unfolding computing
read_too_soon e = omega (arith, ap (λ (l : Left). get_or l.reply 0 0) e)
