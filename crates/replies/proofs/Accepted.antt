-- Which replies are accepted, both ways: exactly the seven bytes of `f`, exactly the pairs of `t`.
use Rattle.std.proofs.Common.{None, Some}
use Prim.Native.Nat.{ℕ, ◌≤◌}
use mathlib.Core.Path.{◌≡◌, refl, sym, ◌∙◌, ap}
use mathlib.Core.Bool.{true, cond, ◌&&◌}
use mathlib.Core.List.{map}
use native.Mathlib.Omega.{arith}
use Rattle.numbers.proofs.Tested.{agree, holds}
use Rattle.frames.specs.Words.{is_byte, silence}
use Rattle.wire.specs.Digits.{among}
use Rattle.wire.specs.Line.{known, named_by}
use Rattle.ballbox.specs.Commands.{letterf, lettert}
use Rattle.replies.specs.Replying.{came, none, awaiting, letter_of_code, letter_fits, fits, more, broken}
use Rattle.replies.specs.Accepted.{seven_bytes, seven_letters, mode_letters}
use Rattle.replies.specs.Good.{good}
use Rattle.replies.specs.Rules.{Heard, told_reader, reply_to, continues, word_of}
use Rattle.replies.specs.Promises.{Telling, TellPromise, StepPromise, tell_of}
use Rattle.replies.specs.declared.Kind.TheVariants as kind
use Rattle.replies.specs.declared.Asked.TheVariants.{Command}
use Rattle.replies.specs.declared.Reply.TheVariants as reply
use Rattle.replies.specs.declared.ToldReader.{ToldReader}
use Rattle.replies.proofs.Word.{by_word, good_reader}
use Rattle.replies.proofs.Permitted.{step_is}
use Rattle.replies.proofs.Goodness.{step_word, tell_stays_good, step_stays_good}

-- of the line words those that may come next
code_next : (w : ℕ) → w ≤ silence → continues (awaiting (Some kind.Code) none) w ≡ among seven_bytes w
unfolding fits letter_of_code among
code_next w h = agree (continues (awaiting (Some kind.Code) none)) (among seven_bytes) 258 tt w (omega arith)

format_next : (w : ℕ) → w ≤ silence → continues (awaiting (Some kind.Letters) none) w ≡ among seven_letters w
unfolding fits letter_fits known named_by among
format_next w h = agree (continues (awaiting (Some kind.Letters) none)) (among seven_letters) 258 tt w (omega arith)

mode_next : (f w : ℕ) → w ≤ silence → continues (awaiting (Some kind.Letters) (came 1 f 0)) w ≡ among mode_letters w
unfolding fits letter_fits among
mode_next f w h = agree (λ n. is_byte n && letter_fits 1 n) (among mode_letters) 258 tt w (omega arith)

pub seven_formats : map letter_of_code seven_bytes ≡ seven_letters
unfolding letter_of_code
seven_formats = refl

-- told of a command
told_code : (s : ToldReader) (t : Telling) → good s ≡ true → TellPromise s (Command letterf) t → t.next ≡ told_reader s.reader (awaiting (Some kind.Code) none)
unfolding tell_of reply_to
told_code s t g e = rw (e, g)

told_letters : (s : ToldReader) (t : Telling) → good s ≡ true → TellPromise s (Command lettert) t → t.next ≡ told_reader s.reader (awaiting (Some kind.Letters) none)
unfolding tell_of reply_to
told_letters s t g e = rw (e, g)

module _ (s : ToldReader) (w : ℕ) (h : Heard) (g : good s ≡ true) (l : w ≤ silence) (p : StepPromise s w h) where
  is_word : h ≡ word_of s w
  is_word = step_is s w h p ∙ step_word s w g

  -- one byte that is awaited
  code_step : s.awaited ≡ awaiting (Some kind.Code) none → h.reply ≡ cond (among seven_bytes w) (Some (reply.Format (letter_of_code w))) (Some (reply.Broken none))
  unfolding broken
  code_step a =
      let next : continues s.awaited w ≡ among seven_bytes w = rw a (code_next w l) in
      rw (is_word, ← next)
      (by_word (λ (h : Heard). h.reply ≡ cond (continues s.awaited w) (Some (reply.Format (letter_of_code w))) (Some (reply.Broken none))) s w (good_reader s g)
      (λ e f. rw (e, a))
      (λ e f. absurd (holds (sym (rw a at f))))
      (λ e z. rw (e, a))
      (λ e b. absurd (omega (arith, l))))

  format_step : s.awaited ≡ awaiting (Some kind.Letters) none → h.reply ≡ cond (among seven_letters w) None (Some (reply.Broken none))
  unfolding broken
  format_step a =
      let next : continues s.awaited w ≡ among seven_letters w = rw a (format_next w l) in
      rw (is_word, ← next)
      (by_word (λ (h : Heard). h.reply ≡ cond (continues s.awaited w) None (Some (reply.Broken none))) s w (good_reader s g)
      (λ e f. absurd (holds (rw a at f)))
      (λ e f. rw e)
      (λ e z. rw (e, a))
      (λ e b. absurd (omega (arith, l))))

  format_kept : s.awaited ≡ awaiting (Some kind.Letters) none → among seven_letters w ≡ true → h.next.awaited ≡ awaiting (Some kind.Letters) (came 1 w 0)
  unfolding more
  format_kept a m =
      let next : continues s.awaited w ≡ true = rw a (format_next w l) ∙ m in
      rw is_word
      (by_word (λ (h : Heard). h.next.awaited ≡ awaiting (Some kind.Letters) (came 1 w 0)) s w (good_reader s g)
      (λ e f. absurd (holds (rw a at f)))
      (λ e f. rw a)
      (λ e z. absurd (holds (sym e ∙ next)))
      (λ e b. absurd (holds (sym e ∙ next))))

  mode_step : (f : ℕ) → s.awaited ≡ awaiting (Some kind.Letters) (came 1 f 0) → h.reply ≡ cond (among mode_letters w) (Some (reply.Letters f w)) (Some (reply.Broken (came 1 f 0)))
  unfolding broken
  mode_step f a =
      let next : continues s.awaited w ≡ among mode_letters w = rw a (mode_next f w l) in
      rw (is_word, ← next)
      (by_word (λ (h : Heard). h.reply ≡ cond (continues s.awaited w) (Some (reply.Letters f w)) (Some (reply.Broken (came 1 f 0)))) s w (good_reader s g)
      (λ e f. rw (e, a))
      (λ e f. absurd (holds (sym (rw a at f))))
      (λ e z. rw (e, a))
      (λ e b. absurd (omega (arith, l))))

-- `f`: one of the seven bytes tells its format, and any other word breaks the reply
pub code_exactly : (s : ToldReader) (t : Telling) (w : ℕ) (h : Heard)
    → good s ≡ true
    → TellPromise s (Command letterf) t
    → w ≤ silence
    → StepPromise t.next w h
    → h.reply ≡ cond (among seven_bytes w) (Some (reply.Format (letter_of_code w))) (Some (reply.Broken none))
code_exactly s t w h g e l p = code_step t.next w h (tell_stays_good s (Command letterf) t g e).0 l p (ap (λ (r : ToldReader). r.awaited) (told_code s t g e))

-- `t`: the letter of a format and then that of a mode tell the two, and any other word, first or second, breaks the
-- reply
pub letters_exactly : (s : ToldReader) (t : Telling) (f m : ℕ) (h k : Heard)
    → good s ≡ true
    → TellPromise s (Command lettert) t
    → f ≤ silence
    → StepPromise t.next f h
    → m ≤ silence
    → StepPromise h.next m k
    → (h.reply ≡ cond (among seven_letters f) None (Some (reply.Broken none)))
    × (among seven_letters f ≡ true → k.reply ≡ cond (among mode_letters m) (Some (reply.Letters f m)) (Some (reply.Broken (came 1 f 0))))
letters_exactly s t f m h k g e l p n q =
    let a = ap (λ (r : ToldReader). r.awaited) (told_letters s t g e) in
    let good_told = (tell_stays_good s (Command lettert) t g e).0 in
    (format_step t.next f h good_told l p a, λ is. mode_step h.next m k (step_stays_good t.next f h good_told p).0 n q f (format_kept t.next f h good_told l p a is))
