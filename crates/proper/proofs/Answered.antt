-- What the check's answer says of boxes and runs.
use Prim.Native.Nat.{ℕ, suc, ◌<◌, ◌≤◌}
use mathlib.Core.Path.{◌≡◌, refl, sym, ap, ◌∙◌}
use mathlib.Core.Bool.{Bool, true, false, cond, ◌&&◌}
use mathlib.Core.List.{List, [], ◌∷◌}
use native.Mathlib.Omega.{arith}
use lib.ListN.{length, take}
use lib.Seq.{length-take-le}
use lib.Dec.{leb}
use borrow.Author.Tests.{eqb-true, eqb-false}
use Rattle.numbers.proofs.Choices.{both}
use Rattle.numbers.proofs.Tested.{holds}
use Rattle.frames.specs.Words.{silence, line_words}
use Rattle.wire.specs.Line.{letter_of, known}
use Rattle.wire.specs.Numbers.{success, bad_word}
use Rattle.wire.specs.declared.Format.{Format}
use Rattle.wire.proofs.Letters.{letter_named}
use Rattle.ballbox.specs.Box.{fresh_box, dormant}
use Rattle.ballbox.specs.Good.{good}
use Rattle.ballbox.specs.Promises.{FreshPromise, StepPromise}
use Rattle.ballbox.specs.declared.BallBox.{BallBox}
use Rattle.ballbox.specs.declared.Stepped.{Stepped}
use Rattle.ballbox.specs.declared.Event.TheVariants.{Host}
use Rattle.ballbox.proofs.Goodness.{fresh_is_good}
use Rattle.history.specs.Runs.{RunPromise, words_given}
use Rattle.history.proofs.Bridge.{run_passages}
use Rattle.history.proofs.Setting.{set_to}
use Rattle.yard.specs.State.{none_gone}
use Rattle.yard.specs.Rules.{sent, word_of}
use Rattle.yard.specs.Log.{sendable, judgement, passes, refused, checked_of}
use Rattle.yard.specs.Promises.{check_of, CheckPromise}
use Rattle.yard.specs.declared.Yard.{Yard}
use Rattle.yard.specs.declared.Checked.{Checked}
use Rattle.yard.proofs.Keeps.{by_word}
use Rattle.yard.proofs.Logs.{judged_passes, sendable_front, sendable_beyond, sendable_most}
use Rattle.proper.specs.Sends.{SendsFrom, CanSend, all_handed}
use Rattle.proper.proofs.Proper.{sent_passes, passing_sent}

-- words of which each can be sent are line words
can_word : (y : Yard) (w : ℕ) → sent (word_of y w) ≡ true → leb w silence ≡ true
can_word y w = by_word (λ j. sent j ≡ true → leb w silence ≡ true) y w (λ b e. absurd (holds e)) (λ l _. l) (λ l _. l) (λ l _ _ _. l)

all_words : (y : Yard) (words : List ℕ) → sendable y words ≡ length words → line_words words ≡ true
unfolding sendable line_words
all_words y [] h = refl
all_words y (w ∷ words) h = go (sent (word_of y w)) refl (all_words (word_of y w).next words)
  where
    go : (t : Bool) → sent (word_of y w) ≡ t → (sendable (word_of y w).next words ≡ length words → line_words words ≡ true) → leb w silence && line_words words ≡ true
    go true e r =
        let q : suc (sendable (word_of y w).next words) ≡ suc (length words) = rw e at h in
        both (leb w silence) (line_words words) (can_word y w e) (r (omega arith))
    go false e r = let q : ◌≡◌ {A = ℕ} 0 (suc (length words)) = rw e at h in absurd (omega arith)

fresh_awake : (b : BallBox) → FreshPromise b → dormant b ≡ false
unfolding fresh_box
fresh_awake b p = ap dormant p

module _ (f : Format) (words : List ℕ) (a : Checked) (told : CheckPromise (letter_of f) words a) where
  abbrev count : ℕ
  count = sendable (none_gone (letter_of f)) words

  -- the answer, where it is no refusal, and where it is one
  is_checked : a ≡ cond (line_words words) (judgement count (length words)) (refused bad_word)
  unfolding check_of checked_of known
  is_checked = told ∙ rw (letter_named f)

  judged : a.refusal ≡ success → a ≡ judgement count (length words)
  judged h = go (line_words words) refl
    where
      go : (t : Bool) → line_words words ≡ t → a ≡ judgement count (length words)
      go true e = rw e at is_checked
      go false e = let q : a ≡ refused bad_word = rw e at is_checked in absurd (omega (arith, ap (λ (c : Checked). c.refusal) q))

  accepted : passes a ≡ true → count ≡ length words
  accepted h = go (line_words words) refl
    where
      go : (t : Bool) → line_words words ≡ t → count ≡ length words
      go true e = let q : a ≡ judgement count (length words) = rw e at is_checked in eqb-true count (length words) (sym (ap passes q ∙ judged_passes count (length words)) ∙ h)
      go false e = let q : a ≡ refused bad_word = rw e at is_checked in absurd (holds (sym (ap passes q) ∙ h))

  pub yes : passes a ≡ true → (b : BallBox) → FreshPromise b → (s : SendsFrom b f words) × (all_handed s.events ≡ true)
  yes h b p = passing_sent f b words (fresh_is_good b p) (fresh_awake b p) (accepted h)

  pub only : CanSend f words → a ≡ judgement (length words) (length words)
  only c = let e = sent_passes f words c in is_checked ∙ rw (all_words (none_gone (letter_of f)) words e, e)

  pub before : a.refusal ≡ success → (b : BallBox) → FreshPromise b → (s : SendsFrom b f (take a.sendable words)) × (all_handed s.events ≡ true)
  before h b p =
      let n : a.sendable ≡ count = ap (λ (c : Checked). c.sendable) (judged h) in
      let e = sendable_front (none_gone (letter_of f)) count words (omega arith) in
      let l = length-take-le count words (sendable_most (none_gone (letter_of f)) words) in
      rw n (passing_sent f b (take count words) (fresh_is_good b p) (fresh_awake b p) (e ∙ sym l))

  pub beyond : a.refusal ≡ success → (n : ℕ) → a.sendable < n → n ≤ length words → CanSend f (take n words) → ⊥
  beyond h n l m c =
      let s : a.sendable ≡ count = ap (λ (c : Checked). c.sendable) (judged h) in
      omega (arith, sent_passes f (take n words) c, sendable_beyond (none_gone (letter_of f)) n words (omega arith), length-take-le n words m)

  pub place : a.refusal ≡ success → passes a ≡ false → a.sendable < length words
  place h p =
      let s : a.sendable ≡ count = ap (λ (c : Checked). c.sendable) (judged h) in
      let d = eqb-false count (length words) (sym (ap passes (judged h) ∙ judged_passes count (length words)) ∙ p) in
      omega (arith, sendable_most (none_gone (letter_of f)) words)

-- whatever answers the promise permits give the same words
pub whatever_answers : (b : BallBox) (f : Format) (words : List ℕ) → good b ≡ true → dormant b ≡ false → (s : SendsFrom b f words)
    → (set : Stepped) (answers : List Stepped)
    → StepPromise b (Host (letter_of f)) set
    → RunPromise set.next s.events answers
    → words_given answers ≡ words
whatever_answers b f words k d s set answers is run =
    let same : set.next ≡ s.set.next = ap (λ (x : Stepped). x.next) (is ∙ sym s.is_set) in
    let at = set_to f b s.set k d s.is_set in
    let r : RunPromise s.set.next s.events answers = rw same at run in
    run_passages s.set.next s.events answers at.good at.carries r
    ∙ sym (run_passages s.set.next s.events s.answers at.good at.carries s.run) ∙ s.given
