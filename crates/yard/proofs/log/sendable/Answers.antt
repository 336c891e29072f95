-- A word that is refused, one that can be sent, and one that cannot.
use Prim.Native.Nat.{ℕ, suc, ◌+◌, ◌<◌}
use mathlib.Core.Path.{◌≡◌, sym, ap, ◌∙◌}
use mathlib.Core.List.{List, ◌∷◌}
use native.Mathlib.Omega.{arith}
use lib.ListN.{length, drop, drop_of_length-le, get_or}
use lib.Seq.{drop-cons}
use Rattle.std.proofs.lemmas.Result.{err_from_is_err_and}
use Rattle.yard.specs.Good.{good}
use Rattle.yard.specs.Rules.{can, cannot, word_of}
use Rattle.yard.specs.Log.{checked_of}
use Rattle.yard.specs.declared.Yard.{Yard}
use Rattle.yard.specs.declared.Judged.{Judged}
use Rattle.yard.proofs.Keeps.{below_size_lem, word_good}
use Rattle.yard.proofs.Logs.{only_bad_word, rest, rest_start, rest_bad, rest_can, rest_cannot, rest_end}
use Rattle.yard.proofs.log.sendable.Goals as goal
use Rattle.yard.proofs.log.sendable.Goals.{in-Some, in-None}

-- the words from a place on, and a step among them
here : (y₀ y : Yard) (at count sendable : ℕ) (words : List ℕ) → at < length words → checked_of y₀ words ≡ rest y sendable count (drop at words) → checked_of y₀ words ≡ rest y sendable count (get_or words at 0 ∷ drop (at + 1) words)
here y₀ y at count sendable words l e = let n : at + 1 ≡ suc at = omega arith in e ∙ rw (drop-cons words at 0 l, n)

pub loop-word-init : goal.loop-word-init
loop-word-init c = record { said = rest_start _ _; sound = c.requires; few = omega arith }

pub word-requires : goal.word-requires
word-requires c = let l = c.loop-word in below_size_lem l.next l.invariant.sound

pub returns-in_err-behind : goal.returns-in_err-behind
returns-in_err-behind c =
    let l = c.loop-word in
    let a = c.args in
    let w = get_or a.words.now l.word-index 0 in
    let p = err_from_is_err_and c.from_residual.result c.from_residual.ensures.1 in
    let bad = only_bad_word l.next w c.in_err-behind.field-0.0 c.in_err-behind.ensures in
    rw (p.1, p.2, bad.1) (sym (here a.yard l.next l.word-index _ l.sendable a.words.now (omega arith) l.invariant.said ∙ rest_bad l.next l.sendable _ w _ bad.0))

pub loop-word-preserved : goal.loop-word-preserved
loop-word-preserved c =
    let l = c.loop-word in
    let a = c.args in
    let w = get_or a.words.now l.word-index 0 in
    let said = here a.yard l.next l.word-index _ l.sendable a.words.now (omega arith) l.invariant.said in
    elim c.match-branch-2.branch [
      | in-Some v ↦
          let e : can v.in-Some.behind ≡ word_of l.next w = rw v.in-Some.is at c.in_ok-behind.ensures in
          rw (v.next-is, v.sendable-is) (record {
            said = said ∙ rest_can l.next v.in-Some.behind l.sendable _ w _ e;
            sound = ap (λ (j : Judged). good j.next) e ∙ word_good l.next l.invariant.sound w;
            few = omega arith;
          })
      | in-None v ↦
          let e : cannot l.next.format ≡ word_of l.next w = rw v.in-None.is at c.in_ok-behind.ensures in
          rw (v.next-is, v.sendable-is, v.over-next.ensures) (record {
            said = said ∙ rest_cannot l.next l.sendable _ w _ e;
            sound = ap (λ (j : Judged). good j.next) e ∙ word_good l.next l.invariant.sound w;
            few = omega arith;
          })
    ]

pub returns : goal.returns
returns c =
    let l = c.loop-word in
    let a = c.args in
    sym (l.invariant.said ∙ rw (drop_of_length-le a.words.now {i = l.word-index} (omega arith), rest_end l.next l.sendable (length a.words.now)))
