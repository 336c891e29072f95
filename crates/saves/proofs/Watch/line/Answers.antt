-- A report more: its first number tells the buttons.
use mathlib.Core.Path.{◌≡◌, sym, ◌∙◌, ap}
use native.Mathlib.Omega.{arith}
use lib.ListN.{length, get_or, length-append}
use lib.IntN.{ℤ, pos}
use mir.Syntax.{w16}
use mir.Val.{to_z, of_z}
use mir.Facts.{to_z-of_z}
use Rattle.std.specs.Slice.Iter.{chunks_exact_rest, chunks_exact_size}
use Rattle.saves.specs.Rules.{low_three, buttons_among}
use Rattle.saves.specs.Parts.{with_report}
use Rattle.saves.specs.declared.Watched.{Watched}
use Rattle.saves.proofs.Counting.{going, from_none, with_few, one_more_lem, none_more}
use Rattle.saves.proofs.Watch.line.Goals as goal

pub loop-report-init : goal.loop-report-init
loop-report-init c =
    let i = c.into_iter-report-iterator.ensures.into_iter_gives in
    let all : chunks_exact_rest c.into_iter-report-iterator.result ≡ c.args.numbers.now = ap chunks_exact_rest i ∙ c.chunks_exact-report-items.ensures.rest in
    let few = ap (length {A = ℤ}) all in
    record {
      counted = rw all (from_none c.args.self (buttons_among c.args.numbers.now));
      fives = ap chunks_exact_size i ∙ c.chunks_exact-report-items.ensures.size;
      few_left = omega (arith, few);
      few_middle = omega (arith, few);
      few_right = omega (arith, few);
    }

pub with-watched-requires : goal.with-watched-requires
with-watched-requires c =
    let l = c.loop-report.invariant in
    let s = c.in-Some.ensures.steps.1 in
    let long = ap (length {A = ℤ}) s.0 ∙ length-append c.in-Some.report.now (chunks_exact_rest c.next.new.self) in
    (omega (arith, s.1, l.fives, long), omega (arith, s.1, l.fives, long), omega (arith, s.1, l.fives, long))

pub loop-report-preserved : goal.loop-report-preserved
loop-report-preserved c =
    let l = c.loop-report in
    let steps = c.in-Some.ensures.steps in
    let report = c.in-Some.report.now in
    let rest = chunks_exact_rest c.next.new.self in
    let five : length report ≡ 5 = steps.1.1 ∙ l.invariant.fives in
    let long = ap (length {A = ℤ}) steps.1.0 ∙ length-append report rest in
    let number = get_or report 0 (pos 0) in
    let back : to_z w16 (of_z w16 number) ≡ number = to_z-of_z {w = w16} (record { sfits = c.low_three-arg-1.given }) in
    let now = low_three number in
    let same : c.low_three.result ≡ now = rw back at c.low_three.ensures in
    let is : c.with-watched.result ≡ with_report l.watched now = c.with-watched.ensures ∙ ap (with_report l.watched) same in
    let few = with_few l.watched now in
    let more = ap buttons_among steps.1.0 ∙ one_more_lem report rest five in
    record {
      counted = rw is (ap (going l.watched) (sym more) ∙ l.invariant.counted);
      fives = steps.0 ∙ l.invariant.fives;
      few_left = omega (arith, ap (λ (s : Watched). s.left) is, few.0, long);
      few_middle = omega (arith, ap (λ (s : Watched). s.middle) is, few.1, long);
      few_right = omega (arith, ap (λ (s : Watched). s.right) is, few.2, long);
    }

pub returns : goal.returns
returns c =
    let l = c.loop-report in
    let short = none_more (chunks_exact_rest l.report-iterator) (omega (arith, c.in-None.ensures.steps.1.0, l.invariant.fives)) in
    ap (going l.watched) (sym short) ∙ l.invariant.counted
