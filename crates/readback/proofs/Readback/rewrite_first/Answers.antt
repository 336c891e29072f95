-- The first line: cut off, faulty, too wide, without room, or taken.
use mathlib.Core.Path.{◌≡◌, refl, sym, ◌∙◌, ap}
use mathlib.Core.Bool.{true}
use native.Mathlib.Omega.{arith}
use borrow.Author.Tests.{not-true, not-false}
use Rattle.listing.specs.Printing.{line_at}
use Rattle.text.specs.Growth.{text_of}
use Rattle.readback.specs.Steps.{Step, of_salvage}
use Rattle.readback.specs.Rewriting.{other_width, given_fits, rewrites}
use Rattle.readback.proofs.Goodness.{few_lines}
use Rattle.readback.proofs.Loop.{cut_stop, fault_stop}
use Rattle.readback.proofs.Rewrites.{other_known, rewriting_follows, wide_stop, short_stop, text_taken}
use Rattle.readback.proofs.Readback.rewrite_first.Goals as goal

pub overflow_add-self : goal.overflow_add-self
overflow_add-self c = record { fits = omega (arith, few_lines c.args.self c.requires.0) }

pub returns-in_default : goal.returns-in_default
returns-in_default c = rw c.rewritten.ensures (fault_stop rewrites rewriting_follows c.args.self c.args.input.now c.args.out.now c.requires.0 c.requires.1 c.in_default.ensures)

pub returns-in_default-front : goal.returns-in_default-front
returns-in_default-front c =
    let cut = rw c.in_default-front.is at c.in-Ok.ensures in
    rw c.rewritten-in_default-front.ensures (cut_stop rewrites rewriting_follows c.args.self c.args.input.now c.args.out.now c.requires.0 c.requires.1 cut.0 cut.1)

pub given_fits-requires : goal.given_fits-requires
given_fits-requires c = rw c.other_width-width.ensures (other_known c.in-Some.line.next.width)

pub overflow_add-self-then-not-given_fits : goal.overflow_add-self-then-not-given_fits
overflow_add-self-then-not-given_fits c = record { fits = omega (arith, few_lines c.args.self c.requires.0) }

pub returns-then-not-given_fits : goal.returns-then-not-given_fits
returns-then-not-given_fits c =
    let l = rw c.in-Some.is at c.in-Ok.ensures in
    let st : Step = record { good = true; next = c.in-Some.line.next; given = c.in-Some.line.given } in
    let fits_is : let s = st in c.given_fits.result ≡ given_fits (other_width s.next.width) s.given = c.given_fits.ensures ∙ ap (λ w. given_fits w st.given) c.other_width-width.ensures in
    rw c.rewritten-then-not-given_fits.ensures (wide_stop c.args.self c.args.input.now c.args.out.now c.requires.0 st l.0 l.1 refl (sym fits_is ∙ not-true _ c.if-not-given_fits.true-raw))

pub returns-then-not-put : goal.returns-then-not-put
returns-then-not-put c =
    let l = rw c.in-Some.is at c.in-Ok.ensures in
    let st : Step = record { good = true; next = c.in-Some.line.next; given = c.in-Some.line.given } in
    let fits_is : let s = st in c.given_fits.result ≡ given_fits (other_width s.next.width) s.given = c.given_fits.ensures ∙ ap (λ w. given_fits w st.given) c.other_width-width.ensures in
    let text_is : let s = st in c.line_at-text.result ≡ text_of (line_at (of_salvage s.next) (other_width s.next.width) s.given) = c.line_at-text.ensures ∙ ap (λ w. text_of (line_at (of_salvage st.next) w st.given)) c.other_width-width.ensures in
    rw (c.rewritten-then-not-put.ensures, c.put.ensures.1)
    (short_stop c.args.self c.args.input.now c.args.out.now c.requires.0 st l.0 l.1 refl (sym fits_is ∙ not-false _ c.if-not-given_fits.false-raw) _ text_is (sym c.put.ensures.0 ∙ not-true _ c.if-not-put.true-raw))

pub returns : goal.returns
returns c =
    let l = rw c.in-Some.is at c.in-Ok.ensures in
    let st : Step = record { good = true; next = c.in-Some.line.next; given = c.in-Some.line.given } in
    let fits_is : let s = st in c.given_fits.result ≡ given_fits (other_width s.next.width) s.given = c.given_fits.ensures ∙ ap (λ w. given_fits w st.given) c.other_width-width.ensures in
    let text_is : let s = st in c.line_at-text.result ≡ text_of (line_at (of_salvage s.next) (other_width s.next.width) s.given) = c.line_at-text.ensures ∙ ap (λ w. text_of (line_at (of_salvage st.next) w st.given)) c.other_width-width.ensures in
    rw (c.rewritten-2.ensures, l.2, c.put.ensures.1)
    (text_taken c.args.self c.args.input.now c.args.out.now c.requires.0 st l.0 l.1 refl (sym fits_is ∙ not-false _ c.if-not-given_fits.false-raw) _ text_is (sym c.put.ensures.0 ∙ not-false _ c.if-not-put.false-raw))
