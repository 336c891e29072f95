-- Each call's text is handed out, until all bytes are taken and no slot is owed.
use Rattle.std.proofs.Common.{rules, ◌≡◌, ℕ, ◌≤◌, ◌<◌, ◌+◌, List, length, refl, sym, subst, inl, inr, ◌∙◌, arith}
use mathlib.Core.Logic.{◌⊎◌}
use Rattle.std.proofs.lemmas.List.{take_rest}
use Rattle.std.proofs.lemmas.Result.{err_from_is_err_and}
use lib.Seq.{length-take-le}
use borrow.Author.Tests.{eqb-true, eqb-false}
use Rattle.driver.specs.Promises.{driven_in}
use Rattle.driver.proofs.Calls.{feed_within}
use Rattle.mbox.proofs.Turns.{Here, here_begins, left_of, fewer, all_bytes, nothing, calls, fails, takes, all_taken, closes, falls}
use Rattle.mbox.proofs.DrivingFilter.feed.Goals as goal
use Rattle.mbox.proofs.DrivingFilter.feed.Goals.{then-not-is_empty, else-not-is_empty+then-here-ne0, else-driven-eq0-via-then-driven-eq0+else-driven-here, else-driven-eq0-via-else-driven-eq0}

pub loop-rest-init : goal.loop-rest-init
loop-rest-init c =
    let bytes = c.args.bytes.now in
    record { room = refl; goes = λ kept stands. here_begins _ c.args.self.driver bytes kept (all_bytes bytes c.type_inv.bytes) stands }

pub slice_bounds-show-end-in-loop-rest : goal.slice_bounds-show-end-in-loop-rest
slice_bounds-show-end-in-loop-rest c =
    let feed = c.feed-driven in
    let same : length feed.new.out ≡ length c.loop-rest.out = search rules in
    omega (arith, same, (feed_within _ _ _ _ (driven_in feed.result) feed.ensures).1)

pub slice_bounds-show-end-in-loop-rest-2 : goal.slice_bounds-show-end-in-loop-rest-2
slice_bounds-show-end-in-loop-rest-2 c =
    let feed = c.feed-driven in
    let same : length feed.new.out ≡ length c.loop-rest.out = search rules in
    sym (length-take-le _ _ (omega (arith, same, (feed_within _ _ _ _ (driven_in feed.result) feed.ensures).1)))

pub returns-in_err-show : goal.returns-in_err-show
returns-in_err-show c =
    let l = c.loop-rest in
    let p = err_from_is_err_and c.from_residual.result c.from_residual.ensures.1 in
    λ f. rw p.1 (fails l.out (l.invariant.goes f.ready f.stands) c.feed-driven.ensures c.show.new.self.turn c.in_err-show.ensures.handed)

pub slice_bounds-rest-count : goal.slice_bounds-rest-count
slice_bounds-rest-count c = let feed = c.feed-driven in (feed_within _ _ _ _ (driven_in feed.result) feed.ensures).0

pub slice_bounds-rest-start : goal.slice_bounds-rest-start
slice_bounds-rest-start c = let feed = c.feed-driven in (feed_within _ _ _ _ (driven_in feed.result) feed.ensures).0

pub returns-then-driven-here : goal.returns-then-driven-here
returns-then-driven-here c =
    let l = c.loop-rest in
    let some : 1 ≤ l.here.owed + length l.rest.now = elim c.if-not-is_empty.branch [ then-not-is_empty w ↦ omega (arith, eqb-false (length l.rest.now) 0 (sym c.is_empty.ensures ∙ w.if-not-is_empty.true)) | else-not-is_empty+then-here-ne0 w ↦ omega arith ] in
    λ f. absurd (takes l.out (l.invariant.goes f.ready f.stands) c.feed-driven.ensures (omega (arith, l.invariant.room, f.fits)) some c.if-driven-eq0.true c.if-driven-here.true)

pub loop-rest-smaller : goal.loop-rest-smaller
loop-rest-smaller c =
    let l = c.loop-rest in
    let a = driven_in c.feed-driven.result in
    let some : (1 ≤ a.taken) ⊎ (a.next.owed < l.here.owed) = elim c.else-driven-eq0.branch [
      | else-driven-eq0-via-then-driven-eq0+else-driven-here w ↦ inr (omega (arith, w.if-driven-here.false))
      | else-driven-eq0-via-else-driven-eq0 w ↦ inl (omega (arith, w.if-driven-eq0.false))
    ] in
    subst (λ (rest : List ℕ). left_of rest a.next < left_of l.rest.now l.here) (sym (take_rest l.rest.now a.taken)) (fewer l.here l.rest.now l.out _ a c.feed-driven.ensures some)

pub loop-rest-preserved : goal.loop-rest-preserved
loop-rest-preserved c =
    let l = c.loop-rest in
    let feed = c.feed-driven in
    let t' = c.show.new.self.turn in
    let same : length feed.new.out ≡ length l.out = search rules in
    record {
      room = same ∙ l.invariant.room;
      goes = λ kept stands. subst (Here t' c.args.self.driver c.args.bytes.now feed.result.next) (sym (take_rest l.rest.now feed.result.taken))
          (calls l.out (l.invariant.goes kept stands) feed.ensures t' c.in_ok-show.ensures.handed);
    }

pub returns-then-here : goal.returns-then-here
returns-then-here c =
    let none = nothing c.loop-rest.rest.now (eqb-true (length c.loop-rest.rest.now) 0 (sym c.is_empty.ensures ∙ c.if-not-is_empty.false)) in
    λ f. let h = c.loop-rest.invariant.goes f.ready f.stands in record { whole = h.kept; closes = closes h none c.if-here.true }

pub returns-else-here : goal.returns-else-here
returns-else-here c =
    let none = nothing c.loop-rest.rest.now (eqb-true (length c.loop-rest.rest.now) 0 (sym c.is_empty.ensures ∙ c.if-not-is_empty.false)) in
    λ f. let h = c.loop-rest.invariant.goes f.ready f.stands in record { ready = h.kept; stands = all_taken h none; nearer = falls h none f.ready f.some c.if-here.false }
