-- A read or a write that failed, or the text of what was heard.
use borrow.Author.Rules.{rules}
use Rattle.std.proofs.Common.{◌≡◌, ℕ, true, false, ◌*◌, ◌<◌, ◌≤◌, List, length, take, sym, refl, subst, arith}
use Rattle.std.proofs.Math.Nat.{mul-le-mul_left}
use lib.Seq.{length-take-le}
use Rattle.shell.specs.Outside.{heard_in, Misses, Handed}
use Rattle.shell.proofs.Laws as standing
use Rattle.hearing.specs.Turns.{over}
use Rattle.hearing.proofs.Turns.{few_heard, text_within, goes_on, breaks, broke}
use Rattle.hearing.proofs.session.Session.listen.Goals as goal

pub returns-in_err-count : goal.returns-in_err-count
returns-in_err-count g c =
    let a = c.args in
    let t = a.system.now.turn in
    let h = c.hear in
    record {
      goes = λ p i o s. broke p h.new.self.turn _ _ c.from_residual.result c.from_residual.ensures.0
          (standing.misses p t h.new.self.turn (over g.T.Teller.text a.self.now) (over g.T.Teller.told a.self.now) s (subst (λ (n : List ℕ). Misses n t h.new.self.turn) (sym i) c.in_err-count.ensures.listened));
    }

pub slice_bounds-show-end : goal.slice_bounds-show-end
slice_bounds-show-end g c =
    let a = c.args in
    let part = c.hear.new.part in
    let came = take c.in_ok-count.count part in
    let same : length part ≡ length a.input.now = search rules in
    let long = length-take-le c.in_ok-count.count part c.in_ok-count.ensures.count_in_bounds in
    let few = few_heard came (length a.input.now) c.requires.room.0 (omega (arith, long, same, c.in_ok-count.ensures.count_in_bounds)) in
    let room : g.T.Teller.most * length (heard_in came) ≤ length a.out.now = omega (arith, mul-le-mul_left g.T.Teller.most few, c.requires.room.1) in
    let h = c.hear-behind in
    text_within (over g.T.Teller.text) (over g.T.Teller.told) g.T.Teller.most a.self.now h.new.self (heard_in came) a.out.now h.new.out h.result h.ensures room

pub slice_bounds-show-end-2 : goal.slice_bounds-show-end-2
slice_bounds-show-end-2 g c =
    let a = c.args in
    let part = c.hear.new.part in
    let came = take c.in_ok-count.count part in
    let same : length part ≡ length a.input.now = search rules in
    let long = length-take-le c.in_ok-count.count part c.in_ok-count.ensures.count_in_bounds in
    let few = few_heard came (length a.input.now) c.requires.room.0 (omega (arith, long, same, c.in_ok-count.ensures.count_in_bounds)) in
    let room : g.T.Teller.most * length (heard_in came) ≤ length a.out.now = omega (arith, mul-le-mul_left g.T.Teller.most few, c.requires.room.1) in
    let h = c.hear-behind in
    sym (length-take-le _ _ (text_within (over g.T.Teller.text) (over g.T.Teller.told) g.T.Teller.most a.self.now h.new.self (heard_in came) a.out.now h.new.out h.result h.ensures room))

pub returns-in_err-show : goal.returns-in_err-show
returns-in_err-show g c =
    let a = c.args in
    let part = c.hear.new.part in
    let came = take c.in_ok-count.count part in
    let same : length part ≡ length a.input.now = search rules in
    let long = length-take-le c.in_ok-count.count part c.in_ok-count.ensures.count_in_bounds in
    let few = few_heard came (length a.input.now) c.requires.room.0 (omega (arith, long, same, c.in_ok-count.ensures.count_in_bounds)) in
    let room : g.T.Teller.most * length (heard_in came) ≤ length a.out.now = omega (arith, mul-le-mul_left g.T.Teller.most few, c.requires.room.1) in
    let some : 0 < length part = omega (arith, same, c.requires.room.0) in
    let h = c.hear-behind in
    let t = a.system.now.turn in
    let t' = c.hear.new.self.turn in
    let w = c.show.new.self.turn in
    record {
      goes = λ p i o s. broke p w _ _ c.from_residual-in_err-show.result c.from_residual-in_err-show.ensures.0
          (breaks (over g.T.Teller.text) (over g.T.Teller.told) g.T.Teller.most a.self.now h.new.self (heard_in came) a.out.now h.new.out h.result h.ensures room p t t' w c.in_ok-count.count part false s some refl c.in_ok-count.ensures.listened
          (subst (λ (n : List ℕ). Handed n t' w false (take h.result h.new.out)) (sym o) c.in_err-show.ensures.handed) refl);
    }

pub returns : goal.returns
returns g c =
    let a = c.args in
    let part = c.hear.new.part in
    let came = take c.in_ok-count.count part in
    let same : length part ≡ length a.input.now = search rules in
    let long = length-take-le c.in_ok-count.count part c.in_ok-count.ensures.count_in_bounds in
    let few = few_heard came (length a.input.now) c.requires.room.0 (omega (arith, long, same, c.in_ok-count.ensures.count_in_bounds)) in
    let room : g.T.Teller.most * length (heard_in came) ≤ length a.out.now = omega (arith, mul-le-mul_left g.T.Teller.most few, c.requires.room.1) in
    let some : 0 < length part = omega (arith, same, c.requires.room.0) in
    let h = c.hear-behind in
    let t = a.system.now.turn in
    let t' = c.hear.new.self.turn in
    let w = c.show.new.self.turn in
    record {
      goes = λ p i o s.
          goes_on (over g.T.Teller.text) (over g.T.Teller.told) g.T.Teller.most a.self.now h.new.self (heard_in came) a.out.now h.new.out h.result h.ensures room p t t' w c.in_ok-count.count part true s some refl c.in_ok-count.ensures.listened
          (subst (λ (n : List ℕ). Handed n t' w true (take h.result h.new.out)) (sym o) c.in_ok-show.ensures.handed) refl;
    }
