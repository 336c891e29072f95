-- The presses that are seen, made, waiting and still to come, over a run of a box in a stream mode.
use Prim.Native.Nat.{ℕ, ◌+◌, ◌≤◌}
use mathlib.Core.Path.{◌≡◌, sym, ◌∙◌, ap}
use mathlib.Core.Bool.{Bool, true}
use mathlib.Core.List.{List, ◌++◌}
use native.Mathlib.Omega.{arith}
use Rattle.frames.specs.Passages.{UnderWay}
use Rattle.wire.specs.Messages.{Message, finished_reports}
use Rattle.wire.specs.Buttons.{presses, buttons_of, CarriedBy}
use Rattle.wire.specs.declared.Format.{Format}
use Rattle.wire.proofs.Buttons.{last_of, repeated, presses_append, seen_as_sent}
use Rattle.ballbox.specs.Presses.{remembered}
use Rattle.ballbox.specs.declared.BallBox.{BallBox}
use Rattle.ballbox.specs.declared.Event.{Event}
use Rattle.history.specs.History.{passages_of}
use Rattle.history.specs.Presses.{made, none_empties, changes_in, states_over, never_ninth, shown_by, box_after}
use Rattle.history.proofs.Presses as p
use Rattle.history.proofs.Presses.{Streams}
use Rattle.history.proofs.Unmade.{Last, repeats_over, repeats_told, states_fewer}

-- Over a run, for a button that the format carries, behind u.
module _ (f : Format) (down : ℕ → Bool) (c : CarriedBy f down) (u : ℕ) (b : BallBox) (g : UnderWay Message) (events : List Event)
    (h : Streams b g) (keeps : none_empties events ≡ true) (l : Last u b g) where
  abbrev pub seen : ℕ
  seen = presses down (down u) (buttons_of (finished_reports f (passages_of b g events)))

  abbrev pub to_come : ℕ
  to_come = presses down (down (last_of u (shown_by (passages_of b g events)))) (remembered (box_after b events).memory)

  abbrev pub waiting : ℕ
  waiting = presses down (down u) (remembered b.memory)

  states_are : presses down (down u) (states_over b (remembered b.memory) events) ≡ seen + to_come
  states_are =
      ap (presses down (down u)) (p.in_order b g events h keeps)
      ∙ (presses_append down u (shown_by (passages_of b g events)) (remembered (box_after b events).memory)
      ∙ ap (λ (n : ℕ). n + to_come) (sym (repeated down (repeats_over u b g events h keeps l)) ∙ sym (seen_as_sent f down c (down u) (passages_of b g events))))

  changes_are : presses down (down u) (remembered b.memory ++ changes_in b events) ≡ waiting + made down b events
  changes_are =
      presses_append down u (remembered b.memory) (changes_in b events)
      ∙ ap (λ (n : ℕ). waiting + n)
      (ap (λ (n : ℕ). presses down (down n) (changes_in b events)) l.newest ∙ sym (repeated down (repeats_told b g events h keeps)))

  pub none_unmade : seen + to_come ≤ waiting + made down b events
  none_unmade = omega (arith, states_are, changes_are, states_fewer down (down u) b (remembered b.memory) events)

  pub as_many : never_ninth b events ≡ true → seen + to_come ≡ waiting + made down b events
  as_many never = sym states_are ∙ (ap (presses down (down u)) (p.no_ninth_lem b (remembered b.memory) events never) ∙ changes_are)
