-- What is remembered beside what is going, in a box that is awake: its rules, and what each step leaves of them.
use Prim.Native.Nat.{ℕ, ◌+◌, ◌-◌, ◌≤◌}
use mathlib.Core.Path.{◌≡◌, refl}
use mathlib.Core.Bool.{Bool, true, false, not, cond, ◌&&◌, ◌||◌, or-true}
use native.Mathlib.Omega.{arith}
use lib.Dec.{ltb, eqb}
use borrow.Author.Tests.{ltb-false, lt-ltb, le-ltb, eqb-true, eq-eqb, not-true, not-false}
use Rattle.numbers.proofs.Choices.{or_else, either, both, cases}
use Rattle.numbers.proofs.Tested.{right}
use Rattle.wire.specs.Line.{size_by, known}
use Rattle.ballbox.specs.Box.{nothing}
use Rattle.ballbox.specs.Presses.{any_remembered, full, none, remembering, showing_first, shown, hidden, showing}
use Rattle.ballbox.specs.Commands.{is_stream}
use Rattle.ballbox.specs.Events.{more_behind, after, memory_after}
use Rattle.ballbox.specs.Good.{good_memory, shows_rightly}
use Rattle.ballbox.specs.declared.Going.{Going}
use Rattle.ballbox.specs.declared.Memory.{Memory}
use Rattle.ballbox.proofs.Marks.{mark_back}
use Rattle.ballbox.proofs.Outgoing.{size_known}
use Rattle.ballbox.proofs.Remembering.{memory_parts, memory_again, remembering_good, shown_good, hidden_good, showing_good}

pub record Remembers (mode letter : ℕ) (g : Going) (m : Memory) : Type 0 where
  pub good : good_memory m ≡ true
  pub stream : not (any_remembered m) || is_stream mode ≡ true
  pub shows : shows_rightly letter g m ≡ true

pub none_remembers : (mode letter : ℕ) (g : Going) → Remembers mode letter g none
unfolding good_memory
none_remembers mode letter g = record { good = refl; stream = refl; shows = refl }

module _ (mode letter : ℕ) (g : Going) (m : Memory) (r : Remembers mode letter g m) where
  -- a state more
  pub remembering_remembers : (n : ℕ) → n ≤ 7 → is_stream mode ≡ true → Remembers mode letter g (remembering n m)
  unfolding remembering
  remembering_remembers n l e =
      record {
        good = memory_again (remembering n m) (remembering_good n m l (memory_parts m r.good));
        stream = rw (e, or-true);
        shows = cases (λ (x : Memory). shows_rightly letter g x ≡ true) (full m) (λ f. r.shows) (λ f. more (showing m) (any_remembered m) r.shows);
      }
    where
      more : (t any : Bool) → not t || (any && eqb g.length (size_by letter)) ≡ true → not t || (ltb 0 (m.count + 1) && eqb g.length (size_by letter)) ≡ true
      more false any h = refl
      more true any h = both _ _ (lt-ltb 0 (m.count + 1) (omega arith)) (right any (eqb g.length (size_by letter)) h)

  -- a report is latched
  pub showing_remembers : (h : Going) → h.length ≡ size_by letter → Remembers mode letter h (showing_first m)
  unfolding showing_first
  showing_remembers h e =
      record {
        good = memory_again (showing_first m) (showing_good m (memory_parts m r.good));
        stream = r.stream;
        shows = rw (mark_back (any_remembered m)) (either (not (any_remembered m)) _ (λ n. both (any_remembered m) _ (not-false _ n) (eq-eqb h.length (size_by letter) e)));
      }

  -- it is broken off
  pub hidden_remembers : (h : Going) → Remembers mode letter h (hidden m)
  unfolding hidden
  hidden_remembers h = record { good = memory_again (hidden m) (hidden_good m (memory_parts m r.good)); stream = r.stream; shows = refl }

  -- its last byte has gone, or another
  fewer : not (ltb 0 (m.count - 1)) || is_stream mode ≡ true
  fewer =
      or_else (not (ltb 0 m.count)) (is_stream mode) (λ e. rw (le-ltb 0 (m.count - 1) (omega (arith, ltb-false 0 m.count (not-true _ e))))) (λ e. rw (e, or-true)) r.stream

  shown_remembers : (h : Going) → Remembers mode letter h (shown m)
  unfolding shown
  shown_remembers h =
      record {
        good = memory_again (shown m) (shown_good m (memory_parts m r.good));
        stream = cases (λ (x : Memory). not (any_remembered x) || is_stream mode ≡ true) (showing m) (λ e. fewer) (λ e. r.stream);
        shows = cases (λ (x : Memory). shows_rightly letter h x ≡ true) (showing m) (λ e. refl) (λ e. rw e);
      }

  pub after_remembers : Remembers mode letter (after g) (memory_after g m)
  unfolding after memory_after
  after_remembers = go (more_behind g)
    where
      go : (t : Bool) → Remembers mode letter (cond t (record { length = g.length; sent = g.sent + 1; bytes = g.bytes }) nothing) (cond t m (shown m))
      go true = record { good = r.good; stream = r.stream; shows = r.shows }
      go false = shown_remembers nothing

  -- where nothing is going nothing is shown, whatever is to be sent then
  pub idle_remembers : (h : Going) → known letter ≡ true → g.length ≡ 0 → Remembers mode letter h m
  idle_remembers h f z = record { good = r.good; stream = r.stream; shows = rw (unshown (showing m) r.shows) }
    where
      unshown : (t : Bool) → not t || (any_remembered m && eqb g.length (size_by letter)) ≡ true → t ≡ false
      unshown false e = refl
      unshown true e = absurd (omega (arith, size_known letter f, eqb-true g.length (size_by letter) (right (any_remembered m) _ e)))
