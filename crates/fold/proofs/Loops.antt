-- Where the loop of a long call stands: nothing taken yet, a first word, a part and then a part of the rest, the end.
use Prim.Native.Nat.{ℕ, ◌+◌, ◌-◌, ◌<◌, ◌≤◌}
use mathlib.Core.Path.{◌≡◌, refl, sym, ◌∙◌, ap}
use mathlib.Core.Bool.{true}
use mathlib.Core.List.{List, [], ◌∷◌, ◌++◌}
use native.Mathlib.Omega.{arith}
use lib.ListN.{length, get_or, take, drop, length-drop, take-append-drop}
use lib.Seq.{drop-cons}
use borrow.Rule.Slice.PartMut.{put_mid}
use Rattle.fold.specs.Fold.{Machine, ran, places, run}
use Rattle.fold.specs.Calls.{Tally, Call, Long, sum, stopped, line, Stands, Begins, Lawful}
use Rattle.fold.proofs.Laws as fold
use Rattle.fold.proofs.Parts.{rest_is, back, none, one, joins, part_within, part_room, part_left, part_long, part_none, part_ends, part_all}
use Rattle.fold.proofs.Calls.{sum_append, places_sum}

module _ {S A K X : Type 0} (c : Call S A K X) (law : Lawful c) where
  abbrev m : Machine S A X
  m = c.machine

  abbrev t : Tally A K
  t = c.tally

  -- the loop: nothing is taken yet
  pub stands_none : (s : S) (words : List ℕ) (out : List X) → Stands c s words out s 0 0 t.none out
  unfolding sum
  stands_none s words out = record { answers = []; part = none m s words out; counts_are = refl }

  -- it stops before the first word
  pub stops_at_once : (s : S) (words : List ℕ) (out : List X) (n : ℕ) → run m s words (length out) ≡ ran n s [] → stopped c n s out ≡ line c s words out
  unfolding line sum
  stops_at_once s words out n e = rw e

  -- the first word stops it, or is taken
  module _ (s : S) (words : List ℕ) (out : List X) (sound : c.good s ≡ true) (some : 0 < length words) where
    abbrev word : ℕ
    word = get_or words 0 0

    abbrev a : A
    a = m.answer s word

    pub stopping : (m.refusal s word ≡ 0 → length out < t.places (t.of a)) → Begins c s words out (stopped c (m.refusal s word) s out)
    unfolding run
    stopping h =
        let full : m.refusal s word ≡ 0 → length out < places m s word = λ z. omega (arith, h z, law.each a) in
        record {
          stands = rw law.none_places (stands_none s words out);
          stops = λ _. rw (drop-cons words 0 0 some, fold.stops m s word (length out) full);
          sound = sound;
        }

    pub taking : m.refusal s word ≡ 0 → t.places (t.of a) ≤ length out
        → Begins c s words out (record { refusal = 0; next = m.next s word; taken = 1; counts = t.of a; out = m.writes a ++ drop (t.places (t.of a)) out })
    unfolding sum
    taking z h =
        record {
          stands = record {
            answers = a ∷ [];
            part = rw (drop-cons words 0 0 some, ← law.each a) (one m s word (drop 1 words) out (fold.taken m s word (length out) z (omega (arith, law.each a))));
            counts_are = sym (law.plus_none (t.of a));
          };
          stops = λ e. absurd (omega arith);
          sound = law.stays s word sound;
        }

  module _ {words : List ℕ} {before out : List X} {s u : S} {at used : ℕ} {k : K} (here : Stands c s words before u at used k out) where
    -- how far it has come
    pub stands_within : (at ≤ length words) × (used ≤ length before) × (length out ≡ length before) × (used ≡ t.places k)
    stands_within = (part_within m here.part, part_room m here.part, part_long m here.part, here.part.places_are ∙ (places_sum c law here.answers ∙ ap t.places (sym here.counts_are)))

    -- a part, and then a part of the rest
    pub stands_then : {v : S} {taken places : ℕ} {n : K} {last : List X}
        → Stands c u (drop at words) (drop used out) v taken places n last
        → Stands c s words before v (at + taken) (used + places) (t.plus k n) (take used out ++ last)
    stands_then later =
        record {
          answers = here.answers ++ later.answers;
          part = joins m here.part later.part;
          counts_are = rw (here.counts_are, later.counts_are) (sym (sum_append c law here.answers later.answers));
        }

    -- it ends here
    ends : (n : ℕ) → run m s words (length before) ≡ ran n u here.answers → record { refusal = n; next = u; taken = at; counts = k; out = out } ≡ line c s words before
    unfolding line
    ends n e = rw (e, here.part.words_are, here.counts_are, here.part.wrote, here.part.places_are)

    pub ends_all : length words ≤ at → record { refusal = 0; next = u; taken = at; counts = k; out = out } ≡ line c s words before
    ends_all h = ends 0 (part_all m here.part h)

    -- where no word was taken before, the line stops where the rest does
    pub stops_here : (n : ℕ) → run m u (drop at words) (length before - used) ≡ ran n u [] → at ≡ 0 → u ≡ s → run m s words (length before) ≡ ran n s []
    stops_here n e z same = part_ends m here.part n e ∙ rw (same, empty here.answers (sym here.part.words_are ∙ z))
      where
        empty : (l : List A) → length l ≡ 0 → l ≡ []
        empty [] e = refl
        empty (a ∷ l) e = absurd (omega arith)

    -- the rest as the code lends it, with the slice back
    module _ {l : Long S K X} (b : Begins c u (take (length words - at) (drop at words)) (take (length out - used) (drop used out)) l) where
      pub more : Stands c s words before l.next (at + l.taken) (used + t.places l.counts) (t.plus k l.counts) (put_mid used (length out - used) out l.out)
      more = rw (back out l.out used) (stands_then (rw (rest_is words at, rest_is out used) at b.stands))

      -- it took no word: the slice is as it was, and the call ends
      module _ (z : l.taken ≡ 0) where
        pub unchanged : put_mid used (length out - used) out l.out ≡ out
        unchanged = rw (back out l.out used, part_none m b.stands.part z, rest_is out used) (take-append-drop used out)

        pub ends_before : record { refusal = l.refusal; next = u; taken = at; counts = k; out = out } ≡ line c s words before
        ends_before =
            ends l.refusal
            (part_ends m here.part l.refusal (rw (rest_is words at, rest_is out used, part_left m here.part, length-drop used before) at (b.stops z)))
