-- The loop over the lines of a piece, of any machine that follows the reading: where it stands, the first line of what is left, and how it goes on and ends.
use mathlib.Core.Logic.{◌⊎◌, inl, inr}
use Rattle.listing.specs.declared.Item.{Item}
use Rattle.std.proofs.Common.{Option, None, Some}
use Prim.Native.Nat.{ℕ, suc, ◌+◌, ◌-◌, ◌*◌, ◌<◌, ◌≤◌}
use mathlib.Core.Path.{◌≡◌, refl, sym, ◌∙◌, ap, subst}
use mathlib.Core.Bool.{true, false, cond}
use mathlib.Core.List.{List, [], ◌∷◌, ◌++◌, append-nil, append_assoc}
use native.Mathlib.Omega.{arith}
use native.Mathlib.Numerals.{add-one}
use lib.IntN.{ℤ}
use lib.ListN.{length, take, drop, length-append, length-drop, drop_of_length-le}
use lib.Seq.{take-add, drop-drop}
use borrow.Author.Tests.{ne_eqb}
use Rattle.fold.specs.Fold.{MachineOver, ran, written, places, run}
use Rattle.fold.proofs.Laws.{taken, stops}
use Rattle.fold.proofs.Parts.{none, one, joins, part_room, part_long, part_left, part_ends}
use Rattle.text.specs.Lengths.{length_to}
use Rattle.listing.specs.Lines.{newline}
use Rattle.listing.specs.Items.{items_in}
use Rattle.readback.specs.Items.{all_numbers}
use Rattle.readback.specs.Steps.{step_of, good, Step, faulty}
use Rattle.readback.specs.Pieces.{cut_in, bytes_in, body_of, faulty_line, reads, longest, lines_of, items_among, back, fault_at, whole, read_lines, pieces_of}
use Rattle.readback.specs.Parts.{Stands, Begin, Begins}
use Rattle.readback.specs.declared.Readback.{Readback}
use Rattle.readback.specs.declared.Back.{Back}
use Rattle.readback.proofs.Cuts.{first_long, first_whole, first_body, lines_line, not_whole, lines_short, lines_long, bytes_append, lines_few}
use Rattle.readback.proofs.Goodness.{step_leaves}

-- five numbers an item
pub five_in : (g : Option Item) → length (all_numbers (items_in g)) ≡ 5 * length (items_in g)
five_in None = refl
five_in (Some i) = refl

pub items_append : (a b : List (Option Item)) → items_among (a ++ b) ≡ items_among a ++ items_among b
items_append [] b = refl
items_append (g ∷ a) b = rw (items_append a b) (sym (append_assoc (items_in g) (items_among a) (items_among b)))

pub five_each : (gs : List (Option Item)) → length (written reads gs) ≡ 5 * length (items_among gs)
five_each [] = refl
five_each (g ∷ gs) = omega (arith, five_in g, five_each gs, length-append (all_numbers (items_in g)) (written reads gs), length-append (items_in g) (items_among gs))

-- the first line of a piece, and the step that it makes
abbrev pub first_line : List ℕ → List ℕ
first_line piece = take (suc (length_to newline piece)) piece

module _ (r : Readback) (piece : List ℕ) (s : Step) (there : length_to newline piece < length piece) (is : s ≡ step_of r (take (length_to newline piece) piece)) where
  pub step_is : step_of r (body_of (first_line piece)) ≡ s
  step_is = ap (step_of r) (first_body piece there) ∙ sym is

  pub refusal_is : reads.refusal r (first_line piece) ≡ cond s.good 0 faulty_line
  refusal_is = rw (first_whole piece there, ap (λ (s : Step). s.good) step_is)

-- a machine over lines that goes from reader to reader as the reading does, and refuses a last line without its newline
pub record Follows {A X : Type 0} (m : MachineOver (List ℕ) Readback A X) : Type 0 where
  pub next_is : (r : Readback) (l : List ℕ) → m.next r l ≡ reads.next r l
  pub faulty_is : (r : Readback) (l : List ℕ) → reads.refusal r l ≡ faulty_line → m.refusal r l ≡ faulty_line

pub reading_follows : Follows reads
reading_follows = record { next_is = λ r l. refl; faulty_is = λ r l e. e }

module _ {A X : Type 0} (m : MachineOver (List ℕ) Readback A X) (f : Follows m) where
  -- nothing is taken
  module _ (r : Readback) (piece : List ℕ) (out : List X) (g : good r ≡ true) where
    pub starts : Stands m r piece out r 0 0 out
    starts = record { answers = []; part = none m r (lines_of piece) out; taken_are = refl; rest = refl; sound = g }

    stop : (n : ℕ) → run m r (lines_of piece) (length out) ≡ ran n r [] → Begin m r piece out n r 0 0 (fault_at n r) out
    stop n e = record { stands = starts; stops = λ _. e; same = λ _. refl; line_is = λ _. refl }

    stop_line : (l : List ℕ) (ls : List (List ℕ)) → lines_of piece ≡ l ∷ ls → (m.refusal r l ≡ 0 → length out < places m r l)
        → run m r (lines_of piece) (length out) ≡ ran (m.refusal r l) r []
    unfolding run
    stop_line l ls e h = rw (e, stops m r l (length out) h)

    module _ (some : 0 < length piece) (none : length_to newline piece ≡ length piece) where
      -- a line that was cut off; and one that is too long for any
      pub cut_stop : length piece ≤ longest → Begin m r piece out 0 r 0 0 0 out
      unfolding run
      cut_stop h = stop 0 (rw (lines_short piece some none h))

      long_refused : m.refusal r piece ≡ faulty_line
      long_refused = f.faulty_is r piece (rw (not_whole piece some none))

      pub long_stop : longest < length piece → Begin m r piece out faulty_line r 0 0 (r.lines + 1) out
      long_stop h = stop faulty_line (stop_line piece [] (lines_long piece some none h) (λ z. absurd (omega (arith, long_refused, z))) ∙ ap (λ (n : ℕ). ran n r []) long_refused)

    -- the first line, and the step that it makes
    module _ (s : Step) (there : length_to newline piece < length piece) (is : s ≡ step_of r (take (length_to newline piece) piece)) where
      abbrev line : List ℕ
      line = first_line piece

      abbrev rest : List ℕ
      rest = drop (suc (length_to newline piece)) piece

      pub refused_stop : (n : ℕ) → 0 < n → m.refusal r line ≡ n → Begin m r piece out n r 0 0 (r.lines + 1) out
      refused_stop n some e =
          let told : fault_at n r ≡ r.lines + 1 = rw (ne_eqb n 0 (λ z. omega (arith, some, z))) in
          subst (λ (k : ℕ). Begin m r piece out n r 0 0 k out) told
          (stop n (stop_line line (lines_of rest) (lines_line piece there) (λ z. absurd (omega (arith, some, e, z))) ∙ ap (λ (n : ℕ). ran n r []) e))

      pub faulty_stop : s.good ≡ false → Begin m r piece out faulty_line r 0 0 (r.lines + 1) out
      faulty_stop e = refused_stop faulty_line (omega arith) (f.faulty_is r line (refusal_is r piece s there is ∙ rw e))

      pub room_stop : m.refusal r line ≡ 0 → length out < places m r line → Begin m r piece out 0 r 0 0 0 out
      room_stop e h = stop 0 (stop_line line (lines_of rest) (lines_line piece there) (λ _. h) ∙ ap (λ (n : ℕ). ran n r []) e)

      pub line_taken : m.refusal r line ≡ 0 → places m r line ≤ length out
          → Begin m r piece out 0 s.next (length_to newline piece + 1) (places m r line) 0 (m.writes (m.answer r line) ++ drop (places m r line) out)
      line_taken e h =
          let p = one m r line (lines_of rest) out (taken m r line (length out) e h) in
          let n : m.next r line ≡ s.next = f.next_is r line ∙ ap (λ (s : Step). s.next) (step_is r piece s there is) in
          record {
            stands = record {
              answers = m.answer r line ∷ [];
              part = rw (lines_line piece there, ← n) p;
              taken_are = rw (lines_line piece there) (rw (append-nil line, first_long piece there) (omega arith));
              rest = rw (lines_line piece there, add-one);
              sound = rw is (step_leaves r (take (length_to newline piece) piece) g).0;
            };
            stops = λ z. absurd (omega arith);
            same = λ z. absurd (omega arith);
            line_is = λ z. absurd (omega arith);
          }

  module _ {r₀ : Readback} {input : List ℕ} {out₀ : List X} {r : Readback} {at used : ℕ} {out : List X} (s : Stands m r₀ input out₀ r at used out) where
    -- how far it has come
    pub far : (at ≤ length input) × (used ≤ length out₀) × (length out ≡ length out₀)
    far = (
      omega (arith, s.taken_are, lines_few input (length s.answers)),
      part_room m s.part,
      part_long m s.part,
    )

    pub ends : (n : ℕ) → run m r (lines_of (drop at input)) (length out₀ - used) ≡ ran n r [] → run m r₀ (lines_of input) (length out₀) ≡ ran n r s.answers
    ends n e = part_ends m s.part n (rw s.rest e)

    pub ends_all : length input ≤ at → run m r₀ (lines_of input) (length out₀) ≡ ran 0 r s.answers
    unfolding run lines_of cut_in
    ends_all h = ends 0 (rw (drop_of_length-le input h))

    -- what a part of the rest gives
    module _ {refusal : ℕ} {next : Readback} {taken places line : ℕ} {last : List X} (b : Begin m r (drop at input) (drop used out) refusal next taken places line last) where
      left : length (drop used out) ≡ length out₀ - used
      left = ap length (part_left m s.part) ∙ length-drop used out₀

      pub ends_before : taken ≡ 0 → run m r₀ (lines_of input) (length out₀) ≡ ran refusal r s.answers
      ends_before z = ends refusal (rw left at (b.stops z))

      pub more : Stands m r₀ input out₀ next (at + taken) (used + places) (take used out ++ last)
      more =
          let q = b.stands in
          let l = s.answers in
          let k = q.answers in
          let a = take (length l) (lines_of input) in
          let c = take (length k) (lines_of (drop at input)) in
          let both : take (length (l ++ k)) (lines_of input) ≡ a ++ c = rw (length-append l k, take-add (length l) (length k) (lines_of input), s.rest) in
          record {
            answers = l ++ k;
            part = rw (length-append l k) (joins m s.part (rw (← s.rest) at q.part));
            taken_are = omega (arith, s.taken_are, q.taken_are, ap (λ (ls : List (List ℕ)). length (bytes_in ls)) both, ap length (bytes_append a c), length-append (bytes_in a) (bytes_in c));
            rest = rw (length-append l k, ← drop-drop (length k) (length l) (lines_of input), s.rest, q.rest, drop-drop taken at input);
            sound = q.sound;
          }

-- the items read: the places of the first line's, a stop for room, and the line taken
module _ (r : Readback) (piece : List ℕ) (out : List ℤ) (g : good r ≡ true) (s : Step) (there : length_to newline piece < length piece) (is : s ≡ step_of r (take (length_to newline piece) piece)) (e : s.good ≡ true) where
  places_are : places reads r (first_line piece) ≡ 5 * length (items_in s.given)
  places_are = ap (λ (s : Step). length (all_numbers (items_in s.given))) (step_is r piece s there is) ∙ five_in s.given

  accepted : reads.refusal r (first_line piece) ≡ 0
  accepted = refusal_is r piece s there is ∙ rw e

  pub read_stop : length out < 5 * length (items_in s.given) → Begin reads r piece out 0 r 0 0 0 out
  read_stop h = room_stop reads reading_follows r piece out g s there is accepted (omega (arith, places_are))

  pub read_taken : 5 * length (items_in s.given) ≤ length out
      → Begin reads r piece out 0 s.next (length_to newline piece + 1) (5 * length (items_in s.given)) 0 (all_numbers (items_in s.given) ++ drop (5 * length (items_in s.given)) out)
  read_taken h =
      let Taken : Step → Type 0 = λ q. let l = all_numbers (items_in q.given) in
      Begin reads r piece out 0 s.next (length_to newline piece + 1) (length l) 0 (l ++ drop (length l) out) in
      rw (← five_in s.given) (subst Taken (step_is r piece s there is) (line_taken reads reading_follows r piece out g s there is accepted (omega (arith, places_are))))

-- where its loop stands: five numbers an item
pub record StandsRead (r₀ : Readback) (input : List ℕ) (out₀ : List ℤ) (r : Readback) (at used items : ℕ) (out : List ℤ) : Type 0 where
  pub stands : Stands reads r₀ input out₀ r at used out
  pub five : used ≡ 5 * items

pub starts_read : (r : Readback) (piece : List ℕ) (out : List ℤ) → good r ≡ true → StandsRead r piece out r 0 0 0 out
starts_read r piece out g = record { stands = starts reads reading_follows r piece out g; five = refl }

module _ {r₀ : Readback} {input : List ℕ} {out₀ : List ℤ} {r : Readback} {at used items : ℕ} {out : List ℤ} (s : StandsRead r₀ input out₀ r at used items out) where
  pub far_read : (at ≤ length input) × (used ≡ 5 * items) × (used ≤ length out₀) × (length out ≡ length out₀)
  far_read = let f = far reads reading_follows s.stands in (f.0, s.five, f.1, f.2)

  ends_read : (n : ℕ) → run reads r₀ (lines_of input) (length out₀) ≡ ran n r s.stands.answers → whole (back n r at items (fault_at n r)) out ≡ pieces_of read_lines r₀ input out₀
  unfolding pieces_of
  ends_read n all =
      let t = s.stands in
      let many : items ≡ length (items_among t.answers) = omega (arith, s.five, t.part.places_are, five_each t.answers) in
      rw (all, t.taken_are, many, t.part.wrote, t.part.places_are)

  pub ends_read_all : length input ≤ at → whole (back 0 r at items 0) out ≡ pieces_of read_lines r₀ input out₀
  ends_read_all h = ends_read 0 (ends_all reads reading_follows s.stands h)

  module _ (t : Back) {last : List ℤ} (b : Begins r (drop at input) (drop used out) t last) where
    pub ends_read_before : t.taken ≡ 0 → whole (back t.refusal r at items t.line) out ≡ pieces_of read_lines r₀ input out₀
    ends_read_before z = rw (b.line_is z) (ends_read t.refusal (ends_before reads reading_follows s.stands b z))

    pub more_read : StandsRead r₀ input out₀ t.next (at + t.taken) (used + 5 * t.items) (items + t.items) (take used out ++ last)
    more_read = record { stands = more reads reading_follows s.stands b; five = omega (arith, s.five) }

-- a faulty line at the front of a piece
module _ {A X : Type 0} (m : MachineOver (List ℕ) Readback A X) (f : Follows m) (r : Readback) (piece : List ℕ) (out : List X) (g : good r ≡ true) (some : 0 < length piece) where
  pub fault_stop : ((length_to newline piece ≡ length piece) × (longest < length piece)) ⊎ ((length_to newline piece < length piece) × (faulty r ≡ step_of r (take (length_to newline piece) piece)))
      → Begin m r piece out faulty_line r 0 0 (r.lines + 1) out
  fault_stop (inl long) = long_stop m f r piece out g some long.0 long.1
  fault_stop (inr here) = faulty_stop m f r piece out g (faulty r) here.0 here.1 refl
