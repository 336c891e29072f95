-- A turn of the feeding loop, and the end.
use Prim.Native.Nat.{ℕ, zero, suc, ◌+◌, ◌-◌, ◌<◌, ◌≤◌}
use mathlib.Core.Path.{◌≡◌, refl, ◌∙◌, ap}
use mathlib.Core.Bool.{Bool, true, false, not, cond, ◌&&◌, ◌||◌}
use mathlib.Core.List.{List, [], ◌∷◌, ◌++◌, append_assoc, append-nil}
use native.Mathlib.Omega.{arith}
use lib.Dec.{ltb, eqb}
use lib.ListN.{length, get_or, take, drop, length-append, length-drop, drop_of_length-le}
use lib.Seq.{drop-drop, drop-cons, take-add}
use borrow.Author.Tests.{ltb-true, ltb-false, eqb-true, eqb-false, ne_eqb, not-true, not-false}
use Rattle.numbers.proofs.Choices.{cases, or_else, neither}
use Rattle.fold.specs.Fold.{ran, run, Part}
use Rattle.fold.proofs.Laws.{taken, stops}
use Rattle.fold.proofs.Parts.{none, one, part_room, part_long, joins, part_ends}
use Rattle.text.specs.Growth as growth
use Rattle.text.specs.Growth.{capacity, grown}
use Rattle.text.specs.declared.Text.{Text}
use Rattle.text.proofs.Laws.{both}
use Rattle.listing.specs.Lines.{newline}
use Rattle.driver.specs.Recorded.{record_bytes, record_line, all_lines}
use Rattle.driver.specs.Driving.{end_done}
use Rattle.driver.specs.Feeding.{Holds, Turned, byte_of, slot_of, slot_tick, end_tick, tick_of, drives, ticks_from, input_among, Ticks, feed_in, good}
use Rattle.driver.specs.Promises.{Driven, whole, written, feed_of, finish_of}
use Rattle.driver.specs.declared.Record.{Record}
use Rattle.driver.specs.declared.Record.TheVariants.{Bad}
use Rattle.driver.specs.declared.Driver.{Driver}
use Rattle.driver.specs.declared.Turn.{Turn}
use Rattle.driver.specs.declared.Tick.{Tick}
use Rattle.driver.proofs.Ticks.{no_tick, byte_first, slot_first}

-- what is recorded at the end
pub end_records : (ended : Bool) (n : ℕ) → cond ended [] (end_done n) ≡ cond (not ended && eqb n 0) (Bad 1 ∷ []) []
end_records true n = refl
end_records false n = refl

-- the line of a record
pub one_line : (r : Record) (t u : Text) → u ≡ grown t newline → Holds 39 t (record_bytes r) → Holds capacity u (all_lines (r ∷ []))
unfolding record_line
one_line r t u e h =
    rw (append-nil (record_bytes r ++ newline ∷ []))
    (e ∙ ap (λ (x : Text). grown x newline) h.0 ∙ both growth.none (record_bytes r) (newline ∷ []), omega (arith, h.1, length-append (record_bytes r) (newline ∷ [])))

-- a number that is not 0
pub not_zero : (n : ℕ) → (n ≡ 0 → ⊥) → n ≡ suc (n - 1)
not_zero zero h = absurd (h refl)
not_zero (suc n) h = omega arith

-- the tick that is next: a slot, or a byte
pub slot_next : (m : Driver) (input : List ℕ) (t : Turn) → (m.owed ≡ 0 → ⊥) → Turned t (slot_of m) → Ticks m input (record { taken = 0; turn = t })
unfolding tick_of
slot_next m input t h e =
    record { tick = slot_tick; turns = e; takes = refl; few = omega arith; first = slot_first m input (m.owed - 1) (not_zero m.owed h) }

pub byte_next : (m : Driver) (input : List ℕ) (t : Turn) → m.owed ≡ 0 → 0 < length input → Turned t (byte_of m (get_or input 0 0)) × (get_or input 0 0 < slot_tick) → Ticks m input (record { taken = 1; turn = t })
unfolding tick_of
byte_next m input t z some (e, byte) =
    let c = get_or input 0 0 in
    let slot = ne_eqb c slot_tick (λ k. omega arith) in
    let end = ne_eqb c end_tick (λ k. omega arith) in
    record {
      tick = c;
      turns = rw (slot, end) e;
      takes = rw slot;
      few = omega arith;
      first = ap (λ (l : List ℕ). ticks_from l m) (drop-cons input 0 0 some) ∙ byte_first m c (drop 1 input) z;
    }

-- the loop's test
pub some_left : (at n owed : ℕ) → ltb at n || not (eqb owed 0) ≡ true → owed ≡ 0 → at < n
some_left at n owed t z = or_else (ltb at n) (not (eqb owed 0)) (ltb-true at n) (λ e. absurd (eqb-false owed 0 (not-true _ e) z)) t

pub none_left : (at n owed : ℕ) → ltb at n || not (eqb owed 0) ≡ false → (n ≤ at) × (owed ≡ 0)
none_left at n owed t = let e = neither (ltb at n) (not (eqb owed 0)) t in (ltb-false at n e.0, eqb-true owed 0 (not-false _ e.1))

-- the answer of a driver
abbrev pub answer_of : ℕ → Driver → ℕ → ℕ → Driven
answer_of refusal m taken written = record { refusal = refusal; next = m; taken = taken; written = written; ended = m.ended }

-- the bytes among ticks, and one tick more
among_append : (a b : List ℕ) → input_among (a ++ b) ≡ input_among a + input_among b
among_append [] b = omega arith
among_append (t ∷ a) b = cases (λ (n : ℕ). n ≡ cond (eqb t slot_tick) (input_among a) (suc (input_among a)) + input_among b) (eqb t slot_tick) (λ e. rw (e, among_append a b)) (λ e. rw (e, among_append a b) (omega arith))

among_more : (l : List ℕ) (k t : ℕ) (rest : List ℕ) → drop k l ≡ t ∷ rest → input_among (take (k + 1) l) ≡ input_among (take k l) + input_among (t ∷ [])
among_more l k t rest e = rw (take-add k 1 l, e) (among_append (take k l) (t ∷ []))

-- where the loop stands: the texts of the ticks taken, the driver behind them, the ticks and the bytes that are left, and the slice
pub record Stands (m₀ : Driver) (input out₀ : List ℕ) (m : Driver) (at used : ℕ) (out : List ℕ) : Type 0 where
  pub texts : List (List ℕ)
  pub part : Part drives m₀ (ticks_from input m₀) out₀ texts (length texts) used m out
  pub left : drop (length texts) (ticks_from input m₀) ≡ ticks_from (drop at input) m
  pub took : at ≡ input_among (take (length texts) (ticks_from input m₀))
  pub within : at ≤ length input

pub starts : (m : Driver) (input out : List ℕ) → Stands m input out m 0 0 out
starts m input out = record { texts = []; part = none drives m (ticks_from input m) out; left = refl; took = refl; within = omega arith }

module _ {m₀ : Driver} {input out₀ : List ℕ} {m : Driver} {at used : ℕ} {out : List ℕ} (s : Stands m₀ input out₀ m at used out) where
  -- how far it has come
  pub far : (at ≤ length input) × (used ≤ length out) × (length out ≡ length out₀)
  far = let long = part_long drives s.part in (s.within, omega (arith, long, part_room drives s.part), long)

  -- the loop ends here
  ends : run drives m₀ (ticks_from input m₀) (length out₀) ≡ ran 0 m s.texts → whole (answer_of 0 m at used) out ≡ written (feed_in m₀ input (length out₀)) out₀
  unfolding feed_in
  ends e = rw (e, s.took, s.part.wrote, s.part.places_are)

  pub ends_all : length input ≤ at → m.owed ≡ 0 → whole (answer_of 0 m at used) out ≡ written (feed_in m₀ input (length out₀)) out₀
  unfolding run
  ends_all h e =
      let nothing : drop (length s.texts) (ticks_from input m₀) ≡ [] = s.left ∙ rw (drop_of_length-le input h) (no_tick m e) in
      ends (part_ends drives s.part 0 (rw nothing))

  -- the tick that is next, whose text has no room, or was put
  module _ {y : Tick} (g : Ticks m (drop at input) y) where
    abbrev text : List ℕ
    text = (tick_of m g.tick).text

    abbrev rest : List ℕ
    rest = ticks_from (drop y.taken (drop at input)) (tick_of m g.tick).next

    ahead : drop (length s.texts) (ticks_from input m₀) ≡ g.tick ∷ rest
    ahead = s.left ∙ g.first

    pub stops_here : length out < used + length text → whole (answer_of 0 m at used) out ≡ written (feed_in m₀ input (length out₀)) out₀
    unfolding run
    stops_here h =
        let e = stops drives m g.tick (length out₀ - used) (λ _. omega (arith, far)) in
        ends (part_ends drives s.part 0 (rw (ahead, e)))

    next_part : used + length text ≤ length out
        → Part drives m₀ (ticks_from input m₀) out₀ (s.texts ++ text ∷ []) (length s.texts + 1) (used + length text) (tick_of m g.tick).next (take used out ++ text ++ drop (used + length text) out)
    next_part h =
        let e = taken drives m g.tick (length (drop used out)) refl (omega (arith, length-drop used out)) in
        rw (← drop-drop (length text) used out, append_assoc) (joins drives s.part (rw ahead (one drives m g.tick rest (drop used out) e)))

    pub again : (out' : List ℕ) (n : ℕ) → n ≡ length text → used + n ≤ length out → out' ≡ take used out ++ text ++ drop (used + n) out
        → Stands m₀ input out₀ (tick_of m g.tick).next (at + y.taken) (used + n) out'
    again out' n long room wrote =
        let k = length s.texts in
        let many : length (s.texts ++ text ∷ []) ≡ k + 1 = length-append s.texts (text ∷ []) in
        record {
          texts = s.texts ++ text ∷ [];
          part = rw (wrote, long, many) (next_part (omega arith));
          left = rw (many, ← drop-drop 1 k (ticks_from input m₀), ahead, ← drop-drop y.taken at input) refl;
          took = rw (many, among_more (ticks_from input m₀) k g.tick rest ahead, ← s.took, ← g.takes) refl;
          within = omega (arith, g.few, length-drop at input);
        }

    -- less is left
    pub less : length (ticks_from (drop (at + y.taken) input) (tick_of m g.tick).next) < length (ticks_from (drop at input) m)
    less = rw (g.first, drop-drop y.taken at input) (omega arith)

-- a driver that is not good is refused
pub feed_refused : (m : Driver) (input out : List ℕ) (r : Driven) → good m ≡ false → r ≡ answer_of 6 m 0 0 → whole r out ≡ feed_of m input out
unfolding feed_of
feed_refused m input out r g e = rw (g, e)

pub feed_good : (m : Driver) (input out out' : List ℕ) (r : Driven) → good m ≡ true → whole r out' ≡ written (feed_in m input (length out)) out
    → whole r out' ≡ feed_of m input out
unfolding feed_of
feed_good m input out out' r g e = rw g e

pub finish_refused : (m : Driver) (out : List ℕ) (r : Driven) → good m ≡ false → r ≡ answer_of 6 m 0 0 → whole r out ≡ finish_of m out
unfolding finish_of
finish_refused m out r g e = rw (g, e)
