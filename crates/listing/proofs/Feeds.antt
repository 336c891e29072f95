-- A turn of the feeding loop, and the end.
use Prim.Native.Nat.{ℕ, ◌+◌, ◌-◌, ◌<◌, ◌≤◌}
use mathlib.Core.Path.{◌≡◌, sym, ◌∙◌, ap}
use mathlib.Core.Bool.{Bool, true, false, not, ◌&&◌}
use mathlib.Core.List.{List, [], ◌∷◌, ◌++◌, append_assoc}
use native.Mathlib.Nat.{add-zero, zero-add}
use native.Mathlib.Omega.{arith}
use lib.Dec.{leb, eqb}
use lib.ListN.{length, get_or, take, drop, length-drop, take-append-drop}
use lib.Seq.{drop-drop, get_or-drop}
use borrow.Author.Tests.{lt-ltb, le-ltb, leb-true, leb-false, le-leb, eqb-true, not-true}
use borrow.Rule.Slice.PartMut.{put_mid}
use Rattle.numbers.proofs.Tested.{left, right}
use Rattle.fold.specs.Fold.{ran, run}
use Rattle.fold.proofs.Parts.{rest_is, back, none, part_within, part_room, part_left, part_long, part_none, joins, part_ends, part_all}
use Rattle.text.specs.Growth.{shown, text_of, slice, filled_by, fits_at, put_of}
use Rattle.text.specs.declared.Text.{Text}
use Rattle.text.proofs.Laws.{text_shows, text_long, put_none}
use Rattle.text.proofs.Filled.{filled_all}
use Rattle.reader.specs.declared.Reader.{Reader}
use Rattle.listing.specs.Lines.{Tells, six_at}
use Rattle.listing.specs.Scanning.{width, most_lines}
use Rattle.listing.specs.Items.{items_in, word_gave}
use Rattle.listing.specs.Printing.{all_bytes}
use Rattle.listing.specs.Feeding.{passed_to, Turning, fed_byte, last_of, feeds, Stands, Begins, feed_in, finish_in, good}
use Rattle.listing.specs.Promises.{Listed, whole, written, feed_of, finish_of}
use Rattle.listing.specs.declared.Gave.{Gave}
use Rattle.listing.specs.declared.Lister.{Lister}
use Rattle.listing.specs.declared.Front.{Front}
use Rattle.listing.specs.declared.Told.{Told}
use Rattle.listing.proofs.Few.{few_byte}
use Rattle.listing.proofs.Five.{five_is}
use Rattle.listing.proofs.Fronts.{Together, byte_goes, byte_stops, few_word, word_goes}

-- a text that is put into a slice, or is not
module _ (t : Text) (at : ℕ) (out : List ℕ) where
  pub put_room : fits_at t at out ≡ true → at + t.len ≤ length out
  put_room e = leb-true _ _ (right (leb t.len 40) (leb (at + t.len) (length out)) e)

-- and one that has these bytes
module _ (l : List ℕ) (t : Text) (is : t ≡ text_of l) (few : length l ≤ 40) (at : ℕ) (out : List ℕ) where
  pub size : t.len ≡ length l
  size = rw is (text_long l few)

  pub put_wrote : fits_at t at out ≡ true → put_of t at out ≡ take at out ++ l ++ drop (at + t.len) out
  unfolding put_of
  put_wrote e = let s : shown t ≡ l = ap shown is ∙ text_shows l few in rw (e, s)

  pub put_short : fits_at t at out ≡ false → length out < at + t.len
  put_short e =
      let small : t.len ≤ 40 = omega (arith, size) in
      leb-false _ _ (rw (le-leb t.len 40 small) at e)

-- the answer of a lister
abbrev pub answer_of : ℕ → Lister → ℕ → ℕ → Listed
answer_of refusal m taken written = record { refusal = refusal; next = m; taken = taken; written = written; ended = m.scanner.ended }

pub starts : (m : Lister) (input out : List ℕ) → Stands m input out m 0 0 out
starts m input out = record { texts = []; part = none feeds m input out }

-- bytes that are taken together, with their text in the slice
stood : {m : Lister} {input : List ℕ} {t : Turning} {taken : ℕ} (out : List ℕ) → Together m input (length out) taken t
    → Stands m input out t.next taken (length t.text) (t.text ++ drop (length t.text) out)
stood out t = record { texts = t.texts; part = record { words_are = sym t.many; places_are = sym (ap length t.wrote); wrote = rw t.wrote; is = t.runs } }

-- the first byte of a piece, whose text is put, or is not
module _ (input : List ℕ) (m : Lister) (out out' : List ℕ) (some : 0 < length input) (t : Text) (is : t ≡ text_of (fed_byte m (get_or input 0 0)).text) (put : out' ≡ put_of t 0 out) where
  abbrev fed : Turning
  fed = fed_byte m (get_or input 0 0)

  few : length fed.text ≤ 40
  few = few_byte m (get_or input 0 0)

  pub first_stops : fits_at t 0 out ≡ false → Begins m input out (record { next = m; taken = 0; used = 0 }) out'
  first_stops e =
      record {
        stands = rw (put ∙ put_none t 0 out e) (starts m input out);
        stops = λ _. byte_stops input m (length out) some (omega (arith, put_short fed.text t is few 0 out e, size fed.text t is few 0 out));
      }

  pub first_goes : fits_at t 0 out ≡ true → Begins m input out (record { next = fed.next; taken = 1; used = t.len }) out'
  first_goes e =
      let long = size fed.text t is few 0 out in
      let room : length fed.text ≤ length out = omega (arith, put_room t 0 out e, long) in
      let wrote : out' ≡ fed.text ++ drop t.len out = put ∙ put_wrote fed.text t is few 0 out e ∙ rw zero-add in
      record { stands = rw (wrote, long) (stood out (byte_goes input m (length out) some room)); stops = λ z. absurd (omega arith) }

module _ {m₀ : Lister} {input out₀ : List ℕ} {m : Lister} {at used : ℕ} {out : List ℕ} (s : Stands m₀ input out₀ m at used out) where
  -- how far it has come
  pub far : (at ≤ length input) × (used ≤ length out) × (length out ≡ length out₀)
  far = let long = part_long feeds s.part in (part_within feeds s.part, omega (arith, long, part_room feeds s.part), long)

  -- the loop ends here
  ends : run feeds m₀ input (length out₀) ≡ ran 0 m s.texts → whole (answer_of 0 m at used) out ≡ written (feed_in m₀ input (length out₀)) out₀
  unfolding feed_in
  ends e = rw (e, s.part.words_are, s.part.wrote, s.part.places_are)

  pub ends_all : length input ≤ at → whole (answer_of 0 m at used) out ≡ written (feed_in m₀ input (length out₀)) out₀
  ends_all h = ends (part_all feeds s.part h)

  -- bytes of what is left
  then : {next : Lister} {taken places : ℕ} {last : List ℕ} → Stands m (drop at input) (drop used out) next taken places last
      → Stands m₀ input out₀ next (at + taken) (used + places) (take used out ++ last)
  then q = record { texts = s.texts ++ q.texts; part = joins feeds s.part q.part }

  -- as the code lends it, with the slice back
  module _ {f : Front} {last : List ℕ} (b : Begins m (take (length input - at) (drop at input)) (take (length out - used) (drop used out)) f last) where
    begins : Begins m (drop at input) (drop used out) f last
    begins = rw (rest_is input at, rest_is out used) at b

    pub more : Stands m₀ input out₀ f.next (at + f.taken) (used + f.used) (put_mid used (length out - used) out last)
    more = rw (back out last used) (then begins.stands)

    -- it took no byte: the slice is as it was, and the piece ends
    module _ (z : f.taken ≡ 0) where
      pub unchanged : put_mid used (length out - used) out last ≡ out
      unchanged = rw (back out last used, part_none feeds begins.stands.part z) (take-append-drop used out)

      pub ends_before : whole (answer_of 0 m at used) out ≡ written (feed_in m₀ input (length out₀)) out₀
      ends_before = ends (part_ends feeds s.part 0 (rw (part_left feeds s.part, length-drop used out₀) at (begins.stops z)))

-- a lister at the start of a line, that holds nothing
abbrev pub at_line : Lister → Bool
at_line m =
    let h = m.scanner.held in
    eqb m.scanner.count 0 && not m.scanner.ended && (eqb (get_or h 0 0) 0 && eqb (get_or h 1 0) 0 && eqb (get_or h 2 0) 0 && eqb (get_or h 3 0) 0 && eqb (get_or h 4 0) 0)

pub is_passed : (m : Lister) → length m.scanner.held ≡ 5 → at_line m ≡ true → passed_to m.scanner.line m.reader ≡ m
is_passed m five e =
    let s = m.scanner in
    let h = s.held in
    let c = eqb s.count 0 in
    let n = not s.ended in
    let z0 = eqb (get_or h 0 0) 0 in
    let z1 = eqb (get_or h 1 0) 0 in
    let z2 = eqb (get_or h 2 0) 0 in
    let z3 = eqb (get_or h 3 0) 0 in
    let z4 = eqb (get_or h 4 0) 0 in
    let front = left (c && n) (z0 && z1 && z2 && z3 && z4) e in
    let four = left (z0 && z1 && z2 && z3) z4 (right (c && n) (z0 && z1 && z2 && z3 && z4) e) in
    let three = left (z0 && z1 && z2) z3 four in
    let two = left (z0 && z1) z2 three in
    let zeros : h ≡ 0 ∷ 0 ∷ 0 ∷ 0 ∷ 0 ∷ [] =
    sym (five_is h five)
    ∙ rw (eqb-true (get_or h 0 0) 0 (left z0 z1 two), eqb-true (get_or h 1 0) 0 (right z0 z1 two), eqb-true (get_or h 2 0) 0 (right (z0 && z1) z2 three), eqb-true (get_or h 3 0) 0 (right (z0 && z1 && z2) z3 four), eqb-true (get_or h 4 0) 0 (right (z0 && z1 && z2 && z3) z4 (right (c && n) (z0 && z1 && z2 && z3 && z4) e))) in
    let count : s.count ≡ 0 = eqb-true _ _ (left c n front) in
    let ended : s.ended ≡ false = not-true _ (right c n front) in
    sym
    (ap (λ (l : List ℕ). record { scanner = record { line = s.line; ended = s.ended; held = l; count = s.count }; reader = m.reader }) zeros
    ∙ ap (λ (k : ℕ). record { scanner = record { line = s.line; ended = s.ended; held = 0 ∷ 0 ∷ 0 ∷ 0 ∷ 0 ∷ []; count = k }; reader = m.reader }) count
    ∙ ap (λ (b : Bool). record { scanner = record { line = s.line; ended = b; held = 0 ∷ 0 ∷ 0 ∷ 0 ∷ 0 ∷ []; count = 0 }; reader = m.reader }) ended)

-- a line of a word more, printed into the slice
pub word_more : {m₀ : Lister} {input out₀ : List ℕ} {n : ℕ} {r : Reader} {at used : ℕ} {out : List ℕ} → Stands m₀ input out₀ (passed_to n r) at used out
    → (t : Told) → at + 6 ≤ length input → 0 < n → n < most_lines → 40 ≤ length out - used
    → Tells (six_at input at) t → (t.taken ≡ 0 → ⊥)
    → (g : Gave) → g ≡ word_gave r (n + 1) t.word → (out' : List ℕ) (used' : ℕ) → slice out' used' ≡ filled_by (slice out used) (all_bytes width (items_in g.given))
    → Stands m₀ input out₀ (passed_to (n + 1) g.next) (at + t.taken) used' out'
word_more {m₀} {input} {out₀} {n} {r} {at} {used} {out} s t there some few room tells taken g is out' used' wrote =
    let text = all_bytes width (items_in g.given) in
    let short : length text ≤ 40 = rw is (few_word n r t.word some few) in
    let filled = wrote ∙ filled_all text (slice out used) (omega (arith, far s)) in
    let place : used' ≡ used + length text = ap (λ (t : Text). t.len) filled in
    let slice_is : out' ≡ take used out ++ text ++ drop (used + length text) out = ap (λ (t : Text). t.bytes) filled in
    let w = all_bytes width (items_in (word_gave r (n + 1) t.word).given) in
    let left = drop used out in
    let here : Tells (get_or (drop at input) 0 0 ∷ get_or (drop at input) 1 0 ∷ get_or (drop at input) 2 0 ∷ get_or (drop at input) 3 0 ∷ get_or (drop at input) 4 0 ∷ get_or (drop at input) 5 0 ∷ []) t =
    rw (get_or-drop at input 0 0, get_or-drop at input 1 0, get_or-drop at input 2 0, get_or-drop at input 3 0, get_or-drop at input 4 0, get_or-drop at input 5 0, add-zero at) tells in
    let goes = word_goes (drop at input) (length left) n r t (omega (arith, length-drop at input)) some few (omega (arith, length-drop used out)) here taken in
    rw (place, slice_is, is, ← drop-drop (length w) used out, append_assoc) (then s (stood left goes))

-- a lister that is not good is refused
pub feed_refused : (m : Lister) (input out : List ℕ) (r : Listed) → good m ≡ false → r ≡ answer_of 6 m 0 0 → whole r out ≡ feed_of m input out
unfolding feed_of
feed_refused m input out r g e = rw (g, e)

pub feed_good : (m : Lister) (input out out' : List ℕ) (r : Listed) → good m ≡ true → whole r out' ≡ written (feed_in m input (length out)) out
    → whole r out' ≡ feed_of m input out
unfolding feed_of
feed_good m input out out' r g e = rw g e

pub finish_refused : (m : Lister) (out : List ℕ) (r : Listed) → good m ≡ false → r ≡ answer_of 6 m 0 0 → whole r out ≡ finish_of m out
unfolding finish_of
finish_refused m out r g e = rw (g, e)

-- the end, where its text has no room and where it has
module _ (m : Lister) (out out' : List ℕ) (r : Listed) (g : good m ≡ true) (t : Text) (is : t ≡ text_of (last_of m).text) (few : length (last_of m).text ≤ 40) (put : out' ≡ put_of t 0 out) where
  pub finish_stops : fits_at t 0 out ≡ false → r ≡ answer_of 0 m 0 0 → whole r out' ≡ finish_of m out
  unfolding finish_of finish_in
  finish_stops e a =
      let short : length out < length (last_of m).text = omega (arith, put_short (last_of m).text t is few 0 out e, size (last_of m).text t is few 0 out) in
      rw (g, lt-ltb _ _ short, a, put ∙ put_none t 0 out e)

  pub finish_goes : fits_at t 0 out ≡ true → r ≡ answer_of 0 (last_of m).next 0 t.len → whole r out' ≡ finish_of m out
  unfolding finish_of finish_in
  finish_goes e a =
      let s : t.len ≡ length (last_of m).text = size (last_of m).text t is few 0 out in
      let room : length (last_of m).text ≤ length out = omega (arith, put_room t 0 out e) in
      let w : out' ≡ (last_of m).text ++ drop (length (last_of m).text) out = put ∙ put_wrote (last_of m).text t is few 0 out e ∙ rw (s, zero-add) in
      rw (g, le-ltb _ _ room, a, s, w)
