-- What is at the front of a piece: a byte, or a line of a word that lies whole in it.
use Prim.Native.Nat.{ℕ, suc, ◌+◌, ◌-◌, ◌<◌, ◌≤◌}
use mathlib.Core.Path.{◌≡◌, refl, sym, ◌∙◌, ap, subst}
use mathlib.Core.Bool.{Bool, true, false}
use mathlib.Core.List.{List, [], ◌∷◌, ◌++◌, append-nil}
use native.Mathlib.Omega.{arith}
use native.Mathlib.Numerals.{add-one}
use lib.Dec.{eqb}
use lib.ListN.{length, get_or, take, drop, length-set, length-append}
use lib.Seq.{take-append-le, take-suc-set, append_snoc}
use borrow.Author.Tests.{ne_eqb, lt-leb}
use Rattle.fold.specs.Fold.{ran, behind, written, run}
use Rattle.fold.proofs.Laws as laws
use Rattle.reader.specs.declared.Reader.{Reader}
use Rattle.listing.specs.Lines.{newline, length_in, said_by, Tells}
use Rattle.listing.specs.Scanning.{width, most_lines, line_in, unfinished, more, taken_of, scanned_byte}
use Rattle.listing.specs.Items.{items_in, word_gave, gave_of}
use Rattle.listing.specs.Printing.{all_bytes}
use Rattle.listing.specs.Feeding.{Turning, front_of, passed_to, turning, fed_byte, feeds}
use Rattle.listing.specs.declared.Lister.{Lister}
use Rattle.listing.specs.declared.Told.{Told}
use Rattle.listing.specs.declared.Line.{Line}
use Rattle.listing.specs.declared.Line.TheVariants.{Word}
use Rattle.listing.proofs.Few.{few_line}
use Rattle.listing.proofs.Whole.{opened, byte_opened}

-- bytes at the front of a piece that are taken together: the lister after them, and their text
pub record Together (m : Lister) (input : List ℕ) (room taken : ℕ) (t : Turning) : Type 0 where
  pub texts : List (List ℕ)
  pub many : length texts ≡ taken
  pub wrote : written feeds texts ≡ t.text
  pub runs : run feeds m input room ≡ behind texts (run feeds t.next (drop taken input) (room - length t.text))

-- one byte
one : (m : Lister) (c : ℕ) (rest : List ℕ) (room : ℕ) → length (fed_byte m c).text ≤ room → Together m (c ∷ rest) room 1 (fed_byte m c)
unfolding run
one m c rest room h =
    record { texts = (fed_byte m c).text ∷ []; many = refl; wrote = append-nil (fed_byte m c).text; runs = rw (laws.taken feeds m c room refl h) }

-- the first of a piece, whose text has room, or has none
pub byte_goes : (input : List ℕ) (m : Lister) (room : ℕ) → 0 < length input → length (fed_byte m (get_or input 0 0)).text ≤ room → Together m input room 1 (fed_byte m (get_or input 0 0))
byte_goes [] m room some h = absurd (omega arith)
byte_goes (c ∷ rest) m room some h = one m c rest room h

pub byte_stops : (input : List ℕ) (m : Lister) (room : ℕ) → 0 < length input → room < length (fed_byte m (get_or input 0 0)).text → run feeds m input room ≡ ran 0 m []
unfolding run
byte_stops [] m room some h = absurd (omega arith)
byte_stops (c ∷ rest) m room some h = rw (laws.stops feeds m c room (λ _. h))

-- a whole line, and the lister that holds a byte more of it
abbrev line_turn : Lister → List ℕ → Turning
line_turn m l = turning m (taken_of m.scanner (said_by l))

abbrev held : Lister → ℕ → Lister
held m c = record { scanner = (more m.scanner c).next; reader = m.reader }

byte_front : (m : Lister) (c : ℕ) → front_of (fed_byte m c).next ≡ []
unfolding fed_byte
byte_front m c = opened (fed_byte m c).next (byte_opened m.scanner c)

byte_ends : (m : Lister) (c : ℕ) → eqb c newline ≡ true → fed_byte m c ≡ line_turn m (unfinished m.scanner)
unfolding fed_byte scanned_byte
byte_ends m c e = rw e

module _ (m : Lister) (c : ℕ) (no : eqb c newline ≡ false) (few : m.scanner.count < 5) where
  byte_held : fed_byte m c ≡ record { next = held m c; text = front_of m }
  unfolding fed_byte scanned_byte gave_of
  byte_held = rw (no, lt-leb 5 m.scanner.count few, append-nil (front_of m))

  held_opened : front_of (held m c) ≡ []
  held_opened = ap (λ (t : Turning). front_of t.next) (sym byte_held) ∙ byte_front m c

  held_more : length m.scanner.held ≡ 5 → (l : List ℕ) → unfinished (held m c).scanner ++ l ≡ unfinished m.scanner ++ c ∷ l
  held_more five l =
      let k : m.scanner.count < length m.scanner.held = omega arith in
      rw (add-one, take-suc-set m.scanner.held m.scanner.count c k) (append_snoc (unfinished m.scanner) c l)

  -- the line is that of the lister behind the byte
  line_held : (l : List ℕ) → line_turn m l ≡ record { next = (line_turn (held m c) l).next; text = front_of m ++ (line_turn (held m c) l).text }
  unfolding taken_of
  line_held l = rw held_opened

  line_long : (l : List ℕ) → length (line_turn m l).text ≡ length (front_of m) + length (line_turn (held m c) l).text
  line_long l = ap (λ (t : Turning). length t.text) (line_held l) ∙ length-append (front_of m) (line_turn (held m c) l).text

  line_later : (l rest : List ℕ) (room taken : ℕ) → length (line_turn m l).text ≤ room → Together (held m c) rest (room - length (front_of m)) taken (line_turn (held m c) l)
      → Together m (c ∷ rest) room (suc taken) (line_turn m l)
  unfolding run
  line_later l rest room taken h t =
      let fits : length (fed_byte m c).text ≤ room = rw byte_held (omega (arith, line_long l)) in
      let left : room - length (front_of m) - length (line_turn (held m c) l).text ≡ room - length (line_turn m l).text = omega (arith, line_long l) in
      record {
        texts = front_of m ∷ t.texts;
        many = ap suc t.many;
        wrote = ap (λ (k : List ℕ). front_of m ++ k) t.wrote ∙ sym (ap (λ (t : Turning). t.text) (line_held l));
        runs = rw (laws.taken feeds m c room refl fits, byte_held, t.runs, left, ap (λ (t : Turning). t.next) (line_held l));
      }

-- up to its newline
abbrev Lies : List ℕ → Type 0
Lies input =
    (m : Lister) (room : ℕ) → length m.scanner.held ≡ 5 → length_in input < length input → m.scanner.count + length_in input ≤ 5
    → let t = line_turn m (unfinished m.scanner ++ take (length_in input) input) in length t.text ≤ room → Together m input room (suc (length_in input)) t

line_together : (input : List ℕ) → Lies input
line_together [] m room five there few h = absurd (omega arith)
line_together (c ∷ l) m room five there few h = go (line_together l) (eqb c newline) refl
  where
    go : Lies l → (t : Bool) → eqb c newline ≡ t → Together m (c ∷ l) room (suc (length_in (c ∷ l))) (line_turn m (unfinished m.scanner ++ take (length_in (c ∷ l)) (c ∷ l)))
    go ih true e =
        let k : length (line_turn m (unfinished m.scanner)).text ≤ room = rw (e, append-nil (unfinished m.scanner)) at h in
        rw (e, append-nil (unfinished m.scanner)) (rw (byte_ends m c e) at (one m c l room (rw (byte_ends m c e) k)))
    go ih false e =
        let n = length_in l in
        let there' : n < length l = omega (arith, rw e at there) in
        let few' : m.scanner.count + suc n ≤ 5 = rw e at few in
        let k : m.scanner.count < 5 = omega arith in
        let line = unfinished m.scanner ++ c ∷ take n l in
        let fits : length (line_turn m line).text ≤ room = rw e at h in
        let more : unfinished (held m c).scanner ++ take n l ≡ line = held_more m c e k five (take n l) in
        let fits' : length (line_turn (held m c) line).text ≤ room - length (front_of m) = omega (arith, line_long m c e k line) in
        rw e
        (line_later m c e k line l room (suc n) fits
        (rw more at (ih (held m c) (room - length (front_of m)) (length-set m.scanner.held m.scanner.count c ∙ five) there' (omega arith) (rw more fits'))))

-- and the first of six bytes or more
length_front : (l rest : List ℕ) → length_in l < length l → length_in (l ++ rest) ≡ length_in l
length_front [] rest h = absurd (omega arith)
length_front (c ∷ l) rest h = go (length_front l rest) (eqb c newline) refl
  where
    go : (length_in l < length l → length_in (l ++ rest) ≡ length_in l) → (t : Bool) → eqb c newline ≡ t → length_in (c ∷ l ++ rest) ≡ length_in (c ∷ l)
    go ih true e = rw e
    go ih false e = rw e (ap suc (ih (omega (arith, rw e at h))))

-- a line of a word, behind n others: what it writes, and the lister behind it
abbrev word_turn : ℕ → Reader → ℕ → Turning
word_turn n r w = let g = word_gave r (n + 1) w in record { next = passed_to (n + 1) g.next; text = all_bytes width (items_in g.given) }

word_turn_lem : (n : ℕ) (r : Reader) (w : ℕ) → 0 < n → n < most_lines → turning (passed_to n r) (taken_of (passed_to n r).scanner (Word w)) ≡ word_turn n r w
unfolding taken_of line_in front_of gave_of
word_turn_lem n r w some few = rw (lt-leb most_lines n few, ne_eqb n 0 (λ e. omega arith))

pub few_word : (n : ℕ) (r : Reader) (w : ℕ) → 0 < n → n < most_lines → length (word_turn n r w).text ≤ 40
few_word n r w some few = subst (λ (t : Turning). length t.text ≤ 40) (word_turn_lem n r w some few) (few_line (passed_to n r) (Word w))

pub word_goes : (input : List ℕ) (room n : ℕ) (r : Reader) (t : Told) → 6 ≤ length input → 0 < n → n < most_lines → 40 ≤ room
    → Tells (get_or input 0 0 ∷ get_or input 1 0 ∷ get_or input 2 0 ∷ get_or input 3 0 ∷ get_or input 4 0 ∷ get_or input 5 0 ∷ []) t → (t.taken ≡ 0 → ⊥)
    → Together (passed_to n r) input room t.taken (word_turn n r t.word)
word_goes (a ∷ b ∷ c ∷ d ∷ e ∷ f ∷ rest) room n r t there some few h tells taken =
    let six = a ∷ b ∷ c ∷ d ∷ e ∷ f ∷ [] in
    let input = six ++ rest in
    let m = passed_to n r in
    let told = tells taken in
    let same : length_in input ≡ length_in six = length_front six rest told.1 in
    let long : suc (length_in input) ≡ t.taken = omega (arith, same, told.0) in
    let line : take (length_in input) input ≡ take (length_in six) six = ap (λ (k : ℕ). take k input) same ∙ take-append-le (length_in six) six rest (omega (arith, told.1)) in
    let turn : line_turn m (take (length_in input) input) ≡ word_turn n r t.word =
    ap (line_turn m) line ∙ ap (λ (l : Line). turning m (taken_of m.scanner l)) told.2 ∙ word_turn_lem n r t.word some few in
    let fits : length (line_turn m (take (length_in input) input)).text ≤ room = subst (λ (u : Turning). length u.text ≤ room) (sym turn) (omega (arith, few_word n r t.word some few)) in
    subst (λ (k : ℕ). Together m input room k (word_turn n r t.word)) long
    (subst (λ (u : Turning). Together m input room (suc (length_in input)) u) turn (line_together input m room refl (omega (arith, same, told.1)) (omega (arith, same, told.1)) fits))
word_goes [] room n r t there some few h tells taken = absurd (omega arith)
word_goes (a ∷ []) room n r t there some few h tells taken = absurd (omega arith)
word_goes (a ∷ b ∷ []) room n r t there some few h tells taken = absurd (omega arith)
word_goes (a ∷ b ∷ c ∷ []) room n r t there some few h tells taken = absurd (omega arith)
word_goes (a ∷ b ∷ c ∷ d ∷ []) room n r t there some few h tells taken = absurd (omega arith)
word_goes (a ∷ b ∷ c ∷ d ∷ e ∷ []) room n r t there some few h tells taken = absurd (omega arith)
