-- Where the program is sure, what the port tells is what stood on the line, but for silences that it leaves out.
use Prim.Native.Nat.{ℕ, zero, suc, ◌<◌, ◌≤◌}
use mathlib.Core.Path.{◌≡◌, refl, sym, ◌∙◌, ap, subst}
use mathlib.Core.Bool.{Bool, true, false, cond}
use mathlib.Core.List.{List, [], ◌∷◌, ◌++◌, append_assoc}
use native.Mathlib.Omega.{arith}
use lib.ListN.{length, take, drop, length-append}
use Rattle.fold.specs.Fold.{written, answers_over, state_over}
use lib.Dec.{eqb, leb, ltb}
use borrow.Author.Tests.{eqb-true, ne_eqb, lt-leb}
use Rattle.frames.specs.Words.{break}
use Rattle.frames.specs.Damage.{Fewer, whole, stays, unheard}
use Rattle.port.specs.Marks.{port, opened, cleared, mark, plain, behind_mark, byte_of, quiet_of, lost_of}
use Rattle.port.specs.Line.{words_in}
use Rattle.port.specs.Delivered.{Came, sound, damaged, broken, delivered_one, delivered, word_of}
use Rattle.port.specs.Sessions.{Event, read, thrown, quiet, lost, words_over, port_over, waits, reads, throws, sum, Alike, same, before_the_mark, before_thrown, no_word, later, and_then}
use Rattle.port.specs.Hearing.{What, came, missed, Moment, events_at, events_of, silent, word_at, stood, Sure, Arrival, events_from, stood_from, SureFrom}
use Rattle.port.specs.Promises.{BytesPromise, Calls, done, byte, wait, loss, lot, byte_thrown, lot_thrown}
use Rattle.port.specs.Line as line
use Rattle.port.specs.declared.Words.{Words}
use Rattle.std.proofs.Common.{Option, None, Some}
use Rattle.port.specs.declared.Port.{Port}
use Rattle.port.proofs.Laws.{told, over_by, all_taken}

-- what came is told, and the whole length of a silence must be waited again
sound_told : (c q l b : ℕ) (rest : List Event) (t : Bool) → eqb b mark ≡ t
    → words_over (port 0 c q l) (reads (cond t (mark ∷ mark ∷ []) (b ∷ [])) ++ rest) ≡ cleared c b ∷ words_over (opened c q) rest
unfolding words_over byte_of plain behind_mark
sound_told c q l b rest true e = rw (eqb-true b mark e)
sound_told c q l b rest false e = rw e

came_told : (c q l : ℕ) (x : Came) (rest : List Event)
    → words_over (port 0 c q l) (reads (delivered_one x) ++ rest) ≡ word_of c x ∷ words_over (opened c q) rest
unfolding words_over byte_of plain behind_mark
came_told c q l (sound b) rest = sound_told c q l b rest (eqb b mark) refl
came_told c q l (damaged b) rest = refl
came_told c q l broken rest = refl

-- and what is thrown away leaves no word, nor a mark
thrown_sound : (c q l b : ℕ) (rest : List Event) (t : Bool) → eqb b mark ≡ t
    → words_over (port 0 c q l) (throws (cond t (mark ∷ mark ∷ []) (b ∷ [])) ++ rest) ≡ words_over (opened c q) rest
unfolding words_over byte_of plain behind_mark
thrown_sound c q l b rest true e = refl
thrown_sound c q l b rest false e = rw e

thrown_one : (c q l : ℕ) (x : Came) (rest : List Event) → words_over (port 0 c q l) (throws (delivered_one x) ++ rest) ≡ words_over (opened c q) rest
unfolding words_over byte_of plain behind_mark
thrown_one c q l (sound b) rest = thrown_sound c q l b rest (eqb b mark) refl
thrown_one c q l (damaged b) rest = refl
thrown_one c q l broken rest = refl

throws_append : (xs ys : List ℕ) → throws (xs ++ ys) ≡ throws xs ++ throws ys
throws_append [] ys = refl
throws_append (x ∷ xs) ys = ap (λ (l : List Event). thrown x ∷ l) (throws_append xs ys)

about_thrown : (c q l : ℕ) (about : List Came) (rest : List Event)
    → words_over (port 0 c q l) (throws (delivered about) ++ (lost ∷ rest)) ≡ break ∷ words_over (opened c q) rest
unfolding words_over
about_thrown c q l [] rest = refl
about_thrown c q l (x ∷ about) rest =
    rw (throws_append (delivered_one x) (delivered about), append_assoc (throws (delivered_one x)) (throws (delivered about)) (lost ∷ rest))
    (thrown_one c q l x (throws (delivered about) ++ (lost ∷ rest)) ∙ about_thrown c q q about rest)

what_told : (c q l : ℕ) (w : What) (rest : List Event) → words_over (port 0 c q l) (events_at w ++ rest) ≡ word_at c w ∷ words_over (opened c q) rest
unfolding words_over
what_told c q l (came x) rest = came_told c q l x rest
what_told c q l (missed about) rest = rw (append_assoc (throws (delivered about)) (lost ∷ []) rest) (about_thrown c q l about rest)

-- waits, and then the rest
apart : (ws : List ℕ) (p : Port) (rest : List Event)
    → words_over p (waits ws ++ rest) ≡ words_over p (waits ws) ++ words_over (port_over p (waits ws)) rest
unfolding words_over port_over
apart [] p rest = refl
apart (w ∷ ws) p rest =
    rw (apart ws (quiet_of p w).next rest) (sym (append_assoc (words_in (quiet_of p w).given) (words_over (quiet_of p w).next (waits ws)) _))

-- no mark is held, and bit 7 and the length of a silence are as they were; no wait begins a mark
record Holds (c q : ℕ) (p : Port) : Type 0 where
  held : p.held ≡ 0
  clears : p.clears ≡ c
  silence : p.silence ≡ q

holds_is : {c q : ℕ} {p : Port} → Holds c q p → p ≡ port 0 c q p.left
holds_is h = rw (← h.held, ← h.clears, ← h.silence)

at_first : (c q : ℕ) → Holds c q (opened c q)
at_first c q = record { held = refl; clears = refl; silence = refl }

wait_holds : (c q l w : ℕ) (t u : Bool) → eqb l 0 ≡ t → ltb w l ≡ u → Holds c q (quiet_of (port 0 c q l) w).next
unfolding quiet_of
wait_holds c q l w true u e f = rw e (record { held = refl; clears = refl; silence = refl })
wait_holds c q l w false true e f = rw (e, f) (record { held = refl; clears = refl; silence = refl })
wait_holds c q l w false false e f = rw (e, f) (record { held = refl; clears = refl; silence = refl })

waits_hold : (c q : ℕ) (ws : List ℕ) (p : Port) → Holds c q p → Holds c q (port_over p (waits ws))
unfolding port_over
waits_hold c q [] p h = h
waits_hold c q (w ∷ ws) p h =
    let next = wait_holds c q p.left w (eqb p.left 0) (ltb w p.left) refl refl in
    waits_hold c q ws (quiet_of p w).next (subst (λ (x : Port). Holds c q (quiet_of x w).next) (sym (holds_is h)) next)

-- a silence that is told is one that stood there
unheard_all : (n : ℕ) {left words : List ℕ} → Fewer left words → Fewer left (silent n ++ words)
unheard_all zero f = f
unheard_all (suc n) f = unheard (unheard_all n f)

told_stood : (q s n : ℕ) (t u : Bool) {left words : List ℕ} → eqb q 0 ≡ t → leb q s ≡ u → (n ≡ 0 → s < q) → Fewer left words
    → Fewer (told q s ++ left) (silent n ++ words)
unfolding told
told_stood q s zero t u e f h few = let l = h refl in rw (ne_eqb q 0 (λ z. omega (arith, z, l)), lt-leb q s l) few
told_stood q s (suc n) true u e f h few = rw e (unheard_all (suc n) few)
told_stood q s (suc n) false true e f h few = rw (e, f) (stays (unheard_all n few))
told_stood q s (suc n) false false e f h few = rw (e, f) (unheard_all (suc n) few)

-- the waits of a port that was just opened or restarted, and then the rest
waits_told : (c q n : ℕ) (ws : List ℕ) (rest : List Event) (words : List ℕ)
    → (n ≡ 0 → sum ws < q)
    → Fewer (words_over (port_over (opened c q) (waits ws)) rest) words
    → Fewer (words_over (opened c q) (waits ws ++ rest)) (silent n ++ words)
waits_told c q n ws rest words sure few =
    rw (apart ws (opened c q) rest, over_by 0 c q q ws) (told_stood q (sum ws) n (eqb q 0) (leb q (sum ws)) refl refl sure few)

hears : (c q : ℕ) (moments : List Moment) (p : Port) → Holds c q p → Sure q moments → Fewer (words_over p (events_of moments)) (stood c moments)
unfolding words_over
hears c q [] p h sure = whole
hears c q (m ∷ moments) p h sure =
    let rest = waits m.waited ++ events_of moments in
    let words : words_over p (events_of (m ∷ moments)) ≡ word_at c m.what ∷ words_over (opened c q) rest =
    ap (λ (x : Port). words_over x (events_of (m ∷ moments))) (holds_is h) ∙ what_told c q p.left m.what rest in
    let later = hears c q moments (port_over (opened c q) (waits m.waited)) (waits_hold c q m.waited (opened c q) (at_first c q)) sure.1 in
    rw words (stays (waits_told c q m.silences m.waited (events_of moments) (stood c moments) sure.0 later))

-- The port tells what stood on the line, every byte and every break in its order, and no silence that did not stand there;
-- it may leave silences out.
pub heard_rightly : (c q : ℕ) (moments : List Moment) → Sure q moments → Fewer (words_over (opened c q) (events_of moments)) (stood c moments)
heard_rightly c q moments sure = hears c q moments (opened c q) (at_first c q) sure

-- And so from the opening of the port on.
pub heard_from_the_start : (c q : ℕ) (a : Arrival) → SureFrom q a → Fewer (words_over (opened c q) (events_from a)) (stood_from c a)
heard_from_the_start c q a sure =
    waits_told c q a.silences a.waited (events_of a.moments) (stood c a.moments) sure.0
    (hears c q a.moments (port_over (opened c q) (waits a.waited)) (waits_hold c q a.waited (opened c q) (at_first c q)) sure.1)

-- A lot of bytes gives no more words than bytes, and the words that they give one by one.
a_word_each : (g : Option ℕ) → length (words_in g) ≤ 1
a_word_each None = omega arith
a_word_each (Some w) = omega arith

no_more : (p : Port) (raw : List ℕ) → length (written line.hears (answers_over line.hears p raw)) ≤ length raw
unfolding answers_over
no_more p [] = omega arith
no_more p (b ∷ raw) =
    let h = a_word_each (byte_of p b).given in
    let t = no_more (byte_of p b).next raw in
    let l = length-append (words_in (byte_of p b).given) (written line.hears (answers_over line.hears (byte_of p b).next raw)) in
    omega (arith, h, t, l)

one_by_one : (p : Port) (raw : List ℕ) (rest : List Event)
    → words_over p (reads raw ++ rest) ≡ written line.hears (answers_over line.hears p raw) ++ words_over (state_over line.hears p raw) rest
unfolding words_over answers_over state_over
one_by_one p [] rest = refl
one_by_one p (b ∷ raw) rest =
    rw (one_by_one (byte_of p b).next raw rest)
    (sym (append_assoc (words_in (byte_of p b).given) (written line.hears (answers_over line.hears (byte_of p b).next raw)) _))

front_of : (xs ys : List ℕ) → take (length xs) (xs ++ ys) ≡ xs
front_of [] ys = refl
front_of (x ∷ xs) ys = ap (λ (l : List ℕ). x ∷ l) (front_of xs ys)

lot_told : (p : Port) (raw out after : List ℕ) (a : Words) (rest : List Event) → length raw ≤ length out → BytesPromise p raw out a after
    → words_over p (reads raw ++ rest) ≡ take a.written after ++ words_over a.next rest
lot_told p raw out after a rest h e =
    let n = no_more p raw in
    let t = all_taken p raw out a after e (omega (arith, h, n)) in
    let ws = written line.hears (answers_over line.hears p raw) in
    let front : take a.written after ≡ ws = rw (t.3, t.2) (front_of ws (drop (length ws) out)) in
    one_by_one p raw rest ∙ rw (front, t.1)

all_thrown : (p : Port) (raw : List ℕ) (rest : List Event) → words_over p (throws raw ++ rest) ≡ words_over (state_over line.hears p raw) rest
unfolding words_over state_over
all_thrown p [] rest = refl
all_thrown p (b ∷ raw) rest = all_thrown (byte_of p b).next raw rest

lot_left : (p : Port) (raw out after : List ℕ) (a : Words) → length raw ≤ length out → BytesPromise p raw out a after → a.next ≡ state_over line.hears p raw
lot_left p raw out after a h e = let n = no_more p raw in (all_taken p raw out a after e (omega (arith, h, n))).1

-- Whatever the calls: the words are those of the bytes, waits and losses one by one.
pub calls_tell : {p : Port} {events : List Event} {words : List ℕ} → Calls p events words → words ≡ words_over p events
unfolding words_over
calls_tell done = refl
calls_tell (byte e c) = rw (calls_tell c, e)
calls_tell (wait e c) = rw (calls_tell c, e)
calls_tell (loss e c) = rw (calls_tell c, e)
calls_tell (lot {p} raw out after a {events} h e c) = rw (calls_tell c) (sym (lot_told p raw out after a events h e))
calls_tell (byte_thrown e c) = rw (calls_tell c, e)
calls_tell (lot_thrown {p} raw out after a {events} h e c) = rw (calls_tell c, lot_left p raw out after a h e) (sym (all_thrown p raw events))

-- where a byte gives no word, to throw it away is to read it
pub nothing_to_throw : (p : Port) (b : ℕ) → (byte_of p b).given ≡ None → (rest : List Event) → words_over p (read b ∷ rest) ≡ words_over p (thrown b ∷ rest)
unfolding words_over
nothing_to_throw p b n rest = rw n

-- So by any calls of a port that was just opened, fresh or clearing.
pub promised_rightly : (c q : ℕ) {p : Port} → p ≡ opened c q → (a : Arrival) → SureFrom q a
    → {words : List ℕ} → Calls p (events_from a) words
    → Fewer words (stood_from c a)
promised_rightly c q is a sure calls = rw (calls_tell calls, is) (heard_from_the_start c q a sure)

-- A loss that is told within a mark is told as if before it: the word of the mark is the same, and stands behind the 256.
a_word : {w : ℕ} {A : Type 0} → Some w ≡ None → A
a_word e = cc

by_mark : (p : Port) (b : ℕ) (t u v w : Bool) → eqb p.held 0 ≡ t → eqb p.held 1 ≡ u → eqb b mark ≡ v → eqb b 0 ≡ w
    → (byte_of p b).given ≡ None
    → (rest : List Event)
    → words_over p (read b ∷ lost ∷ rest) ≡ words_over p (lost ∷ read b ∷ rest)
unfolding words_over byte_of plain behind_mark
by_mark p b true u true w e f g h n rest = rw (e, g)
by_mark p b true u false w e f g h n rest = a_word (rw (e, g) at n)
by_mark p b false true true w e f g h n rest = a_word (rw (e, f, g) at n)
by_mark p b false true false true e f g h n rest = rw (e, f, g, h)
by_mark p b false true false false e f g h n rest = a_word (rw (e, f, g, h) at n)
by_mark p b false false v w e f g h n rest = a_word (rw (e, f) at n)

pub lost_in_a_mark : (p : Port) (b : ℕ) → (byte_of p b).given ≡ None → (rest : List Event)
    → words_over p (read b ∷ lost ∷ rest) ≡ words_over p (lost ∷ read b ∷ rest)
lost_in_a_mark p b n rest = by_mark p b (eqb p.held 0) (eqb p.held 1) (eqb b mark) (eqb b 0) refl refl refl refl n rest

-- and one that is told among bytes that are thrown away, as if before them
by_thrown : (p : Port) (b : ℕ) (t u v w : Bool) → eqb p.held 0 ≡ t → eqb p.held 1 ≡ u → eqb b mark ≡ v → eqb b 0 ≡ w → (rest : List Event)
    → words_over p (thrown b ∷ lost ∷ rest) ≡ words_over p (lost ∷ thrown b ∷ rest)
unfolding words_over byte_of plain behind_mark
by_thrown p b true u true w e f g h rest = rw (e, g)
by_thrown p b true u false w e f g h rest = rw (e, g)
by_thrown p b false true true w e f g h rest = rw (e, f, g)
by_thrown p b false true false true e f g h rest = rw (e, f, g, h)
by_thrown p b false true false false e f g h rest = rw (e, f, g, h)
by_thrown p b false false v w e f g h rest = rw (e, f)

pub lost_among_thrown : (p : Port) (b : ℕ) (rest : List Event) → words_over p (thrown b ∷ lost ∷ rest) ≡ words_over p (lost ∷ thrown b ∷ rest)
lost_among_thrown p b rest = by_thrown p b (eqb p.held 0) (eqb p.held 1) (eqb b mark) (eqb b 0) refl refl refl refl rest

-- Whatever is handed over, there are calls for it; so that alike events may stand for each other.
pub calls_are : (p : Port) (events : List Event) → Calls p events (words_over p events)
unfolding words_over
calls_are p [] = done
calls_are p (read b ∷ events) = byte refl (calls_are (byte_of p b).next events)
calls_are p (thrown b ∷ events) = byte_thrown {h = byte_of p b} refl (calls_are (byte_of p b).next events)
calls_are p (quiet w ∷ events) = wait refl (calls_are (quiet_of p w).next events)
calls_are p (lost ∷ events) = loss refl (calls_are (lost_of p).next events)

alike_told : {p : Port} {events others : List Event} → Alike p events others → words_over p events ≡ words_over p others
unfolding words_over
alike_told same = refl
alike_told (before_the_mark {p} {b} {rest} n) = lost_in_a_mark p b n rest
alike_told (before_thrown {p} {b} {rest}) = lost_among_thrown p b rest
alike_told (no_word {p} {b} {rest} n) = nothing_to_throw p b n rest
alike_told (later a) = rw (alike_told a)
alike_told (and_then a b) = alike_told a ∙ alike_told b

pub calls_alike : {p : Port} {events others : List Event} {words : List ℕ} → Alike p events others → Calls p events words → Calls p others words
calls_alike {p} {others} a c = rw (calls_tell c ∙ alike_told a) (calls_are p others)
