-- What the driver writes of an input, tick by tick, is the recording of its lines.
use Prim.Native.Nat.{ℕ, suc, ◌+◌, ◌-◌, ◌<◌}
use mathlib.Core.Path.{◌≡◌, refl, sym, ◌∙◌, ap}
use mathlib.Core.Bool.{Bool, true, false, cond}
use mathlib.Core.List.{List, [], ◌∷◌, ◌++◌, map, append_assoc, append-nil}
use native.Mathlib.Omega.{arith}
use native.Mathlib.Numerals.{add-one}
use lib.Dec.{leb, eqb}
use lib.ListN.{length, take, set, length-append, length-take}
use lib.Seq.{take-suc-set, take_all}
use borrow.Author.Tests.{leb-true, leb-false}
use Rattle.numbers.proofs.Choices.{cases}
use Rattle.listing.specs.Lines.{newline, front, lines_in}
use Rattle.listing.specs.Scanning.{most_lines}
use Rattle.listing.proofs.Scanned.{ahead, ahead_none, ahead_line, ahead_more}
use Rattle.ballbox.specs.declared.BallBox.{BallBox}
use Rattle.driver.specs.Lines.{said_by}
use Rattle.driver.specs.Recorded.{record_line, all_lines}
use Rattle.driver.specs.Driving.{Leaves, ending, going, slot, slots, line_done, end_done, records_from, recording_of}
use Rattle.driver.specs.Feeding.{longest, at_line, fresh, unfinished, owed_by, besides, Turning, turning, passing, taken_of, byte_of, slot_of, end_of}
use Rattle.driver.specs.declared.Record.{Record}
use Rattle.driver.specs.declared.Record.TheVariants.{Word, Bad, Over}
use Rattle.driver.specs.declared.Order.{Order}
use Rattle.driver.specs.declared.Order.TheVariants as order
use Rattle.driver.specs.declared.Driver.{Driver}
use Rattle.driver.proofs.Long.{long_bad}

pub lines_append : (a b : List Record) → all_lines (a ++ b) ≡ all_lines a ++ all_lines b
lines_append [] b = refl
lines_append (r ∷ a) b = rw (lines_append a b) (sym (append_assoc (record_line r) (all_lines a) (all_lines b)))

pub words_append : (a b : List ℕ) → map Word (a ++ b) ≡ map Word a ++ map Word b
words_append [] b = refl
words_append (w ∷ a) b = ap (λ (rs : List Record). Word w ∷ rs) (words_append a b)

-- what is recorded from a driver on, if these are the lines behind the start of its own: its slots, and then, unless it has ended, the lines
abbrev slots_and : ℕ → BallBox → (BallBox → List Record) → List Record
slots_and owed b later = map Word (slots owed b).words ++ later (slots owed b).next

abbrev Rest : Driver → List (List ℕ) → List Record
Rest m ls = slots_and m.owed m.ball (λ b. cond m.ended [] (records_from m.line b ls))

-- what it has still to write of an input, and of its end
abbrev pub all_of : Driver → List ℕ → List ℕ
all_of m input = all_lines (Rest m (ahead (unfinished m) (lines_in input)))

-- a slot
pub slot_then : (m : Driver) (k : ℕ) (input : List ℕ) → m.owed ≡ suc k → all_of m input ≡ (slot_of m).text ++ all_of (slot_of m).next input
unfolding slot_of slots
slot_then m k input e =
    let less : m.owed - 1 ≡ k = omega arith in
    let later = slots k (slot m.ball).next in
    rw (less, e, words_append (slot m.ball).words later.words, append_assoc (map Word (slot m.ball).words), lines_append (map Word (slot m.ball).words))

-- a line, if these are the lines behind it
abbrev line_and : ℕ → Leaves → List (List ℕ) → List Record
line_and n d ls = d.records ++ cond d.ends [] (records_from (n + 1) d.next ls)

plain_line : (n : ℕ) (d : Leaves) (ls : List (List ℕ)) → d.records ++ Rest (passing n 0 d).next ls ≡ line_and n d ls
unfolding slots
plain_line n d ls = ap (λ (rs : List Record). d.records ++ rs) (go d.ends)
  where
    go : (t : Bool) → slots_and (cond t 0 0) d.next (λ b. cond t [] (records_from (cond t n (n + 1)) b ls)) ≡ cond t [] (records_from (n + 1) d.next ls)
    go true = refl
    go false = refl

slots_line : (n k : ℕ) (b : BallBox) (ls : List (List ℕ)) → let d = line_done n b (order.Slots 0) in d.records ++ Rest (passing n k d).next ls ≡ line_and n (line_done n b (order.Slots k)) ls
unfolding slots line_done
slots_line n k b ls = go (leb most_lines n) (eqb n 0)
  where
    go : (over first : Bool)
        → let d = cond over (ending b Over) (cond first (ending b (Bad 1)) (going b [])) in
        d.records ++ Rest (passing n k d).next ls ≡ line_and n (cond over (ending b Over) (cond first (ending b (Bad 1)) (going (slots k b).next (slots k b).words))) ls
    go true first = refl
    go false true = refl
    go false false = refl

done_line : (n : ℕ) (b : BallBox) (o : Order) (ls : List (List ℕ)) → let d = line_done n b (besides o) in d.records ++ Rest (passing n (owed_by o) d).next ls ≡ line_and n (line_done n b o) ls
done_line n b order.Bad ls = plain_line n (line_done n b order.Bad) ls
done_line n b (order.Format f) ls = plain_line n (line_done n b (order.Format f)) ls
done_line n b (order.Single e) ls = plain_line n (line_done n b (order.Single e)) ls
done_line n b (order.Slots k) ls = slots_line n k b ls

line_then : (m : Driver) (o : Order) (ls : List (List ℕ)) → m.owed ≡ 0
    → all_lines (cond m.ended [] (line_and m.line (line_done m.line m.ball o) ls)) ≡ (taken_of m o).text ++ all_lines (Rest (taken_of m o).next ls)
unfolding taken_of slots
line_then m o ls e = go m.ended
  where
    go : (t : Bool) → let k = cond t (turning (at_line m.line true m.owed m.ball) []) (passing m.line (owed_by o) (line_done m.line m.ball (besides o))) in
        all_lines (cond t [] (line_and m.line (line_done m.line m.ball o) ls)) ≡ k.text ++ all_lines (Rest k.next ls)
    go true = rw e
    go false =
        let d = line_done m.line m.ball (besides o) in
        ap all_lines (sym (done_line m.line m.ball o ls)) ∙ lines_append d.records (Rest (passing m.line (owed_by o) d).next ls)

-- a line that was taken leaves none unfinished
starts : (m : Driver) (o : Order) → unfinished (taken_of m o).next ≡ []
unfolding taken_of
starts m o = cases (λ (k : Turning). unfinished k.next ≡ []) m.ended (λ _. refl) (λ _. refl)

-- with no slot owed
none_owed : (m : Driver) (ls : List (List ℕ)) → m.owed ≡ 0 → Rest m ls ≡ cond m.ended [] (records_from m.line m.ball ls)
unfolding slots
none_owed m ls e = rw e

-- a line that ends here
line_ends : (m : Driver) (l cs : List ℕ) → m.owed ≡ 0 → all_lines (Rest m (l ∷ lines_in cs)) ≡ (taken_of m (said_by l)).text ++ all_of (taken_of m (said_by l)).next cs
unfolding records_from
line_ends m l cs e = ap all_lines (none_owed m (l ∷ lines_in cs) e) ∙ line_then m (said_by l) (lines_in cs) e ∙ rw (starts m (said_by l))

-- a line whose first fifteen bytes are followed by more
bad_last : (n : ℕ) (b : BallBox) → (line_done n b order.Bad).ends ≡ true
unfolding line_done
bad_last n b = let P : Leaves → Type 0 = λ d. d.ends ≡ true in cases P (leb most_lines n) (λ _. refl) (λ _. cases P (eqb n 0) (λ _. refl) (λ _. refl))

long_line : (n : ℕ) (b : BallBox) (l : List ℕ) (ls ms : List (List ℕ)) → longest < length l → records_from n b (l ∷ ls) ≡ line_and n (line_done n b order.Bad) ms
unfolding records_from
long_line n b l ls ms h = rw (long_bad l h, bad_last n b)

long : (n : ℕ) (b : BallBox) (u : List ℕ) (c : ℕ) (ls ms : List (List ℕ)) → length u ≡ longest → records_from n b (ahead u (front c ls)) ≡ line_and n (line_done n b order.Bad) ms
long n b u c [] ms h = rw (ahead_line u (c ∷ []) []) (long_line n b (u ++ (c ∷ [])) [] ms (rw length-append (omega arith)))
long n b u c (l ∷ ls) ms h = rw (ahead_line u (c ∷ l) ls) (long_line n b (u ++ (c ∷ l)) ls ms (rw length-append (omega arith)))

-- a byte, of a driver that owes no slot
pub byte_then : (m : Driver) (c : ℕ) (cs : List ℕ) → length m.held ≡ longest → m.owed ≡ 0 → all_of m (c ∷ cs) ≡ (byte_of m c).text ++ all_of (byte_of m c).next cs
unfolding byte_of lines_in
byte_then m c cs fifteen e = go (eqb c newline) refl (leb longest m.count) refl
  where
    go : (t : Bool) → eqb c newline ≡ t → (u : Bool) → leb longest m.count ≡ u → all_of m (c ∷ cs) ≡ (byte_of m c).text ++ all_of (byte_of m c).next cs
    go true h u hu = rw (h, ahead_line (unfinished m) [] (lines_in cs), append-nil (unfinished m)) (line_ends m (unfinished m) cs e)
    go false h true hu =
        let all : length (unfinished m) ≡ longest = ap length (take_all m.count m.held (omega (arith, leb-true longest m.count hu))) ∙ fifteen in
        let ls = front c (lines_in cs) in
        rw (h, hu)
        (ap all_lines (none_owed m (ahead (unfinished m) ls) e ∙ ap (cond m.ended []) (long m.line m.ball (unfinished m) c (lines_in cs) (lines_in cs) all)) ∙ line_then m order.Bad (lines_in cs) e
        ∙ rw (starts m order.Bad))
    go false h false hu =
        let k : m.count < length m.held = omega (arith, leb-false longest m.count hu) in
        let more : take (m.count + 1) (set m.held m.count c) ≡ unfinished m ++ (c ∷ []) = rw add-one (take-suc-set m.held m.count c k) in
        rw (h, hu, more, ahead_more (unfinished m) c (lines_in cs))

-- the end of the last line, where one is unfinished, and the end of the input
pub last_line : (m : Driver) → length m.held ≡ longest → (m.count ≡ 0 → ⊥) → m.owed ≡ 0 → all_of m [] ≡ (byte_of m newline).text ++ all_of (byte_of m newline).next []
unfolding byte_of lines_in
last_line m fifteen some e = go (unfinished m) refl
  where
    go : (u : List ℕ) → unfinished m ≡ u → all_of m [] ≡ (taken_of m (said_by (unfinished m))).text ++ all_of (taken_of m (said_by (unfinished m))).next []
    go [] eu = absurd (omega (arith, ap length eu, length-take m.count m.held))
    go (x ∷ xs) eu = rw (eu, ahead_none x xs) (line_ends m (x ∷ xs) [] e)

pub end_then : (m : Driver) → m.count ≡ 0 → m.owed ≡ 0 → all_of m [] ≡ (end_of m).text ++ all_of (end_of m).next []
unfolding end_of lines_in records_from slots
end_then m none e = rw (none, e) (sym (append-nil (all_lines (cond m.ended [] (end_done m.line)))))

-- ALL AT ONCE: a fresh driver has the recording of the input to write
pub all_at_once : (input : List ℕ) → all_of fresh input ≡ recording_of input
unfolding recording_of slots
all_at_once input = refl
