-- Lines of words, some at a time.
use Rattle.std.proofs.Common.{None}
use Prim.Native.Nat.{ℕ, zero, suc, ◌+◌, ◌-◌, ◌*◌, ◌<◌, ◌≤◌}
use mathlib.Core.Path.{◌≡◌, refl, sym, ◌∙◌, ap, subst}
use mathlib.Core.List.{List, [], ◌∷◌, ◌++◌, map, map-append}
use mathlib.Core.Bool.{true}
use native.Mathlib.Nat.{add-zero}
use native.Mathlib.Omega.{arith}
use native.Mathlib.Numerals.{add-one}
use lib.ListN.{length, get_or, take, drop, set, replicate, length-append, length-map, length-set, length-replicate, replicate-append-replicate}
use lib.Seq.{take_all, take-suc-set}
use Rattle.text.specs.Growth.{slice, filled_by}
use Rattle.text.specs.declared.Text.{Text}
use Rattle.text.proofs.Filled.{filled_len}
use Rattle.frames.specs.Words.{silence}
use Rattle.reader.specs.declared.Reader.{Reader}
use Rattle.listing.specs.Scanning.{width, most_lines}
use Rattle.listing.specs.Items.{gave, items_in, word_gave}
use Rattle.listing.specs.Printing.{all_bytes}
use Rattle.listing.specs.Feeding.{passed_to, Stands}
use Rattle.listing.specs.Batches.{LineAt, LinesAt, Gathered, Unread, Printed, items_over, reader_over}
use Rattle.listing.specs.declared.Lister.{Lister}
use Rattle.listing.specs.declared.Told.{Told}
use Rattle.listing.proofs.Fronts.{few_word}
use Rattle.listing.proofs.Feeds.{far, word_more}
use Rattle.listing.proofs.Grown.{filled_append, all_append}
use Rattle.listing.proofs.Quiet.{Quiet, none_kept}

abbrev words_in : List Told → List ℕ
words_in lines = map (λ (t : Told). t.word) lines

-- a line more behind them
pub line_behind : (input : List ℕ) (lines : List Told) (at mid : ℕ) (t : Told) → LinesAt input at lines mid → LineAt input mid t → LinesAt input at (lines ++ t ∷ []) (mid + t.taken)
unfolding LinesAt
line_behind input [] at mid t e l = (subst (λ (k : ℕ). LineAt input k t) (sym e) l, ap (λ (k : ℕ). k + t.taken) e)
line_behind input (u ∷ lines) at mid t e l = (e.0, line_behind input lines (at + u.taken) mid t e.1 l)

-- where a lister stands behind lines of words, when what they give is printed
pub lines_more : {m₀ : Lister} {input out₀ : List ℕ} (lines : List Told) {n : ℕ} {r : Reader} {at used : ℕ} {out : List ℕ} → Stands m₀ input out₀ (passed_to n r) at used out
    → {end : ℕ} → LinesAt input at lines end → 0 < n → n + length lines ≤ most_lines → 40 * length lines ≤ length out - used
    → (out' : List ℕ) (used' : ℕ) → slice out' used' ≡ filled_by (slice out used) (all_bytes width (items_over r n (words_in lines)))
    → Stands m₀ input out₀ (passed_to (n + length lines) (reader_over r (words_in lines))) end used' out'
unfolding LinesAt items_over reader_over
lines_more [] {n} s e some few room out' used' wrote = rw (add-zero n, ← e, ap (λ (t : Text). t.bytes) wrote, ap (λ (t : Text). t.len) wrote) s
lines_more {m₀} {input} {out₀} (t ∷ lines) {n} {r} {at} {used} {out} s {end} l some few room out' used' wrote =
    let g = word_gave r (n + 1) t.word in
    let text = all_bytes width (items_in g.given) in
    let mid = filled_by (slice out used) text in
    let short : length text ≤ 40 = few_word n r t.word some (omega arith) in
    let first : Stands m₀ input out₀ (passed_to (n + 1) g.next) (at + t.taken) mid.len mid.bytes =
    word_more s t l.0.0 some (omega arith) (omega arith) l.0.1 l.0.2 g refl mid.bytes mid.len refl in
    let long : mid.len ≡ used + length text = filled_len text (slice out used) (omega (arith, far s)) in
    let same : length mid.bytes ≡ length out = (far first).2 ∙ sym (far s).2 in
    let one : n + 1 + length lines ≡ n + suc (length lines) = omega arith in
    let rest = all_bytes width (items_over g.next (n + 1) (words_in lines)) in
    let wrote' : slice out' used' ≡ filled_by mid rest = wrote ∙ ap (filled_by (slice out used)) (all_append width (items_in g.given) (items_over g.next (n + 1) (words_in lines))) ∙ filled_append (slice out used) text rest in
    rw one at (lines_more lines first l.1 (omega arith) (omega arith) (omega (arith, long, same)) out' used' wrote')

-- no line, and a line more
pub none_gathered : (input : List ℕ) (from : ℕ) (words : List ℕ) → Gathered input from words 0 from
unfolding LinesAt
none_gathered input from words = record { lines = []; lie = refl; words_are = refl; many = refl; held = omega arith }

pub one_gathered : {input : List ℕ} {from : ℕ} {words : List ℕ} {count at : ℕ} → Gathered input from words count at → (t : Told) → LineAt input at t → count < length words
    → Gathered input from (set words count t.word) (count + 1) (at + t.taken)
one_gathered {input} {from} {words} {count} {at} g t l h =
    record {
      lines = g.lines ++ t ∷ [];
      lie = line_behind input g.lines from at t g.lie l;
      words_are = rw (add-one, take-suc-set words count t.word h, g.words_are) (sym (map-append (λ (t : Told). t.word) g.lines (t ∷ [])));
      many = rw (length-append g.lines (t ∷ []), g.many);
      held = rw (length-set words count t.word) (omega arith);
    }

-- their words, and where a lister stands behind them when they were all taken
module _ {input words : List ℕ} {at count end : ℕ} (g : Gathered input at words count end) where
  pub as_many : length (take count words) ≡ count
  as_many = ap length g.words_are ∙ length-map g.lines (λ (t : Told). t.word) ∙ g.many

  pub batch_more : {m₀ : Lister} {out₀ : List ℕ} {n : ℕ} {r : Reader} {used : ℕ} {out : List ℕ} → Stands m₀ input out₀ (passed_to n r) at used out
      → 0 < n → n + count ≤ most_lines → 40 * count ≤ length out - used
      → {next : Reader} {used' : ℕ} {out' : List ℕ} → Printed r n (take count words) out used true next used' out' → Stands m₀ input out₀ (passed_to (n + count) next) end used' out'
  batch_more {n = n} {r = r} s some few room {next} {used'} {out'} p =
      let e = g.words_are in
      rw (g.many, ← e, p.reader refl) at (lines_more g.lines s g.lie some (rw g.many few) (rw g.many room) out' used' (rw e at (p.items refl)))

-- a silence more
pub silence_gathered : {input : List ℕ} {from : ℕ} {count at : ℕ} → Gathered input from (replicate count silence) count at → (t : Told) → LineAt input at t → t.word ≡ silence
    → Gathered input from (replicate (count + 1) silence) (count + 1) (at + t.taken)
silence_gathered {input} {from} {count} {at} g t l e =
    let long : (k : ℕ) → length (replicate k silence) ≡ k = λ k. length-replicate k silence in
    let all : (k : ℕ) → take k (replicate k silence) ≡ replicate k silence = λ k. take_all k (replicate k silence) (omega (arith, long k)) in
    record {
      lines = g.lines ++ t ∷ [];
      lie = line_behind input g.lines from at t g.lie l;
      words_are = all (count + 1) ∙ sym (replicate-append-replicate count 1 silence)
          ∙ rw (map-append (λ (t : Told). t.word) g.lines (t ∷ []), e, ← g.words_are, all count);
      many = rw (length-append g.lines (t ∷ []), g.many);
      held = omega (arith, long (count + 1));
    }

-- silences that change nothing
quiet_lines : {m₀ : Lister} {input out₀ : List ℕ} (lines : List Told) {n : ℕ} {r : Reader} {at used : ℕ} {out : List ℕ} → Stands m₀ input out₀ (passed_to n r) at used out
    → {end : ℕ} → LinesAt input at lines end → words_in lines ≡ replicate (length lines) silence → Quiet r → 0 < n → n + length lines ≤ most_lines → 40 ≤ length out - used
    → Stands m₀ input out₀ (passed_to (n + length lines) r) end used out
unfolding LinesAt
quiet_lines [] {n} s e words quiet some few room = rw (add-zero n, ← e) s
quiet_lines {m₀} {input} {out₀} (t ∷ lines) {n} {r} {at} {used} {out} s l words quiet some few room =
    let is : t.word ≡ silence = ap (λ (l : List ℕ). get_or l 0 0) words in
    let same : word_gave r (n + 1) t.word ≡ gave r None = ap (word_gave r (n + 1)) is ∙ quiet (n + 1) in
    let first : Stands m₀ input out₀ (passed_to (n + 1) r) (at + t.taken) used out =
    word_more s t l.0.0 some (omega arith) room l.0.1 l.0.2 (gave r None) (sym same) out used refl in
    let one : n + 1 + length lines ≡ n + suc (length lines) = omega arith in
    rw one at (quiet_lines lines first l.1 (ap (drop 1) words) quiet (omega arith) (omega arith) room)

none_passed : {m₀ : Lister} {input out₀ : List ℕ} (lines : List Told) {n : ℕ} {r : Reader} {at used : ℕ} {out : List ℕ} → Stands m₀ input out₀ (passed_to n r) at used out
    → {end : ℕ} → LinesAt input at lines end → length lines ≡ 0 → Stands m₀ input out₀ (passed_to (n + 0) r) end used out
unfolding LinesAt
none_passed [] {n} s e many = rw (add-zero n, ← e) s
none_passed (t ∷ lines) s e many = absurd (omega arith)

pub unread_more : {m₀ : Lister} {input out₀ : List ℕ} {n : ℕ} {r : Reader} {at used room : ℕ} (count : ℕ) {end : ℕ} {out : List ℕ} → Stands m₀ input out₀ (passed_to n r) at used out
    → Unread r input at room count end → room ≡ length out - used → 0 < n → n + count ≤ most_lines → Stands m₀ input out₀ (passed_to (n + count) r) end used out
unread_more zero s u is some few = none_passed u.lines.lines s u.lines.lie u.lines.many
unread_more (suc k) s u is some few =
    let g = u.lines in
    let q = u.quiet (omega arith) in
    let words = sym g.words_are ∙ take_all (suc k) (replicate (suc k) silence) (omega (arith, length-replicate (suc k) silence)) ∙ ap (λ (i : ℕ). replicate i silence) (sym g.many) in
    rw g.many at (quiet_lines g.lines s g.lie words (none_kept _ q.0) some (rw g.many few) (rw is at q.1))
