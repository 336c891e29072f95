-- What words give, by the numbers that tell what they are answered by.
use Prim.Native.Nat.{ℕ, zero, suc, ◌+◌, ◌-◌, ◌<◌, ◌≤◌}
use mathlib.Core.Path.{◌≡◌, refl, sym, ◌∙◌, ap}
use mathlib.Core.Bool.{Bool, true, false}
use mathlib.Core.List.{List, [], ◌∷◌, ◌++◌, append_assoc, append-nil}
use native.Mathlib.Nat.{add-zero}
use native.Mathlib.Omega.{arith}
use lib.IntN.{ℤ, pos, negsuc, nat_abs}
use lib.Signed.{lt_z}
use lib.ListN.{length, get_or, drop}
use lib.Seq.{drop-drop, drop_at, get_or-drop}
use borrow.Author.Tests.{ltb-true, lt-ltb, le-ltb}
use mir.Syntax.{w16}
use mir.Val.{SFits}
use Rattle.numbers.proofs.Tested.{holds}
use Rattle.numbers.proofs.Choices.{cases}
use Rattle.fold.specs.Fold.{written, places, takes, run}
use Rattle.text.specs.Growth.{filled_by}
use Rattle.text.specs.declared.Text.{Text}
use Rattle.wire.specs.Numbers.{bad_state}
use Rattle.reader.specs.Good.{good}
use Rattle.reader.specs.Rules.{word_of}
use Rattle.fold.specs.Calls.{counted, call, stopped}
use Rattle.fold.specs.Calls as calls
use Rattle.reader.specs.Telling.{Answers, told_in, tells, tells_line, Told, told}
use Rattle.reader.specs.Promises.{step_of, AnswersPromise}
use Rattle.reader.specs.declared.Reader.{Reader}
use Rattle.reader.specs.State.{Read}
use Rattle.reader.specs.declared.Answer.{Answer}
use Rattle.reader.specs.declared.Answer.TheVariants as answer
use Rattle.reader.proofs.Word.{word_format}
use Rattle.reader.proofs.Keeps.{word_good}
use Rattle.reader.proofs.Goodness.{step_word}
use Rattle.reader.proofs.Counting.{never_dropped_none}
use Rattle.listing.specs.Lines.{newline}
use Rattle.listing.specs.Scanning.{width}
use Rattle.listing.specs.Items.{answer_given, items_in}
use Rattle.listing.specs.Printing.{form_of, head_of, line_of, all_bytes}
use Rattle.listing.specs.Batches.{ToldOf, items_over, reader_over, plain_of, report_at, given_at, next_at}
use Rattle.listing.specs.declared.Item.{Item}
use Rattle.listing.specs.declared.Item.TheVariants.{D}
use Rattle.listing.proofs.Grown.{filled_append, all_append}

-- what answers give whose lines stand behind n others; and no answer among them drops no byte
abbrev items_told : ℕ → ℕ → List Answer → List Item
items_told letter n [] = []
items_told letter n (a ∷ answers) = items_in (answer_given letter (n + 1) a) ++ items_told letter (n + 1) answers

abbrev Some : List Answer → Type 0
Some [] = Unit {0}
Some (a ∷ answers) = (a ≡ answer.Dropped 0 → ⊥) × Some answers

-- what all words give, by their answers
pub record Given (r : Reader) (words : List ℕ) (answers : List Answer) (next : Reader) : Type 0 where
  pub items : (n : ℕ) → items_over r n words ≡ items_told r.format n answers
  pub reader : reader_over r words ≡ next
  pub some : Some answers

abbrev Gives : List ℕ → Type 0
Gives words = (r : Reader) (room : ℕ) → good r ≡ true → length (run tells r words room).answers ≡ length words → Given r words (run tells r words room).answers (run tells r words room).next

pub gives : (words : List ℕ) → Gives words
unfolding run items_over reader_over
gives [] r room g all = record { items = λ n. refl; reader = refl; some = tt }
gives (w ∷ words) r room g all = go (gives words) (takes tells r w room) refl
  where
    go : Gives words → (t : Bool) → takes tells r w room ≡ t → Given r (w ∷ words) (run tells r (w ∷ words) room).answers (run tells r (w ∷ words) room).next
    go ih true e =
        let later = ih (word_of r w).next (room - places tells r w) (word_good r g w) (omega (arith, rw e at all)) in
        let is : step_of r w ≡ word_of r w = step_word r w g in
        rw e
        (record {
          items = λ n. rw is (ap (λ (l : List Item). items_in (answer_given r.format (n + 1) (word_of r w).answer) ++ l) (later.items (n + 1) ∙ ap (λ (f : ℕ). items_told f (n + 1) (run tells (word_of r w).next words (room - places tells r w)).answers) (word_format r w)));
          reader = rw is later.reader;
          some = (λ z. never_dropped_none r w (step_of r w) refl (ap (λ (s : Read). s.answer) is ∙ z), later.some);
        })
    go ih false e = absurd (omega (arith, rw e at all))

-- the numbers of an answer, at the front of those from a place on
module _ (letter n : ℕ) (told : List ℤ) (from : ℕ) (rest : List ℤ) where
  number : (i : ℕ) {l : List ℤ} → drop from told ≡ l → get_or told (from + i) (pos 0) ≡ get_or l i (pos 0)
  number i e = sym (get_or-drop from told i (pos 0)) ∙ ap (λ (l : List ℤ). get_or l i (pos 0)) e

  number_first : {l : List ℤ} → drop from told ≡ l → get_or told from (pos 0) ≡ get_or l 0 (pos 0)
  number_first e = ap (λ (k : ℕ). get_or told k (pos 0)) (sym (add-zero from)) ∙ number 0 e

  pub given_is : (a : Answer) → (a ≡ answer.Dropped 0 → ⊥) → drop from told ≡ told_in a ++ rest → given_at letter n told from ≡ answer_given letter n a
  unfolding given_at report_at
  given_is answer.Nothing some e = rw (number_first e)
  given_is (answer.Report p) some e = rw (number_first e, number 1 e, number 2 e, number 3 e, number 4 e, number 5 e)
  given_is (answer.Dropped zero) some e = absurd (some refl)
  given_is (answer.Dropped (suc k)) some e = rw (number_first e, lt-ltb 0 (suc k) (omega arith))

  pub next_is : (a : Answer) → drop from told ≡ told_in a ++ rest → next_at told from ≡ from + length (told_in a)
  unfolding next_at
  next_is answer.Nothing e = rw (number_first e)
  next_is (answer.Report p) e = rw (number_first e)
  next_is (answer.Dropped k) e = rw (number_first e, le-ltb k 0 (omega arith))

-- what is left to print makes up the whole
pub record Left (letter : ℕ) (told : List ℤ) (n from count : ℕ) (text whole : Text) : Type 0 where
  pub answers : List Answer
  pub behind : List ℤ
  pub many : length answers ≡ count
  pub some : Some answers
  pub numbers : drop from told ≡ written tells answers ++ behind
  pub makes : filled_by text (all_bytes width (items_told letter n answers)) ≡ whole

pub left_first : {r : Reader} {words : List ℕ} {told : List ℤ} (n : ℕ) (text : Text) → ToldOf r words told → Left r.format told n 0 (length words) text (filled_by text (all_bytes width (items_over r n words)))
left_first {r} {words} {told} n text t =
    let g = gives words r (length told) t.sound t.all in
    record { answers = (run tells r words (length told)).answers; behind = t.behind; many = t.all; some = g.some; numbers = t.numbers; makes = ap (λ (l : List Item). filled_by text (all_bytes width l)) (sym (g.items n)) }

pub left_more : {letter : ℕ} {told : List ℤ} {n from count : ℕ} {text whole : Text} → Left letter told n from (suc count) text whole
    → (text' : Text) → text' ≡ filled_by text (all_bytes width (items_in (given_at letter (n + 1) told from)))
    → Left letter told (n + 1) (next_at told from) count text' whole
left_more {letter} {told} {n} {from} {count} {text} {whole} l text' is = go l.answers l.many l.some l.numbers l.makes
  where
    go : (answers : List Answer) → length answers ≡ suc count → Some answers → drop from told ≡ written tells answers ++ l.behind
        → filled_by text (all_bytes width (items_told letter n answers)) ≡ whole → Left letter told (n + 1) (next_at told from) count text' whole
    go [] many some numbers makes = absurd (omega arith)
    go (a ∷ answers) many some numbers makes =
        let rest = written tells answers ++ l.behind in
        let here : drop from told ≡ told_in a ++ rest = numbers ∙ append_assoc (told_in a) (written tells answers) l.behind in
        let first = items_in (answer_given letter (n + 1) a) in
        let later = items_told letter (n + 1) answers in
        record {
          answers = answers;
          behind = l.behind;
          many = omega arith;
          some = some.1;
          numbers = rw (next_is letter n told from rest a here) (sym (drop-drop (length (told_in a)) from told) ∙ ap (drop (length (told_in a))) here ∙ drop_at (told_in a) rest _ refl);
          makes = rw (is, given_is letter (n + 1) told from rest a some.0 here) (sym (filled_append text (all_bytes width first) (all_bytes width later)) ∙ ap (filled_by text) (sym (all_append width first later)) ∙ makes);
        }

pub left_last : {letter : ℕ} {told : List ℤ} {n from count : ℕ} {text whole : Text} → Left letter told n from count text whole → count ≡ 0 → text ≡ whole
left_last {letter} {told} {n} {from} {count} {text} {whole} l z = go l.answers l.many l.makes
  where
    go : (answers : List Answer) → length answers ≡ count → filled_by text (all_bytes width (items_told letter n answers)) ≡ whole → text ≡ whole
    go [] many makes = makes
    go (a ∷ answers) many makes = absurd (omega arith)

-- a number by its sign
pub plain_below : (x : ℤ) → lt_z x (pos 0) ≡ true → 0 ≡ plain_of x
plain_below (pos n) h = absurd (omega (arith, ltb-true n 0 h))
plain_below (negsuc n) h = refl

pub plain_above : (x : ℤ) → lt_z x (pos 0) ≡ false → nat_abs x ≡ plain_of x
plain_above (pos n) h = refl
plain_above (negsuc n) h = absurd (holds (sym h))

pub few_plain : (x : ℤ) → SFits w16 x → lt_z x (pos 0) ≡ false → nat_abs x < 32768
few_plain (pos n) h k = omega arith
few_plain (negsuc n) h k = absurd (holds (sym k))

-- the next place is at most six further
pub next_few : (told : List ℤ) (from : ℕ) → next_at told from ≤ from + 6
unfolding next_at
next_few told from = cases (λ (k : ℕ). from + k ≤ from + 6) (lt_z (get_or told from (pos 0)) (pos 0)) (λ _. omega arith) (λ _. omega arith)

-- the bytes of what is told, by its first number
module _ (letter n : ℕ) (told : List ℤ) (from : ℕ) where
  abbrev first : ℤ
  first = get_or told from (pos 0)

  abbrev bytes : List ℕ
  bytes = all_bytes width (items_in (given_at letter n told from))

  abbrev line : Item → List ℕ
  line i = head_of width (form_of i) ++ newline ∷ []

  one_line : (i : Item) → all_bytes width (i ∷ []) ≡ line i
  unfolding line_of
  one_line i = append-nil (line i)

  pub dropped_line : lt_z (pos 0) first ≡ true → bytes ≡ line (D n (plain_of first))
  unfolding given_at
  dropped_line h = rw h (one_line (D n (plain_of first)))

  module _ (none : lt_z (pos 0) first ≡ false) where
    pub reported_line : lt_z first (pos 0) ≡ true → bytes ≡ line (report_at letter n told from)
    unfolding given_at
    reported_line h = rw (none, h) (one_line (report_at letter n told from))

    pub no_line : lt_z first (pos 0) ≡ false → bytes ≡ []
    unfolding given_at
    no_line h = rw (none, h)

-- what is told of words that were all taken
module _ (r : Reader) (words : List ℕ) (before : List ℤ) (a : Answers) (after : List ℤ) (e : AnswersPromise r words before a after) (same : length after ≡ length before) where
  pub all_told : a.taken ≡ length words → 0 < length words → ToldOf r words after × (reader_over r words ≡ a.next)
  unfolding call calls.line
  all_told all some = go (good r) refl
    where
      go : (t : Bool) → good r ≡ t → ToldOf r words after × (reader_over r words ≡ a.next)
      go true g =
          let f = run tells r words (length before) in
          let is : told a after ≡ counted tells_line f before = e ∙ rw g in
          let every : length f.answers ≡ length words = sym (ap (λ (t : Told). t.taken) is) ∙ all in
          let numbers = written tells f.answers in
          let room = ap (run tells r words) same in (
            record { sound = g; all = rw room every; behind = drop (length numbers) before; numbers = rw room (ap (λ (t : Told). t.out) is) },
            (gives words r (length before) g every).reader ∙ sym (ap (λ (t : Told). t.next) is),
          )
      go false g =
          let none : told a after ≡ stopped tells_line bad_state r before = e ∙ rw g in
          absurd (omega (arith, ap (λ (t : Told). t.taken) none))
