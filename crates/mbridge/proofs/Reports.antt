-- A recording that is whole: the V reports that are written are those that its reports become, one report after the other.
use Prim.Native.Nat.{ℕ, ◌+◌}
use mathlib.Core.Path.{◌≡◌, refl, sym, ◌∙◌, ap}
use mathlib.Core.Bool.{true}
use mathlib.Core.List.{List, [], ◌∷◌, ◌++◌}
use Rattle.wire.specs.declared.Report.{Report}
use Rattle.reader.specs.Rules.{word_of}
use Rattle.reader.specs.Counts.{handed_out}
use Rattle.reader.specs.Runs.{steps_of, answers}
use Rattle.reader.specs.declared.Answer.{Answer}
use Rattle.reader.specs.declared.Answer.TheVariants as answer
use Rattle.reader.proofs.Word.{word_format}
use Rattle.reader.proofs.Goodness.{step_word}
use Rattle.listing.specs.Scanning.{width, recording_of}
use Rattle.listing.specs.declared.Found.{Found}
use Rattle.listing.specs.declared.Found.TheVariants.{Format, Word, End}
use Rattle.bridge.specs.Remembered.{none, noted}
use Rattle.bridge.specs.Splitting.{becomes, bytes_all}
use Rattle.bridge.specs.Good.{good}
use Rattle.bridge.specs.Line.{sent_for, past_for, behind}
use Rattle.bridge.specs.Promises.{fresh_of}
use Rattle.bridge.specs.Sent.{sends}
use Rattle.bridge.specs.declared.Past.{Past}
use Rattle.bridge.specs.declared.Bridge.{Bridge}
use Rattle.bridge.proofs.Writing.{bytes_append}
use Rattle.bridge.proofs.Keeps.{good_reader, word_keeps}
use Rattle.bridge.proofs.Goodness.{fresh_is_good}
use Rattle.mbridge.specs.Lines.{format_line, byte_lines}
use Rattle.mbridge.specs.Recording.{waiting, bridge_behind, lines_for, lines_from, bridged_of}
use Rattle.mbridge.proofs.Filling.{lines_append}

-- the lines of V reports
abbrev pub sent_lines : List Report → List ℕ
sent_lines reports = byte_lines (bytes_all reports)

-- words of a recording, numbered from a line on, and its end
abbrev pub numbered_from : ℕ → List ℕ → List Found
numbered_from n [] = End ∷ []
numbered_from n (w ∷ words) = Word n w ∷ numbered_from (n + 1) words

-- an answer in front of others
first_sent : (letter : ℕ) (past : Past) (a : Answer) (later : List Answer)
    → sent_lines (sent_for letter past a) ++ sent_lines (sends letter (past_for letter past a) (handed_out later)) ≡ sent_lines (sends letter past (handed_out (a ∷ later)))
unfolding byte_lines sends
first_sent letter past answer.Nothing later = refl
first_sent letter past (answer.Report p) later =
    let its = becomes letter past p in
    let rest = sends letter (noted letter past p) (handed_out later) in
    sym (ap byte_lines (bytes_append its rest) ∙ lines_append (bytes_all its) (bytes_all rest))
first_sent letter past (answer.Dropped k) later = refl

words_sent : (words : List ℕ) (n : ℕ) (b : Bridge) → good b ≡ true
    → lines_from b (numbered_from n words) ≡ sent_lines (sends b.reader.format b.past (handed_out (answers (steps_of b.reader words))))
unfolding lines_from lines_for bridge_behind byte_lines sends steps_of
words_sent [] n b g = refl
words_sent (w ∷ words) n b g =
    let s = word_of b.reader w in
    let letter = b.reader.format in
    let later = answers (steps_of s.next words) in
    let next = past_for letter b.past s.answer in
    let ih = words_sent words (n + 1) (behind b s) (word_keeps b g w) ∙ ap (λ (f : ℕ). sent_lines (sends f next (handed_out later))) (word_format b.reader w) in
    rw (step_word b.reader w (good_reader b g)) (ap (λ (l : List ℕ). sent_lines (sent_for letter b.past s.answer) ++ l) ih ∙ first_sent letter b.past s.answer later)

-- REPORT BY REPORT: of a recording that is whole, the V reports of all that a fresh reader of its format hands out of its words, and nothing else
pub whole_sends : (input : List ℕ) (f : ℕ) (words : List ℕ) → recording_of width input ≡ Format f ∷ numbered_from 2 words
    → let r = (fresh_of f).bridge.reader in
    bridged_of input ≡ format_line ++ sent_lines (sends r.format none (handed_out (answers (steps_of r words))))
unfolding bridged_of lines_from lines_for bridge_behind fresh_of
whole_sends input f words e =
    ap (lines_from waiting) e ∙ ap (λ (l : List ℕ). format_line ++ l) (words_sent words 2 (fresh_of f).bridge (fresh_is_good f (fresh_of f) refl))
