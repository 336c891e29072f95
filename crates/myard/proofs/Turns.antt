-- What a read and the end leave.
use Rattle.std.proofs.Common.{◌≡◌, ℕ, ◌+◌, ◌-◌, ◌<◌, ◌≤◌, true, false, List, [], ◌∷◌, ◌++◌, length, take, refl, sym, ◌∙◌, ap, inl, inr, arith}
use mathlib.Core.Bool.{true≢false}
use mathlib.Core.Logic.{◌⊎◌, ⊎_elim}
use Rattle.text.specs.Growth.{capacity, shown}
use Rattle.text.specs.declared.Text.{Text}
use Rattle.text.proofs.Laws.{text_shows, text_long}
use Rattle.shell.specs.Outside.{Trace}
use Rattle.shell.specs.Standing.{Stands, Closes, silent}
use Rattle.shell.proofs.Laws as standing
use Rattle.listing.specs.Scanning.{passed, most_bytes}
use Rattle.listing.proofs.Ended.{byte_over, byte_on, never_passed, none_told}
use Rattle.myard.specs.Judging.{line_for, judgement_of}
use Rattle.myard.specs.Hearing.{verdict_from, unheard, behind_byte, behind_bytes, last_of, said_of, Holds}
use Rattle.myard.specs.Program.{myard}
use Rattle.myard.specs.Blocks.{Within}
use Rattle.myard.specs.declared.Judge.{Judge}
use Rattle.myard.proofs.Said.{by_found, says}

-- bytes, and then more
in_two : (j : Judge) (bytes q : List ℕ) → said_of j (bytes ++ q) ≡ said_of (behind_bytes j bytes) q
unfolding said_of behind_bytes
in_two j [] q = refl
in_two j (c ∷ cs) q = in_two (behind_byte j c) cs q

-- once the recording has ended, nothing that follows changes what is said
ended_says : (j : Judge) (q : List ℕ) → j.scanner.ended ≡ true → said_of j q ≡ line_for j.verdict
unfolding said_of verdict_from
ended_says j q e = ap line_for (by_found j q ∙ ap (verdict_from j.yard j.verdict) (none_told q j.scanner e))

-- it begins
pub begins : (t : ℕ) → Trace t [] [] [] → (j : Judge) → j ≡ unheard → Stands myard t (said_of j) silent
unfolding judgement_of said_of
begins t h j e = standing.reworded myard t judgement_of (said_of j) silent silent (standing.begins myard t h) (λ q. rw e (ap line_for (sym (says q)))) (λ _. refl)

-- bytes bring the scanner on, or end the recording
stays_ended : (j : Judge) (cs : List ℕ) → j.scanner.ended ≡ true → (behind_bytes j cs).scanner.ended ≡ true
unfolding behind_bytes behind_byte
stays_ended j [] h = h
stays_ended j (c ∷ cs) h = stays_ended (behind_byte j c) cs (byte_over j.scanner c h).0

brought : (j : Judge) (cs : List ℕ) → Within j → ((behind_bytes j cs).scanner.ended ≡ true) ⊎ ((passed j.scanner + length cs ≤ passed (behind_bytes j cs).scanner) × Within (behind_bytes j cs))
unfolding behind_bytes behind_byte
brought j [] w = inr (omega arith, w)
brought j (c ∷ cs) w =
    ⊎_elim (λ e. inl (stays_ended (behind_byte j c) cs e))
    (λ q. ⊎_elim inl (λ k. inr (omega (arith, k.0, q.0), k.1)) (brought (behind_byte j c) cs q.1))
    (byte_on j.scanner c w)

-- the bytes that a read brought are judged
module _ (t : ℕ) (j : Judge) (bytes : List ℕ) (h : Within j) (s : Stands myard t (λ q. said_of j (bytes ++ q)) silent) where
  abbrev next : Judge
  next = behind_bytes j bytes

  pub stands : Stands myard t (said_of next) silent
  stands = standing.reworded myard t (λ q. said_of j (bytes ++ q)) (said_of next) silent silent s (in_two j bytes) (λ _. refl)

  -- more is to be read
  pub on : next.scanner.ended ≡ false → (passed j.scanner + length bytes ≤ passed next.scanner) × Within next
  on y = ⊎_elim (λ e. absurd (true≢false (sym e ∙ y))) (λ k. k) (brought j bytes h)

  pub falls : 0 < length bytes → next.scanner.ended ≡ false → most_bytes - passed next.scanner < most_bytes - passed j.scanner
  falls some y = let k = on y in omega (arith, k.0, some, never_passed j.scanner h, never_passed next.scanner k.1)

  -- nothing more is to be read
  pub closes : next.scanner.ended ≡ true → Closes myard t (said_of next []) []
  closes e = standing.settled myard t (said_of next) silent (said_of next []) [] stands (λ q. ended_says next q e ∙ sym (ended_says next [] e)) (λ _. refl)

-- the line that is said, all of which the text holds
module _ (j last : Judge) (text : Text) (e : last ≡ last_of j) (h : Holds text (line_for last.verdict)) where
  in_text : take text.len text.bytes ≡ line_for last.verdict
  in_text = ap shown h.0 ∙ text_shows (line_for last.verdict) h.1

  pub short_enough : text.len ≤ capacity
  short_enough = omega (arith, ap (λ (t : Text). t.len) h.0 ∙ text_long (line_for last.verdict) h.1, h.1)

  pub line_said : take text.len text.bytes ≡ said_of j []
  unfolding said_of behind_bytes
  line_said = in_text ∙ ap (λ (k : Judge). line_for k.verdict) e
