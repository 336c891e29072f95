-- What is handed out before the turns, and what is told behind them.
use Prim.Native.Nat.{ℕ, ◌≤◌}
use mathlib.Core.Path.{◌≡◌, refl, sym, ap, subst}
use mathlib.Core.Bool.{Bool, true, false}
use mathlib.Core.List.{List, [], ◌++◌}
use native.Mathlib.Omega.{arith}
use lib.ListN.{length, take}
use Rattle.numbers.proofs.Choices.{cases}
use borrow.Author.Tests.{ne_eqb, eq-eqb}
use Rattle.frames.specs.Words.{silence}
use Rattle.port.specs.Sessions.{words_over}
use Rattle.text.specs.Growth.{slice, filled_by}
use Rattle.shell.specs.Outside.{Trace, heard_in, Handed, Said}
use Rattle.shell.specs.Standing.{Program, Stands, Failed, Left}
use Rattle.shell.proofs.Laws as standing
use Rattle.hearing.proofs.Steps.{stands}
use Rattle.hearing.proofs.Turns.{refused}
use Rattle.mrecord.specs.Refusals.{refusal_of, Ended}
use Rattle.std.proofs.Common.{Option, Some}
use Rattle.mrecord.specs.Recording.{line_of, lines_of, full_at_silence, full, gone, end_of, rest, told, first_line, first_lines, fresh, named, mrecord}
use Rattle.hearing.specs.declared.session.Session.{Session}
use Rattle.mrecord.specs.declared.Tape.{Tape}

-- the first lines, which are short
pub short : (letter : ℕ) (begins : Bool) → length (first_lines letter begins) ≤ 6
unfolding line_of
short letter begins = cases (λ (l : List ℕ). length (first_line letter ++ l) ≤ 6) begins (λ _. omega arith) (λ _. omega arith)

module _ (letter tenths : ℕ) (begins : Bool) (t t' n : ℕ) (before after : List ℕ) (well : Bool) (traced : Trace t [] [] []) (so : slice after n ≡ filled_by (slice before 0) (first_lines letter begins))
    (room : 9 ≤ length before) (h : Handed (named heard_in heard_in).output t t' well (take n after)) where
  text : take n after ≡ first_lines letter begins
  text = stands before after (first_lines letter begins) n so (omega (arith, short letter begins))

  fits : (q : List ℕ) → first_lines letter begins ++ rest (fresh tenths begins) q ≡ take n after ++ rest (fresh tenths begins) q
  fits q = ap (λ (l : List ℕ). l ++ rest (fresh tenths begins) q) (sym text)

  pub opened : well ≡ true → Stands (mrecord letter tenths begins) t' (rest (fresh tenths begins)) (told (fresh tenths begins))
  opened =
      let p = mrecord letter tenths begins in
      standing.writes p t t' well (take n after) p.writes (rest (fresh tenths begins)) p.says (standing.begins p t traced) fits h

  pub not_opened : well ≡ false → Failed (mrecord letter tenths begins) t'
  not_opened =
      let p = mrecord letter tenths begins in
      standing.fails_writing p t t' well (take n after) p.writes (rest (fresh tenths begins)) p.says (standing.begins p t traced) fits h

-- nothing more is heard
pub gone_told : (s : Session Tape) → (s.teller.left ≡ 0 → ⊥) → gone ≡ told s []
unfolding words_over end_of
gone_told s n = sym (rw (ne_eqb s.teller.left 0 n))

pub silence_told : (s : Session Tape) → s.teller.left ≡ 0 → s.teller.last ≡ silence → full_at_silence ≡ told s []
unfolding words_over end_of
silence_told s e f = sym (rw (eq-eqb s.teller.left 0 e, eq-eqb s.teller.last silence f))

pub full_told : (s : Session Tape) → s.teller.left ≡ 0 → (s.teller.last ≡ silence → ⊥) → full ≡ told s []
unfolding words_over end_of
full_told s e n = sym (rw (eq-eqb s.teller.left 0 e, ne_eqb s.teller.last silence n))

pub ends : (t t' : ℕ) (tape : Session Tape) (well : Bool) (words : List ℕ) → words ≡ told tape [] → Said t t' well words
    → (p : Program) → Stands p t (rest tape) (told tape) → Left p t'
unfolding words_over lines_of
ends t t' tape well words e h p s = standing.leaves p t t' (rest tape) (told tape) well s refl (subst (Said t t' well) e h)

-- a wrong call
pub wrong : (letter tenths : Option ℕ) (begins : Option Bool) (t t' : ℕ) (well : Bool) (words : List ℕ) → refusal_of letter tenths begins ≡ Some words → Trace t [] [] []
    → Said t t' well words → Ended letter tenths begins t' well
wrong letter tenths begins t t' well words e traced h =
    record {
      recorded = λ l n b p q r. let none = rw (p, q, r) at e in absurd (cc);
      refused = λ other f. let same : words ≡ other = cc in subst (λ (w : List ℕ). (n : ℕ) × Trace t' [] [] (take n w)) same (refused t t' well words traced h);
    }
