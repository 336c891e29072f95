-- A port, and behind it what tells of its words; and where the program stands behind a turn.
use Rattle.std.specs.Prelude.{ℕ, ◌≡◌, List, Result, Ok, Err}
use Rattle.port.specs.Sessions.{words_over}
use Rattle.shell.specs.Standing.{Program, Stands, Failed}
use Rattle.shell.specs.declared.Failure.{Failure}
use Rattle.hearing.specs.Events.{events_of}
use Rattle.hearing.specs.declared.session.Session.{Session}

-- what is told of words, over the words that the port gives of what is heard
abbrev pub over : {T : Type 0} → (T → List ℕ → List ℕ) → Session T → List ℕ → List ℕ
over f s heard = f s.teller (words_over s.port (events_of heard))

-- of whatever is heard next, what is to be written; or something failed
abbrev pub Here : {A : Type 0} → Program → ℕ → (List ℕ → List ℕ) → (List ℕ → List ℕ) → Result A Failure → Type 0
Here p t rest told (Ok a) = Stands p t rest told
Here p t rest told (Err e) = Failed p t

-- from where it stands on, whatever was to be written
abbrev pub Goes : {M A : Type 0} → (M → List ℕ → List ℕ) → (M → List ℕ → List ℕ) → List ℕ → List ℕ → ℕ → M → ℕ → M → Result A Failure → Type 0
Goes rest told input output t m t' m' r =
    (p : Program) → p.input ≡ input → p.output ≡ output → Stands p t (rest m) (told m) → Here p t' (rest m') (told m') r
