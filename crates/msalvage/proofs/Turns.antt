-- Where a read leaves the program, and the end.
use Rattle.std.proofs.Common.{◌≡◌, ℕ, ◌+◌, ◌<◌, ◌≤◌, List, [], ◌++◌, length, take, drop, refl, sym, ◌∙◌, ap, subst, arith, append_assoc, append-nil, length-append, length-drop, take-add, Ok}
use lib.Seq.{take_at, length-take-le}
use Rattle.shell.specs.Buffer.{Behind}
use Rattle.shell.specs.Standing.{Closes, silent}
use Rattle.shell.proofs.Laws as standing
use Rattle.salvaged.specs.Listing.{salvage_of}
use Rattle.salvaged.specs.Promises.{ListPromise}
use Rattle.salvaged.specs.Whole.{decides, enough}
use Rattle.salvaged.specs.declared.Salvaged.{Salvaged}
use Rattle.salvaged.proofs.Whole.{room_for_all}
use Rattle.salvaged.proofs.Settles.{settles}
use Rattle.msalvage.specs.Program.{msalvage}
use Rattle.msalvage.specs.Blocks.{Holds}

-- a read behind the bytes that are there
module _ {t t' n : ℕ} (held : ℕ) (before after : List ℕ) (s : Holds t (take held before)) (b : Behind msalvage.input held t t' (Ok n) before after) (in_it : held ≤ length before) where
  every : take held before ++ take n (drop held after) ≡ take (held + n) after
  every = ap (λ (l : List ℕ). l ++ take n (drop held after)) (sym (b.stays in_it)) ∙ sym (take-add held n after)

  pub holds : Holds t' (take (held + n) after)
  holds =
      standing.reworded msalvage t' (λ q. salvage_of (take held before ++ (take n (drop held after) ++ q))) (λ q. salvage_of (take (held + n) after ++ q)) silent silent
      (standing.reads msalvage t t' n (drop held after) (λ q. salvage_of (take held before ++ q)) silent s (b.brought in_it))
      (λ q. ap salvage_of (sym (append_assoc (take held before) (take n (drop held after)) q) ∙ ap (λ (l : List ℕ). l ++ q) every)) (λ _. refl)

  -- ALL IS READ: the input is over
  pub over : n ≡ 0 → held < length after → Closes msalvage t' (salvage_of (take held after)) []
  over z room =
      let same : held + n ≡ held = omega arith in
      let h : Holds t' (take held after) = subst (λ (k : ℕ). Holds t' (take k after)) same holds in
      subst (λ (l : List ℕ). Closes msalvage t' (salvage_of l) []) (append-nil (take held after))
      (standing.over msalvage t' (λ q. salvage_of (take held after ++ q)) silent h ((b.brought in_it).over (omega (arith, length-drop held after)) z))

-- or the buffer is full, and what is not read does not matter
pub full : (t n : ℕ) (input : List ℕ) → Holds t (take n input) → n ≤ length input → length input ≤ n → decides ≤ length input
    → Closes msalvage t (salvage_of (take n input)) []
full t n input s within most room =
    standing.settled msalvage t (λ q. salvage_of (take n input ++ q)) silent (salvage_of (take n input)) [] s
    (λ q. settles (take n input) q (omega (arith, length-take-le n input within))) (λ _. refl)

-- all of the salvage is in the buffer
module _ (input before : List ℕ) (a : Salvaged) (after : List ℕ) (p : ListPromise input before a after) (h : enough ≤ length before) where
  pub in_buffer : a.written ≤ length after
  in_buffer =
      let t = room_for_all input before a after p h in
      omega (arith, t.long, ap length t.text, length-append (salvage_of input) (drop (length (salvage_of input)) before))

  pub shows : take a.written after ≡ salvage_of input
  shows =
      let t = room_for_all input before a after p h in
      rw (t.text, t.long) (take_at (salvage_of input) (drop (length (salvage_of input)) before) (length (salvage_of input)) refl)
